-- For the reader's private functions: bytes that leave a reader where it stands, and how far it has
-- read.
use Rattle.std.specs.Prelude.{◌≡◌, ◌≢◌, ℕ, ◌+◌, ◌<◌, ◌≤◌, List, [], length, take, slice_index, Some, None, false}
use Rattle.sgf_reader.specs.declared.collection.Pair.{Pair}
use Rattle.sgf_reader.specs.declared.collection.Span.{Span}
use Rattle.sgf_reader.specs.declared.fault.FaultKind.TheVariants as kind
use Rattle.sgf_reader.specs.declared.fault.ReadError.{ReadError}
use Rattle.sgf_reader.specs.declared.fault.ReadError.TheVariants.{Fault}
use Rattle.sgf_reader.specs.declared.fault.SgfFault.{SgfFault}
use Rattle.sgf_reader.specs.Bytes.{backslash, round_open, space, square_close, square_open}
use Rattle.sgf_reader.specs.Bytes.{semicolon as node_start}
use Rattle.sgf_reader.specs.Grammar.{IsUpper}
use Rattle.sgf_reader.specs.Limits.{most_bytes, most_games}
use Rattle.sgf_reader.specs.declared.place.Phase as phases
use Rattle.sgf_reader.specs.declared.place.Phase.TheVariants as at
use Rattle.sgf_reader.specs.declared.place.Place as places
use Rattle.sgf_reader.specs.declared.place.Place.TheVariants as stands
use Rattle.sgf_reader.specs.Scan.{Scan, scan, at_start}
use Rattle.sgf_reader.specs.Reading.{View, Shows, IsWithinLimits, Fails, with_raw_node, with_raw_pair}

-- no byte of a value that ends it or hides the next one
abbrev pub IsPlain : ℕ → Type 0
IsPlain byte = (byte ≢ square_close) × (byte ≢ backslash)

-- this byte leaves a reader in this phase
abbrev pub StaysIn : phases.Phase → ℕ → Type 0
StaysIn (at.InName from upper) byte = ⊥
StaysIn (at.Escaped name from) byte = ⊥
StaysIn (at.InValue name from) byte = IsPlain byte
StaysIn _ byte = byte ≤ space

-- this byte leaves a reader at this place
abbrev pub StaysAt : places.Place → ℕ → Type 0
StaysAt stands.Outside byte = byte ≢ round_open
StaysAt (stands.Before from) byte = byte ≤ space
StaysAt (stands.Within phase) byte = StaysIn phase byte

-- each byte from the first offset up to the second one
abbrev pub EachFrom : List ℕ → ℕ → ℕ → (ℕ → Type 0) → Type 0
EachFrom text from to P = (k : ℕ) → from ≤ k → k < to → P (slice_index text k)

-- the first bytes, so many, lead the scan here, and the limits held all the way
pub record IsReadTo (text : List ℕ) (count : ℕ) (s : Scan) : Type 0 where
  pub scans : scan at_start 0 (take count text) ≡ Some s
  pub limits : (j : ℕ) (t : Scan) →
      j ≤ count →
      scan at_start 0 (take j text) ≡ Some t →
      IsWithinLimits (length t.games) t.place

-- so many bytes were read, and this is what was read
pub record HasReadTo (text : List ℕ) (count : ℕ) (v : View) (now : places.Place) : Type 0 where
  pub reached : Scan
  pub read : IsReadTo text count reached
  pub shows : Shows v now reached

-- at one of the first bytes, so many, is this fault, and all before it was read
pub record FailsIn (text : List ℕ) (end : ℕ) (fault : SgfFault) : Type 0 where
  pub count : ℕ
  pub reached : Scan
  pub there : count < end
  pub read : IsReadTo text count reached
  pub fails : Fails reached count (slice_index text count) fault

-- from this offset on stands white space and then a `;`
pub record IsNodeNext (text : List ℕ) (from : ℕ) : Type 0 where
  pub semicolon : ℕ
  pub behind : from ≤ semicolon
  pub there : semicolon < length text
  pub white : EachFrom text from semicolon (λ b. b ≤ space)
  pub here : slice_index text semicolon ≡ node_start

-- the fault of a text that goes on at this offset, past its greatest length
pub data IsPastEnd (v : View) (now : places.Place) (text : List ℕ) (end : ℕ) : ReadError →
    Type 0 where
  too_many_games : (from : ℕ) →
      now ≡ stands.Before from →
      most_games ≤ length v.games →
      IsNodeNext text end →
      IsPastEnd v now text end (Fault (record { kind = kind.TooManyGames; at = from }))
  too_long : ((from : ℕ) → now ≡ stands.Before from → most_games ≤ length v.games →
      ¬ IsNodeNext text end) →
      IsPastEnd v now text end (Fault (record { kind = kind.TooLong; at = most_bytes }))

-- nothing was read so far
abbrev pub nothing : View
nothing = record { games = []; nodes = []; is_reading = false; parents = []; last = None }

-- A node of one upper-case letter and one value begins here, behind a value, and its value ends there.
pub record IsShortNode (text : List ℕ) (from end : ℕ) (now : places.Place) (to : ℕ) : Type 0 where
  pub behind_value : (name : Span) × (now ≡ stands.Within (at.AfterValue name))
  pub begins : slice_index text from ≡ node_start
  pub letter : IsUpper (slice_index text (from + 1))
  pub opens : slice_index text (from + 2) ≡ square_open
  pub plain : EachFrom text (from + 3) to IsPlain
  pub closes : slice_index text to ≡ square_close
  pub order : from + 3 ≤ to
  pub within : to < end

-- the pair of a short node that begins here and whose value ends there
abbrev pub pair_of_short : ℕ → ℕ → Pair
pair_of_short from to = record {
  name = record { from = from + 1; to = from + 2 };
  value = record { from = from + 3; to = to };
}

-- where a reader stands behind a short node that begins here
abbrev pub place_behind : ℕ → places.Place
place_behind from = stands.Within (at.AfterValue (record { from = from + 1; to = from + 2 }))

-- what was read, with a short node more
abbrev pub with_short_node : View → ℕ → ℕ → View
with_short_node view from to =
    let begun : View = with_raw_node view in
    record begun { nodes = with_raw_pair begun.nodes (pair_of_short from to) }
