-- Definitions of the private functions that keep the players' table.
use Rattle.std.specs.Prelude.{◌≡◌, ◌≢◌, ℕ, ◌+◌, ◌<◌, Bool, List, [], map, length, Option, Some, None, slice_get}
use Rattle.std.specs.List.{position_or_len}
use Rattle.std.specs.Map.{keys_of, lookup}
use Rattle.std.specs.Str.{bytes_eq}
use Rattle.std.specs.declared.alloc.Global.{Global}
use Rattle.std.specs.declared.vec.Vec.{Vec}
use Rattle.indexmap.specs.IndexMap.{insert_entry}
use Rattle.indexmap.specs.Layout.{set_value_at}
use Rattle.kb_geometry.specs.Counts.{one_if}
use Rattle.info_filter.specs.Players.{TableRow}
use Rattle.info_filter.specs.declared.score.Score.{Score}
use Rattle.info_filter.specs.declared.seat.Seat.{Seat}
use Rattle.info_filter.specs.declared.seat.Seat.TheVariants as seat

-- a name with what is counted for it
abbrev pub Entry : Type 0
Entry = Vec ℕ Global × Score

-- whether two names are equal
abbrev pub is_same_name : Vec ℕ Global → Vec ℕ Global → Bool
is_same_name a b = bytes_eq a.items b.items

-- the row of an entry
abbrev pub row_of : Entry → TableRow
row_of e = record { name = e.0.items; games = e.1.games; wins = e.1.wins; losses = e.1.losses }

-- the rows of the entries
abbrev pub table_rows_of : List Entry → List TableRow
table_rows_of es = map row_of es

-- the score with one side more
pub record IsOneSideMore (won lost : Bool) (old new : Score) : Type 0 where
  pub games : new.games ≡ old.games + 1
  pub wins : new.wins ≡ old.wins + one_if won
  pub losses : new.losses ≡ old.losses + one_if lost

-- the score of one side
pub record IsFirst (won lost : Bool) (new : Score) : Type 0 where
  pub games : new.games ≡ 1
  pub wins : new.wins ≡ one_if won
  pub losses : new.losses ≡ one_if lost

-- the score of a name, if it had one, with one side more
abbrev pub IsNext : Bool → Bool → Option Score → Score → Type 0
IsNext won lost (Some old) new = IsOneSideMore won lost old new
IsNext won lost None new = IsFirst won lost new

-- one side more is counted in the entry with this number
abbrev pub IsCountedAt : List Entry → ℕ → Bool → Bool → List Entry → Type 0
IsCountedAt old i won lost new =
    (name : Vec ℕ Global) × (score : Score) × (next : Score)
    × (slice_get old i ≡ Some (name, score)) × IsOneSideMore won lost score next
    × (new ≡ set_value_at old i next)

-- one side more is counted for this name
abbrev pub IsCountedFor : List Entry → Vec ℕ Global → Bool → Bool → List Entry → Type 0
IsCountedFor old name won lost new =
    (next : Score) × IsNext won lost (lookup (is_same_name name) old) next
    × (new ≡ insert_entry is_same_name old name next)

-- where the name has its row in the entries
abbrev pub IsSeat : List Entry → List ℕ → Seat → Type 0
IsSeat es name seat.Nowhere = name ≡ []
IsSeat es name (seat.Row i) =
    (name ≢ []) × (i < length es)
    × (position_or_len (λ (key : Vec ℕ Global). bytes_eq name key.items) (keys_of es) ≡ i)
IsSeat es name (seat.New key) = (name ≢ []) × (key.items ≡ name)
