-- How far a text was read.
use Rattle.std.proofs.Common.{◌≡◌, ◌≢◌, ℕ, zero, suc, ◌+◌, ◌<◌, ◌≤◌, List, [], ◌∷◌, ◌++◌, length, take, slice_index, ◌-◌, Option, Some, None, option_and_then, refl, sym, ap, ◌∙◌, subst, arith, inl, inr, add-one, add-zero, length-take}
use Rattle.std.proofs.Math.Seq.{take-suc}
use Rattle.std.proofs.lemmas.Bool.{cases_lt, le-leb, ne_eqb}
use Rattle.sgf_reader.specs.declared.fault.SgfFault.{SgfFault}
use Rattle.sgf_reader.specs.declared.place.Phase as phases
use Rattle.sgf_reader.specs.declared.place.Phase.TheVariants as at
use Rattle.sgf_reader.specs.declared.place.Place as places
use Rattle.sgf_reader.specs.declared.place.Place.TheVariants as stands
use Rattle.sgf_reader.specs.Grammar.{SpelledGame}
use Rattle.sgf_reader.specs.Scan.{Inside, Place, Outside, Before, Scan, Phase, step, step_within, within, scan, at_start}
use Rattle.sgf_reader.specs.Turn.{phase_of}
use Rattle.sgf_reader.specs.Reading.{View, ShowsPlace, none_open, may_begin, inside, IsWithinLimits, few_outside, StepsOn, StepFails}
use Rattle.sgf_reader.specs.Stays.{StaysAt, StaysIn, EachFrom, IsReadTo, HasReadTo, FailsIn, nothing}
use Rattle.sgf_reader.proofs.Scans.{scan-append}

some_same : {A : Type 0} (o : Option A) → option_and_then (λ (x : A). Some x) o ≡ o
some_same None = refl
some_same (Some x) = refl

some_only : {A : Type 0} (x y : A) → Some x ≡ Some y → x ≡ y
some_only x y e = cc

-- one byte more is one step more
pub scan-more : (text : List ℕ) (count : ℕ) (s : Scan) → count < length text → scan at_start 0 (take count text) ≡ Some s → scan at_start 0 (take (count + 1) text) ≡ step s.games s.place count (slice_index text count)
scan-more text count s there e =
    let one = slice_index text count ∷ [] in
    let taken : take (count + 1) text ≡ take count text ++ one = rw add-one (take-suc text count 0 there) in
    let long : 0 + length (take count text) ≡ count = simp length-take (omega arith) in
    ap (λ (xs : List ℕ). scan at_start 0 xs) taken ∙ (scan-append at_start 0 (take count text) one ∙ (rw (e, long) (some_same (step s.games s.place count (slice_index text count)))))

limits-start : (text : List ℕ) (j : ℕ) (t : Scan) → j ≤ 0 → scan at_start 0 (take j text) ≡ Some t → IsWithinLimits (length t.games) t.place
limits-start text zero t below is = subst (λ (s : Scan). IsWithinLimits (length s.games) s.place) (some_only at_start t is) (few_outside (omega arith))
limits-start text (suc j) t below is = absurd (omega arith)

limits-more : (text : List ℕ) (count : ℕ) (s next : Scan) → IsReadTo text count s → scan at_start 0 (take (count + 1) text) ≡ Some next → IsWithinLimits (length next.games) next.place → (j : ℕ) (t : Scan) → j ≤ count + 1 → scan at_start 0 (take j text) ≡ Some t → IsWithinLimits (length t.games) t.place
limits-more text count s next read e limits j t below is =
    elim (cases_lt count j) [
      | inr low ↦ read.limits j t low is
      | inl high ↦
          let same : j ≡ count + 1 = omega arith in
          let there : scan at_start 0 (take (count + 1) text) ≡ Some t = subst (λ (k : ℕ). scan at_start 0 (take k text) ≡ Some t) same is in
          subst (λ (u : Scan). IsWithinLimits (length u.games) u.place) (some_only next t (sym e ∙ there)) limits
    ]

-- one byte more was read
pub IsReadTo-more : (text : List ℕ) (count : ℕ) (s next : Scan) → IsReadTo text count s → count < length text → step s.games s.place count (slice_index text count) ≡ Some next → IsWithinLimits (length next.games) next.place → IsReadTo text (count + 1) next
IsReadTo-more text count s next read there goes limits =
    let e = scan-more text count s there read.scans ∙ goes in
    record { scans = e; limits = λ j t below is. limits-more text count s next read e limits j t below is }

-- nothing was read at the start
pub HasReadTo-start : (text : List ℕ) → HasReadTo text 0 nothing stands.Outside
HasReadTo-start text = record {
  reached = at_start;
  read = record { scans = refl; limits = λ j t below is. limits-start text j t below is };
  shows = record { games = refl; place = none_open refl refl refl };
}

pub HasReadTo-more : (text : List ℕ) (count : ℕ) (v next : View) (now then : places.Place) → HasReadTo text count v now → count < length text → StepsOn v now count (slice_index text count) next then → HasReadTo text (count + 1) next then
HasReadTo-more text count v next now then h there steps =
    let limits = h.read.limits count h.reached (omega arith) h.read.scans in
    let l = steps h.reached h.shows limits in
    record { reached = l.next; read = IsReadTo-more text count h.reached l.next h.read there l.goes l.limits; shows = l.shows }

-- at the next byte is a fault
pub FailsIn-next : (text : List ℕ) (end count : ℕ) (v : View) (now : places.Place) (f : SgfFault) → HasReadTo text count v now → count < end → StepFails v now count (slice_index text count) f → FailsIn text end f
FailsIn-next text end count v now f h there fails =
    let limits = h.read.limits count h.reached (omega arith) h.read.scans in
    record { count = count; reached = h.reached; there = there; read = h.read; fails = fails h.reached h.shows limits }

stays_within : (games : List SpelledGame) (i : Inside) (offset byte : ℕ) (now : phases.Phase) → StaysIn now byte → step_within games i (phase_of now) offset byte ≡ within games i
stays_within games i offset byte (at.Opened from) white = rw (le-leb byte 32 white) refl
stays_within games i offset byte at.InNode white = rw (le-leb byte 32 white) refl
stays_within games i offset byte (at.InName from upper) white = absurd white
stays_within games i offset byte (at.AfterName name) white = rw (le-leb byte 32 white) refl
stays_within games i offset byte (at.InValue name from) plain = let one = plain.0 in let two = plain.1 in rw (ne_eqb byte 93 one, ne_eqb byte 92 two) refl
stays_within games i offset byte (at.Escaped name from) white = absurd white
stays_within games i offset byte (at.AfterValue name) white = rw (le-leb byte 32 white) refl
stays_within games i offset byte at.AfterTree white = rw (le-leb byte 32 white) refl

stays_outside : (games : List SpelledGame) (offset byte : ℕ) → byte ≢ 40 → step games Outside offset byte ≡ Some (record { games = games; place = Outside })
stays_outside games offset byte other = rw (ne_eqb byte 40 other) refl

stays_before : (games : List SpelledGame) (from offset byte : ℕ) → byte ≤ 32 → step games (Before from) offset byte ≡ Some (record { games = games; place = Before from })
stays_before games from offset byte white = rw (le-leb byte 32 white) refl

-- a byte that leaves the reader where it stands leaves the scan there
stays : {v : View} {now : places.Place} {place : Place} (games : List SpelledGame) (offset byte : ℕ) → ShowsPlace v now place → StaysAt now byte → step games place offset byte ≡ Some (record { games = games; place = place })
stays games offset byte (none_open a b c) s = stays_outside games offset byte s
stays games offset byte (may_begin {from} a b c) s = stays_before games from offset byte s
stays games offset byte (inside {phase} {s = i} shows) s =
    subst (λ (p : Phase). step_within games i p offset byte ≡ within games i) (sym shows.phase) (stays_within games i offset byte phase s)

pub stays_on : (v : View) (now : places.Place) (offset byte : ℕ) → StaysAt now byte → StepsOn v now offset byte v now
stays_on v now offset byte s = λ t shows limits. record { next = t; goes = stays t.games offset byte shows.place s; shows = shows; limits = limits }

-- over bytes that leave the reader where it stands
pub HasReadTo-stays : (text : List ℕ) (from more : ℕ) (v : View) (now : places.Place) → HasReadTo text from v now → from + more ≤ length text → EachFrom text from (from + more) (StaysAt now) → HasReadTo text (from + more) v now
HasReadTo-stays text from zero v now h there each = rw add-zero h
HasReadTo-stays text from (suc more) v now h there each =
    let last : from + more < length text = omega arith in
    let before = HasReadTo-stays text from more v now h (omega arith) (λ k low high. each k low (omega arith)) in
    let next = HasReadTo-more text (from + more) v v now now before last (stays_on v now (from + more) (slice_index text (from + more)) (each (from + more) (omega arith) (omega arith))) in
    let same : (from + more) + 1 ≡ from + suc more = omega arith in
    subst (λ (k : ℕ). HasReadTo text k v now) same next

pub HasReadTo-up_to : (text : List ℕ) (from to : ℕ) (v : View) (now : places.Place) → HasReadTo text from v now → from ≤ to → to ≤ length text → EachFrom text from to (StaysAt now) → HasReadTo text to v now
HasReadTo-up_to text from to v now h low there each =
    let same : from + (to - from) ≡ to = omega arith in
    subst (λ (k : ℕ). HasReadTo text k v now) same (HasReadTo-stays text from (to - from) v now h (omega arith) (λ k a b. each k a (omega arith)))
