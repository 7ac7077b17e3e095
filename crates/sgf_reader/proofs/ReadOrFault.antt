-- Each text is read or has a first fault: the scan goes on byte by byte, until a byte leads it no further or past a limit.
use Rattle.std.proofs.Common.{◌≡◌, ◌≢◌, ◌⊎◌, ℕ, zero, suc, ◌+◌, ◌-◌, ◌<◌, ◌≤◌, List, [], ◌∷◌, length, map, slice_index, Option, Some, None, false, refl, sym, subst, arith, inl, inr, length-append}
use Rattle.std.proofs.lemmas.Bool.{cases_lt, cases_eq}
use Rattle.sgf_reader.specs.declared.collection.RawGame.{RawGame}
use Rattle.sgf_reader.specs.declared.fault.FaultKind.{FaultKind}
use Rattle.sgf_reader.specs.declared.fault.FaultKind.TheVariants as kind
use Rattle.sgf_reader.specs.declared.fault.SgfFault.{SgfFault}
use Rattle.sgf_reader.specs.declared.place.Phase as phases
use Rattle.sgf_reader.specs.declared.place.Phase.TheVariants as at
use Rattle.sgf_reader.specs.declared.place.Place as places
use Rattle.sgf_reader.specs.declared.place.Place.TheVariants as stands
use Rattle.sgf_reader.specs.Faults.{HasRead, IsFirstFault}
use Rattle.sgf_reader.specs.Grammar.{SpelledGame, raw_game, raw_node}
use Rattle.sgf_reader.specs.Limits.{most_bytes, most_games, most_nodes, most_open}
use Rattle.sgf_reader.specs.Reading.{View, none_open, may_begin, inside, Shows, IsWithinLimits, few_outside, few_before, few_inside, Fails, refused, too_deep, too_many_nodes, too_many_games, has_ended, has_no_game, IsPlaceOutside}
use Rattle.sgf_reader.specs.Scan.{Scan, Place, Outside, Before, Within, Inside, Phase, Opened, InNode, InName, AfterName, InValue, Escaped, AfterValue, AfterTree, closed, step}
use Rattle.sgf_reader.specs.Stays.{IsReadTo, HasReadTo, FailsIn, IsNodeNext, too_long}
use Rattle.sgf_reader.specs.Stays.IsPastEnd.{too_many_games as past_games}
use Rattle.sgf_reader.specs.Turn.{phase_of, is_in_node}
use Rattle.sgf_reader.proofs.SpelledNodes.{with_pair-length}
use Rattle.sgf_reader.proofs.Reached.{Change, HasOpen, changes, moves, gains, begins, opens, closes, reached-open}
use Rattle.sgf_reader.proofs.Ways as ways
use Rattle.sgf_reader.proofs.ReadTo.{HasReadTo-start, IsReadTo-more}
use Rattle.sgf_reader.proofs.FaultsHere.{IsFirstFault-in}
use Rattle.sgf_reader.proofs.EndFaults.{past_end-first}
use Rattle.sgf_reader.proofs.Endings.{end-first, end-read}

-- ---- one byte

-- the scan goes on over this byte within the limits, or a fault stands there
data StepEnds (s : Scan) (offset byte : ℕ) : Type 0 where
  goes_on : (next : Scan) → step s.games s.place offset byte ≡ Some next → IsWithinLimits (length next.games) next.place → StepEnds s offset byte
  stops : (f : SgfFault) → Fails s offset byte f → StepEnds s offset byte

few-outside : {games : ℕ} → IsWithinLimits games Outside → games ≤ most_games
few-outside (few_outside a) = a

few-before : {games from : ℕ} → IsWithinLimits games (Before from) → games ≤ most_games
few-before (few_before a) = a

few-inside : {games : ℕ} {s : Inside} → IsWithinLimits games (Within s) → (games < most_games) × (length s.parents ≤ most_open) × (length s.nodes ≤ most_nodes)
few-inside (few_inside a b c) = (a, b, c)

closed-limits : (games : List SpelledGame) (s : Inside) (parents : List (Option ℕ)) → length games < most_games → length parents ≤ most_open → length s.nodes ≤ most_nodes → IsWithinLimits (length (closed games s parents).games) (closed games s parents).place
closed-limits games s [] few open_now nodes = few_outside (omega arith)
closed-limits games s (parent ∷ []) few open_now nodes = few_outside (omega (arith, length-append games (record { at = s.at; nodes = s.nodes } ∷ [])))
closed-limits games s (parent ∷ other ∷ parents) few open_now nodes = few_inside few (omega arith) nodes

change-ends : (games : List SpelledGame) (s : Inside) (offset byte : ℕ) (t : Scan) → IsWithinLimits (length games) (Within s) → Change games s offset t → step games (Within s) offset byte ≡ Some t → StepEnds (ways.inside games s) offset byte
change-ends games s offset byte t limits (moves m) e =
    let few = few-inside limits in goes_on t e (few_inside few.0 few.1 few.2)
change-ends games s offset byte t limits (gains {name = name} {from = from} p) e =
    let few = few-inside limits in
    goes_on t e (few_inside few.0 few.1 (omega (arith, few.2, with_pair-length s.nodes (record { name = name; value = record { from = from; to = offset } }))))
change-ends games s offset byte t limits (begins {opened = opened} n) e =
    let few = few-inside limits in
    elim (cases_lt (length s.nodes) most_nodes) [
      | inl less ↦ goes_on t e (few_inside few.0 few.1 (omega (arith, length-append s.nodes (record { opened = opened; at = offset; depth = length s.parents; parent = s.last; pairs = [] } ∷ []))))
      | inr many ↦ stops (record { kind = kind.TooManyNodes; at = offset }) (too_many_nodes s opened e (omega (arith, few.2)))
    ]
change-ends games s offset byte t limits (opens p) e =
    let few = few-inside limits in
    elim (cases_lt (length s.parents) most_open) [
      | inl less ↦ goes_on t e (few_inside few.0 (omega arith) few.2)
      | inr many ↦ stops (record { kind = kind.TooDeep; at = offset }) (too_deep s e (omega (arith, few.1)))
    ]
change-ends games s offset byte t limits (closes p) e =
    let few = few-inside limits in goes_on t e (closed-limits games s s.parents few.0 few.1 few.2)

way-ends : (games : List SpelledGame) (place : Place) (offset byte : ℕ) (t : Scan) → IsWithinLimits (length games) place → ways.Way games offset byte place t → step games place offset byte ≡ Some t → StepEnds (ways.out games place) offset byte
way-ends games place offset byte t limits (ways.Way.out_open b) e = goes_on t e (few_before (few-outside limits))
way-ends games place offset byte t limits (ways.Way.out_skip b) e = goes_on t e (few_outside (few-outside limits))
way-ends games place offset byte t limits (ways.Way.before_white b) e = goes_on t e (few_before (few-before limits))
way-ends games place offset byte t limits (ways.Way.before_node {from = from} b) e =
    let few = few-before limits in
    elim (cases_lt (length games) most_games) [
      | inl less ↦ goes_on t e (few_inside less (omega arith) (omega arith))
      | inr many ↦ stops (record { kind = kind.TooManyGames; at = from }) (too_many_games from refl e (omega arith))
    ]
way-ends games place offset byte t limits (ways.Way.before_open b) e = goes_on t e (few_before (few-before limits))
way-ends games place offset byte t limits (ways.Way.before_skip a b c) e = goes_on t e (few_outside (few-before limits))
way-ends games place offset byte t limits (ways.Way.way_in {s = s} w) e = change-ends games s offset byte t limits (changes games s offset byte t w) e

step-ends : (s : Scan) (offset byte : ℕ) → IsWithinLimits (length s.games) s.place → (o : Option Scan) → step s.games s.place offset byte ≡ o → StepEnds s offset byte
step-ends s offset byte limits None e = stops (record { kind = kind.Unexpected; at = offset }) (refused e)
step-ends s offset byte limits (Some t) e = way-ends s.games s.place offset byte t limits (ways.step-way s.games s.place offset byte t e) e

-- ---- all bytes

-- the first bytes, so many, were read, or a fault stands among them
data WalkEnds (text : List ℕ) (count : ℕ) : Type 0 where
  read : (s : Scan) → IsReadTo text count s → WalkEnds text count
  failed : (f : SgfFault) → FailsIn text count f → WalkEnds text count

walk-more : (text : List ℕ) (count : ℕ) (s : Scan) → count < length text → IsReadTo text count s → StepEnds s count (slice_index text count) → WalkEnds text (count + 1)
walk-more text count s there h (goes_on next goes limits) = read next (IsReadTo-more text count s next h there goes limits)
walk-more text count s there h (stops f fails) = failed f (record { count = count; reached = s; there = omega arith; read = h; fails = fails })

walk-on : (text : List ℕ) (count : ℕ) → count < length text → WalkEnds text count → WalkEnds text (count + 1)
walk-on text count there (read s h) =
    walk-more text count s there h (step-ends s count (slice_index text count) (h.limits count s (omega arith) h.scans) (step s.games s.place count (slice_index text count)) refl)
walk-on text count there (failed f h) = failed f (record { count = h.count; reached = h.reached; there = omega (arith, h.there); read = h.read; fails = h.fails })

walk : (text : List ℕ) (count : ℕ) → count ≤ length text → WalkEnds text count
walk text zero there = let start = HasReadTo-start text in read start.reached start.read
walk text (suc count) there =
    let one : count + 1 ≡ suc count = omega arith in
    subst (WalkEnds text) one (walk-on text count (omega arith) (walk text count (omega arith)))

-- ---- a reader that shows what was scanned

phase-shown : (p : Phase) → (now : phases.Phase) × (p ≡ phase_of now)
phase-shown (Opened from) = (at.Opened from, refl)
phase-shown InNode = (at.InNode, refl)
phase-shown (InName from upper) = (at.InName from upper, refl)
phase-shown (AfterName name) = (at.AfterName name, refl)
phase-shown (InValue name from) = (at.InValue name from, refl)
phase-shown (Escaped name from) = (at.Escaped name from, refl)
phase-shown (AfterValue name) = (at.AfterValue name, refl)
phase-shown AfterTree = (at.AfterTree, refl)

shown : (games : List SpelledGame) (place : Place) → HasOpen place → (v : View) × (now : places.Place) × Shows v now (ways.out games place)
shown games Outside h = (record { games = map raw_game games; nodes = []; is_reading = false; parents = []; last = None }, stands.Outside, record { games = refl; place = none_open refl refl refl })
shown games (Before from) h = (record { games = map raw_game games; nodes = []; is_reading = false; parents = []; last = None }, stands.Before from, record { games = refl; place = may_begin refl refl refl })
shown games (Within s) h =
    let phase = phase-shown s.phase in
    (record { games = map raw_game games; nodes = map raw_node s.nodes; is_reading = is_in_node phase.0; parents = s.parents; last = s.last }, stands.Within phase.0, record { games = refl; place = inside (record { nodes = refl; parents = refl; last = refl; phase = phase.1; reading = refl; is_open = h }) })

-- ---- the end of the text

-- the text is read or has a first fault
abbrev IsSettled : List ℕ → Type 0
IsSettled text = ((games : List SpelledGame) × HasRead text games) ⊎ ((of : FaultKind) × (at : ℕ) × IsFirstFault text of at)

none-or-some : (games : List RawGame) → (games ≡ []) ⊎ (1 ≤ length games)
none-or-some [] = inl refl
none-or-some (game ∷ games) = inr (omega arith)

outside-settled : (text : List ℕ) (v : View) (now : places.Place) → length text ≤ most_bytes → HasReadTo text (length text) v now → IsPlaceOutside now → IsSettled text
outside-settled text v now short h out = elim (none-or-some v.games) [
  | inl none ↦ inr (kind.NoGame, length text, end-first text v now short h (record { kind = kind.NoGame; at = length text }) (has_no_game out none))
  | inr some ↦ let whole = end-read text v now short h (record { games = v.games }) refl some out in inl (whole.0, whole.1)
]

end-settled : (text : List ℕ) (v : View) (now : places.Place) → length text ≤ most_bytes → HasReadTo text (length text) v now → IsSettled text
end-settled text v stands.Outside short h = outside-settled text v stands.Outside short h tt
end-settled text v (stands.Before from) short h = outside-settled text v (stands.Before from) short h tt
end-settled text v (stands.Within phase) short h = inr (kind.Ended, length text, end-first text v (stands.Within phase) short h (record { kind = kind.Ended; at = length text }) (has_ended phase refl))

-- ---- at the greatest length

later-next : (text : List ℕ) (from : ℕ) → slice_index text from ≤ 32 → IsNodeNext text (from + 1) → IsNodeNext text from
later-next text from white next = record {
  semicolon = next.semicolon;
  behind = omega (arith, next.behind);
  there = next.there;
  white = λ k low high. elim (cases_eq k from) [ inl same ↦ subst (λ (j : ℕ). slice_index text j ≤ 32) (sym same) white | inr other ↦ next.white k (omega arith) high ];
  here = next.here;
}

next-later : (text : List ℕ) (from : ℕ) → slice_index text from ≤ 32 → IsNodeNext text from → IsNodeNext text (from + 1)
next-later text from white next =
    let other : next.semicolon ≢ from = λ same. (let here : slice_index text from ≡ 59 = subst (λ (j : ℕ). slice_index text j ≡ 59) same next.here in omega arith) in
    record { semicolon = next.semicolon; behind = not_here next.semicolon next.behind other; there = next.there; white = λ k low high. next.white k (omega arith) high; here = next.here }
  where
    not_here : (k : ℕ) → from ≤ k → k ≢ from → from + 1 ≤ k
    not_here k low other = elim (cases_lt from k) [ inl less ↦ omega arith | inr high ↦ absurd (other (omega arith)) ]

no_next-black : (text : List ℕ) (from : ℕ) → 32 < slice_index text from → slice_index text from ≢ 59 → ¬ IsNodeNext text from
no_next-black text from black other next = elim (cases_lt from next.semicolon) [
  | inl less ↦ (let white = next.white from (omega arith) less in omega arith)
  | inr high ↦ (let low = next.behind in let same : next.semicolon ≡ from = omega arith in other (subst (λ (j : ℕ). slice_index text j ≡ 59) same next.here))
]

next-or-none : (text : List ℕ) (more from : ℕ) → from + more ≡ length text → IsNodeNext text from ⊎ ¬ IsNodeNext text from
next-or-none text zero from end = inr (λ next. omega (arith, next.behind, next.there))
next-or-none text (suc more) from end = elim (cases_lt 32 (slice_index text from)) [
  | inl black ↦ elim (cases_eq (slice_index text from) 59) [
    | inl here ↦ inl (record { semicolon = from; behind = omega arith; there = omega arith; white = λ k low high. absurd (omega arith); here = here })
    | inr other ↦ inr (no_next-black text from black other)
  ]
  | inr white ↦ elim (next-or-none text more (from + 1) (omega arith)) [
    | inl next ↦ inl (later-next text from white next)
    | inr none ↦ inr (λ next. none (next-later text from white next))
  ]
]

long-settled : (text : List ℕ) (v : View) (now : places.Place) → most_bytes < length text → HasReadTo text most_bytes v now → ((from : ℕ) → now ≡ stands.Before from → most_games ≤ length v.games → ¬ IsNodeNext text most_bytes) → IsSettled text
long-settled text v now long h alone = inr (kind.TooLong, most_bytes, past_end-first text most_bytes v now refl long h (record { kind = kind.TooLong; at = most_bytes }) (too_long alone))

past-settled : (text : List ℕ) (v : View) (now : places.Place) → most_bytes < length text → HasReadTo text most_bytes v now → IsSettled text
past-settled text v stands.Outside long h = long-settled text v stands.Outside long h (λ from is. cc)
past-settled text v (stands.Within phase) long h = long-settled text v (stands.Within phase) long h (λ from is. cc)
past-settled text v (stands.Before from) long h = elim (cases_lt (length v.games) most_games) [
  | inl few ↦ long-settled text v (stands.Before from) long h (λ other is many. absurd (omega arith))
  | inr many ↦ elim (next-or-none text (length text - most_bytes) most_bytes (omega arith)) [
    | inl next ↦ inr (kind.TooManyGames, from, past_end-first text most_bytes v (stands.Before from) refl long h (record { kind = kind.TooManyGames; at = from }) (past_games from refl many next))
    | inr none ↦ long-settled text v (stands.Before from) long h (λ other is much. none)
  ]
]

-- ---- the whole text

shows-read : (text : List ℕ) (count : ℕ) (s : Scan) → count ≤ length text → IsReadTo text count s → (v : View) × (now : places.Place) × HasReadTo text count v now
shows-read text count s there h =
    let some = shown s.games s.place (reached-open text count s there (record { scans = h.scans })) in
    (some.0, some.1, record { reached = s; read = h; shows = some.2 })

pub read-or-fault : (text : List ℕ) → ((games : List SpelledGame) × HasRead text games) ⊎ ((of : FaultKind) × (at : ℕ) × IsFirstFault text of at)
read-or-fault text = elim (cases_lt most_bytes (length text)) [
  | inl long ↦ elim (walk text most_bytes (omega arith)) [
    | failed f h ↦ inr (f.kind, f.at, IsFirstFault-in text most_bytes f (omega arith) (omega arith) h)
    | read s h ↦ let r = shows-read text most_bytes s (omega arith) h in past-settled text r.0 r.1 long r.2
  ]
  | inr short ↦ elim (walk text (length text) (omega arith)) [
    | failed f h ↦ inr (f.kind, f.at, IsFirstFault-in text (length text) f (omega arith) short h)
    | read s h ↦ let r = shows-read text (length text) s (omega arith) h in end-settled text r.0 r.1 short r.2
  ]
]
