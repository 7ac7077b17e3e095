-- The rows of a players' table, with one side more.
use Rattle.std.proofs.Common.{◌≡◌, ◌≢◌, ◌⊎◌, ◌∙◌, ◌+◌, ◌++◌, ◌&&◌, ◌≤◌, ℕ, zero, suc, Bool, true, false, cond, List, [], ◌∷◌, All, refl, sym, ap, subst, arith, inl, inr, append_assoc}
use Rattle.std.specs.Prelude.{AllPairs, Any, count_by}
use Rattle.std.specs.Str.{bytes_eq}
use Rattle.std.specs.Cmp.Lexicographic.{other_text, same_text}
use Rattle.std.proofs.lemmas.List.Elements.{All-append, All-cons, All-head, All-nil, All-tail, All-weaker}
use Rattle.std.proofs.lemmas.List.Kept.{AllPairs-cons}
use Rattle.std.proofs.lemmas.List.Sums.{sum_by-append, sum_by-cons}
use Rattle.info_filter.specs.Players.{ArePlayerRows, IsSeenBefore, IsToldOfPlayer, Side, TableRow, is_side_of}
use Rattle.info_filter.specs.SidesCounted.{AreRowsWithSide, with_side_counted, with_side}
use Rattle.kb_geometry.specs.Counts.{one_if}

-- ---- names

-- whether two names are equal, with the test that tells
pub told_name : (a b : List ℕ) → ((bytes_eq a b ≡ true) × (a ≡ b)) ⊎ ((bytes_eq a b ≡ false) × (a ≢ b))
told_name a b = by (bytes_eq a b) refl
  where
    by : (t : Bool) → bytes_eq a b ≡ t → ((bytes_eq a b ≡ true) × (a ≡ b)) ⊎ ((bytes_eq a b ≡ false) × (a ≢ b))
    by true e = inl (e, same_text a b (sym e))
    by false e = inr (e, other_text a b (sym e))

own_name : (name : List ℕ) → bytes_eq name name ≡ true
own_name name = elim (told_name name name) [ inl same ↦ same.0 | inr other ↦ absurd (other.1 refl) ]

-- a row of this name
abbrev pub HasRow : List ℕ → List TableRow → Type 0
HasRow name rows = Any (λ (row : TableRow). row.name ≡ name) rows

-- no row of it
abbrev pub HasNoRow : List ℕ → List TableRow → Type 0
HasNoRow name rows = All (λ (row : TableRow). row.name ≢ name) rows

-- a side of it
abbrev pub HasSide : List ℕ → List Side → Type 0
HasSide name sides = Any (λ (side : Side). side.name ≡ name) sides

-- no side of it
abbrev pub HasNoSide : List ℕ → List Side → Type 0
HasNoSide name sides = All (λ (side : Side). side.name ≢ name) sides

-- ---- some element

pub any_head : {X : Type 0} (P : X → Type 0) (x : X) (xs : List X) → P x → Any P (x ∷ xs)
any_head P x xs p = (0, x, omega arith, refl, p)

pub any_tail : {X : Type 0} (P : X → Type 0) (x : X) (xs : List X) → Any P xs → Any P (x ∷ xs)
any_tail P x xs (k, y, within, is, p) = (suc k, y, omega (arith, within), is, p)

pub any_cases : {X : Type 0} (P : X → Type 0) (x : X) (xs : List X) → Any P (x ∷ xs) → P x ⊎ Any P xs
any_cases P x xs (zero, y, within, is, p) = inl (subst P (sym is) p)
any_cases P x xs (suc k, y, within, is, p) = inr (k, y, omega (arith, within), is, p)

pub any_nothing : {X : Type 0} (P : X → Type 0) → ¬ Any P []
any_nothing P (k, y, within, is, p) = absurd (omega (arith, within))

-- an element that is and isn't there
pub any_not_all : {X : Type 0} (P Q : X → Type 0) (xs : List X) → Any P xs → All Q xs → ((x : X) → P x → ¬ Q x) → ⊥
any_not_all P Q xs (k, y, within, is, p) all never = never y p (subst Q is (all k y within))

-- ---- counts

count_cons : (p : Side → Bool) (side : Side) (sides : List Side) → count_by p (side ∷ sides) ≡ one_if (p side) + count_by p sides
count_cons p side sides = sum_by-cons (λ (x : Side). cond (p x) 1 0) side sides ∙ ap (λ n. n + count_by p sides) (one (p side))
  where
    one : (b : Bool) → cond b 1 0 ≡ one_if b
    one true = refl
    one false = refl

-- a count over one side more
pub count_push : (p : Side → Bool) (sides : List Side) (side : Side) → count_by p (sides ++ side ∷ []) ≡ count_by p sides + one_if (p side)
count_push p sides side =
    let both = sum_by-append (λ (x : Side). cond (p x) 1 0) sides (side ∷ []) in
    let last = count_cons p side [] in
    omega (arith, both, last)

-- nothing is counted where nothing passes
count_nothing : (p : Side → Bool) (sides : List Side) → All (λ (x : Side). p x ≡ false) sides → count_by p sides ≡ 0
count_nothing p [] none = refl
count_nothing p (x ∷ sides) none =
    let rest = count_nothing p sides (All-tail (λ (s : Side). p s ≡ false) x sides none) in
    let first : one_if (p x) ≡ 0 = ap one_if (All-head (λ (s : Side). p s ≡ false) x sides none) in
    let whole = count_cons p x sides in
    omega (arith, rest, first, whole)

-- what is counted is there
pub count_something : (p : Side → Bool) (sides : List Side) → 1 ≤ count_by p sides → Any (λ (x : Side). p x ≡ true) sides
count_something p [] some = absurd (omega (arith, some))
count_something p (x ∷ sides) some = by (p x) refl (count_something p sides)
  where
    by : (b : Bool) → p x ≡ b → (1 ≤ count_by p sides → Any (λ (y : Side). p y ≡ true) sides) → Any (λ (y : Side). p y ≡ true) (x ∷ sides)
    by true e rest = any_head (λ (y : Side). p y ≡ true) x sides e
    by false e rest =
        let whole = count_cons p x sides in
        let first : one_if (p x) ≡ 0 = ap one_if e in
        any_tail (λ (y : Side). p y ≡ true) x sides (rest (omega (arith, some, whole, first)))

-- a name without a side is counted nowhere
none_of : (name : List ℕ) (q : Side → Bool) (sides : List Side) → HasNoSide name sides → count_by (λ (x : Side). is_side_of name x && q x) sides ≡ 0
none_of name q sides none = count_nothing (λ (x : Side). is_side_of name x && q x) sides (All-weaker (λ (x : Side). x.name ≢ name) (λ (x : Side). (is_side_of name x && q x) ≡ false) (λ x differ. other x differ) sides none)
  where
    other : (x : Side) → x.name ≢ name → (is_side_of name x && q x) ≡ false
    other x differ = elim (told_name x.name name) [ inl same ↦ absurd (differ same.1) | inr test ↦ ap (λ b. b && q x) test.0 ]

none_named : (name : List ℕ) (sides : List Side) → HasNoSide name sides → count_by (is_side_of name) sides ≡ 0
none_named name sides none = count_nothing (is_side_of name) sides (All-weaker (λ (x : Side). x.name ≢ name) (λ (x : Side). is_side_of name x ≡ false) (λ x differ. other x differ) sides none)
  where
    other : (x : Side) → x.name ≢ name → is_side_of name x ≡ false
    other x differ = elim (told_name x.name name) [ inl same ↦ absurd (differ same.1) | inr test ↦ test.0 ]

-- ---- what a row tells, with one side more

-- a row of another name tells the same
told_other : (sides : List Side) (row : TableRow) (side : Side) → side.name ≢ row.name → IsToldOfPlayer sides row → IsToldOfPlayer (sides ++ side ∷ []) row
told_other sides row side differ told = elim (told_name side.name row.name) [
  | inl same ↦ absurd (differ same.1)
  | inr test ↦
      let games = count_push (is_side_of row.name) sides side in
      let wins = count_push (λ (x : Side). is_side_of row.name x && x.won) sides side in
      let losses = count_push (λ (x : Side). is_side_of row.name x && x.lost) sides side in
      let no_game : one_if (is_side_of row.name side) ≡ 0 = ap one_if test.0 in
      let no_win : one_if (is_side_of row.name side && side.won) ≡ 0 = ap (λ b. one_if (b && side.won)) test.0 in
      let no_loss : one_if (is_side_of row.name side && side.lost) ≡ 0 = ap (λ b. one_if (b && side.lost)) test.0 in
      record {
        named = told.named;
        some = told.some;
        games = let e = told.games in omega (arith, e, games, no_game);
        wins = let e = told.wins in omega (arith, e, wins, no_win);
        losses = let e = told.losses in omega (arith, e, losses, no_loss);
      }
]

-- the row of the side's own name has one side more
told_own : (sides : List Side) (row : TableRow) (side : Side) → side.name ≡ row.name → row.name ≢ [] →
    row.games ≡ count_by (is_side_of row.name) sides → row.wins ≡ count_by (λ (x : Side). is_side_of row.name x && x.won) sides → row.losses ≡ count_by (λ (x : Side). is_side_of row.name x && x.lost) sides →
    IsToldOfPlayer (sides ++ side ∷ []) (with_side_counted row side)
told_own sides row side same named is_games is_wins is_losses =
    let passes : is_side_of row.name side ≡ true = ap (λ n. bytes_eq n row.name) same ∙ own_name row.name in
    let games = count_push (is_side_of row.name) sides side in
    let wins = count_push (λ (x : Side). is_side_of row.name x && x.won) sides side in
    let losses = count_push (λ (x : Side). is_side_of row.name x && x.lost) sides side in
    let one_game : one_if (is_side_of row.name side) ≡ 1 = ap one_if passes in
    let one_win : one_if (is_side_of row.name side && side.won) ≡ one_if side.won = ap (λ b. one_if (b && side.won)) passes in
    let one_loss : one_if (is_side_of row.name side && side.lost) ≡ one_if side.lost = ap (λ b. one_if (b && side.lost)) passes in
    record {
      named = named;
      some = omega arith;
      games = omega (arith, is_games, games, one_game);
      wins = omega (arith, is_wins, wins, one_win);
      losses = omega (arith, is_losses, losses, one_loss);
    }

-- rows of other names tell the same
told_others : (sides : List Side) (rows : List TableRow) (side : Side) → HasNoRow side.name rows → All (IsToldOfPlayer sides) rows → All (IsToldOfPlayer (sides ++ side ∷ [])) rows
told_others sides [] side none told = All-nil (IsToldOfPlayer (sides ++ side ∷ []))
told_others sides (row ∷ rows) side none told =
    All-cons (IsToldOfPlayer (sides ++ side ∷ [])) row rows
    (told_other sides row side (λ e. All-head (λ (r : TableRow). r.name ≢ side.name) row rows none (sym e)) (All-head (IsToldOfPlayer sides) row rows told))
    (told_others sides rows side (All-tail (λ (r : TableRow). r.name ≢ side.name) row rows none) (All-tail (IsToldOfPlayer sides) row rows told))

-- each row has a name of its own
abbrev pub HaveOwnNames : List TableRow → Type 0
HaveOwnNames rows = AllPairs (λ (a b : TableRow). a.name ≢ b.name) rows

pub pairs_head : {X : Type 0} (R : X → X → Type 0) (x : X) (xs : List X) → AllPairs R (x ∷ xs) → All (R x) xs
pairs_head R x xs pairs k d within = pairs 0 (suc k) d (omega arith) (omega (arith, within))

pub pairs_tail : {X : Type 0} (R : X → X → Type 0) (x : X) (xs : List X) → AllPairs R (x ∷ xs) → AllPairs R xs
pairs_tail R x xs pairs i j d before within = pairs (suc i) (suc j) d (omega (arith, before)) (omega (arith, within))

told_with : (sides : List Side) (rows : List TableRow) (side : Side) → side.name ≢ [] → All (IsToldOfPlayer sides) rows → HaveOwnNames rows → (HasNoRow side.name rows → HasNoSide side.name sides) →
    All (IsToldOfPlayer (sides ++ side ∷ [])) (with_side rows side)
told_with sides [] side named told own absent =
    let none = absent (All-nil (λ (r : TableRow). r.name ≢ side.name)) in
    let first : TableRow = record { name = side.name; games = 0; wins = 0; losses = 0 } in
    All-cons (IsToldOfPlayer (sides ++ side ∷ [])) (with_side_counted first side) []
    (told_own sides first side refl named (sym (none_named side.name sides none)) (sym (none_of side.name (λ (x : Side). x.won) sides none)) (sym (none_of side.name (λ (x : Side). x.lost) sides none)))
    (All-nil (IsToldOfPlayer (sides ++ side ∷ [])))
told_with sides (row ∷ rows) side named told own absent = elim (told_name side.name row.name) [
  | inl (e, same) ↦
      let head = All-head (IsToldOfPlayer sides) row rows told in
      let others : HasNoRow side.name rows = All-weaker (λ (r : TableRow). row.name ≢ r.name) (λ (r : TableRow). r.name ≢ side.name) (λ r differ is. differ (sym same ∙ sym is)) rows (pairs_head (λ (a b : TableRow). a.name ≢ b.name) row rows own) in
      rw e
      (All-cons (IsToldOfPlayer (sides ++ side ∷ [])) (with_side_counted row side) rows
      (told_own sides row side same head.named head.games head.wins head.losses)
      (told_others sides rows side others (All-tail (IsToldOfPlayer sides) row rows told)))
  | inr (e, differ) ↦
      rw e
      (All-cons (IsToldOfPlayer (sides ++ side ∷ [])) row (with_side rows side)
      (told_other sides row side differ (All-head (IsToldOfPlayer sides) row rows told))
      (told_with sides rows side named (All-tail (IsToldOfPlayer sides) row rows told) (pairs_tail (λ (a b : TableRow). a.name ≢ b.name) row rows own)
      (λ none. absent (All-cons (λ (r : TableRow). r.name ≢ side.name) row rows (λ is. differ (sym is)) none))))
]

-- ---- each name has a row

own_row : (rows : List TableRow) (side : Side) → HasRow side.name (with_side rows side)
own_row [] side = any_head (λ (r : TableRow). r.name ≡ side.name) (with_side_counted (record { name = side.name; games = 0; wins = 0; losses = 0 }) side) [] refl
own_row (row ∷ rows) side = elim (told_name side.name row.name) [
  | inl (e, same) ↦ rw e (any_head (λ (r : TableRow). r.name ≡ side.name) (with_side_counted row side) rows (sym same))
  | inr (e, differ) ↦ rw e (any_tail (λ (r : TableRow). r.name ≡ side.name) row (with_side rows side) (own_row rows side))
]

row_stays : (name : List ℕ) (rows : List TableRow) (side : Side) → HasRow name rows → HasRow name (with_side rows side)
row_stays name [] side has = absurd (any_nothing (λ (r : TableRow). r.name ≡ name) has)
row_stays name (row ∷ rows) side has = elim (told_name side.name row.name) [
  | inl (e, same) ↦ rw e (elim (any_cases (λ (r : TableRow). r.name ≡ name) row rows has) [
    | inl here ↦ any_head (λ (r : TableRow). r.name ≡ name) (with_side_counted row side) rows here
    | inr later ↦ any_tail (λ (r : TableRow). r.name ≡ name) (with_side_counted row side) rows later
  ])
  | inr (e, differ) ↦ rw e (elim (any_cases (λ (r : TableRow). r.name ≡ name) row rows has) [
    | inl here ↦ any_head (λ (r : TableRow). r.name ≡ name) row (with_side rows side) here
    | inr later ↦ any_tail (λ (r : TableRow). r.name ≡ name) row (with_side rows side) (row_stays name rows side later)
  ])
]

-- the names of the sides are in the rows
abbrev pub AreComplete : List Side → List TableRow → Type 0
AreComplete sides rows = All (λ (x : Side). x.name ≢ [] → HasRow x.name rows) sides

complete_with : (sides : List Side) (rows : List TableRow) (side : Side) → AreComplete sides rows → AreComplete (sides ++ side ∷ []) (with_side rows side)
complete_with sides rows side complete =
    let P = λ (x : Side). x.name ≢ [] → HasRow x.name (with_side rows side) in
    All-append P sides (side ∷ [])
    (All-weaker (λ (x : Side). x.name ≢ [] → HasRow x.name rows) P (λ x has named. row_stays x.name rows side (has named)) sides complete)
    (All-cons P side [] (λ _. own_row rows side) (All-nil P))

-- a name without a row has no side
no_side : (sides : List Side) (rows : List TableRow) (name : List ℕ) → name ≢ [] → AreComplete sides rows → HasNoRow name rows → HasNoSide name sides
no_side sides rows name named complete none = All-weaker (λ (x : Side). x.name ≢ [] → HasRow x.name rows) (λ (x : Side). x.name ≢ name)
    (λ x has is. any_not_all (λ (r : TableRow). r.name ≡ x.name) (λ (r : TableRow). r.name ≢ name) rows (has (λ nothing. named (sym is ∙ nothing))) none (λ r same differ. differ (same ∙ is)))
    sides complete

-- ---- the order in which names are seen

before_more : (sides more : List Side) (a b : List ℕ) → IsSeenBefore sides a b → IsSeenBefore (sides ++ more) a b
before_more sides more a b before = record {
  seen = before.seen;
  rest = before.rest ++ more;
  first = ap (λ xs. xs ++ more) before.first ∙ append_assoc before.seen before.rest more;
  there = before.there;
  absent = before.absent;
}

before_last : (sides : List Side) (side : Side) (a b : List ℕ) → HasSide a sides → HasNoSide b sides → IsSeenBefore (sides ++ side ∷ []) a b
before_last sides side a b has none = record { seen = sides; rest = side ∷ []; first = refl; there = has; absent = none }

-- no name is seen before itself
pub before_differ : (sides : List Side) (a b : List ℕ) → IsSeenBefore sides a b → a ≢ b
before_differ sides a b before same = any_not_all (λ (x : Side). x.name ≡ a) (λ (x : Side). x.name ≢ b) before.seen before.there before.absent (λ x is differ. differ (is ∙ same))

-- the rows in the order in which their names are seen
abbrev pub AreOrdered : List Side → List TableRow → Type 0
AreOrdered sides rows = AllPairs (λ (a b : TableRow). IsSeenBefore sides a.name b.name) rows

pairs_weaker : {X : Type 0} (R Q : X → X → Type 0) (xs : List X) → ((x y : X) → R x y → Q x y) → AllPairs R xs → AllPairs Q xs
pairs_weaker R Q xs weaker pairs i j d before within = weaker _ _ (pairs i j d before within)

all_with : (P : List ℕ → Type 0) (rows : List TableRow) (side : Side) → All (λ (r : TableRow). P r.name) rows → (HasNoRow side.name rows → P side.name) → All (λ (r : TableRow). P r.name) (with_side rows side)
all_with P [] side all last =
    let Q = λ (r : TableRow). P r.name in
    All-cons Q (with_side_counted (record { name = side.name; games = 0; wins = 0; losses = 0 }) side) [] (last (All-nil (λ (r : TableRow). r.name ≢ side.name))) (All-nil Q)
all_with P (row ∷ rows) side all last =
    let Q = λ (r : TableRow). P r.name in
    let head : P row.name = All-head Q row rows all in
    elim (told_name side.name row.name) [
      | inl (e, same) ↦ rw e (All-cons Q (with_side_counted row side) rows head (All-tail Q row rows all))
      | inr (e, differ) ↦ rw e (All-cons Q row (with_side rows side) head (all_with P rows side (All-tail Q row rows all) (λ none. last (All-cons (λ (r : TableRow). r.name ≢ side.name) row rows (λ is. differ (sym is)) none))))
    ]

ordered_with : (sides : List Side) (rows : List TableRow) (side : Side) → AreOrdered sides rows → All (λ (r : TableRow). HasSide r.name sides) rows → (HasNoRow side.name rows → HasNoSide side.name sides) → AreOrdered (sides ++ side ∷ []) (with_side rows side)
ordered_with sides [] side ordered seen absent =
    let R = λ (a b : TableRow). IsSeenBefore (sides ++ side ∷ []) a.name b.name in
    let row = with_side_counted (record { name = side.name; games = 0; wins = 0; losses = 0 }) side in
    AllPairs-cons R row [] (All-nil (R row)) (λ i j d before within. absurd (omega (arith, within)))
ordered_with sides (row ∷ rows) side ordered seen absent =
    let R = λ (a b : TableRow). IsSeenBefore sides a.name b.name in
    let Q = λ (a b : TableRow). IsSeenBefore (sides ++ side ∷ []) a.name b.name in
    let heads : All (λ (r : TableRow). IsSeenBefore (sides ++ side ∷ []) row.name r.name) rows = All-weaker (R row) (Q row) (λ r before. before_more sides (side ∷ []) row.name r.name before) rows (pairs_head R row rows ordered) in
    elim (told_name side.name row.name) [
      | inl (e, same) ↦ rw e (AllPairs-cons Q (with_side_counted row side) rows heads (pairs_weaker R Q rows (λ x y before. before_more sides (side ∷ []) x.name y.name before) (pairs_tail R row rows ordered)))
      | inr (e, differ) ↦
          let absent_here : HasNoRow side.name rows → HasNoSide side.name sides = λ none. absent (All-cons (λ (r : TableRow). r.name ≢ side.name) row rows (λ is. differ (sym is)) none) in
          let first : HasSide row.name sides = All-head (λ (r : TableRow). HasSide r.name sides) row rows seen in
          rw e
          (AllPairs-cons Q row (with_side rows side)
          (all_with (λ (n : List ℕ). IsSeenBefore (sides ++ side ∷ []) row.name n) rows side heads (λ none. before_last sides side row.name side.name first (absent_here none)))
          (ordered_with sides rows side (pairs_tail R row rows ordered) (All-tail (λ (r : TableRow). HasSide r.name sides) row rows seen) absent_here))
    ]

-- ---- the rows of one side more

-- the name of a row is that of a side
pub told_side : (sides : List Side) (row : TableRow) → IsToldOfPlayer sides row → HasSide row.name sides
told_side sides row told =
    let (k, x, within, is, passes) = count_something (is_side_of row.name) sides (let e = told.games in let some = told.some in omega (arith, e, some)) in
    (k, x, within, is, same_text x.name row.name (sym passes))

named_added : (sides : List Side) (rows : List TableRow) (side : Side) → side.name ≢ [] → ArePlayerRows sides rows → ArePlayerRows (sides ++ side ∷ []) (with_side rows side)
named_added sides rows side named are =
    let own : HaveOwnNames rows = pairs_weaker (λ (a b : TableRow). IsSeenBefore sides a.name b.name) (λ (a b : TableRow). a.name ≢ b.name) rows (λ x y before. before_differ sides x.name y.name before) are.ordered in
    let absent = no_side sides rows side.name named are.complete in
    record {
      told = told_with sides rows side named are.told own absent;
      complete = complete_with sides rows side are.complete;
      ordered = ordered_with sides rows side are.ordered (All-weaker (IsToldOfPlayer sides) (λ (r : TableRow). HasSide r.name sides) (λ r told. told_side sides r told) rows are.told) absent;
    }

nameless_added : (sides : List Side) (rows : List TableRow) (side : Side) → side.name ≡ [] → ArePlayerRows sides rows → ArePlayerRows (sides ++ side ∷ []) rows
nameless_added sides rows side nothing are =
    let P = λ (x : Side). x.name ≢ [] → HasRow x.name rows in
    record {
      told = told_others sides rows side (All-weaker (IsToldOfPlayer sides) (λ (r : TableRow). r.name ≢ side.name) (λ r told is. told.named (is ∙ nothing)) rows are.told) are.told;
      complete = All-append P sides (side ∷ []) are.complete (All-cons P side [] (λ named. absurd (named nothing)) (All-nil P));
      ordered = pairs_weaker (λ (a b : TableRow). IsSeenBefore sides a.name b.name) (λ (a b : TableRow). IsSeenBefore (sides ++ side ∷ []) a.name b.name) rows (λ x y before. before_more sides (side ∷ []) x.name y.name before) are.ordered;
    }

-- a name is empty or it isn't
pub empty_or_not : (name : List ℕ) → (name ≡ []) ⊎ (name ≢ [])
empty_or_not [] = inl refl
empty_or_not (b ∷ name) = inr (λ e. absurd cc)

pub side_added : (sides : List Side) (old new : List TableRow) (side : Side) → AreRowsWithSide old side new → ArePlayerRows sides old → ArePlayerRows (sides ++ side ∷ []) new
side_added sides old new side added are = elim (empty_or_not side.name) [
  | inl nothing ↦ subst (ArePlayerRows (sides ++ side ∷ [])) (sym (added.nameless nothing)) (nameless_added sides old side nothing are)
  | inr named ↦ subst (ArePlayerRows (sides ++ side ∷ [])) (sym (added.named named)) (named_added sides old side named are)
]

-- no side has no row
pub no_rows : ArePlayerRows [] []
no_rows = record {
  told = All-nil (IsToldOfPlayer []);
  complete = All-nil (λ (x : Side). x.name ≢ [] → HasRow x.name []);
  ordered = λ i j d before within. absurd (omega (arith, within));
}
