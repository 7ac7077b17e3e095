-- A list of games has a table of players, and one only.
use Rattle.std.proofs.Common.{◌≡◌, ◌≢◌, ◌⊎◌, ◌∙◌, ◌*◌, ◌++◌, ◌&&◌, ◌≤◌, ℕ, List, [], ◌∷◌, All, length, refl, sym, ap, subst, arith, inl, inr, append_assoc}
use Rattle.std.specs.Prelude.{AllPairs, Any, count_by}
use Rattle.std.proofs.lemmas.List.Elements.{All-weaker}
use Rattle.std.proofs.lemmas.List.Sums.{count_by-le-length}
use Rattle.game_tree.specs.Information.{Information}
use Rattle.info_filter.specs.Players.{ArePlayerRows, IsSeenBefore, IsPlayersTable, IsToldOfPlayer, Side, TableRow, is_side_of, sides_of}
use Rattle.info_filter.specs.SidesCounted.{AreRowsWithSide, with_side}
use Rattle.info_filter.proofs.TableRows.{any_cases, any_head, any_not_all, any_nothing, any_tail, empty_or_not, no_rows, pairs_head, pairs_tail, side_added, told_side}

-- ---- two lists in one order

-- the element is in the list
abbrev pub IsIn : {X : Type 0} → X → List X → Type 0
IsIn {X} x xs = Any (λ (y : X). y ≡ x) xs

all_at : {X : Type 0} (P : X → Type 0) (x : X) (xs : List X) → All P xs → IsIn x xs → P x
all_at P x xs all (k, y, within, is, same) = subst P (is ∙ same) (all k y within)

-- two lists with the same elements, both in one strict order, are equal
same_lists : {X : Type 0} (R : X → X → Type 0) → ((x y : X) → R x y → ¬ R y x) → (xs ys : List X) → AllPairs R xs → AllPairs R ys → ((x : X) → IsIn x xs → IsIn x ys) → ((x : X) → IsIn x ys → IsIn x xs) → xs ≡ ys
same_lists R asymmetric [] [] order order' into back = refl
same_lists {X} R asymmetric [] (y ∷ ys) order order' into back = absurd (any_nothing (λ (z : X). z ≡ y) (back y (any_head (λ (z : X). z ≡ y) y ys refl)))
same_lists {X} R asymmetric (x ∷ xs) [] order order' into back = absurd (any_nothing (λ (z : X). z ≡ x) (into x (any_head (λ (z : X). z ≡ x) x xs refl)))
same_lists {X} R asymmetric (x ∷ xs) (y ∷ ys) order order' into back =
    let same : x ≡ y = elim (any_cases (λ (z : X). z ≡ x) y ys (into x (any_head (λ (z : X). z ≡ x) x xs refl))) [
      | inl e ↦ sym e
      | inr later ↦ elim (any_cases (λ (z : X). z ≡ y) x xs (back y (any_head (λ (z : X). z ≡ y) y ys refl))) [
        | inl e ↦ e
        | inr later-2 ↦ absurd (asymmetric x y (all_at (R x) y xs (pairs_head R x xs order) later-2) (all_at (R y) x ys (pairs_head R y ys order') later))
      ]
    ] in
    let forth : (z : X) → IsIn z xs → IsIn z ys = λ z there. elim (any_cases (λ (w : X). w ≡ z) y ys (into z (any_tail (λ (w : X). w ≡ z) x xs there))) [
      | inl e ↦ let itself : R x x = subst (R x) (sym (same ∙ e)) (all_at (R x) z xs (pairs_head R x xs order) there) in absurd (asymmetric x x itself itself)
      | inr later ↦ later
    ] in
    let return : (z : X) → IsIn z ys → IsIn z xs = λ z there. elim (any_cases (λ (w : X). w ≡ z) x xs (back z (any_tail (λ (w : X). w ≡ z) y ys there))) [
      | inl e ↦ let itself : R y y = subst (R y) (sym (sym same ∙ e)) (all_at (R y) z ys (pairs_head R y ys order') there) in absurd (asymmetric y y itself itself)
      | inr later ↦ later
    ] in
    let rest = same_lists R asymmetric xs ys (pairs_tail R x xs order) (pairs_tail R y ys order') forth return in
    λ i. same i ∷ rest i

-- ---- the order of names

-- of two beginnings of a list one is a beginning of the other
compare : {X : Type 0} (xs ys rest more : List X) → xs ++ rest ≡ ys ++ more → ((tail : List X) × (ys ≡ xs ++ tail)) ⊎ ((tail : List X) × (xs ≡ ys ++ tail))
compare [] ys rest more e = inl (ys, refl)
compare (x ∷ xs) [] rest more e = inr (x ∷ xs, refl)
compare (x ∷ xs) (y ∷ ys) rest more e =
    let head : x ≡ y = cc in
    let tails : xs ++ rest ≡ ys ++ more = cc in
    elim (compare xs ys rest more tails) [
      | inl (tail, is) ↦ inl (tail, (λ i. sym head i ∷ is i))
      | inr (tail, is) ↦ inr (tail, (λ i. head i ∷ is i))
    ]

any_more : {X : Type 0} (P : X → Type 0) (xs tail : List X) → Any P xs → Any P (xs ++ tail)
any_more P [] tail some = absurd (any_nothing P some)
any_more P (x ∷ xs) tail some = elim (any_cases P x xs some) [
  | inl here ↦ any_head P x (xs ++ tail) here
  | inr later ↦ any_tail P x (xs ++ tail) (any_more P xs tail later)
]

-- a name that is seen among some sides isn't absent among more
seen_and_absent : (name : List ℕ) (some more tail : List Side) → more ≡ some ++ tail → Any (λ (x : Side). x.name ≡ name) some → All (λ (x : Side). x.name ≢ name) more → ⊥
seen_and_absent name some more tail is there absent =
    any_not_all (λ (x : Side). x.name ≡ name) (λ (x : Side). x.name ≢ name) more (subst (Any (λ (x : Side). x.name ≡ name)) (sym is) (any_more (λ (x : Side). x.name ≡ name) some tail there)) absent (λ x same differ. differ same)

-- no two names are seen before each other
one_first : (sides : List Side) (a b : List ℕ) → IsSeenBefore sides a b → ¬ IsSeenBefore sides b a
one_first sides a b one other = elim (compare one.seen other.seen one.rest other.rest (sym one.first ∙ other.first)) [
  | inl (tail, is) ↦ seen_and_absent a one.seen other.seen tail is one.there other.absent
  | inr (tail, is) ↦ seen_and_absent b other.seen one.seen tail is other.there one.absent
]

-- ---- one table

-- two rows of one name are equal
row_once : (sides : List Side) (a b : TableRow) → IsToldOfPlayer sides a → IsToldOfPlayer sides b → a.name ≡ b.name → a ≡ b
row_once sides a b one other same =
    let games = one.games ∙ ap (λ (n : List ℕ). count_by (is_side_of n) sides) same ∙ sym other.games in
    let wins = one.wins ∙ ap (λ (n : List ℕ). count_by (λ (x : Side). is_side_of n x && x.won) sides) same ∙ sym other.wins in
    let losses = one.losses ∙ ap (λ (n : List ℕ). count_by (λ (x : Side). is_side_of n x && x.lost) sides) same ∙ sym other.losses in
    λ i. record { name = same i; games = games i; wins = wins i; losses = losses i }

-- a row of one table is in the other
row_there : (sides : List Side) (a b : List TableRow) (row : TableRow) → ArePlayerRows sides a → ArePlayerRows sides b → IsIn row a → IsIn row b
row_there sides a b row one other there =
    let told = all_at (IsToldOfPlayer sides) row a one.told there in
    let (j, side, side_within, side_is, side_name) = told_side sides row told in
    let named : side.name ≢ [] = λ nothing. told.named (sym side_name ∙ nothing) in
    let has = subst (λ (x : Side). x.name ≢ [] → Any (λ (r : TableRow). r.name ≡ x.name) b) side_is (other.complete j side side_within) named in
    let (k, found, within, is, name) = has in
    let found_told = subst (IsToldOfPlayer sides) is (other.told k found within) in
    (k, found, within, is, row_once sides found row found_told told (name ∙ side_name))

pub rows_once : (sides : List Side) (a b : List TableRow) → ArePlayerRows sides a → ArePlayerRows sides b → a ≡ b
rows_once sides a b one other =
    same_lists (λ (x y : TableRow). IsSeenBefore sides x.name y.name) (λ x y before after. one_first sides x.name y.name before after) a b one.ordered other.ordered
    (λ row there. row_there sides a b row one other there) (λ row there. row_there sides b a row other one there)

-- ---- some table

side_some : (old : List TableRow) (side : Side) → (new : List TableRow) × AreRowsWithSide old side new
side_some old side = elim (empty_or_not side.name) [
  | inl nothing ↦ (old, record { nameless = λ _. refl; named = λ named. absurd (named nothing) })
  | inr named ↦ (with_side old side, record { nameless = λ nothing. absurd (named nothing); named = λ _. refl })
]

rows_from : (done rest : List Side) (rows : List TableRow) → ArePlayerRows done rows → (more : List TableRow) × ArePlayerRows (done ++ rest) more
rows_from done [] rows are = (rows, subst (λ (xs : List Side). ArePlayerRows xs rows) (sym (no_rest done)) are)
  where
    no_rest : (xs : List Side) → xs ++ [] ≡ xs
    no_rest [] = refl
    no_rest (x ∷ xs) = ap (λ ys. x ∷ ys) (no_rest xs)
rows_from done (side ∷ rest) rows are =
    let (next, added) = side_some rows side in
    let (more, all) = rows_from (done ++ side ∷ []) rest next (side_added done rows next side added are) in
    (more, subst (λ (xs : List Side). ArePlayerRows xs more) (append_assoc done (side ∷ []) rest) all)

pub rows_some : (sides : List Side) → (rows : List TableRow) × ArePlayerRows sides rows
rows_some sides = rows_from [] sides [] no_rows

-- ---- few games

length_sides : (games : List Information) → length (sides_of games) ≡ 2 * length games
length_sides [] = refl
length_sides (game ∷ games) = let rest = length_sides games in omega (arith, rest)

pub few_games : (games : List Information) (rows : List TableRow) → IsPlayersTable games rows → All (λ (row : TableRow). row.games ≤ 2 * length games) rows
few_games games rows table = All-weaker (IsToldOfPlayer (sides_of games)) (λ (row : TableRow). row.games ≤ 2 * length games)
    (λ row told. let most = count_by-le-length (is_side_of row.name) (sides_of games) in let long = length_sides games in let is = told.games in omega (arith, most, long, is)) rows table.told

-- to the table of so few games another game can be added
pub room_for_game : (games : List Information) (rows : List TableRow) → IsPlayersTable games rows → length games ≤ 2000000000 → All (λ (row : TableRow). row.games ≤ 4000000000) rows
room_for_game games rows table few = All-weaker (λ (row : TableRow). row.games ≤ 2 * length games) (λ (row : TableRow). row.games ≤ 4000000000) (λ row le. omega (arith, le, few)) rows (few_games games rows table)
