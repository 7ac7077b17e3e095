-- The numbers of a corner at the nodes of a game.
use Rattle.std.proofs.Common.{◌≡◌, ℕ, zero, suc, ◌+◌, ◌<◌, ◌≤◌, List, [], ◌∷◌, ◌++◌, length, get_or, map, set, take, Some, None, sym, ◌∙◌, ap, subst, arith}
use Rattle.std.specs.Prelude.{Contains, IsPermutation, eqb}
use Rattle.std.specs.List.{dedup}
use Rattle.std.specs.List.Sorted.{IsSorted, IsStrictlyIncreasing}
use Rattle.std.specs.List.Retain.{DiffersFromLast, IsFiltered}
use Rattle.std.specs.Ordering.{nat_cmp}
use Rattle.std.proofs.lemmas.List.{get_or-map, get_or-take, get_or_default, length-map, length-take-le, map-append, take_all, take_more}
use Rattle.std.proofs.lemmas.List.Filters.{dedup_is}
use Rattle.std.proofs.lemmas.List.FromFn.{get_or-map-range_with_len, length-map-range_with_len, map-range_with_len_more}
use Rattle.std.proofs.lemmas.List.Kept.{Contains-dedup_nat, Contains-from_dedup}
use Rattle.std.proofs.lemmas.List.Sorted.{Contains-permutation, IsPermutation-sym, length_permutation}
use Rattle.std.proofs.lemmas.Map.Keys.{IsStrictlyIncreasing-dedup}
use Rattle.kb_geometry.specs.declared.shape.Shape.{Shape}
use Rattle.kb_geometry.specs.declared.stone.Change.{Change}
use Rattle.kb_geometry.specs.Board.{point_count}
use Rattle.kb_geometry.specs.Capture.{Position}
use Rattle.capture_board.specs.Changes.{AreChangesOf, with_changes}
use Rattle.capture_board.specs.Deltas.{AreDeltas, Deltas, changes_of, node_count, parent_of, position_at, position_where}
use Rattle.capture_board.proofs.DeltaPaths.{position_at-step}
use Rattle.capture_board.proofs.MadeChanges.{length-with_changes, with_changes-append}
use Rattle.capture_board.proofs.NetChanges.{IsUnchangedOn, with_changes-unchanged}
use Rattle.corner_index.specs.Corners.{HasCorners, corner_number}
use Rattle.corner_index.specs.declared.numbers.CornerNumbers.{CornerNumbers}
use Rattle.corner_index.specs.Keys.{AreNumbersOf, AreNumbersOn, AreNumbersTo, StandBefore, StandsBefore, number_in, numbers_to, of_corner}
use Rattle.corner_index.proofs.CornerNumbers.{corner_number-empty}

-- ---- above a node
module _ (deltas : Deltas) (corner n : ℕ) where
  abbrev number_of_node : ℕ → ℕ
  number_of_node k = corner_number corner deltas.shape (position_at deltas k)

  pub length-numbers_to : (numbers : List ℕ) → numbers ≡ numbers_to deltas corner n → length numbers ≡ n
  length-numbers_to numbers e = ap length e ∙ length-map-range_with_len number_of_node 0 n

  pub above-some : (numbers : List ℕ) → numbers ≡ numbers_to deltas corner n → (m : ℕ) → m < n → Some m ≡ parent_of deltas n → get_or numbers m 0 ≡ corner_number corner deltas.shape (position_where deltas (parent_of deltas n))
  above-some numbers e m lt up =
      let here : 0 + m ≡ m = omega arith in
      ap (λ xs. get_or xs m 0) e ∙ get_or-map-range_with_len number_of_node 0 n m m 0 lt here
      ∙ ap (λ o. corner_number corner deltas.shape (position_where deltas o)) up

  pub above-none : None ≡ parent_of deltas n → 0 ≡ corner_number corner deltas.shape (position_where deltas (parent_of deltas n))
  above-none up =
      sym (corner_number-empty corner deltas.shape)
      ∙ ap (λ o. corner_number corner deltas.shape (position_where deltas o)) up

  pub numbers_to-more : (numbers more : List ℕ) (number : ℕ) → numbers ≡ numbers_to deltas corner n → more ≡ numbers ++ number ∷ [] → number ≡ corner_number corner deltas.shape (position_at deltas n) → more ≡ numbers_to deltas corner (n + 1)
  numbers_to-more numbers more number e pushed is =
      let here : 0 + n ≡ n = omega arith in
      pushed ∙ ap (λ xs. xs ++ number ∷ []) e ∙ ap (λ x. numbers_to deltas corner n ++ x ∷ []) is
      ∙ sym (map-range_with_len_more number_of_node 0 n n here)

-- ---- the changes of a node
module _ (before : Position) (cs : List Change) (changes : AreChangesOf before cs) (i : ℕ) (d : Change) (lt : i < length cs) where
  abbrev change : Change
  change = get_or cs i d

  -- no change before it is on its point
  untouched : IsUnchangedOn change.point (take i cs)
  untouched k e within same =
      let short : length (take i cs) ≡ i = length-take-le i cs (omega (arith, lt)) in
      let low : k < i = omega (arith, within, short) in
      let ascending : (get_or cs k d).point < (get_or cs i d).point = changes.ascending k i d low lt in
      let there : get_or (take i cs) k e ≡ get_or cs k d = get_or-take i cs k e low ∙ get_or_default cs k e d (omega (arith, low, lt)) in
      let point : (get_or (take i cs) k e).point ≡ (get_or cs k d).point = ap (λ (c : Change). c.point) there in
      omega (arith, ascending, point, same)

  module _ (corner : ℕ) (shape : Shape) (number : ℕ) (count : length before ≡ point_count shape) (is : number ≡ corner_number corner shape (with_changes before (take i cs))) where
    pub stands_before : StandsBefore corner shape number change (with_changes before (take i cs))
    stands_before = record {
      count = length-with_changes before (take i cs) ∙ count;
      old = changes.old i d lt ∙ sym (with_changes-unchanged before (take i cs) change.point untouched);
      is = is;
    }

    pub point_on_board : change.point < point_count shape
    point_on_board =
        let on : change.point < length before = changes.on_board i d lt in
        omega (arith, on, count)

    pub number-more : (next : ℕ) → next ≡ corner_number corner shape (set (with_changes before (take i cs)) change.point change.new) → next ≡ corner_number corner shape (with_changes before (take (i + 1) cs))
    number-more next made =
        made
        ∙ ap (corner_number corner shape) (sym (ap (with_changes before) (take_more cs i d lt) ∙ with_changes-append before (take i cs) (change ∷ [])))

-- the number at a node, when all its changes are made
pub number-end : (deltas : Deltas) → AreDeltas deltas → (n corner : ℕ) (shape : Shape) (number i : ℕ) (cs : List Change) → shape ≡ deltas.shape → cs ≡ changes_of deltas n → length cs ≤ i → number ≡ corner_number corner shape (with_changes (position_where deltas (parent_of deltas n)) (take i cs)) → number ≡ corner_number corner deltas.shape (position_at deltas n)
number-end deltas are n corner shape number i cs same is all made =
    made
    ∙ ap (λ (s : Shape). corner_number corner s (with_changes (position_where deltas (parent_of deltas n)) (take i cs))) same
    ∙ ap (λ (ds : List Change). corner_number corner deltas.shape (with_changes (position_where deltas (parent_of deltas n)) ds)) (take_all i cs all ∙ is)
    ∙ ap (corner_number corner deltas.shape) (sym (position_at-step deltas are n))

-- ---- all corners at once

-- what holds of each of the four numbers
pub each_of_four : (P : ℕ → ℕ → Type 0) (numbers : CornerNumbers) → P 0 numbers.upper_left → P 1 numbers.upper_right → P 2 numbers.lower_left → P 3 numbers.lower_right → (corner : ℕ) → corner < 4 → P corner (number_in corner numbers)
each_of_four P numbers a b c d zero lt = a
each_of_four P numbers a b c d (suc zero) lt = b
each_of_four P numbers a b c d (suc (suc zero)) lt = c
each_of_four P numbers a b c d (suc (suc (suc zero))) lt = d
each_of_four P numbers a b c d (suc (suc (suc (suc k)))) lt = absurd (omega arith)

pub one_stands : (shape : Shape) (numbers : CornerNumbers) (change : Change) (p : Position) → StandBefore shape numbers change p → (corner : ℕ) → corner < 4 → StandsBefore corner shape (number_in corner numbers) change p
one_stands shape numbers _ p stand corner lt = record { count = stand.count; old = stand.old; is = stand.are corner lt }

module _ (before : Position) (cs : List Change) (changes : AreChangesOf before cs) (i : ℕ) (d : Change) (lt : i < length cs) (shape : Shape) (numbers : CornerNumbers) (count : length before ≡ point_count shape) (are : AreNumbersOn shape (with_changes before (take i cs)) numbers) where
  pub stand_before : StandBefore shape numbers (get_or cs i d) (with_changes before (take i cs))
  stand_before =
      let one = stands_before before cs changes i d lt 0 shape (number_in 0 numbers) count (are 0 (omega arith)) in
      record { count = one.count; old = one.old; are = are }

  pub next_on_board : (get_or cs i d).point < point_count shape
  next_on_board = point_on_board before cs changes i d lt 0 shape (number_in 0 numbers) count (are 0 (omega arith))

  pub numbers-more : (next : CornerNumbers) → ((p : Position) → StandBefore shape numbers (get_or cs i d) p → AreNumbersOn shape (set p (get_or cs i d).point (get_or cs i d).new) next) → AreNumbersOn shape (with_changes before (take (i + 1) cs)) next
  numbers-more next made corner few =
      number-more before cs changes i d lt corner shape (number_in corner numbers) count (are corner few) (number_in corner next) (made (with_changes before (take i cs)) stand_before corner few)

-- the numbers of one corner, with those of one node more
pub of_corner-pushed : (corner : ℕ) (nodes more : List CornerNumbers) (numbers : CornerNumbers) → more ≡ nodes ++ numbers ∷ [] → of_corner corner more ≡ of_corner corner nodes ++ number_in corner numbers ∷ []
of_corner-pushed corner nodes more numbers e = ap (map (number_in corner)) e ∙ map-append (number_in corner) nodes (numbers ∷ [])

pub of_corner-more : (corner : ℕ) (nodes : List CornerNumbers) (i : ℕ) (d : CornerNumbers) → i < length nodes → of_corner corner (take (i + 1) nodes) ≡ of_corner corner (take i nodes) ++ number_in corner (get_or nodes i d) ∷ []
of_corner-more corner nodes i d lt = of_corner-pushed corner (take i nodes) (take (i + 1) nodes) (get_or nodes i d) (take_more nodes i d lt)

-- the number of a corner at a node
pub of_corner-at : (corner : ℕ) (nodes : List CornerNumbers) (i : ℕ) (d : CornerNumbers) → i < length nodes → get_or (of_corner corner nodes) i 0 ≡ number_in corner (get_or nodes i d)
of_corner-at corner nodes i d lt = get_or-map (number_in corner) nodes i d 0 lt

pub length-nodes : (deltas : Deltas) (n : ℕ) (nodes : List CornerNumbers) → AreNumbersTo deltas n nodes → length nodes ≡ n
length-nodes deltas n nodes are = sym (length-map nodes (number_in 0)) ∙ length-numbers_to deltas 0 n (of_corner 0 nodes) (are 0 (omega arith))

-- ---- all numbers, ascending
module _ (deltas : Deltas) (corner : ℕ) where
  abbrev number_of_node_in : ℕ → ℕ
  number_of_node_in k = corner_number corner deltas.shape (position_at deltas k)

  pub AreNumbersOf-none : (HasCorners deltas.shape → ⊥) → AreNumbersOf deltas corner []
  AreNumbersOf-none off = record {
    ascending = λ k lt. absurd (omega arith);
    exact = λ key. (λ h. absurd (omega (arith, h.1)), λ h. absurd (off h.0));
    most = omega arith;
  }

  module _ (numbers changing sorted kept : List ℕ) (are : numbers ≡ numbers_to deltas corner (node_count deltas)) (has : HasCorners deltas.shape) (most : node_count deltas ≤ 65536) (thinned : IsFiltered (DiffersFromLast eqb) [] numbers changing) (fewer : length changing ≤ length numbers) (moved : IsPermutation changing sorted) (rises : IsSorted nat_cmp sorted) (filtered : IsFiltered (DiffersFromLast eqb) [] sorted kept) (less : length kept ≤ length sorted) where
    is_dedup : kept ≡ dedup eqb sorted
    is_dedup = dedup_is eqb sorted kept filtered

    is_thinned : changing ≡ dedup eqb numbers
    is_thinned = dedup_is eqb numbers changing thinned

    thinned_from : (key : ℕ) → Contains changing key → Contains numbers key
    thinned_from key h = Contains-from_dedup eqb numbers key (subst (λ xs. Contains xs key) is_thinned h)

    thinned_to : (key : ℕ) → Contains numbers key → Contains changing key
    thinned_to key h = subst (λ xs. Contains xs key) (sym is_thinned) (Contains-dedup_nat numbers key h)

    abbrev HadAt : ℕ → Type 0
    HadAt key = (n : ℕ) × (n < node_count deltas) × (number_of_node_in n ≡ key)

    listed : (key : ℕ) → Contains numbers key → HadAt key
    listed key h =
        let within : h.0 < node_count deltas = omega (arith, h.1, length-numbers_to deltas corner (node_count deltas) numbers are) in
        let here : 0 + h.0 ≡ h.0 = omega arith in
        (h.0, within, sym (get_or-map-range_with_len number_of_node_in 0 (node_count deltas) h.0 h.0 key within here) ∙ ap (λ xs. get_or xs h.0 key) (sym are) ∙ h.2)

    unlisted : (key : ℕ) → HadAt key → Contains numbers key
    unlisted key h =
        let here : 0 + h.0 ≡ h.0 = omega arith in
        let within : h.0 < length numbers = omega (arith, h.1, length-numbers_to deltas corner (node_count deltas) numbers are) in
        (h.0, within, ap (λ xs. get_or xs h.0 key) are ∙ get_or-map-range_with_len number_of_node_in 0 (node_count deltas) h.0 h.0 key h.1 here ∙ h.2)

    pub AreNumbersOf-sorted : AreNumbersOf deltas corner kept
    AreNumbersOf-sorted = record {
      ascending = subst IsStrictlyIncreasing (sym is_dedup) (IsStrictlyIncreasing-dedup sorted rises);
      exact = λ key. (
        λ h. (has, listed key (thinned_from key (Contains-permutation sorted changing key (IsPermutation-sym changing sorted moved) (Contains-from_dedup eqb sorted key (subst (λ xs. Contains xs key) is_dedup h))))),
        λ h. subst (λ xs. Contains xs key) (sym is_dedup) (Contains-dedup_nat sorted key (Contains-permutation changing sorted key moved (thinned_to key (unlisted key h.1)))),
      );
      most = omega (arith, most, less, fewer, length_permutation changing sorted moved, length-numbers_to deltas corner (node_count deltas) numbers are);
    }
