-- Lists of statements and of searches, in order of their lines.
use Rattle.std.proofs.Common.{◌≡◌, inl, inr, zero, ℕ, suc, ◌<◌, ◌≤◌, List, [], ◌∷◌, ◌++◌, length, get_or, map, ap, ◌∙◌, arith}
use Rattle.std.proofs.lemmas.Bool.{cases_order}
use Rattle.std.proofs.lemmas.List.{get_or-map, get_or_default, length-map}
use Rattle.std.proofs.lemmas.List.Elements.{All-weaker}
use Rattle.std.proofs.lemmas.List.Quantifiers.{all_pairs_push}
use Rattle.std.specs.List.{All, AllPairs, Any}
use Rattle.query_script.specs.Progress.{IsPlacedBefore, IsSearchBefore}
use Rattle.query_script.specs.declared.statement.Placed.{Placed}
use Rattle.query_script.specs.declared.statement.PlacedSearch.{PlacedSearch}

-- a list that isn't empty has an element
pub one_of : {A : Type 0} (P : A → Type 0) (xs : List A) → 1 ≤ length xs → All P xs → (x : A) × P x
one_of P [] some all = absurd (omega arith)
one_of P (x ∷ xs) some all = (x, all 0 x (omega arith))

-- what stands before line j stands before a later line
pub placed_before : {lines : List (List ℕ)} (j k : ℕ) (placed : List Placed) → j ≤ k → All (IsPlacedBefore lines j) placed → All (IsPlacedBefore lines k) placed
placed_before {lines} j k placed below all =
    All-weaker (IsPlacedBefore lines j) (IsPlacedBefore lines k) (λ p at. record { before = omega (arith, at.before); placed = at.placed }) placed all

pub searches_before : {lines : List (List ℕ)} (i j k : ℕ) (searches : List PlacedSearch) → j ≤ k → All (IsSearchBefore lines i j) searches → All (IsSearchBefore lines i k) searches
searches_before {lines} i j k searches below all =
    All-weaker (IsSearchBefore lines i j) (IsSearchBefore lines i k) (λ s at. record { before = omega (arith, at.before); search = at.search }) searches all

-- a statement behind those so far keeps their order
pub placed_in_order : {lines : List (List ℕ)} (p : Placed) (placed : List Placed) → AllPairs (λ (a : Placed) (b : Placed). a.line < b.line) placed → All (IsPlacedBefore lines p.line) placed → AllPairs (λ (a : Placed) (b : Placed). a.line < b.line) (placed ++ p ∷ [])
placed_in_order p placed ordered all = all_pairs_push (λ (a : Placed) (b : Placed). a.line < b.line) placed p ordered (λ i d within. (all i d within).before)

-- and so does a search
pub searches_in_order : {lines : List (List ℕ)} {j : ℕ} (s : PlacedSearch) (searches : List PlacedSearch) → AllPairs (λ (a : PlacedSearch) (b : PlacedSearch). a.line < b.line) searches → All (IsSearchBefore lines j s.line) searches → AllPairs (λ (a : PlacedSearch) (b : PlacedSearch). a.line < b.line) (searches ++ s ∷ [])
searches_in_order s searches ordered all = all_pairs_push (λ (a : PlacedSearch) (b : PlacedSearch). a.line < b.line) searches s ordered (λ i d within. (all i d within).before)

-- of two searches in order, the one of the lesser line stands first
place_before : (searches : List PlacedSearch) → AllPairs (λ (a : PlacedSearch) (b : PlacedSearch). a.line < b.line) searches → (a b : ℕ) (x d : PlacedSearch) → a < length searches → b < length searches → (get_or searches a x).line < (get_or searches b d).line → a < b
place_before searches ordered a b x d a_within b_within less =
    let same = ap (λ (s : PlacedSearch). s.line) (get_or_default searches a x d a_within) in
    elim (cases_order a b) [
      | inl one ↦ absurd (omega (arith, same, less, ap (λ n. (get_or searches n d).line) one))
      | inr (inl before) ↦ before
      | inr (inr after) ↦ absurd (omega (arith, same, less, ordered b a d after a_within))
    ]

-- where ascending numbers are lines of searches in order, each stands at least as far behind among these
place_of : (numbers : List ℕ) (searches : List PlacedSearch) → AllPairs ◌<◌ numbers → AllPairs (λ (a : PlacedSearch) (b : PlacedSearch). a.line < b.line) searches →
    ((i : ℕ) → i < length numbers → Any (λ (s : PlacedSearch). s.line ≡ get_or numbers i 0) searches) →
    (i : ℕ) → i < length numbers → (k : ℕ) (d : PlacedSearch) → k < length searches → (get_or searches k d).line ≡ get_or numbers i 0 → i ≤ k
place_of numbers searches ascend ordered all zero below k d within is = omega arith
place_of numbers searches ascend ordered all (suc i) below k d within is =
    let before = all i (omega arith) in
    let line_is : (get_or searches before.0 before.1).line ≡ get_or numbers i 0 = ap (λ (s : PlacedSearch). s.line) before.3 ∙ before.4 in
    let far : i ≤ before.0 = place_of numbers searches ascend ordered all i (omega arith) before.0 before.1 before.2 line_is in
    let rises = ascend i (suc i) 0 (omega arith) below in
    let less : before.0 < k = place_before searches ordered before.0 k before.1 d before.2 within (omega arith) in
    omega arith

-- so there are no more of them than searches
pub as_many : (numbers : List ℕ) (searches : List PlacedSearch) → AllPairs ◌<◌ numbers → AllPairs (λ (a : PlacedSearch) (b : PlacedSearch). a.line < b.line) searches →
    ((i : ℕ) → i < length numbers → Any (λ (s : PlacedSearch). s.line ≡ get_or numbers i 0) searches) → length numbers ≤ length searches
as_many [] searches ascend ordered all = omega arith
as_many (n ∷ numbers) searches ascend ordered all =
    let last = all (length numbers) (omega arith) in
    let far : length numbers ≤ last.0 = place_of (n ∷ numbers) searches ascend ordered all (length numbers) (omega arith) last.0 last.1 last.2 (ap (λ (s : PlacedSearch). s.line) last.3 ∙ last.4) in
    omega (arith, last.2)

-- the lines of searches in order ascend
pub lines_ascend : (searches : List PlacedSearch) → AllPairs (λ (a : PlacedSearch) (b : PlacedSearch). a.line < b.line) searches → AllPairs ◌<◌ (map (λ (s : PlacedSearch). s.line) searches)
lines_ascend [] ordered i j d less within = absurd (omega arith)
lines_ascend (s ∷ rest) ordered i j d less within =
    let below : j < length (s ∷ rest) = omega (arith, length-map (s ∷ rest) (λ (s : PlacedSearch). s.line), within) in
    let first = get_or-map (λ (s : PlacedSearch). s.line) (s ∷ rest) i s d (omega arith) in
    let second = get_or-map (λ (s : PlacedSearch). s.line) (s ∷ rest) j s d below in
    omega (arith, first, second, ordered i j s less below)
