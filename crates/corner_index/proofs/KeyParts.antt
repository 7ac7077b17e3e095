-- The keys of the corners in one list, one corner behind the other.
use Rattle.std.proofs.Common.{◌≡◌, ℕ, ◌+◌, ◌<◌, ◌≤◌, ◌↔◌, List, [], ◌++◌, length, set, drop, refl, sym, ◌∙◌, ap, subst, arith, inl, inr, add-one}
use Rattle.std.specs.Prelude.{Contains}
use Rattle.std.specs.List.{between}
use Rattle.std.specs.List.Sorted.{IsStrictlyIncreasing}
use Rattle.std.proofs.lemmas.Bool.{cases_lt}
use Rattle.std.proofs.lemmas.List.{get_or-set_other, get_or-set_same, length-append, length-set, take-append-le}
use Rattle.std.proofs.lemmas.Slice.{between_is, between_to_end}
use Rattle.std.proofs.Math.Seq.{drop-append_seam}
use Rattle.node_paths.specs.StoredNodes.{part_start}
use Rattle.node_paths.proofs.StoredNodes.{part_start-same}
use Rattle.capture_board.specs.Deltas.{Deltas}
use Rattle.corner_index.specs.Corners.{HadNumber, keys_of}
use Rattle.corner_index.specs.Keys.{AreKeysTo, AreNumbersOf, end_of, keys_in, shown_keys}
use Rattle.corner_index.proofs.ToldKeys.{keys_told}

pub AreKeysTo-start : (deltas : Deltas) (ends : List ℕ) → length ends ≡ 4 → AreKeysTo deltas 0 ends []
AreKeysTo-start deltas ends four = record {
  parts = record {
    four = four;
    start = λ corner lt. absurd (omega (arith, lt));
    end = λ corner lt. absurd (omega (arith, lt));
    ascending = λ corner lt. absurd (omega (arith, lt));
  };
  exact = λ corner lt. absurd (omega (arith, lt));
  whole = refl;
  most = omega arith;
}

-- ---- the keys of one corner more
module _ (deltas : Deltas) (n : ℕ) (ends keys numbers : List ℕ) (below : n < 4) (are : AreKeysTo deltas n ends keys) (more : AreNumbersOf deltas n numbers) (end : ℕ) (there : end ≡ length keys + length numbers) where
  abbrev next_ends : List ℕ
  next_ends = set ends n end

  abbrev next_keys : List ℕ
  next_keys = keys ++ numbers

  end_kept : (k : ℕ) → k < n → end_of next_ends k ≡ end_of ends k
  end_kept k lt = get_or-set_other ends n k end 0 (λ e. omega (arith, lt, e))

  end_here : end_of next_ends n ≡ end
  end_here = get_or-set_same ends n end 0 (omega (arith, below, are.parts.four))

  start_kept : (k : ℕ) → k ≤ n → part_start (end_of next_ends) k ≡ part_start (end_of ends) k
  start_kept k le = part_start-same (end_of next_ends) (end_of ends) k (λ j lt. end_kept j (omega (arith, lt, le)))

  keys_kept : (k : ℕ) → k < n → keys_in next_ends next_keys k ≡ keys_in ends keys k
  keys_kept k lt =
      ap (λ a. between a (end_of next_ends k) next_keys) (start_kept k (omega (arith, lt)))
      ∙ ap (λ b. between (part_start (end_of ends) k) b next_keys) (end_kept k lt)
      ∙ between_is next_keys (part_start (end_of ends) k) (end_of ends k)
      ∙ ap (drop (part_start (end_of ends) k)) (take-append-le (end_of ends k) keys numbers (are.parts.end k lt))
      ∙ sym (between_is keys (part_start (end_of ends) k) (end_of ends k))

  whole_length : length next_keys ≡ length keys + length numbers
  whole_length = length-append keys numbers

  keys_here : keys_in next_ends next_keys n ≡ numbers
  keys_here =
      let first : n ≤ n = omega arith in
      ap (λ a. between a (end_of next_ends n) next_keys) (start_kept n first ∙ are.whole)
      ∙ ap (λ b. between (length keys) b next_keys) end_here
      ∙ between_to_end next_keys (length keys) end (omega (arith, there, whole_length))
      ∙ drop-append_seam keys numbers

  -- what holds of the keys of each corner
  each_more : (P : ℕ → List ℕ → Type 0) → ((k : ℕ) → k < n → P k (keys_in ends keys k)) → P n numbers → (k : ℕ) → k < n + 1 → P k (keys_in next_ends next_keys k)
  each_more P before here k lt =
      elim (cases_lt k n) [
        | inl earlier ↦ subst (P k) (sym (keys_kept k earlier)) (before k earlier)
        | inr last ↦
            let is : n ≡ k = omega (arith, lt, last) in
            subst (λ j. P j (keys_in next_ends next_keys j)) is (subst (P n) (sym keys_here) here)
      ]

  start_more : (k : ℕ) → k < n + 1 → part_start (end_of next_ends) k ≤ end_of next_ends k
  start_more k lt =
      elim (cases_lt k n) [
        | inl earlier ↦
            let start = start_kept k (omega (arith, earlier)) in
            let last = end_kept k earlier in
            let was = are.parts.start k earlier in
            omega (arith, start, last, was)
        | inr last ↦
            let is : n ≡ k = omega (arith, lt, last) in
            let first : n ≤ n = omega arith in
            let start = start_kept n first in
            let here : part_start (end_of next_ends) n ≤ end_of next_ends n = omega (arith, start, are.whole, end_here, there) in
            subst (λ j. part_start (end_of next_ends) j ≤ end_of next_ends j) is here
      ]

  end_more : (k : ℕ) → k < n + 1 → end_of next_ends k ≤ length next_keys
  end_more k lt =
      elim (cases_lt k n) [
        | inl earlier ↦
            let last = end_kept k earlier in
            let was = are.parts.end k earlier in
            omega (arith, last, was, whole_length)
        | inr last ↦
            let is : n ≡ k = omega (arith, lt, last) in
            let here : end_of next_ends n ≤ length next_keys = omega (arith, end_here, there, whole_length) in
            subst (λ j. end_of next_ends j ≤ length next_keys) is here
      ]

  pub AreKeysTo-more : AreKeysTo deltas (n + 1) next_ends next_keys
  AreKeysTo-more = record {
    parts = record {
      four = length-set ends n end ∙ are.parts.four;
      start = start_more;
      end = end_more;
      ascending = each_more (λ k keys. IsStrictlyIncreasing keys) are.parts.ascending more.ascending;
    };
    exact = each_more (λ k keys. (key : ℕ) → Contains keys key ↔ HadNumber deltas k key) are.exact more.exact;
    whole = ap (part_start (end_of next_ends)) (add-one n) ∙ end_here ∙ there ∙ sym whole_length;
    most = omega (arith, are.most, more.most, whole_length);
  }

  pub end_fits : length next_keys ≤ 262144
  end_fits = omega (arith, are.most, more.most, whole_length, below)

-- the list and its ends as they are at hand
pub AreKeysTo-grown : (deltas : Deltas) (n : ℕ) (ends keys numbers : List ℕ) → n < 4 → AreKeysTo deltas n ends keys → AreNumbersOf deltas n numbers → (at end : ℕ) (next : List ℕ) → at ≡ n → next ≡ keys ++ numbers → end ≡ length next → AreKeysTo deltas (n + 1) (set ends at end) next
AreKeysTo-grown deltas n ends keys numbers below are more at end next is grown there =
    subst (λ (ks : List ℕ). AreKeysTo deltas (n + 1) (set ends at end) ks) (sym grown)
    (subst (λ i. AreKeysTo deltas (n + 1) (set ends i end) (keys ++ numbers)) (sym is)
    (AreKeysTo-more deltas n ends keys numbers below are more end (there ∙ ap length grown ∙ length-append keys numbers)))

-- when all corners are there
pub AreKeysTo-told : (deltas : Deltas) (ends keys items : List ℕ) → AreKeysTo deltas 4 ends keys → items ≡ keys → (corner : ℕ) → corner < 4 → (key : ℕ) → Contains (keys_of (shown_keys ends items) corner) key ↔ HadNumber deltas corner key
AreKeysTo-told deltas ends keys items are same corner lt key =
    subst (λ (xs : List ℕ). Contains xs key ↔ HadNumber deltas corner key)
    (sym (ap (λ (ks : List ℕ). keys_of (shown_keys ends ks) corner) same ∙ keys_told ends keys corner are.parts.four lt))
    (are.exact corner lt key)
