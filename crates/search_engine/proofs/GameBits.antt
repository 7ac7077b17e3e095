-- Words with a bit for each game of a block.
use Rattle.std.proofs.Common.{◌≡◌, ◌≢◌, inl, inr, ℕ, ◌+◌, ◌*◌, ◌-◌, ◌/◌, ◌^◌, ◌%◌, ◌<◌, ◌≤◌, ◌↔◌, List, Some, bit_or, length, refl, sym, ap, ◌∙◌, subst, arith}
use Rattle.std.specs.Int.{bit_at, trailing_zeros, w64}
use Rattle.std.specs.List.{slice_get}
use Rattle.std.proofs.lemmas.Bool.{cases_eq, cases_lt}
use Rattle.std.proofs.lemmas.Nat.{shr-shr, shr_le}
use Rattle.std.proofs.lemmas.Nat.Bits.{bit_at-trailing_zeros, bit_at-zero, bit_at_above, bit_at_ones, bit_at_set_other, bit_at_set_same}
use Rattle.std.proofs.lemmas.Option.{get_or_from_slice_get, slice_get_within}
use Rattle.node_position.specs.Games.{Game}
use Rattle.info_filter.specs.declared.condition.Condition.{Condition}
use Rattle.info_filter.specs.declared.filter.Filter.{Filter}
use Rattle.info_filter.specs.Filter.{Accepts}
use Rattle.search_engine.specs.BlockCandidates.{AreAccepted, IsNextBit, IsWithBit}

pub IsWithBit-set : (word at : ℕ) (set : Type 0) → set → at < 64 → IsWithBit word at set (bit_or word (1 * 2 ^ at % 2 ^ 64))
IsWithBit-set word at set s lt = record {
  here = (λ _. inl s, λ _. bit_at_set_same w64 word at lt);
  others = λ j ne. bit_at_set_other w64 word at lt j ne;
}

pub IsWithBit-same : (word at : ℕ) (set : Type 0) → ¬ set → IsWithBit word at set word
IsWithBit-same word at set not = record {
  here = (λ e. inr e, λ h. elim h [ inl s ↦ absurd (not s) | inr e ↦ e ]);
  others = λ j ne. refl;
}

pub bit_at-shr : (n s i : ℕ) → bit_at (n / 2 ^ s) i ≡ bit_at n (s + i)
bit_at-shr n s i = ap (λ (m : ℕ). m % 2) (shr-shr n s i)

-- ---- the bits of a word, one after another

module _ (word from : ℕ) (fits : word < 2 ^ 64) where
  pub next_bit-found : 0 < word / 2 ^ from → IsNextBit word from (from + trailing_zeros w64 (word / 2 ^ from))
  next_bit-found some =
      let t = trailing_zeros w64 (word / 2 ^ from) in
      let lowest = bit_at-trailing_zeros w64 (word / 2 ^ from) some (omega (arith, shr_le word from, fits)) in
      let set : bit_at word (from + t) ≡ 1 = sym (bit_at-shr word from t) ∙ lowest.1 in
      record {
        below = elim (cases_lt (from + t) 64) [
          | inl lt ↦ lt
          | inr ge ↦ absurd (omega (arith, set, bit_at_above word 64 (from + t) fits ge))
        ];
        from_on = omega arith;
        set = set;
        first = λ g ge lt.
            let at : from + (g - from) ≡ g = omega (arith, ge) in
            ap (λ (j : ℕ). bit_at word j) (sym at) ∙ sym (bit_at-shr word from (g - from)) ∙ lowest.2 (g - from) (omega (arith, ge, lt));
      }

  pub next_bit-none : word / 2 ^ from ≡ 0 → (g : ℕ) → from ≤ g → bit_at word g ≡ 0
  next_bit-none none g ge =
      let at : from + (g - from) ≡ g = omega (arith, ge) in
      ap (λ (j : ℕ). bit_at word j) (sym at) ∙ sym (bit_at-shr word from (g - from)) ∙ ap (λ (m : ℕ). bit_at m (g - from)) none ∙ bit_at-zero (g - from)

-- ---- which games a filter accepts

-- the bits of the first so many games behind some tell whether the filter accepts them, and no later bit is set
pub record AreAcceptedTo (filter : Filter) (skip : ℕ) (games : List Game) (k word : ℕ) : Type 0 where
  pub told : (g : ℕ) (game : Game) → skip ≤ g → g < k → slice_get games g ≡ Some game → (bit_at word g ≡ 1) ↔ Accepts filter game.tree.info
  pub none : (g : ℕ) → k ≤ g → bit_at word g ≢ 1

module _ (filter : Filter) (skip : ℕ) (games : List Game) where
  pub AreAcceptedTo-start : AreAcceptedTo filter skip games skip 0
  AreAcceptedTo-start = record { told = λ g game low lt at. absurd (omega (arith, low, lt)); none = λ g le e. absurd (omega (arith, bit_at-zero g, e)) }

  pub AreAcceptedTo-more : (k word new : ℕ) (game : Game) (set : Type 0) → slice_get games k ≡ Some game → set ↔ Accepts filter game.tree.info → AreAcceptedTo filter skip games k word → IsWithBit word k set new → AreAcceptedTo filter skip games (k + 1) new
  AreAcceptedTo-more k word new game set at is so_far with_bit = record {
    told = λ g other low lt there. elim (cases_eq g k) [
      | inr ne ↦ (λ e. (so_far.told g other low (omega (arith, lt, ne)) there).0 (sym (with_bit.others g ne) ∙ e), λ a. with_bit.others g ne ∙ (so_far.told g other low (omega (arith, lt, ne)) there).1 a)
      | inl same ↦
          let one : slice_get games k ≡ Some other = subst (λ n. slice_get games n ≡ Some other) same there in
          let equal : game ≡ other = sym (get_or_from_slice_get games k game game at) ∙ get_or_from_slice_get games k other game one in
          subst (λ n. (bit_at new n ≡ 1) ↔ Accepts filter other.tree.info) (sym same)
          (subst (λ (h : Game). (bit_at new k ≡ 1) ↔ Accepts filter h.tree.info) equal (
            λ e. elim (with_bit.here.0 e) [ inl s ↦ is.0 s | inr old ↦ absurd (so_far.none k (omega arith) old) ],
            λ a. with_bit.here.1 (inl (is.1 a)),
          ))
    ];
    none = λ g le e. so_far.none g (omega (arith, le)) (sym (with_bit.others g (λ same. absurd (omega (arith, le, same)))) ∙ e);
  }

  pub AreAcceptedTo-all : (k word : ℕ) → length games ≤ k → AreAcceptedTo filter skip games k word → AreAccepted filter skip games word
  AreAcceptedTo-all k word le so_far g game low lt at = so_far.told g game low (omega (arith, le, slice_get_within games g game at)) at

  -- without a condition all are accepted
  pub AreAccepted-without : (conditions : List Condition) → conditions ≡ filter.conditions → length conditions ≡ 0 → AreAccepted filter skip games (2 ^ 64 - 1)
  AreAccepted-without conditions are none g game low lt at =
      (λ _ k d within. absurd (omega (arith, within, none, ap length are)), λ _. bit_at_ones 64 g lt)
