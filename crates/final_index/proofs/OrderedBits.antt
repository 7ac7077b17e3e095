-- The bits of games in the words of order.
use Rattle.std.proofs.Common.{◌≡◌, ℕ, ◌+◌, ◌*◌, ◌%◌, ◌^◌, ◌<◌, ◌⊎◌, Bool, true, false, List, length, set, slice_index, refl, sym, ◌∙◌, ap, subst, arith, inl, inr, bit_or}
use Rattle.std.specs.Int.{bit_at, from_bool}
use Rattle.std.specs.Prelude.{IsTrue}
use Rattle.std.proofs.lemmas.Bool.{cases_eq, false≢true}
use Rattle.std.proofs.lemmas.List.{get_or-set_same, get_or-set_other, length-set}
use Rattle.std.proofs.lemmas.Nat.Bits.{bit_at-lt, bit_at-zero, bit_at_or}
use Rattle.kb_geometry.specs.declared.shape.Shape.{Shape}
use Rattle.kb_geometry.specs.Board.{point_count}
use Rattle.capture_board.specs.Deltas.{Deltas}
use Rattle.final_index.specs.declared.order_planes.Side.{Side}
use Rattle.final_index.specs.declared.order_planes.Side.TheVariants as side
use Rattle.final_index.specs.declared.spans.Spans.{Spans}
use Rattle.final_index.specs.Order.{AreJoined, HasGameMore, HasOrderOf, IsBeside, KeepsBits, MayHaveStood, OrderGames, StoodWhileEmpty, side_start}
use Rattle.final_index.specs.OrderWords.{AreOrderWords, IsAhead, IsBehindOf, IsGivenAt, IsOrdered}
use Rattle.final_index.specs.PlaneWords.{HaveGained}
use Rattle.final_index.specs.Spans.{AreSpansOf, below_at, from_at}
use Rattle.final_index.proofs.NotedBits.{HaveGained-more}

-- ---- words that gain bits

pub HaveGained-start : (P : ℕ → Type 0) → ((k : ℕ) → ¬ P k) → (g : ℕ) (words : List ℕ) → HaveGained P g words words
HaveGained-start P none g words = record {
  room = refl;
  bits = λ k i. (λ e. inl e, λ h. elim h [ inl was ↦ was | inr now ↦ absurd (none k now.1) ]);
}

-- the same places in other words
pub HaveGained-as : (P Q : ℕ → Type 0) (g : ℕ) (a b : List ℕ) → ((k : ℕ) → P k → Q k) → ((k : ℕ) → Q k → P k) → HaveGained P g a b → HaveGained Q g a b
HaveGained-as P Q g a b to from have = record {
  room = have.room;
  bits = λ k i. (
    λ e. elim ((have.bits k i).0 e) [ inl was ↦ inl was | inr now ↦ inr (now.0, to k now.1) ],
    λ h. (have.bits k i).1 (elim h [ inl was ↦ inl was | inr now ↦ inr (now.0, from k now.1) ]),
  );
}

-- one after the other
pub HaveGained-then : (P Q : ℕ → Type 0) (g : ℕ) (a b c : List ℕ) → HaveGained P g a b → HaveGained Q g b c → HaveGained (λ k. P k ⊎ Q k) g a c
HaveGained-then P Q g a b c first second = record {
  room = second.room ∙ first.room;
  bits = λ k i. (
    λ e. elim ((second.bits k i).0 e) [
      | inl was ↦ elim ((first.bits k i).0 was) [ inl old ↦ inl old | inr now ↦ inr (now.0, inl now.1) ]
      | inr now ↦ inr (now.0, inr now.1)
    ],
    λ h. elim h [
      | inl old ↦ (second.bits k i).1 (inl ((first.bits k i).1 (inl old)))
      | inr (at, which) ↦ elim which [
        | inl now ↦ (second.bits k i).1 (inl ((first.bits k i).1 (inr (at, now))))
        | inr now ↦ (second.bits k i).1 (inr (at, now))
      ]
    ],
  );
}

-- a word to which nothing is added
same-word : (words : List ℕ) (at : ℕ) → at < length words → (word : ℕ) → ((i : ℕ) → bit_at word i ≡ bit_at (slice_index words at) i) → (k i : ℕ) → bit_at (slice_index (set words at word) k) i ≡ bit_at (slice_index words k) i
same-word words at within word same k i = elim (cases_eq k at) [
  | inl here ↦
      ap (λ (j : ℕ). bit_at (slice_index (set words at word) j) i) here ∙ ap (λ (w : ℕ). bit_at w i) (get_or-set_same words at word 0 within) ∙ same i ∙ ap (λ (j : ℕ). bit_at (slice_index words j) i) (sym here)
  | inr other ↦ ap (λ (w : ℕ). bit_at w i) (get_or-set_other words at k word 0 other)
]

-- a bit that is set or not
module _ (words : List ℕ) (at g : ℕ) (within : at < length words) (narrow : g < 64) where
  pub gained-if : (is : Bool) (byte : ℕ) → byte ≡ from_bool is → HaveGained (IsGivenAt at is) g words (set words at (bit_or (slice_index words at) (byte * 2 ^ g % 2 ^ 64)))
  gained-if true byte one =
      let added = HaveGained-more (λ k. ⊥) (IsGivenAt at true) g words words (HaveGained-start (λ k. ⊥) (λ k none. none) g words) at within narrow (λ k none. absurd none) (record { word = refl; given = refl }) (λ k h. inr h.word) in
      subst (λ (b : ℕ). HaveGained (IsGivenAt at true) g words (set words at (bit_or (slice_index words at) (b * 2 ^ g % 2 ^ 64)))) (sym one) added
  gained-if false byte zero =
      let nothing : 0 * 2 ^ g ≡ 0 = omega arith in
      let none : byte * 2 ^ g % 2 ^ 64 ≡ 0 = ap (λ (b : ℕ). b * 2 ^ g % 2 ^ 64) zero ∙ ap (λ (b : ℕ). b % 2 ^ 64) nothing in
      let same : (i : ℕ) → bit_at (bit_or (slice_index words at) (byte * 2 ^ g % 2 ^ 64)) i ≡ bit_at (slice_index words at) i =
      λ i. ap (λ (b : ℕ). bit_at (bit_or (slice_index words at) b) i) none ∙ bit_at_or (slice_index words at) 0 i ∙ omega (arith, bit_at-zero i, bit_at-lt (slice_index words at) i) in
      record {
        room = length-set words at (bit_or (slice_index words at) (byte * 2 ^ g % 2 ^ 64));
        bits = λ k i. (
          λ e. inl (sym (same-word words at within (bit_or (slice_index words at) (byte * 2 ^ g % 2 ^ 64)) same k i) ∙ e),
          λ h. elim h [
            | inl was ↦ same-word words at within (bit_or (slice_index words at) (byte * 2 ^ g % 2 ^ 64)) same k i ∙ was
            | inr now ↦ absurd (false≢true now.1.given)
          ],
        );
      }

-- ---- the words of one side

module _ (spans : Spans) (start step g : ℕ) (old : List ℕ) where
  none-ahead : (k : ℕ) → ¬ IsAhead spans start step 0 k
  none-ahead k is = absurd (omega (arith, is.in_range))

  pub ahead-start : HaveGained (IsAhead spans start step 0) g old old
  ahead-start = HaveGained-start (IsAhead spans start step 0) none-ahead g old

  none-behind : (k : ℕ) → ¬ IsBehindOf spans start step 0 k
  none-behind k is = absurd (omega (arith, is.in_range))

  pub behind-start : HaveGained (IsBehindOf spans start step 0) g old old
  behind-start = HaveGained-start (IsBehindOf spans start step 0) none-behind g old

  module _ (p : ℕ) (mid new : List ℕ) where
    pub ahead-more : HaveGained (IsAhead spans start step p) g old mid → (is : Bool) → (IsTrue is → from_at spans p < below_at spans (p + step)) → (from_at spans p < below_at spans (p + step) → IsTrue is) →
        HaveGained (IsGivenAt (start + p) is) g mid new → HaveGained (IsAhead spans start step (p + 1)) g old new
    ahead-more so_far is to from added = HaveGained-as (λ k. IsAhead spans start step p k ⊎ IsGivenAt (start + p) is k) (IsAhead spans start step (p + 1)) g old new
        (λ k h. elim h [
          | inl was ↦ record { p = was.p; in_range = omega (arith, was.in_range); word = was.word; before = was.before }
          | inr this ↦ record { p = p; in_range = omega arith; word = this.word; before = to this.given }
        ])
        (λ k has. elim (cases_eq has.p p) [
          | inl here ↦ inr (record { word = has.word ∙ ap (λ (q : ℕ). start + q) here; given = from (subst (λ (q : ℕ). from_at spans q < below_at spans (q + step)) here has.before) })
          | inr other ↦ inl (record { p = has.p; in_range = omega (arith, has.in_range, other); word = has.word; before = has.before })
        ])
        (HaveGained-then (IsAhead spans start step p) (IsGivenAt (start + p) is) g old mid new so_far added)

    pub behind-more : HaveGained (IsBehindOf spans start step p) g old mid → (is : Bool) → (IsTrue is → from_at spans (p + step) < below_at spans p) → (from_at spans (p + step) < below_at spans p → IsTrue is) →
        HaveGained (IsGivenAt (start + (p + step)) is) g mid new → HaveGained (IsBehindOf spans start step (p + 1)) g old new
    behind-more so_far is to from added = HaveGained-as (λ k. IsBehindOf spans start step p k ⊎ IsGivenAt (start + (p + step)) is k) (IsBehindOf spans start step (p + 1)) g old new
        (λ k h. elim h [
          | inl was ↦ record { p = was.p; in_range = omega (arith, was.in_range); word = was.word; before = was.before }
          | inr this ↦ record { p = p; in_range = omega arith; word = this.word; before = to this.given }
        ])
        (λ k has. elim (cases_eq has.p p) [
          | inl here ↦ inr (record { word = has.word ∙ ap (λ (q : ℕ). start + (q + step)) here; given = from (subst (λ (q : ℕ). from_at spans (q + step) < below_at spans q) here has.before) })
          | inr other ↦ inl (record { p = has.p; in_range = omega (arith, has.in_range, other); word = has.word; before = has.before })
        ])
        (HaveGained-then (IsBehindOf spans start step p) (IsGivenAt (start + (p + step)) is) g old mid new so_far added)

-- ---- all sides

pub four-sides : (A B C D : ℕ → Type 0) (g : ℕ) (a b c d e : List ℕ) → HaveGained A g a b → HaveGained B g b c → HaveGained C g c d → HaveGained D g d e → HaveGained (λ k. (A k ⊎ B k) ⊎ (C k ⊎ D k)) g a e
four-sides A B C D g a b c d e one two three four =
    HaveGained-then (λ k. A k ⊎ B k) (λ k. C k ⊎ D k) g a c e (HaveGained-then A B g a b c one two) (HaveGained-then C D g c d e three four)

-- a game that had a stone on a point while another was empty
module _ (deltas : Deltas) (spans : Spans) (are : AreSpansOf deltas spans) where
  pub stood-before : (p q : ℕ) → p < point_count deltas.shape → q < point_count deltas.shape → StoodWhileEmpty deltas p q → from_at spans p < below_at spans q
  stood-before p q in_p in_q (n, lt, stone, empty) = omega (arith, are.stones p n in_p lt stone, are.empties q n in_q lt empty)

  module _ (shape : Shape) (same : deltas.shape ≡ shape) (p q : ℕ) (in_p : p < point_count shape) (in_q : q < point_count shape) (stood : StoodWhileEmpty deltas p q) where
    before : from_at spans p < below_at spans q
    before = stood-before p q (subst (λ (s : Shape). p < point_count s) (sym same) in_p) (subst (λ (s : Shape). q < point_count s) (sym same) in_q) stood

    pub is-ordered : (s : Side) → IsBeside shape s p q → IsOrdered shape spans (side_start (point_count shape) s + p)
    is-ordered side.Right at = inl (inl (record { p = p; in_range = omega (arith, at, in_q); word = refl; before = subst (λ (r : ℕ). from_at spans p < below_at spans r) at before }))
    is-ordered side.Left at = inl (inr (record { p = q; in_range = omega (arith, at, in_p); word = ap (λ (r : ℕ). side_start (point_count shape) side.Left + r) at; before = subst (λ (r : ℕ). from_at spans r < below_at spans q) at before }))
    is-ordered side.Below at = inr (inl (record { p = p; in_range = omega (arith, at, in_q); word = refl; before = subst (λ (r : ℕ). from_at spans p < below_at spans r) at before }))
    is-ordered side.Above at = inr (inr (record { p = q; in_range = omega (arith, at, in_p); word = ap (λ (r : ℕ). side_start (point_count shape) side.Above + r) at; before = subst (λ (r : ℕ). from_at spans r < below_at spans q) at before }))

regroup : (a b c : ℕ) → a + b + c ≡ a + (b + c)
regroup a b c = omega arith

-- points further on lie beside each other too
pub beside-more : (shape : Shape) (s : Side) (p q k : ℕ) → IsBeside shape s p q → IsBeside shape s (p + k) (q + k)
beside-more shape side.Right p q k is = omega (arith, is)
beside-more shape side.Left p q k is = omega (arith, is)
beside-more shape side.Below p q k is = omega (arith, is)
beside-more shape side.Above p q k is = omega (arith, is)

-- so the bit of a game that may have had a stone there stands so far behind that of the first point
pub bit-further : (order : OrderGames) (s : Side) (p q k g first : ℕ) → IsBeside order.shape s p q → MayHaveStood order g (p + k) (q + k) → first ≡ side_start (point_count order.shape) s + p → bit_at (slice_index order.words (first + k)) g ≡ 1
bit-further order s p q k g first beside may at =
    ap (λ (j : ℕ). bit_at (slice_index order.words (j + k)) g) at
    ∙ ap (λ (j : ℕ). bit_at (slice_index order.words j) g) (regroup (side_start (point_count order.shape) s) p k)
    ∙ may s (beside-more order.shape s p q k beside)

-- ---- one game more

module _ (shape : Shape) (count : ℕ) (words new : List ℕ) (spans : Spans) (gained : HaveGained (IsOrdered shape spans) count words new) where
  pub AreOrderWords-more : AreOrderWords (point_count shape) count words → count < 64 → AreOrderWords (point_count shape) (count + 1) new
  AreOrderWords-more are few = record {
    room = gained.room ∙ are.room;
    few = omega (arith, few);
    counted = λ k g one. elim ((gained.bits k g).0 one) [
      | inl was ↦ omega (arith, are.counted k g was)
      | inr now ↦ omega (arith, now.0)
    ];
  }

  -- what contracts see of it
  pub game-more : (deltas : Deltas) → AreSpansOf deltas spans → deltas.shape ≡ shape → HasGameMore deltas (record { shape = shape; count = count; words = words }) (record { shape = shape; count = count + 1; words = new })
  game-more deltas are same = record {
    shape = refl;
    count = refl;
    kept = λ k g one. (gained.bits k g).1 (inl one);
    added = λ p q in_p in_q stood s at. (gained.bits (side_start (point_count shape) s + p) count).1 (inr (refl, is-ordered deltas spans are shape same p q in_p in_q stood s at));
  }

-- ---- for the crates above

-- what a game has it keeps
pub HasOrderOf-kept : (deltas : Deltas) (g : ℕ) (old new : OrderGames) → new.shape ≡ old.shape → KeepsBits old new → HasOrderOf deltas old g → HasOrderOf deltas new g
HasOrderOf-kept deltas g old new same kept has p q in_p in_q stood s at =
    let was = has p q (subst (λ (t : Shape). p < point_count t) same in_p) (subst (λ (t : Shape). q < point_count t) same in_q) stood s (subst (λ (t : Shape). IsBeside t s p q) same at) in
    subst (λ (t : Shape). bit_at (slice_index new.words (side_start (point_count t) s + p)) g ≡ 1) (sym same) (kept (side_start (point_count old.shape) s + p) g was)

-- and behind other games too
pub HasOrderOf-behind : (deltas : Deltas) (g : ℕ) (a b both : OrderGames) → a.shape ≡ b.shape → AreJoined a b both → HasOrderOf deltas b g → HasOrderOf deltas both (g + a.count)
HasOrderOf-behind deltas g a b both same joined has p q in_p in_q stood s at =
    let shape : both.shape ≡ b.shape = joined.shape ∙ same in
    let was = has p q (subst (λ (t : Shape). p < point_count t) shape in_p) (subst (λ (t : Shape). q < point_count t) shape in_q) stood s (subst (λ (t : Shape). IsBeside t s p q) shape at) in
    subst (λ (t : Shape). bit_at (slice_index both.words (side_start (point_count t) s + p)) (g + a.count) ≡ 1) (sym shape) (joined.behind (side_start (point_count b.shape) s + p) g was)
