-- The second move among the values of a node.
use Rattle.std.proofs.Common.{◌≡◌, ◌≤◌, ◌<◌, ◌+◌, ◌++◌, ◌∙◌, ℕ, suc, List, ◌∷◌, Some, None, sym, ap, subst, arith, length, get_or, take, drop, true, false, Bool, cond, inl, inr}
use Rattle.std.specs.Prelude.{count_by, is_some}
use Rattle.std.proofs.Math.Seq.{split_at}
use Rattle.std.proofs.lemmas.List.{take_all, take_more}
use Rattle.std.proofs.lemmas.List.Sums.{sum_by-append, sum_by-cons, sum_by_push}
use Rattle.sgf_reader.specs.declared.collection.Pair.{Pair}
use Rattle.sgf_reader.specs.declared.fault.FaultKind.TheVariants as kind
use Rattle.sgf_reader.specs.declared.fault.SgfFault.{SgfFault}
use Rattle.game_tree.specs.Property.{mover_of, offset_of}
use Rattle.game_tree.proofs.Splits.{compare_splits}
use Rattle.game_tree.specs.Roots.{IsSecond, IsSecondMove, one_at_most, second_stands}

module _ (text : List ℕ) where
  abbrev pub moves_in : List Pair → ℕ
  moves_in pairs = count_by (λ (p : Pair). is_some (mover_of text p)) pairs

  one : Pair → ℕ
  one p = cond (is_some (mover_of text p)) 1 0

  -- one value more that is no move, and one that is the first
  pub moves_same : (pairs : List Pair) (i : ℕ) (d : Pair) (seen : ℕ) → i < length pairs → moves_in (take i pairs) ≡ seen → false ≡ is_some (mover_of text (get_or pairs i d)) → moves_in (take (i + 1) pairs) ≡ seen
  moves_same pairs i d seen below so_far no_move =
      ap moves_in (take_more pairs i d below) ∙ sum_by_push (λ (p : Pair). cond (is_some (mover_of text p)) 1 0) (take i pairs) (get_or pairs i d) ∙ rw (sym no_move) (omega (arith, so_far))

  pub moves_first : (pairs : List Pair) (i : ℕ) (d : Pair) → i < length pairs → moves_in (take i pairs) ≡ 0 → true ≡ is_some (mover_of text (get_or pairs i d)) → moves_in (take (i + 1) pairs) ≡ 1
  moves_first pairs i d below so_far move =
      ap moves_in (take_more pairs i d below) ∙ sum_by_push (λ (p : Pair). cond (is_some (mover_of text p)) 1 0) (take i pairs) (get_or pairs i d) ∙ rw (sym move) (omega (arith, so_far))

  -- a second move
  pub second_at : (pairs : List Pair) (i : ℕ) (d : Pair) (fault : SgfFault) → i < length pairs → moves_in (take i pairs) ≡ 1 → true ≡ is_some (mover_of text (get_or pairs i d)) → fault ≡ record { kind = kind.TwoMoves; at = offset_of (get_or pairs i d) } → IsSecondMove text pairs (Some fault)
  second_at pairs i d fault below counted move is =
      subst (λ f. IsSecondMove text pairs (Some f)) (sym is)
      (second_stands (get_or pairs i d) (record { before = take i pairs; after = drop (suc i) pairs; split = split_at pairs i d below; moves = sym move; counted = counted }))

  -- no second move where there is at most one
  pub no_second : (pairs : List Pair) → moves_in pairs ≤ 1 → IsSecondMove text pairs None
  no_second pairs few = one_at_most (λ pair second.
      let parts = ap moves_in second.split in
      let front = sum_by-append (λ (p : Pair). cond (is_some (mover_of text p)) 1 0) second.before (pair ∷ second.after) in
      let back = sum_by-cons (λ (p : Pair). cond (is_some (mover_of text p)) 1 0) pair second.after in
      let here : ◌≡◌ {A = ℕ} (cond (is_some (mover_of text pair)) 1 0) 1 = ap (λ b. cond b 1 0) second.moves in
      let counted = second.counted in
      omega (arith, parts, front, back, here, counted, few))

  -- how many moves there are where all were looked at
  pub few_at_end : (pairs : List Pair) (i : ℕ) (seen : Bool) → length pairs ≤ i → moves_in (take i pairs) ≡ cond seen 1 0 → moves_in pairs ≤ 1
  few_at_end pairs i true ended counted = let e : moves_in pairs ≡ 1 = ap moves_in (sym (take_all i pairs ended)) ∙ counted in omega (arith, e)
  few_at_end pairs i false ended counted = let e : moves_in pairs ≡ 0 = ap moves_in (sym (take_all i pairs ended)) ∙ counted in omega (arith, e)

  -- there is one second move only
  pub second_once : (pairs : List Pair) (p q : Pair) → IsSecond text pairs p → IsSecond text pairs q → p ≡ q
  second_once pairs p q a b =
      elim (compare_splits a.before p a.after b.before q b.after (sym a.split ∙ b.split)) [
        | inl (between, front, back) ↦ absurd (too_many b.before q between a.before front b.moves b.counted a.counted)
        | inr later ↦ elim later [
          | inl (front, same, back) ↦ same
          | inr (between, front, back) ↦ absurd (too_many a.before p between b.before front a.moves a.counted b.counted)
        ]
      ]
    where
      -- a move behind another isn't the second
      too_many : (before : List Pair) (x : Pair) (between whole : List Pair) → whole ≡ before ++ x ∷ between → is_some (mover_of text x) ≡ true → moves_in before ≡ 1 → moves_in whole ≡ 1 → ⊥
      too_many before x between whole is moves one_before one_whole =
          let parts = ap moves_in is in
          let front = sum_by-append (λ (p : Pair). cond (is_some (mover_of text p)) 1 0) before (x ∷ between) in
          let back = sum_by-cons (λ (p : Pair). cond (is_some (mover_of text p)) 1 0) x between in
          let here : ◌≡◌ {A = ℕ} (cond (is_some (mover_of text x)) 1 0) 1 = ap (λ b. cond b 1 0) moves in
          omega (arith, parts, front, back, here, one_before, one_whole)
