-- The values of a node, one after another.
use Rattle.std.proofs.Common.{◌≡◌, ◌⊎◌, ◌≤◌, ◌<◌, ◌+◌, ◌++◌, ◌∙◌, ℕ, suc, List, [], ◌∷◌, Option, Some, None, refl, sym, ap, subst, arith, length, length-append, inl, inr, append_assoc, true, get_or, take, drop, nat_eq, false, cond}
use Rattle.std.specs.Prelude.{count_by, is_some}
use Rattle.std.proofs.Math.Bool.{and-false}
use Rattle.std.proofs.Math.Seq.{get_or-append_seam, split_at}
use Rattle.std.proofs.lemmas.List.{take_more}
use Rattle.std.proofs.lemmas.List.Sums.{sum_by_push}
use Rattle.kb_geometry.specs.declared.shape.Shape.{Shape}
use Rattle.sgf_reader.specs.declared.collection.Pair.{Pair}
use Rattle.sgf_reader.specs.declared.fault.FaultKind.{FaultKind}
use Rattle.sgf_reader.specs.declared.fault.FaultKind.TheVariants as kind
use Rattle.game_tree.specs.declared.node.Move.{Move}
use Rattle.game_tree.specs.declared.node.Setup.{Setup}
use Rattle.game_tree.specs.NodeValues.{AreValuesRead, Ascend, HasNodeFault, HasPairFault, IsFirstNodeFault, IsValueBad, IsValueRead, bad_move, bad_setup, no_move, no_setup, nothing, plays, second_of_two, second_move, sets, with_setups}
use Rattle.game_tree.specs.Built.{Built}
use Rattle.game_tree.specs.Property.{identifier_of, mover_named, mover_of, offset_of, setter_named, setter_of}
use Rattle.game_tree.specs.Trees.{AreSetups, IsPlayedBy, ignored, move, none, other, set}
use Rattle.game_tree.specs.ValueFaults.{IsMove}
use Rattle.game_tree.proofs.Splits.{compare_splits}

-- no property both moves and sets
setter-none : (name : List ℕ) → is_some (mover_named name) ≡ true → setter_named name ≡ None
setter-none [] moves = absurd (cc)
setter-none (a ∷ []) moves = rw (and-false (nat_eq a 65)) refl
setter-none (a ∷ b ∷ rest) moves = absurd (not_mover moves)
  where
    not_mover : ¬ (is_some (mover_named (a ∷ b ∷ rest)) ≡ true)
    not_mover e = let none : is_some (mover_named (a ∷ b ∷ rest)) ≡ false = rw (and-false (nat_eq a 66), and-false (nat_eq a 87)) refl in cc

module _ (text : List ℕ) (shape : Shape) where
  -- how many of these values are moves
  abbrev pub moves_among : List Pair → ℕ
  moves_among pairs = count_by (λ (p : Pair). is_some (mover_of text p)) pairs

  -- one move, or none
  abbrev pub one_move : Option Move → ℕ
  one_move None = 0
  one_move (Some m) = 1

  -- these values were read, with these setups and this move
  pub record HasReadValues (done : List Pair) (setups : List Setup) (played : Option Move) : Type 0 where
    pub read : AreValuesRead text shape done setups played
    pub counted : moves_among done ≡ one_move played

  no_split : (before after : List Pair) (pair : Pair) → ¬ ([] ≡ before ++ pair ∷ after)
  no_split [] after pair e = cc
  no_split (b ∷ before) after pair e = cc

  pub HasReadValues-start : HasReadValues [] [] None
  HasReadValues-start = record {
    read = record { sets = none; plays = none; no_fault = λ of at f. no_split f.before f.after f.pair f.split };
    counted = refl;
  }

  setups-append : (done more : List Pair) (ss ts : List Setup) → AreSetups text shape done ss → AreSetups text shape more ts → AreSetups text shape (done ++ more) (ss ++ ts)
  setups-append _ more _ ts none rest = rest
  setups-append _ more _ ts (other by these) rest = other by (setups-append _ more _ ts these rest)
  setups-append _ more _ ts (ignored cell by empty these) rest = ignored cell by empty (setups-append _ more _ ts these rest)
  setups-append _ more _ ts (set cell rect by value these) rest = set cell rect by value (setups-append _ more _ ts these rest)

  setups-one : (pair : Pair) (played next : Option Move) (more : List Setup) → IsValueRead text shape pair played next more → ((m : IsMove text pair) → setter_of text pair ≡ None) → AreSetups text shape (pair ∷ []) more
  setups-one pair _ _ _ (plays colour point mover value) apart = other (apart (ap is_some mover)) none
  setups-one pair _ _ _ (sets cell None mover setter value) apart = ignored cell setter value none
  setups-one pair _ _ _ (sets cell (Some rect) mover setter value) apart = set cell rect setter value none
  setups-one pair _ _ _ (nothing mover setter) apart = other setter none

  -- one more value that is no move
  played-other : (done : List Pair) (pair : Pair) (played : Option Move) → IsPlayedBy text shape done played → mover_of text pair ≡ None → IsPlayedBy text shape (done ++ pair ∷ []) played
  played-other _ pair _ none by = other by none
  played-other _ pair _ (other before rest) by = other before (played-other _ pair _ rest by)
  played-other _ pair _ (move colour point mover value rest) by = move colour point mover value (played-other _ pair _ rest by)

  -- a first move behind values that are none
  played-move : (done : List Pair) (pair : Pair) (m : Option Move) → IsPlayedBy text shape done None → IsPlayedBy text shape (pair ∷ []) m → IsPlayedBy text shape (done ++ pair ∷ []) m
  played-move _ pair m none last = last
  played-move _ pair m (other before rest) last = other before (played-move _ pair m rest last)

  played-more : (done : List Pair) (pair : Pair) (played next : Option Move) (more : List Setup) → IsPlayedBy text shape done played → IsValueRead text shape pair played next more → IsPlayedBy text shape (done ++ pair ∷ []) next
  played-more done pair _ _ _ by (plays colour point mover value) = played-move done pair (Some (record { colour = colour; point = point })) by (move colour point mover value none)
  played-more done pair _ _ _ by (sets {played = played} cell rect mover setter value) = played-other done pair played by mover
  played-more done pair _ _ _ by (nothing {played = played} mover setter) = played-other done pair played by mover

  -- how many moves there are with one value more
  counted-more : (done : List Pair) (pair : Pair) (played next : Option Move) (more : List Setup) → moves_among done ≡ one_move played → IsValueRead text shape pair played next more → moves_among (done ++ pair ∷ []) ≡ one_move next
  counted-more done pair played next more counted read = sum_by_push (λ (p : Pair). cond (is_some (mover_of text p)) 1 0) done pair ∙ step played next more counted read
    where
      step : (played next : Option Move) (more : List Setup) → moves_among done ≡ one_move played → IsValueRead text shape pair played next more → moves_among done + cond (is_some (mover_of text pair)) 1 0 ≡ one_move next
      step _ _ _ counted (plays colour point mover value) = rw (counted, mover) refl
      step _ _ _ counted (sets {played = played} cell rect mover setter value) = rw (mover) (omega (arith, counted))
      step _ _ _ counted (nothing {played = played} mover setter) = rw (mover) (omega (arith, counted))

  -- a value that was read has no fault
  read-clean : (done : List Pair) (pair : Pair) (played next : Option Move) (more : List Setup) → moves_among done ≡ one_move played → IsValueRead text shape pair played next more → (of : FaultKind) → ¬ HasPairFault text shape done pair of
  read-clean done pair _ _ _ counted (plays colour point mover value) _ (second_of_two is two) = let e : 0 ≡ 1 = sym counted ∙ two in absurd (omega arith)
  read-clean done pair _ _ _ counted (plays colour point mover value) _ (bad_move is bad) = bad point value
  read-clean done pair _ _ _ counted (plays colour point mover value) _ (bad_setup is bad) = let none : setter_of text pair ≡ None = setter-none (identifier_of text pair) (ap is_some mover) in let never : is_some (setter_of text pair) ≡ false = ap is_some none in absurd (cc)
  read-clean done pair _ _ _ counted (sets cell rect mover setter value) _ (second_of_two is two) = let never : is_some (mover_of text pair) ≡ false = ap is_some mover in absurd (cc)
  read-clean done pair _ _ _ counted (sets cell rect mover setter value) _ (bad_move is bad) = let never : is_some (mover_of text pair) ≡ false = ap is_some mover in absurd (cc)
  read-clean done pair _ _ _ counted (sets cell rect mover setter value) _ (bad_setup is bad) = bad rect value
  read-clean done pair _ _ _ counted (nothing mover setter) _ (second_of_two is two) = let never : is_some (mover_of text pair) ≡ false = ap is_some mover in absurd (cc)
  read-clean done pair _ _ _ counted (nothing mover setter) _ (bad_move is bad) = let never : is_some (mover_of text pair) ≡ false = ap is_some mover in absurd (cc)
  read-clean done pair _ _ _ counted (nothing mover setter) _ (bad_setup is bad) = let never : is_some (setter_of text pair) ≡ false = ap is_some setter in absurd (cc)

  apart : (pair : Pair) → IsMove text pair → setter_of text pair ≡ None
  apart pair moves = setter-none (identifier_of text pair) moves

  -- a fault of the values so far and one more
  more-clean : (done : List Pair) (pair : Pair) (clean : (of : FaultKind) (at : ℕ) → ¬ HasNodeFault text shape done of at) → ((of : FaultKind) → ¬ HasPairFault text shape done pair of) → (of : FaultKind) (at : ℕ) → ¬ HasNodeFault text shape (done ++ pair ∷ []) of at
  more-clean done pair clean here of at f =
      elim (compare_splits done pair [] f.before f.pair f.after f.split) [
        | inl (between, front, back) ↦ clean of at (record { before = f.before; pair = f.pair; after = between; split = front; fault = f.fault; here = f.here })
        | inr later ↦ elim later [
          | inl (front, same, back) ↦ here of (subst (λ b. HasPairFault text shape b pair of) (sym front) (subst (λ p. HasPairFault text shape f.before p of) (sym same) f.fault))
          | inr (between, front, back) ↦ no_split between f.after f.pair back
        ]
      ]

  pub HasReadValues-more : (done : List Pair) (pair : Pair) (setups more : List Setup) (played next : Option Move) → HasReadValues done setups played → IsValueRead text shape pair played next more → HasReadValues (done ++ pair ∷ []) (setups ++ more) next
  HasReadValues-more done pair setups more played next h read = record {
    read = record {
      sets = setups-append done (pair ∷ []) setups more h.read.sets (setups-one pair played next more read (apart pair));
      plays = played-more done pair played next more h.read.plays read;
      no_fault = more-clean done pair h.read.no_fault (read-clean done pair played next more h.counted read);
    };
    counted = counted-more done pair played next more h.counted read;
  }

  -- the fault of a value that is wrong
  bad-fault : (done : List Pair) (pair : Pair) (played : Option Move) (of : FaultKind) → moves_among done ≡ one_move played → IsValueBad text shape pair played of → HasPairFault text shape done pair of
  bad-fault done pair _ _ counted (second_move is) = second_of_two is counted
  bad-fault done pair _ _ counted (no_move is bad) = bad_move is bad
  bad-fault done pair _ _ counted (no_setup mover is bad) = bad_setup is bad

  -- at one value TwoMoves comes first
  bad-first : (done : List Pair) (pair : Pair) (played : Option Move) (of other : FaultKind) → moves_among done ≡ one_move played → IsValueBad text shape pair played of → HasPairFault text shape done pair other → (other ≡ of) ⊎ (of ≡ kind.TwoMoves)
  bad-first done pair _ _ _ counted (second_move is) f = inr refl
  bad-first done pair _ _ _ counted (no_move is bad) (second_of_two is' two) = let e : 0 ≡ 1 = sym counted ∙ two in absurd (omega (arith, e))
  bad-first done pair _ _ _ counted (no_move is bad) (bad_move is' bad') = inl refl
  bad-first done pair _ _ _ counted (no_move is bad) (bad_setup is' bad') = inl refl
  bad-first done pair _ _ _ counted (no_setup mover is bad) (second_of_two is' two) = let never : is_some (mover_of text pair) ≡ false = ap is_some mover in absurd (cc)
  bad-first done pair _ _ _ counted (no_setup mover is bad) (bad_move is' bad') = inl refl
  bad-first done pair _ _ _ counted (no_setup mover is bad) (bad_setup is' bad') = inl refl

  -- the values behind one stand behind it in the text
  behind : (done : List Pair) (pair : Pair) (rest : List Pair) (between : List Pair) (later : Pair) (after : List Pair) → Ascend (done ++ pair ∷ rest) → rest ≡ between ++ later ∷ after → 1 ≤ pair.value.from → offset_of pair < offset_of later
  behind done pair rest between later after ascend is some =
      let place = ascend (length done) (length done + (length between + 1)) pair (omega arith) (omega (arith, long)) in
      omega (arith, subst (λ p. p.value.from < (get_or (done ++ pair ∷ rest) (length done + (length between + 1)) pair).value.from) first place, second)
    where
      long : length (done ++ pair ∷ rest) ≡ length done + (1 + (length between + (1 + length after)))
      long =
          let whole = length-append done (pair ∷ rest) in
          let tail : length rest ≡ length (between ++ later ∷ after) = ap length is in
          let parts = length-append between (later ∷ after) in
          omega (arith, whole, tail, parts)

      first : get_or (done ++ pair ∷ rest) (length done) pair ≡ pair
      first = get_or-append_seam done pair rest pair

      front : List Pair
      front = done ++ pair ∷ between

      index : length done + (length between + 1) ≡ length front
      index = let e = length-append done (pair ∷ between) in omega (arith, e)

      split : done ++ pair ∷ rest ≡ front ++ later ∷ after
      split = ap (λ r. done ++ pair ∷ r) is ∙ sym (append_assoc done (pair ∷ between) (later ∷ after))

      there : get_or (done ++ pair ∷ rest) (length done + (length between + 1)) pair ≡ later
      there = ap (λ l. get_or l (length done + (length between + 1)) pair) split ∙ ap (λ n. get_or (front ++ later ∷ after) n pair) index ∙ get_or-append_seam front later after pair

      second : (get_or (done ++ pair ∷ rest) (length done + (length between + 1)) pair).value.from ≡ later.value.from
      second = ap (λ (p : Pair). p.value.from) there

  pub HasReadValues-bad : (done : List Pair) (pair : Pair) (rest : List Pair) (setups : List Setup) (played : Option Move) (of : FaultKind) → HasReadValues done setups played → IsValueBad text shape pair played of → Ascend (done ++ pair ∷ rest) → 1 ≤ pair.value.from → IsFirstNodeFault text shape (done ++ pair ∷ rest) of (offset_of pair)
  HasReadValues-bad done pair rest setups played of h bad ascend some = record {
    there = record { before = done; pair = pair; after = rest; split = refl; fault = bad-fault done pair played of h.counted bad; here = refl };
    first = λ other offset f.
        elim (compare_splits done pair rest f.before f.pair f.after f.split) [
          | inl (between, front, back) ↦ absurd (h.read.no_fault other offset (record { before = f.before; pair = f.pair; after = between; split = front; fault = f.fault; here = f.here }))
          | inr later ↦ elim later [
            | inl (front, same, back) ↦ inr (ap offset_of same ∙ sym f.here, bad-first done pair played of other h.counted bad (subst (λ b. HasPairFault text shape b pair other) (sym front) (subst (λ p. HasPairFault text shape f.before p other) (sym same) f.fault)))
            | inr (between, front, back) ↦ inl (omega (arith, behind done pair rest between f.pair f.after ascend back some, f.here))
          ]
        ];
  }

  pub values-more : (pairs : List Pair) (i : ℕ) (d : Pair) (setups more : List Setup) (played next : Option Move) → i < length pairs → HasReadValues (take i pairs) setups played → IsValueRead text shape (get_or pairs i d) played next more → HasReadValues (take (i + 1) pairs) (setups ++ more) next
  values-more pairs i d setups more played next below h read =
      subst (λ done. HasReadValues done (setups ++ more) next) (sym (take_more pairs i d below)) (HasReadValues-more (take i pairs) (get_or pairs i d) setups more played next h read)

  pub values-bad : (pairs : List Pair) (i : ℕ) (d : Pair) (setups : List Setup) (played : Option Move) (of : FaultKind) (at : ℕ) → i < length pairs → HasReadValues (take i pairs) setups played → IsValueBad text shape (get_or pairs i d) played of → Ascend pairs → 1 ≤ (get_or pairs i d).value.from → at ≡ offset_of (get_or pairs i d) → IsFirstNodeFault text shape pairs of at
  values-bad pairs i d setups played of at below h bad ascend some is =
      let split : pairs ≡ take i pairs ++ get_or pairs i d ∷ drop (suc i) pairs = split_at pairs i d below in
      subst (λ n. IsFirstNodeFault text shape pairs of n) (sym is)
      (subst (λ ps. IsFirstNodeFault text shape ps of (offset_of (get_or pairs i d))) (sym split)
      (HasReadValues-bad (take i pairs) (get_or pairs i d) (drop (suc i) pairs) setups played of h bad (subst Ascend split ascend) some))

  -- one value sets up at most one rectangle
  few-setups : (pair : Pair) (played next : Option Move) (more : List Setup) → IsValueRead text shape pair played next more → length more ≤ 1
  few-setups pair _ _ _ (plays colour point mover value) = omega arith
  few-setups pair _ _ _ (sets cell None mover setter value) = omega arith
  few-setups pair _ _ _ (sets cell (Some rect) mover setter value) = omega arith
  few-setups pair _ _ _ (nothing mover setter) = omega arith

  -- a builder with the setups of the values so far
  abbrev pub BuiltSoFar : List Pair → ℕ → Option Move → Built → Built → Type 0
  BuiltSoFar pairs i played before now = (setups : List Setup) × HasReadValues (take i pairs) setups played × (now ≡ with_setups before setups)

  added-twice : (b : Built) (setups more : List Setup) → with_setups (with_setups b setups) more ≡ with_setups b (setups ++ more)
  added-twice b setups more =
      let pending : (b.pending ++ setups) ++ more ≡ b.pending ++ (setups ++ more) = append_assoc b.pending setups more in
      let joined = length-append setups more in
      let count : b.setup_count + length setups + length more ≡ b.setup_count + length (setups ++ more) = omega (arith, joined) in
      let e : record { shape = b.shape; nodes = b.nodes; pending = (b.pending ++ setups) ++ more; setup_count = b.setup_count + length setups + length more } ≡ with_setups b (setups ++ more) = cc in e

  pub built-more : (pairs : List Pair) (i : ℕ) (d : Pair) (played next : Option Move) (before now after : Built) → i < length pairs → BuiltSoFar pairs i played before now → (more : List Setup) × IsValueRead text shape (get_or pairs i d) played next more × (after ≡ with_setups now more) → now.setup_count ≤ before.setup_count + i → BuiltSoFar pairs (i + 1) next before after × (after.setup_count ≤ before.setup_count + (i + 1))
  built-more pairs i d played next before now after below (setups, h, is) (more, read, added) room =
      let whole : after ≡ with_setups before (setups ++ more) = added ∙ ap (λ b. with_setups b more) is ∙ added-twice before setups more in
      let count : after.setup_count ≡ now.setup_count + length more = ap (λ (b : Built). b.setup_count) added in
      let few = few-setups (get_or pairs i d) played next more read in
      ((setups ++ more, values-more pairs i d setups more played next below h read, whole), omega (arith, count, few, room))
