-- The values of a node are read or have a first fault, and so have the values that tell of a whole game.
use Rattle.std.proofs.Common.{◌≡◌, ◌≢◌, ◌⊎◌, ◌≤◌, ◌+◌, ◌++◌, ℕ, List, [], ◌∷◌, All, Bool, true, false, Option, Some, None, cond, refl, sym, ap, subst, arith, inl, inr, append_assoc, codes}
use Rattle.std.specs.Prelude.{is_some}
use Rattle.std.proofs.lemmas.Bool.{cases_eq, cases_lt}
use Rattle.std.proofs.lemmas.List.{append-nil}
use Rattle.std.proofs.lemmas.List.Elements.{All-head, All-tail}
use Rattle.std.proofs.lemmas.List.Sums.{sum_by_push}
use Rattle.kb_geometry.specs.declared.shape.Shape.{Shape}
use Rattle.kb_geometry.specs.declared.stone.Cell.{Cell}
use Rattle.kb_geometry.specs.declared.stone.Colour.{Colour}
use Rattle.sgf_reader.specs.declared.collection.Pair.{Pair}
use Rattle.sgf_reader.specs.declared.fault.FaultKind.{FaultKind}
use Rattle.sgf_reader.specs.declared.fault.FaultKind.TheVariants as kind
use Rattle.sgf_reader.specs.declared.fault.SgfFault.{SgfFault}
use Rattle.game_tree.specs.declared.node.Move.{Move}
use Rattle.game_tree.specs.declared.node.Setup.{Setup}
use Rattle.game_tree.specs.Information.{Information}
use Rattle.game_tree.specs.NodeValues.{AreValuesRead, Ascend, IsFirstNodeFault, IsValueBad, IsValueRead, LiesIn, no_move, no_setup, nothing, plays, second_move, sets, setups_of}
use Rattle.game_tree.specs.Property.{bytes_of, mover_of, offset_of, setter_of}
use Rattle.game_tree.specs.Roots.{IsGameFault, IsInformationIn, IsOtherGame, IsSecondMove, IsSizeFault, first_in, second_stands}
use Rattle.game_tree.specs.ValueFaults.{IsBoardOf}
use Rattle.game_tree.specs.ValueFaults as value
use Rattle.game_tree.proofs.NodeValues.{move_by, setter_by}
use Rattle.game_tree.proofs.ReadValues.{HasReadValues, HasReadValues-bad, HasReadValues-more, HasReadValues-start}
use Rattle.game_tree.proofs.Roots.{bad_size, board_without, go_if_empty, go_if_one, no_game_value, other_game_value, same_game_value, standard_board}
use Rattle.game_tree.proofs.SecondMoves.{moves_in, no_second}
use Rattle.game_tree.proofs.TextChoices.{text-there}
use Rattle.game_tree.proofs.ValueChoices.{move-or-none, setup-or-none, shape-there, size-or-none, trimmed-there}

-- ---- one value

module _ (text : List ℕ) (shape : Shape) (pair : Pair) where
  -- the value is read, or something is wrong with it
  abbrev pub ValueIsSettled : Option Move → Type 0
  ValueIsSettled played = ((next : Option Move) × (more : List Setup) × IsValueRead text shape pair played next more) ⊎ ((of : FaultKind) × IsValueBad text shape pair played of)

  move-settled : (played : Option Move) (colour : Colour) → mover_of text pair ≡ Some colour → ValueIsSettled played
  move-settled (Some m) colour mover = inr (kind.TwoMoves, second_move (move_by text pair colour mover))
  move-settled None colour mover = elim (move-or-none shape (bytes_of text pair.value)) [
    | inl at ↦ inl (Some (record { colour = colour; point = at.0 }), [], plays colour at.0 mover at.1)
    | inr none ↦ inr (kind.BadPoint, no_move (move_by text pair colour mover) none)
  ]

  setup-settled : (played : Option Move) (setter : Option Cell) → mover_of text pair ≡ None → setter_of text pair ≡ setter → ValueIsSettled played
  setup-settled played None mover setter = inl (played, [], nothing mover setter)
  setup-settled played (Some cell) mover setter = elim (setup-or-none shape (bytes_of text pair.value)) [
    | inl at ↦ inl (played, setups_of cell at.0, sets cell at.0 mover setter at.1)
    | inr none ↦ inr (kind.BadPoint, no_setup mover (setter_by text pair cell setter) none)
  ]

  settled-by : (played : Option Move) (mover : Option Colour) → mover_of text pair ≡ mover → ValueIsSettled played
  settled-by played (Some colour) e = move-settled played colour e
  settled-by played None e = setup-settled played (setter_of text pair) e refl

  pub value-settled : (played : Option Move) → ValueIsSettled played
  value-settled played = settled-by played (mover_of text pair) refl

-- ---- the values of a node

module _ (text : List ℕ) (shape : Shape) where
  -- the values are read, or have a first fault
  abbrev pub NodeIsSettled : List Pair → Type 0
  NodeIsSettled pairs = ((setups : List Setup) × (played : Option Move) × AreValuesRead text shape pairs setups played) ⊎ ((of : FaultKind) × (at : ℕ) × IsFirstNodeFault text shape pairs of at)

  settled-from : (end : ℕ) (done rest : List Pair) (setups : List Setup) (played : Option Move) → HasReadValues text shape done setups played → Ascend (done ++ rest) → All (LiesIn end) rest → NodeIsSettled (done ++ rest)
  settled-from end done [] setups played h ascend inside = subst NodeIsSettled (sym (append-nil done)) (inl (setups, played, h.read))
  settled-from end done (pair ∷ rest) setups played h ascend inside =
      elim (value-settled text shape pair played) [
        | inl read ↦
            let one : (done ++ pair ∷ []) ++ rest ≡ done ++ pair ∷ rest = append_assoc done (pair ∷ []) rest in
            let more = HasReadValues-more text shape done pair setups read.1 played read.0 h read.2 in
            subst NodeIsSettled one (settled-from end (done ++ pair ∷ []) rest (setups ++ read.1) read.0 more (subst Ascend (sym one) ascend) (All-tail (LiesIn end) pair rest inside))
        | inr bad ↦
            let lies = All-head (LiesIn end) pair rest inside in
            inr (bad.0, offset_of pair, HasReadValues-bad text shape done pair rest setups played bad.0 h bad.1 ascend lies.bracket)
      ]

  pub node-settled : (end : ℕ) (pairs : List Pair) → Ascend pairs → All (LiesIn end) pairs → NodeIsSettled pairs
  node-settled end pairs ascend inside = settled-from end [] pairs [] None (HasReadValues-start text shape) ascend inside

-- ---- a second move

true-or-false : (b : Bool) → (b ≡ true) ⊎ (b ≡ false)
true-or-false true = inl refl
true-or-false false = inr refl

zero-of : (n : ℕ) → n ≤ 1 → n ≢ 1 → n ≡ 0
zero-of n few other = elim (cases_lt 0 n) [ inl some ↦ absurd (other (omega arith)) | inr none ↦ omega arith ]

module _ (text : List ℕ) where
  abbrev HasSecondMove : List Pair → Type 0
  HasSecondMove pairs = (found : Option SgfFault) × IsSecondMove text pairs found

  -- one value more
  moves-more : (done : List Pair) (pair : Pair) → moves_in text (done ++ pair ∷ []) ≡ moves_in text done + cond (is_some (mover_of text pair)) 1 0
  moves-more done pair = sum_by_push (λ (p : Pair). cond (is_some (mover_of text p)) 1 0) done pair

  second-from : (done rest : List Pair) → moves_in text done ≤ 1 → HasSecondMove (done ++ rest)
  second-from done [] few = subst HasSecondMove (sym (append-nil done)) (None, no_second text done few)
  second-from done (pair ∷ rest) few =
      let one : (done ++ pair ∷ []) ++ rest ≡ done ++ pair ∷ rest = append_assoc done (pair ∷ []) rest in
      let more = moves-more done pair in
      elim (true-or-false (is_some (mover_of text pair))) [
        | inr other ↦
            let counted : ◌≡◌ {A = ℕ} (cond (is_some (mover_of text pair)) 1 0) 0 = ap (λ b. cond b 1 0) other in
            subst HasSecondMove one (second-from (done ++ pair ∷ []) rest (omega (arith, more, counted, few)))
        | inl moves ↦ elim (cases_eq (moves_in text done) 1) [
          | inl second ↦ (Some (record { kind = kind.TwoMoves; at = offset_of pair }), second_stands pair (record { before = done; after = rest; split = refl; moves = moves; counted = second }))
          | inr first ↦
              let counted : ◌≡◌ {A = ℕ} (cond (is_some (mover_of text pair)) 1 0) 1 = ap (λ b. cond b 1 0) moves in
              let none : moves_in text done ≡ 0 = zero-of (moves_in text done) few first in
              subst HasSecondMove one (second-from (done ++ pair ∷ []) rest (omega (arith, more, counted, none)))
        ]
      ]

  pub second-there : (pairs : List Pair) → (found : Option SgfFault) × IsSecondMove text pairs found
  second-there pairs = second-from [] pairs (omega arith)

-- ---- what a root says of its game

-- the text is `1`
one-or-not : (text : List ℕ) → (text ≡ codes "1") ⊎ (text ≢ codes "1")
one-or-not [] = inr (λ e. cc)
one-or-not (a ∷ b ∷ text) = inr (λ e. cc)
one-or-not (a ∷ []) = elim (cases_eq a 49) [
  | inl same ↦ inl (ap (λ c. c ∷ []) same)
  | inr other ↦ inr (λ e. (let first : a ≡ 49 = cc in other first))
]

empty-or-not : (text : List ℕ) → (text ≡ []) ⊎ (text ≢ [])
empty-or-not [] = inl refl
empty-or-not (b ∷ text) = inr (λ e. cc)

other_game-or-not : (text : List ℕ) (pair : Pair) → IsOtherGame text pair ⊎ ¬ IsOtherGame text pair
other_game-or-not text pair =
    let inner = trimmed-there (bytes_of text pair.value) in
    elim (empty-or-not inner.0) [
      | inl none ↦ inr (go_if_empty text pair inner.0 inner.1 none)
      | inr some ↦ elim (one-or-not inner.0) [
        | inl one ↦ inr (go_if_one text pair inner.0 inner.1 one)
        | inr other ↦ inl (inner.0, inner.1, some, other)
      ]
    ]

game-by : (text : List ℕ) (pairs : List Pair) (found : Option Pair) → first_in text pairs (codes "GM") ≡ found → (game : Option SgfFault) × IsGameFault text pairs game
game-by text pairs None e = (None, no_game_value text pairs None e refl)
game-by text pairs (Some pair) e = elim (other_game-or-not text pair) [
  | inl other ↦ (let fault : SgfFault = record { kind = kind.NotGo; at = offset_of pair } in (Some fault, other_game_value text pairs pair fault e other refl))
  | inr same ↦ (None, same_game_value text pairs pair e same)
]

pub game-there : (text : List ℕ) (pairs : List Pair) → (game : Option SgfFault) × IsGameFault text pairs game
game-there text pairs = game-by text pairs (first_in text pairs (codes "GM")) refl

-- a root has a board, or its first size is a fault
pub board-or-fault : (text : List ℕ) (found : Option Pair) → ((shape : Shape) × IsBoardOf text found shape) ⊎ ((fault : SgfFault) × IsSizeFault text found fault)
board-or-fault text None =
    let made = shape-there 19 19 (omega arith, omega arith) (omega arith, omega arith) in
    inl (made.0, board_without text None made.0 refl made.1 made.2)
board-or-fault text (Some pair) =
    let inner = trimmed-there (bytes_of text pair.value) in
    elim (empty-or-not inner.0) [
      | inl none ↦
          let made = shape-there 19 19 (omega arith, omega arith) (omega arith, omega arith) in
          inl (made.0, standard_board text pair inner.0 made.0 inner.1 none made.1 made.2)
      | inr some ↦ elim (size-or-none inner.0) [
        | inl size ↦ inl (size.0, value.size inner.0 inner.1 size.1)
        | inr none ↦ (let fault : SgfFault = record { kind = kind.BadSize; at = offset_of pair } in inr (fault, bad_size text pair inner.0 fault inner.1 some none refl))
      ]
    ]

pub information-there : (text : List ℕ) (pairs : List Pair) → (info : Information) × IsInformationIn text pairs info
information-there text pairs =
    let black = text-there text (first_in text pairs (codes "PB")) in
    let white = text-there text (first_in text pairs (codes "PW")) in
    let event = text-there text (first_in text pairs (codes "EV")) in
    let place = text-there text (first_in text pairs (codes "PC")) in
    let date = text-there text (first_in text pairs (codes "DT")) in
    let outcome = text-there text (first_in text pairs (codes "RE")) in
    (record { black = black.0; white = white.0; event = event.0; place = place.0; date = date.0; outcome_text = outcome.0 }, record { black = black.1; white = white.1; event = event.1; place = place.1; date = date.1; outcome_text = outcome.1 })
