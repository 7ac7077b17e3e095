-- What a text says of a game is one thing only.
use Rattle.std.proofs.Common.{◌≡◌, ◌≢◌, ◌∙◌, ℕ, List, [], ◌∷◌, Option, Some, None, refl, sym, ap, subst, arith, inl, inr, length, length-append}
use Rattle.std.proofs.Math.Bridge.{le_prop}
use Rattle.std.proofs.lemmas.List.Elements.{All-nil}
use Rattle.std.specs.List.{AllZip}
use Rattle.kb_geometry.specs.declared.shape.Point.{Point}
use Rattle.kb_geometry.specs.declared.shape.Rect.{Rect}
use Rattle.kb_geometry.specs.declared.shape.Shape.{Shape}
use Rattle.kb_geometry.specs.declared.stone.Cell.{Cell}
use Rattle.kb_geometry.specs.declared.stone.Colour.{Colour}
use Rattle.kb_geometry.specs.Board.{cols_of, rows_of}
use Rattle.kb_geometry.specs.Side.{IsSide}
use Rattle.sgf_reader.specs.declared.collection.Collection.{Collection}
use Rattle.sgf_reader.specs.declared.collection.Pair.{Pair}
use Rattle.sgf_reader.specs.declared.collection.RawGame.{RawGame}
use Rattle.sgf_reader.specs.declared.collection.RawNode.{RawNode}
use Rattle.game_tree.specs.declared.node.Move.{Move}
use Rattle.game_tree.specs.declared.node.Setup.{Setup}
use Rattle.game_tree.specs.Information.{Information}
use Rattle.game_tree.specs.Property.{bytes_of, mover_of, setter_of}
use Rattle.game_tree.specs.Tree.{Node, Tree}
use Rattle.game_tree.specs.Trees.{AreSetups, AreTreesOf, IsInformation, IsNodeOf, IsPlayedBy, IsTextOf, IsTreeOf}
use Rattle.game_tree.specs.Trees as told
use Rattle.game_tree.specs.Value.{IsMoveText, IsMoveValue, IsPoint, IsSetupText, IsSetupValue, IsSize, columns_and_rows, one_point, rect_of, rectangle, square}
use Rattle.game_tree.specs.ValueFaults.{IsBoard, IsBoardOf, empty, no_value, size}
use Rattle.game_tree.proofs.Colons.{HasNoColon, digits-no_colon, point-no_colon, setup-corners, setup-point, size-sides, size-square}
use Rattle.game_tree.proofs.OneText.{IsSimpleText-only}
use Rattle.game_tree.proofs.Passes.{ignored_text, pass_texts, point_text_of}
use Rattle.game_tree.proofs.Trimming.{IsTrimmed-only}
use Rattle.game_tree.proofs.Values.{IsPoint-only, point_letters}

-- ---- the board

sides_same : (cols rows : ℕ) (one other : IsSide cols × IsSide rows) → one ≡ other
sides_same cols rows one other = let single : IsProp (IsSide cols × IsSide rows) = hlevel (le_prop) in single one other

-- a shape is known by its sides
pub shape_same : (a b : Shape) → cols_of a ≡ cols_of b → rows_of a ≡ rows_of b → a ≡ b
shape_same a b cols rows =
    subst (λ (d : ℕ). (sides : IsSide d × IsSide b.rows) → a ≡ record { cols = d; rows = b.rows; in_range = sides }) cols
    (subst (λ (e : ℕ). (sides : IsSide a.cols × IsSide e) → a ≡ record { cols = a.cols; rows = e; in_range = sides }) rows
    (λ sides. ap (λ (own : IsSide a.cols × IsSide a.rows). record { cols = a.cols; rows = a.rows; in_range = own }) (sides_same a.cols a.rows a.in_range sides)))
    b.in_range

pub IsSize-only : (text : List ℕ) (a b : Shape) → IsSize text a → IsSize text b → a ≡ b
IsSize-only text a b (square side same) other =
    let (own, sides) = size-square text b (digits-no_colon text side.0.1) other in
    shape_same a b (sym side.1 ∙ own.1) (same ∙ sym side.1 ∙ own.1 ∙ sym sides)
IsSize-only _ a b (columns_and_rows columns rows c r) other =
    let (left, right) = size-sides columns rows b _ refl (digits-no_colon columns c.0.1) other in
    shape_same a b (sym c.1 ∙ left.1) (sym r.1 ∙ right.1)

no_size : (text : List ℕ) (shape : Shape) → text ≡ [] → ¬ IsSize text shape
no_size text shape e (square side same) = omega (arith, side.0.0, ap length e)
no_size _ shape e (columns_and_rows columns rows c r) = omega (arith, c.0.0, ap length e, length-append columns (58 ∷ rows))

-- the first SZ value of a root gives one board only
pub IsBoardOf-only : (text : List ℕ) (found : Option Pair) (a b : Shape) → IsBoardOf text found a → IsBoardOf text found b → a ≡ b
IsBoardOf-only text _ a b (no_value cols rows) (no_value cols' rows') = shape_same a b (cols ∙ sym cols') (rows ∙ sym rows')
IsBoardOf-only text _ a b (empty {pair = pair} gone cols rows) (empty gone' cols' rows') = shape_same a b (cols ∙ sym cols') (rows ∙ sym rows')
IsBoardOf-only text _ a b (empty {pair = pair} gone cols rows) (size inner trimmed is) = absurd (no_size inner b (IsTrimmed-only (bytes_of text pair.value) inner [] trimmed gone) is)
IsBoardOf-only text _ a b (size {pair = pair} inner trimmed is) (empty gone cols rows) = absurd (no_size inner a (IsTrimmed-only (bytes_of text pair.value) inner [] trimmed gone) is)
IsBoardOf-only text _ a b (size {pair = pair} inner trimmed is) (size other trimmed' is') =
    IsSize-only inner a b is (subst (λ value. IsSize value b) (IsTrimmed-only (bytes_of text pair.value) other inner trimmed' trimmed) is')

-- a raw game has one board only
pub IsBoard-only : (text : List ℕ) (raw : RawGame) (a b : Shape) → IsBoard text raw a → IsBoard text raw b → a ≡ b
IsBoard-only text raw a b one two = IsBoardOf-only text _ a b one two

-- ---- values

-- a point's text is no pass: `tt` lies on no board where it is one
no_pass : (shape : Shape) (text : List ℕ) (p : Point) → IsPoint shape text p → ¬ IsMoveText shape text None
no_pass shape text p at is =
    let (column, row, two, x, y, on) = point_letters shape text p at in
    elim (pass_texts shape text is) [
      | inl gone ↦ omega (arith, ap length (sym gone ∙ two))
      | inr (cols, rows, tt) ↦
          let both : column ∷ row ∷ [] ≡ 116 ∷ 116 ∷ [] = sym two ∙ tt in
          let first : column ≡ 116 = cc in
          elim x [
            | inl low ↦ omega (arith, low, first, on.0, cols)
            | inr high ↦ omega (arith, high, first)
          ]
    ]

IsMoveText-only : (shape : Shape) (text : List ℕ) (one other : Option Point) → IsMoveText shape text one → IsMoveText shape text other → one ≡ other
IsMoveText-only shape text None None a b = refl
IsMoveText-only shape text (Some p) (Some q) a b = ap (λ r. Some r) (IsPoint-only shape text p q (point_text_of shape text p a) (point_text_of shape text q b))
IsMoveText-only shape text (Some p) None a b = absurd (no_pass shape text p (point_text_of shape text p a) b)
IsMoveText-only shape text None (Some q) a b = absurd (no_pass shape text q (point_text_of shape text q b) a)

-- a move's value is one move only
pub IsMoveValue-only : (shape : Shape) (value : List ℕ) (one other : Option Point) → IsMoveValue shape value one → IsMoveValue shape value other → one ≡ other
IsMoveValue-only shape value one other (inner, trimmed, is) (inner', trimmed', is') =
    IsMoveText-only shape inner one other is (subst (λ text. IsMoveText shape text other) (IsTrimmed-only value inner' inner trimmed' trimmed) is')

no_corners : (shape : Shape) (text : List ℕ) (r : Rect) → text ≡ [] → ¬ IsSetupText shape text (Some r)
no_corners shape text r is set =
    let (p, at, corners) = setup-point shape text r (subst HasNoColon (sym is) (All-nil (λ (b : ℕ). b ≢ 58))) set in
    let (column, row, two, x, y, on) = point_letters shape text p at in
    omega (arith, ap length (sym is ∙ two))

IsSetupText-some : (shape : Shape) (text : List ℕ) (r s : Rect) → IsSetupText shape text (Some r) → IsSetupText shape text (Some s) → r ≡ s
IsSetupText-some shape text _ s (one_point {p = p} at) b =
    let (q, at', corners) = setup-point shape text s (point-no_colon shape text p at) b in
    ap (λ c. rect_of c c) (IsPoint-only shape text p q at at') ∙ sym corners
IsSetupText-some shape _ _ s (rectangle {p = p} {q = q} front back at_front at_back) b =
    let (p', q', at_front', at_back', corners) = setup-corners shape front back _ s refl (point-no_colon shape front p at_front) b in
    ap (λ c. rect_of c q) (IsPoint-only shape front p p' at_front at_front') ∙ ap (λ c. rect_of p' c) (IsPoint-only shape back q q' at_back at_back') ∙ sym corners

IsSetupText-only : (shape : Shape) (text : List ℕ) (one other : Option Rect) → IsSetupText shape text one → IsSetupText shape text other → one ≡ other
IsSetupText-only shape text None None a b = refl
IsSetupText-only shape text (Some r) (Some s) a b = ap (λ c. Some c) (IsSetupText-some shape text r s a b)
IsSetupText-only shape text (Some r) None a b = absurd (no_corners shape text r (ignored_text shape text b) a)
IsSetupText-only shape text None (Some s) a b = absurd (no_corners shape text s (ignored_text shape text a) b)

-- a setup's value sets one rectangle only
pub IsSetupValue-only : (shape : Shape) (value : List ℕ) (one other : Option Rect) → IsSetupValue shape value one → IsSetupValue shape value other → one ≡ other
IsSetupValue-only shape value one other (inner, trimmed, is) (inner', trimmed', is') =
    IsSetupText-only shape inner one other is (subst (λ text. IsSetupText shape text other) (IsTrimmed-only value inner' inner trimmed' trimmed) is')

-- ---- nodes

module _ (text : List ℕ) (shape : Shape) where
  none_setter : {cell : Cell} (found : Option Cell) → found ≡ None → ¬ (found ≡ Some cell)
  none_setter found e f = cc

  none_mover : {colour : Colour} (found : Option Colour) → found ≡ None → ¬ (found ≡ Some colour)
  none_mover found e f = cc

  pub AreSetups-only : (pairs : List Pair) (one two : List Setup) → AreSetups text shape pairs one → AreSetups text shape pairs two → one ≡ two
  AreSetups-only _ _ _ told.none told.none = refl
  AreSetups-only _ one two (told.other {pairs = pairs} e a) (told.other f b) = AreSetups-only pairs one two a b
  AreSetups-only _ one two (told.other {pair = pair} e a) (told.ignored cell f v b) = absurd (none_setter (setter_of text pair) e f)
  AreSetups-only _ one _ (told.other {pair = pair} e a) (told.set cell rect f v b) = absurd (none_setter (setter_of text pair) e f)
  AreSetups-only _ one two (told.ignored {pair = pair} cell f v a) (told.other e b) = absurd (none_setter (setter_of text pair) e f)
  AreSetups-only _ one two (told.ignored {pairs = pairs} cell f v a) (told.ignored cell' f' v' b) = AreSetups-only pairs one two a b
  AreSetups-only _ one _ (told.ignored {pair = pair} cell f v a) (told.set cell' rect f' v' b) =
      let e : None ≡ Some rect = IsSetupValue-only shape (bytes_of text pair.value) None (Some rect) v v' in absurd (cc)
  AreSetups-only _ _ two (told.set {pair = pair} cell rect f v a) (told.other e b) = absurd (none_setter (setter_of text pair) e f)
  AreSetups-only _ _ two (told.set {pair = pair} cell rect f v a) (told.ignored cell' f' v' b) =
      let e : None ≡ Some rect = IsSetupValue-only shape (bytes_of text pair.value) None (Some rect) v' v in absurd (cc)
  AreSetups-only _ _ _ (told.set {pair = pair} {pairs = pairs} {setups = setups} cell rect f v a) (told.set {setups = others} cell' rect' f' v' b) =
      let cells : Some cell ≡ Some cell' = sym f ∙ f' in
      let rects : Some rect ≡ Some rect' = IsSetupValue-only shape (bytes_of text pair.value) (Some rect) (Some rect') v v' in
      let rest : setups ≡ others = AreSetups-only pairs setups others a b in
      cc (cells, rects, rest)

  pub IsPlayedBy-only : (pairs : List Pair) (one two : Option Move) → IsPlayedBy text shape pairs one → IsPlayedBy text shape pairs two → one ≡ two
  IsPlayedBy-only _ _ _ told.none told.none = refl
  IsPlayedBy-only _ one two (told.other {pairs = pairs} e a) (told.other f b) = IsPlayedBy-only pairs one two a b
  IsPlayedBy-only _ one _ (told.other {pair = pair} e a) (told.move colour point f v b) = absurd (none_mover (mover_of text pair) e f)
  IsPlayedBy-only _ _ two (told.move {pair = pair} colour point f v a) (told.other e b) = absurd (none_mover (mover_of text pair) e f)
  IsPlayedBy-only _ _ _ (told.move {pair = pair} colour point f v a) (told.move colour' point' f' v' b) =
      let colours : Some colour ≡ Some colour' = sym f ∙ f' in
      let points : point ≡ point' = IsMoveValue-only shape (bytes_of text pair.value) point point' v v' in
      cc (colours, points)

  IsNodeOf-only : (raw : RawNode) (one two : Node) → IsNodeOf text shape raw one → IsNodeOf text shape raw two → one ≡ two
  IsNodeOf-only raw one two a b =
      let parents : one.parent ≡ two.parent = a.parent ∙ sym b.parent in
      let setups : one.setups ≡ two.setups = AreSetups-only raw.pairs one.setups two.setups a.setups b.setups in
      let moves : one.played ≡ two.played = IsPlayedBy-only raw.pairs one.played two.played a.played b.played in
      let nodes : record { parent = one.parent; setups = one.setups; played = one.played } ≡ record { parent = two.parent; setups = two.setups; played = two.played } = cc (parents, setups, moves) in
      nodes

-- ---- trees

-- each item of one list has one item of the other only
AllZip-only : {A B : Type 0} (R : A → B → Type 0) → ((x : A) (y z : B) → R x y → R x z → y ≡ z) → (xs : List A) (ys zs : List B) → AllZip R xs ys → AllZip R xs zs → ys ≡ zs
AllZip-only R only [] [] [] a b = refl
AllZip-only R only [] [] (z ∷ zs) a b = absurd b
AllZip-only R only [] (y ∷ ys) zs a b = absurd a
AllZip-only R only (x ∷ xs) [] zs a b = absurd a
AllZip-only R only (x ∷ xs) (y ∷ ys) [] a b = absurd b
AllZip-only R only (x ∷ xs) (y ∷ ys) (z ∷ zs) a b =
    let heads = only x y z a.0 b.0 in
    let tails = AllZip-only R only xs ys zs a.1 b.1 in
    cc (heads, tails)

module _ (text : List ℕ) where
  IsTextOf-only : (found : Option Pair) (one two : List ℕ) → IsTextOf text found one → IsTextOf text found two → one ≡ two
  IsTextOf-only _ _ _ told.no_value told.no_value = refl
  IsTextOf-only _ one two (told.value {pair = pair} a) (told.value b) = IsSimpleText-only (bytes_of text pair.value) one two a b

  IsInformation-only : (raw : RawGame) (one two : Information) → IsInformation text raw one → IsInformation text raw two → one ≡ two
  IsInformation-only raw one two a b =
      let black : one.black ≡ two.black = IsTextOf-only _ one.black two.black a.black b.black in
      let white : one.white ≡ two.white = IsTextOf-only _ one.white two.white a.white b.white in
      let event : one.event ≡ two.event = IsTextOf-only _ one.event two.event a.event b.event in
      let place : one.place ≡ two.place = IsTextOf-only _ one.place two.place a.place b.place in
      let date : one.date ≡ two.date = IsTextOf-only _ one.date two.date a.date b.date in
      let outcome : one.outcome_text ≡ two.outcome_text = IsTextOf-only _ one.outcome_text two.outcome_text a.outcome_text b.outcome_text in
      let infos : record { black = one.black; white = one.white; event = one.event; place = one.place; date = one.date; outcome_text = one.outcome_text } ≡ record { black = two.black; white = two.white; event = two.event; place = two.place; date = two.date; outcome_text = two.outcome_text } = cc (black, white, event, place, date, outcome) in
      infos

  pub IsTreeOf-only : (raw : RawGame) (one two : Tree) → IsTreeOf text raw one → IsTreeOf text raw two → one ≡ two
  IsTreeOf-only raw one two a b =
      let shapes : one.shape ≡ two.shape = IsBoard-only text raw one.shape two.shape a.board b.board in
      let infos : one.info ≡ two.info = IsInformation-only raw one.info two.info a.info b.info in
      let nodes : one.nodes ≡ two.nodes = AllZip-only (IsNodeOf text one.shape) (IsNodeOf-only text one.shape) raw.nodes one.nodes two.nodes a.nodes (subst (λ shape. AllZip (IsNodeOf text shape) raw.nodes two.nodes) (sym shapes) b.nodes) in
      let trees : record { shape = one.shape; info = one.info; nodes = one.nodes } ≡ record { shape = two.shape; info = two.info; nodes = two.nodes } = cc (shapes, infos, nodes) in
      trees

  -- a collection has one list of trees only
  pub AreTreesOf-only : (collection : Collection) (one two : List Tree) → AreTreesOf text collection one → AreTreesOf text collection two → one ≡ two
  AreTreesOf-only collection one two a b = AllZip-only (IsTreeOf text) IsTreeOf-only collection.games one two a b
