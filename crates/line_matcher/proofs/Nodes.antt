-- What begins to hold at a node: what its changes touch, among what holds there.
use Rattle.std.proofs.Common.{◌≡◌, ◌≢◌, ℕ, ◌+◌, ◌<◌, ◌≤◌, ◌⊎◌, inl, inr, Bool, true, false, not, List, [], ◌∷◌, ◌++◌, length, get_or, Option, Some, None, refl, sym, ap, ◌∙◌, arith, subst, Contains}
use Rattle.std.specs.Prelude.{◌&&◌, ◌||◌, Any}
use Rattle.std.specs.List.{flat_map, range_with_len}
use Rattle.std.specs.Option.{option_map_or}
use Rattle.std.proofs.lemmas.Bool.{cases_Bool, false≢true, false_from_ne_true, and_parts, and_right, or_cases}
use Rattle.std.proofs.lemmas.List.{append-nil, flat_map_more, get_or_default}
use Rattle.kb_geometry.specs.declared.shape.Shape.{Shape}
use Rattle.kb_geometry.specs.declared.shape.Point.{Point}
use Rattle.kb_geometry.specs.declared.shape.Rect.{Rect}
use Rattle.kb_geometry.specs.declared.stone.Cell.{Cell}
use Rattle.kb_geometry.specs.declared.stone.Cell.TheVariants as stone
use Rattle.kb_geometry.specs.declared.stone.Change.{Change}
use Rattle.kb_geometry.specs.declared.stone.Colour.{Colour}
use Rattle.kb_geometry.specs.declared.stone.Colour.TheVariants as side
use Rattle.kb_geometry.specs.Board.{IsInside, IsOnBoard, number_of}
use Rattle.kb_geometry.specs.Capture.{Position, cell_at}
use Rattle.kb_geometry.specs.Symmetry.{point_of}
use Rattle.capture_board.specs.Changes.{AreChangesOf, with_changes}
use Rattle.capture_board.specs.Deltas.{AreDeltas, Deltas, changes_of, parent_of, position_at, position_where}
use Rattle.capture_board.proofs.DeltaPaths.{position_at-step}
use Rattle.capture_board.proofs.NetChanges.{AreChangesOf-apart, at_change, changed_or_not, with_changes-new, with_changes-unchanged}
use Rattle.pattern_images.specs.declared.cell.PatternCell.{PatternCell}
use Rattle.pattern_images.specs.declared.cell.PatternCell.TheVariants as cell
use Rattle.pattern_images.specs.Grid.{Grid, cell_in}
use Rattle.pattern_images.specs.Holds.{Allows, Holds, number_under}
use Rattle.pattern_images.specs.ImageList.{AreImages, ImageList, IsPlacedOn, grid_at, no_grid, placement_at}
use Rattle.pattern_images.specs.Placements.{Placement}
use Rattle.pattern_occurrences.specs.declared.occurrence.Occurrence.{Occurrence}
use Rattle.pattern_occurrences.specs.Occurrences.{begins_at, holds, holds_at, occurrences_at}
use Rattle.pattern_occurrences.proofs.HoldsLaw.{holds-decides}
use Rattle.line_matcher.specs.declared.changed.Concerned.{Concerned}
use Rattle.line_matcher.specs.declared.matcher.Size.{Size}
use Rattle.line_matcher.specs.Areas.{HoldsChanges, IsReach}
use Rattle.line_matcher.specs.Begins.{AreOccurrencesAdded, holds_anew, occurrences_below, touches}
use Rattle.line_matcher.specs.Concerned.{AreConcerned, ArePointsWith}
use Rattle.line_matcher.specs.Masks.{asks, asks_black, asks_white}
use Rattle.line_matcher.specs.Matchers.{AreMost}
use Rattle.line_matcher.specs.Nodes.{IsFoundAtRoot, IsFoundByChanges, IsFoundAtNode, IsFoundTo}
use Rattle.line_matcher.proofs.Beginning.{Touched, touches-decides}
use Rattle.line_matcher.proofs.FoundLists.{IsAdded-skip, occurrences_below-agree, range_more}

-- a cell that asks of black allows no two cells of which one is black
no_black : (c : PatternCell) (s t : Cell) → asks_black c ≡ true → Allows c s → Allows c t → s ≢ t →
    (s ≡ stone.Black) ⊎ (t ≡ stone.Black) → ⊥
no_black cell.Any s t e one other differ is = false≢true e
no_black cell.NotWhite s t e one other differ is = false≢true e
no_black cell.Empty s t e one other differ is = differ (one ∙ sym other)
no_black cell.Black s t e one other differ is = differ (one ∙ sym other)
no_black cell.White s t e one other differ is = differ (one ∙ sym other)
no_black cell.NotBlack s t e one other differ (inl is) = one is
no_black cell.NotBlack s t e one other differ (inr is) = other is

-- one that asks of white no two of which one is white
no_white : (c : PatternCell) (s t : Cell) → asks_white c ≡ true → Allows c s → Allows c t → s ≢ t →
    (s ≡ stone.White) ⊎ (t ≡ stone.White) → ⊥
no_white cell.Any s t e one other differ is = false≢true e
no_white cell.NotBlack s t e one other differ is = false≢true e
no_white cell.Empty s t e one other differ is = differ (one ∙ sym other)
no_white cell.Black s t e one other differ is = differ (one ∙ sym other)
no_white cell.White s t e one other differ is = differ (one ∙ sym other)
no_white cell.NotWhite s t e one other differ (inl is) = one is
no_white cell.NotWhite s t e one other differ (inr is) = other is

neither : (s : Cell) → s ≢ stone.Black → s ≢ stone.White → s ≡ stone.Empty
neither stone.Empty no_b no_w = refl
neither stone.Black no_b no_w = absurd (no_b refl)
neither stone.White no_b no_w = absurd (no_w refl)

-- what a cell asks of is the same in both, so it allows the one as it allows the other
still_allowed : (c : PatternCell) (s t : Cell) → (asks_black c ≡ true → (s ≡ stone.Black) ⊎ (t ≡ stone.Black) → ⊥) →
    (asks_white c ≡ true → (s ≡ stone.White) ⊎ (t ≡ stone.White) → ⊥) → Allows c t → Allows c s
still_allowed cell.Any s t black white allowed = tt
still_allowed cell.Empty s t black white allowed = neither s (λ e. black refl (inl e)) (λ e. white refl (inl e))
still_allowed cell.Black s t black white allowed = absurd (black refl (inr allowed))
still_allowed cell.White s t black white allowed = absurd (white refl (inr allowed))
still_allowed cell.NotWhite s t black white allowed = λ e. white refl (inl e)
still_allowed cell.NotBlack s t black white allowed = λ e. black refl (inl e)

or_false : (a b : Bool) → (a || b) ≡ false → (a ≡ false) × (b ≡ false)
or_false true b e = absurd (false≢true (sym e))
or_false false b e = (refl, e)

-- ---- a position and the one after changes
module _ (shape : Shape) (before : Position) (cs : List Change) (of : AreChangesOf before cs) (points : Concerned) (are_points : AreConcerned cs points) (placement : Placement) where
  abbrev after : Position
  after = with_changes before cs

  -- a change tells what stood on its point and what stands there, which differ
  record HasChanged (c : Change) (p : ℕ) : Type 0 where
    old : c.old ≡ cell_at before p
    new : c.new ≡ cell_at after p
    differ : cell_at before p ≢ cell_at after p

  has_changed : (p k : ℕ) (c : Change) → k < length cs → get_or cs k c ≡ c → c.point ≡ p → HasChanged c p
  has_changed p k c lt at is =
      let old : c.old ≡ cell_at before c.point = at_change (λ (d : Change). d.old ≡ cell_at before d.point) cs of.old k c lt at in
      let new : cell_at after c.point ≡ c.new =
      at_change (λ (d : Change). cell_at after d.point ≡ d.new) cs (with_changes-new before cs of.on_board (AreChangesOf-apart before cs of)) k c lt at in
      let old_there : c.old ≡ cell_at before p = old ∙ ap (cell_at before) is in
      let new_there : c.new ≡ cell_at after p = sym new ∙ ap (cell_at after) is in
      record {
        old = old_there;
        new = new_there;
        differ = λ same. at_change (λ (d : Change). d.old ≢ d.new) cs of.differ k c lt at (old_there ∙ same ∙ sym new_there);
      }

  -- the stone of the change stood there or stands there
  stone_there : (s : Cell) (c : Change) (p : ℕ) → HasChanged c p → (c.old ≡ s) ⊎ (c.new ≡ s) → (cell_at before p ≡ s) ⊎ (cell_at after p ≡ s)
  stone_there s c p has (inl was) = inl (sym has.old ∙ was)
  stone_there s c p has (inr is) = inr (sym has.new ∙ is)

  -- and back
  stone_of : (s : Cell) (c : Change) (p : ℕ) → HasChanged c p → (cell_at before p ≡ s) ⊎ (cell_at after p ≡ s) → (c.old ≡ s) ⊎ (c.new ≡ s)
  stone_of s c p has (inl was) = inl (has.old ∙ was)
  stone_of s c p has (inr is) = inr (has.new ∙ is)

  -- a touched placement that holds afterwards did not hold before
  black_before : (dx dy : ℕ) → Touched (asks side.Black) shape points.black placement dx dy → Holds shape after placement → Holds shape before placement → ⊥
  black_before dx dy at holds_after holds_before =
      let p = number_under shape placement dx dy in
      let change = (are_points.black p).0 at.point in
      let has = has_changed p change.0 change.1 change.2 change.3 change.4.0 in
      no_black (cell_in placement.grid dx dy) (cell_at before p) (cell_at after p) at.care (holds_before dx dy at.column at.row) (holds_after dx dy at.column at.row)
      has.differ (stone_there stone.Black change.1 p has change.4.1)

  white_before : (dx dy : ℕ) → Touched (asks side.White) shape points.white placement dx dy → Holds shape after placement → Holds shape before placement → ⊥
  white_before dx dy at holds_after holds_before =
      let p = number_under shape placement dx dy in
      let change = (are_points.white p).0 at.point in
      let has = has_changed p change.0 change.1 change.2 change.3 change.4.0 in
      no_white (cell_in placement.grid dx dy) (cell_at before p) (cell_at after p) at.care (holds_before dx dy at.column at.row) (holds_after dx dy at.column at.row)
      has.differ (stone_there stone.White change.1 p has change.4.1)

  -- one that no change touches held
  untouched_before : ((dx dy : ℕ) → Touched (asks side.Black) shape points.black placement dx dy → ⊥) →
      ((dx dy : ℕ) → Touched (asks side.White) shape points.white placement dx dy → ⊥) → Holds shape after placement → Holds shape before placement
  untouched_before no_b no_w holds_after dx dy column row =
      let p = number_under shape placement dx dy in
      let c = cell_in placement.grid dx dy in
      elim (changed_or_not p cs) [
        | inl (k, d, lt, at, is) ↦
            let has = has_changed p k d lt at is in
            still_allowed c (cell_at before p) (cell_at after p)
            (λ care there. no_b dx dy (record {
              column = column;
              row = row;
              care = care;
              point = (are_points.black p).1 (k, d, lt, at, (is, stone_of stone.Black d p has there));
            }))
            (λ care there. no_w dx dy (record {
              column = column;
              row = row;
              care = care;
              point = (are_points.white p).1 (k, d, lt, at, (is, stone_of stone.White d p has there));
            }))
            (holds_after dx dy column row)
        | inr unchanged ↦ subst (Allows c) (with_changes-unchanged before cs p unchanged) (holds_after dx dy column row)
      ]

  abbrev touched : Bool
  touched = touches (asks side.Black) shape points.black placement || touches (asks side.White) shape points.white placement

  touched_cases : touched ≡ true → Holds shape after placement → Holds shape before placement → ⊥
  touched_cases t holds_after holds_before =
      elim (or_cases (touches (asks side.Black) shape points.black placement) (touches (asks side.White) shape points.white placement) t) [
        | inl b ↦ let at = (touches-decides (asks side.Black) shape points.black placement).0 b in black_before at.0 at.1 at.2 holds_after holds_before
        | inr w ↦ let at = (touches-decides (asks side.White) shape points.white placement).0 w in white_before at.0 at.1 at.2 holds_after holds_before
      ]

  no_touch : (colour : Colour) (ps : List ℕ) → touches (asks colour) shape ps placement ≡ false → (dx dy : ℕ) → Touched (asks colour) shape ps placement dx dy → ⊥
  no_touch colour ps none dx dy at = false≢true (sym none ∙ (touches-decides (asks colour) shape ps placement).1 (dx, dy, at))

  -- a placement that holds afterwards held before, unless it is touched
  pub touched-is_new : holds shape after placement ≡ true → touched ≡ not (holds shape before placement)
  touched-is_new t =
      let holds_after = (holds-decides shape after placement).0 t in
      elim (cases_Bool touched) [
        | inl touched_there ↦
            let gone : holds shape before placement ≡ false =
            false_from_ne_true (holds shape before placement) (λ held. touched_cases touched_there holds_after ((holds-decides shape before placement).0 held)) in
            touched_there ∙ sym (ap not gone)
        | inr untouched ↦
            let parts = or_false (touches (asks side.Black) shape points.black placement) (touches (asks side.White) shape points.white placement) untouched in
            let held : holds shape before placement ≡ true = (holds-decides shape before placement).1
            (untouched_before (no_touch side.Black points.black parts.0) (no_touch side.White points.white parts.1) holds_after) in
            untouched ∙ sym (ap not held)
      ]

  and_same : (b x y : Bool) → (b ≡ true → x ≡ y) → (b && x) ≡ (b && y)
  and_same true x y same = same refl
  and_same false x y same = refl

  pub holds_anew-touched : holds_anew shape after (Some points) placement ≡ (holds shape after placement && not (holds shape before placement))
  holds_anew-touched = and_same (holds shape after placement) touched (not (holds shape before placement)) touched-is_new

-- ---- the nodes of a game
module _ (deltas : Deltas) (placement : Placement) (n : ℕ) where
  -- at the root
  pub begins_at-root : parent_of deltas n ≡ None → holds_anew deltas.shape (position_at deltas n) None placement ≡ begins_at deltas placement n
  begins_at-root e = ap (λ o. holds_at deltas placement n && not (option_map_or (holds_at deltas placement) o false)) (sym e)

  -- at any other node
  pub begins_at-child : (m : ℕ) → AreDeltas deltas → parent_of deltas n ≡ Some m → AreChangesOf (position_where deltas (parent_of deltas n)) (changes_of deltas n) →
      (points : Concerned) → AreConcerned (changes_of deltas n) points → holds_anew deltas.shape (position_at deltas n) (Some points) placement ≡ begins_at deltas placement n
  begins_at-child m are e of points are_points =
      let cs = changes_of deltas n in
      let before : AreChangesOf (position_at deltas m) cs = subst (λ (o : Option ℕ). AreChangesOf (position_where deltas o) cs) e of in
      let step : position_at deltas n ≡ with_changes (position_at deltas m) cs = position_at-step deltas are n ∙ ap (λ (o : Option ℕ). with_changes (position_where deltas o) cs) e in
      ap (λ (q : Position). holds_anew deltas.shape q (Some points) placement) step
      ∙ holds_anew-touched deltas.shape (position_at deltas m) cs before points are_points placement
      ∙ ap (λ (q : Position). holds deltas.shape q placement && not (holds_at deltas placement m)) (sym step)
      ∙ ap (λ (o : Option ℕ). holds_at deltas placement n && not (option_map_or (holds_at deltas placement) o false)) (sym e)

-- what was found by a test that tells what begins at a node
pub IsFoundAtNode-added : (deltas : Deltas) (placements : List Placement) (node : ℕ) (test : Placement → Bool) (old new : List Occurrence) → ((placement : Placement) → test placement ≡ begins_at deltas placement node) →
    AreOccurrencesAdded placements test node 0 (length placements) old new → IsFoundAtNode deltas placements node old new
IsFoundAtNode-added deltas placements node test old new agree added =
    let e : occurrences_below placements test node (length placements) ≡ occurrences_at deltas placements node =
    occurrences_below-agree placements test (λ p. begins_at deltas p node) node (length placements) (λ i. agree (placement_at placements i)) in
    added.grown old (sym (append-nil old)) ∙ ap (λ (os : List Occurrence). old ++ os) e

pub found_at_root : (deltas : Deltas) (images : ImageList) (position : Position) (node : ℕ) (old new : List Occurrence) → images.shape ≡ deltas.shape → position ≡ position_at deltas node → parent_of deltas node ≡ None →
    IsFoundAtRoot images position node old new → IsFoundAtNode deltas images.placements node old new
found_at_root deltas images position node old new same_shape shown root added =
    IsFoundAtNode-added deltas images.placements node (holds_anew images.shape position None) old new
    (λ p. ap (λ (s : Shape). holds_anew s position None p) same_shape ∙ ap (λ (q : Position). holds_anew deltas.shape q None p) shown ∙ begins_at-root deltas p node root)
    added

pub found_by_changes : (deltas : Deltas) (images : ImageList) (position : Position) (changes : List Change) (node m : ℕ) (old new : List Occurrence) → images.shape ≡ deltas.shape → position ≡ position_at deltas node → AreDeltas deltas → parent_of deltas node ≡ Some m →
    AreChangesOf (position_where deltas (parent_of deltas node)) changes → changes ≡ changes_of deltas node → IsFoundByChanges images position changes node old new → IsFoundAtNode deltas images.placements node old new
found_by_changes deltas images position changes node m old new same_shape shown are parent of are_changes found =
    let here : AreConcerned (changes_of deltas node) found.points = subst (λ (cs : List Change). AreConcerned cs found.points) are_changes found.are_points in
    IsFoundAtNode-added deltas images.placements node (holds_anew images.shape position (Some found.points)) old new
    (λ p. ap (λ (s : Shape). holds_anew s position (Some found.points) p) same_shape
    ∙ ap (λ (q : Position). holds_anew deltas.shape q (Some found.points) p) shown
    ∙ begins_at-child deltas p node m are parent (subst (AreChangesOf (position_where deltas (parent_of deltas node))) are_changes of) found.points here)
    found.added

-- without changes nothing begins to hold
nothing_concerned : (s : Cell) (changes : List Change) (points : List ℕ) → changes ≡ [] → ArePointsWith s changes points → (p : ℕ) → Contains points p → ⊥
nothing_concerned s changes points none are p h =
    let change = (are p).0 h in omega (arith, change.2, ap (λ (cs : List Change). length cs) none)

module _ (images : ImageList) (position : Position) (changes : List Change) (points : Concerned) (are_points : AreConcerned changes points) (none : changes ≡ []) where
  untouched : (placement : Placement) → holds_anew images.shape position (Some points) placement ≡ false
  untouched placement =
      let black = touches (asks side.Black) images.shape points.black placement in
      let white = touches (asks side.White) images.shape points.white placement in
      and_right (holds images.shape position placement) (black || white)
      (false_from_ne_true (black || white) (λ t. elim (or_cases black white t) [
        | inl b ↦ let at = (touches-decides (asks side.Black) images.shape points.black placement).0 b in nothing_concerned stone.Black changes points.black none are_points.black (number_under images.shape placement at.0 at.1) at.2.point
        | inr w ↦ let at = (touches-decides (asks side.White) images.shape points.white placement).0 w in nothing_concerned stone.White changes points.white none are_points.white (number_under images.shape placement at.0 at.1) at.2.point
      ]))

  pub found_by_none : (node : ℕ) (found : List Occurrence) → IsFoundByChanges images position changes node found found
  found_by_none node found = record {
    points = points;
    are_points = are_points;
    added = IsAdded-skip images.placements (holds_anew images.shape position (Some points)) node 0 (length images.placements) found (omega arith)
        (λ i low lt. untouched (placement_at images.placements i));
  }

-- ---- the first nodes of a game
module _ (deltas : Deltas) (placements : List Placement) where
  pub IsFoundTo-start : (found : List Occurrence) → IsFoundTo deltas placements 0 found found
  IsFoundTo-start found = sym (append-nil found)

  pub IsFoundTo-more : (n : ℕ) (old between new : List Occurrence) → IsFoundTo deltas placements n old between → IsFoundAtNode deltas placements n between new → IsFoundTo deltas placements (n + 1) old new
  IsFoundTo-more n old between new found here =
      let at = occurrences_at deltas placements in
      here
      ∙ ap (λ (os : List Occurrence). os ++ at n) found
      ∙ flat_map_more at old (range_with_len 0 n) n
      ∙ ap (λ (is : List ℕ). old ++ flat_map at is) (sym (range_more 0 n ∙ ap (λ (i : ℕ). range_with_len 0 n ++ i ∷ []) (omega arith)))

-- ---- where what begins has its upper left point
module _ (images : ImageList) (are : AreImages images) where
  placed_at : (i : ℕ) → i < length images.placements → IsPlacedOn images.shape (placement_at images.placements i)
  placed_at i lt = are.placed i (record { label = 0; x = 0; y = 0; grid = no_grid }) lt

  pub inside_whole : (whole : Rect) → ((p : Point) → IsOnBoard images.shape p → IsInside whole p) → (i : ℕ) → i < length images.placements → IsInside whole (point_of (placement_at images.placements i).x (placement_at images.placements i).y)
  inside_whole whole all i lt =
      let placed = placed_at i lt in
      all (point_of (placement_at images.placements i).x (placement_at images.placements i).y) (omega (arith, placed.columns, placed.some_column), omega (arith, placed.rows, placed.some_row))

  -- no placement is greater
  within_most : (most : Size) → AreMost images.grids most → (i : ℕ) → i < length images.placements → ((placement_at images.placements i).grid.cols ≤ most.cols) × ((placement_at images.placements i).grid.rows ≤ most.rows)
  within_most most greatest i lt =
      let placement = placement_at images.placements i in
      let class = are.classes i (record { label = 0; x = 0; y = 0; grid = no_grid }) lt in
      let is : grid_at images.grids class.0 ≡ placement.grid = get_or_default images.grids class.0 no_grid placement.grid class.1 ∙ class.2 in (
        omega (arith, greatest.columns class.0 class.1, ap (λ (g : Grid). g.cols) is),
        omega (arith, greatest.rows class.0 class.1, ap (λ (g : Grid). g.rows) is),
      )

  module _ (position : Position) (changes : List Change) (points : Concerned) (are_points : AreConcerned changes points) (into area : Rect) (held : HoldsChanges images.shape changes into) (most : Size) (greatest : AreMost images.grids most) (reach : IsReach into most.cols most.rows area) where
    -- a placement with a point of the changes under it
    near : (i dx dy : ℕ) → i < length images.placements → dx < (placement_at images.placements i).grid.cols → dy < (placement_at images.placements i).grid.rows →
        Any (λ (c : Change). c.point ≡ number_under images.shape (placement_at images.placements i) dx dy) changes →
        IsInside area (point_of (placement_at images.placements i).x (placement_at images.placements i).y)
    near i dx dy lt column row there =
        let placement = placement_at images.placements i in
        let placed = placed_at i lt in
        let within = within_most most greatest i lt in
        let q : Point = point_of (placement.x + dx) (placement.y + dy) in
        let on_board : IsOnBoard images.shape q = (omega (arith, column, placed.columns), omega (arith, row, placed.rows)) in
        let inside : IsInside into q = at_change (λ (c : Change). (p : Point) → IsOnBoard images.shape p → number_of images.shape p ≡ c.point → IsInside into p) changes held there.0 there.1 there.2 there.3 q on_board (sym there.4) in
        let columns = reach.columns placement.x dx (omega (arith, column, within.0)) inside.0 inside.1 in
        let rows = reach.rows_of_it placement.y dy (omega (arith, row, within.1)) inside.2 inside.3 in
        (columns.0, columns.1, rows.0, rows.1)

    on_point : (s : Cell) (ps : List ℕ) → ArePointsWith s changes ps → (p : ℕ) → Contains ps p → Any (λ (c : Change). c.point ≡ p) changes
    on_point s ps are_with p h = let change = (are_with p).0 h in (change.0, change.1, change.2, change.3, change.4.0)

    pub inside_reach : (i : ℕ) → i < length images.placements → holds_anew images.shape position (Some points) (placement_at images.placements i) ≡ true →
        IsInside area (point_of (placement_at images.placements i).x (placement_at images.placements i).y)
    inside_reach i lt t =
        let placement = placement_at images.placements i in
        let black = touches (asks side.Black) images.shape points.black placement in
        let white = touches (asks side.White) images.shape points.white placement in
        elim (or_cases black white (and_parts (holds images.shape position placement) (black || white) t).1) [
          | inl b ↦
              let at = (touches-decides (asks side.Black) images.shape points.black placement).0 b in
              near i at.0 at.1 lt at.2.column at.2.row (on_point stone.Black points.black are_points.black (number_under images.shape placement at.0 at.1) at.2.point)
          | inr w ↦
              let at = (touches-decides (asks side.White) images.shape points.white placement).0 w in
              near i at.0 at.1 lt at.2.column at.2.row (on_point stone.White points.white are_points.white (number_under images.shape placement at.0 at.1) at.2.point)
        ]
