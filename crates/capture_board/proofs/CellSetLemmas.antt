-- The cells of a board in fixed room, and the points by their cells.
use Prim.Native.Nat.{zero}
use Rattle.std.proofs.Common.{◌≡◌, ◌≢◌, ℕ, ◌+◌, ◌<◌, ◌≤◌, ◌↔◌, ◌⊎◌, suc, List, [], ◌∷◌, length, get_or, set, take, replicate, All, refl, sym, ◌∙◌, ap, subst, arith, inl, inr}
use Rattle.std.proofs.lemmas.Bool.{cases_eq}
use Rattle.std.proofs.lemmas.List.{get_or-replicate, get_or-take, get_or-set_same, get_or-set_other, take_more}
use Rattle.std.specs.Prelude.{Contains}
use Rattle.kb_geometry.specs.declared.shape.Shape.{Shape}
use Rattle.kb_geometry.specs.declared.stone.Cell.{Cell}
use Rattle.kb_geometry.specs.declared.stone.Cell.TheVariants as cell
use Rattle.kb_geometry.specs.declared.stone.Change.{Change}
use Rattle.kb_geometry.specs.Board.{point_count}
use Rattle.kb_geometry.specs.Capture.{Position, cell_at}
use Rattle.capture_board.specs.declared.cell_sets.PointsByCell.{PointsByCell}
use Rattle.capture_board.specs.Board.{ShapedPosition}
use Rattle.capture_board.specs.Changes.{with_changes}
use Rattle.capture_board.specs.StoredWalking.{ArePointsOf, points_in, with_old_cells}
use Rattle.capture_board.proofs.Cells.{cases_cell}
use Rattle.capture_board.proofs.MadeChanges.{with_changes-append, with_old_cells-append}

-- a cell that is set in the part of the room that is used
pub take_set : {X : Type 0} (n i : ℕ) (xs : List X) (x : X) → i < n → take n (set xs i x) ≡ set (take n xs) i x
take_set zero i xs x h = absurd (omega arith)
take_set (suc n) i [] x h = refl
take_set (suc n) zero (y ∷ ys) x h = refl
take_set (suc n) (suc i) (y ∷ ys) x h = ap (λ zs. y ∷ zs) (take_set n i ys x (omega arith))

-- the board with this position
abbrev pub board_with : Shape → Position → ShapedPosition
board_with shape position = record { shape = shape; position = position }

-- one change more of a list, which are made or taken back on the board `start`
module _ (start board : ShapedPosition) (cs : List Change) (i : ℕ) (d : Change) (h : i < length cs) where
  with_changes-more : with_changes start.position (take (i + 1) cs) ≡ set (with_changes start.position (take i cs)) (get_or cs i d).point (get_or cs i d).new
  with_changes-more = ap (with_changes start.position) (take_more cs i d h) ∙ with_changes-append start.position (take i cs) (get_or cs i d ∷ [])

  with_old_cells-more : with_old_cells start.position (take (i + 1) cs) ≡ set (with_old_cells start.position (take i cs)) (get_or cs i d).point (get_or cs i d).old
  with_old_cells-more = ap (with_old_cells start.position) (take_more cs i d h) ∙ with_old_cells-append start.position (take i cs) (get_or cs i d ∷ [])

  -- it is on the board
  pub more_on_board : (position : Position) → board ≡ board_with start.shape position → All (λ (c : Change). c.point < point_count start.shape) cs → (get_or cs i d).point < point_count board.shape
  more_on_board position e on_board = omega (arith, ap (λ (b : ShapedPosition). point_count b.shape) e, on_board i d h)

  module _ (next : ShapedPosition) where
    pub made_more : board ≡ board_with start.shape (with_changes start.position (take i cs)) → next ≡ board_with board.shape (set board.position (get_or cs i d).point (get_or cs i d).new) → next ≡ board_with start.shape (with_changes start.position (take (i + 1) cs))
    made_more e put =
        put
        ∙ ap (λ (b : ShapedPosition). board_with b.shape (set b.position (get_or cs i d).point (get_or cs i d).new)) e
        ∙ ap (board_with start.shape) (sym with_changes-more)

    pub taken_more : board ≡ board_with start.shape (with_old_cells start.position (take i cs)) → next ≡ board_with board.shape (set board.position (get_or cs i d).point (get_or cs i d).old) → next ≡ board_with start.shape (with_old_cells start.position (take (i + 1) cs))
    taken_more e put =
        put
        ∙ ap (λ (b : ShapedPosition). board_with b.shape (set b.position (get_or cs i d).point (get_or cs i d).old)) e
        ∙ ap (board_with start.shape) (sym with_old_cells-more)

-- ---- the points by their cells

-- a set that takes the place of one of the three leaves the others
pub other_than_empty : (points : PointsByCell) (set : List ℕ) (c : Cell) → c ≢ cell.Empty → points_in (record { empty = set; black = points.black; white = points.white }) c ≡ points_in points c
other_than_empty points set cell.Empty ne = absurd (ne refl)
other_than_empty points set cell.Black ne = refl
other_than_empty points set cell.White ne = refl

pub other_than_black : (points : PointsByCell) (set : List ℕ) (c : Cell) → c ≢ cell.Black → points_in (record { empty = points.empty; black = set; white = points.white }) c ≡ points_in points c
other_than_black points set cell.Empty ne = refl
other_than_black points set cell.Black ne = absurd (ne refl)
other_than_black points set cell.White ne = refl

pub other_than_white : (points : PointsByCell) (set : List ℕ) (c : Cell) → c ≢ cell.White → points_in (record { empty = points.empty; black = points.black; white = set }) c ≡ points_in points c
other_than_white points set cell.Empty ne = refl
other_than_white points set cell.Black ne = refl
other_than_white points set cell.White ne = absurd (ne refl)

-- a point more or less in the set of one cell
module _ (old new : PointsByCell) (stone variant : Cell) (is : stone ≡ variant) (point : ℕ) (others : (c : Cell) → c ≢ variant → points_in new c ≡ points_in old c) where
  pub removed_only : ((p : ℕ) → Contains (points_in new variant) p ↔ (Contains (points_in old variant) p × (p ≢ point))) → (c : Cell) (p : ℕ) → Contains (points_in new c) p ↔ (Contains (points_in old c) p × ((c ≢ stone) ⊎ (p ≢ point)))
  removed_only removed c p =
      elim (cases_cell c variant) [
        | inl e ↦
            let r = subst (λ (v : Cell). Contains (points_in new v) p ↔ (Contains (points_in old v) p × (p ≢ point))) (sym e) (removed p) in
            (λ h. ((r.0 h).0, inr (r.0 h).1), λ h. r.1 (h.0, elim h.1 [ inl ne ↦ absurd (ne (e ∙ sym is)) | inr ne ↦ ne ]))
        | inr ne ↦
            let same = others c ne in (
              λ h. (subst (λ (ns : List ℕ). Contains ns p) same h, inl (λ f. ne (f ∙ is))),
              λ h. subst (λ (ns : List ℕ). Contains ns p) (sym same) h.0,
            )
      ]

  pub inserted_only : ((p : ℕ) → Contains (points_in new variant) p ↔ (Contains (points_in old variant) p ⊎ (p ≡ point))) → (c : Cell) (p : ℕ) → Contains (points_in new c) p ↔ (Contains (points_in old c) p ⊎ ((c ≡ stone) × (p ≡ point)))
  inserted_only inserted c p =
      elim (cases_cell c variant) [
        | inl e ↦
            let r = subst (λ (v : Cell). Contains (points_in new v) p ↔ (Contains (points_in old v) p ⊎ (p ≡ point))) (sym e) (inserted p) in (
              λ h. elim (r.0 h) [ inl there ↦ inl there | inr here ↦ inr (e ∙ sym is, here) ],
              λ h. r.1 (elim h [ inl there ↦ inl there | inr both ↦ inr both.1 ]),
            )
        | inr ne ↦
            let same = others c ne in (
              λ h. inl (subst (λ (ns : List ℕ). Contains ns p) same h),
              λ h. elim h [ inl there ↦ subst (λ (ns : List ℕ). Contains ns p) (sym same) there | inr both ↦ absurd (ne (both.0 ∙ is)) ],
            )
      ]

-- the cell of a point goes from one set to another
module _ (count : ℕ) (cells : Position) (before between after : PointsByCell) (point : ℕ) (old new : Cell) (here : old ≡ cell_at cells point) (within : point < count) (room : count ≤ length cells) where
  pub ArePointsOf-put : ArePointsOf count cells before
      → ((c : Cell) (p : ℕ) → Contains (points_in between c) p ↔ (Contains (points_in before c) p × ((c ≢ old) ⊎ (p ≢ point))))
      → ((c : Cell) (p : ℕ) → Contains (points_in after c) p ↔ (Contains (points_in between c) p ⊎ ((c ≡ new) × (p ≡ point))))
      → ArePointsOf count (set cells point new) after
  ArePointsOf-put are removed inserted c p =
      let set_here : cell_at (set cells point new) point ≡ new = get_or-set_same cells point new cell.Empty (omega arith) in
      elim (cases_eq p point) [
        | inl e ↦ (
          λ h. elim ((inserted c p).0 h) [
            | inl there ↦
                let r = (removed c p).0 there in
                let was = (are c p).0 r.0 in
                elim r.1 [
                  | inl ne ↦ absurd (ne (sym was.1 ∙ ap (cell_at cells) e ∙ sym here))
                  | inr ne ↦ absurd (ne e)
                ]
            | inr both ↦ (omega arith, ap (cell_at (set cells point new)) e ∙ set_here ∙ sym both.0)
          ],
          λ h. (inserted c p).1 (inr (sym h.1 ∙ ap (cell_at (set cells point new)) e ∙ set_here, e)),
        )
        | inr ne ↦
            let kept : cell_at (set cells point new) p ≡ cell_at cells p = get_or-set_other cells point p new cell.Empty ne in (
              λ h. elim ((inserted c p).0 h) [
                | inl there ↦
                    let was = (are c p).0 ((removed c p).0 there).0 in
                    (was.0, kept ∙ was.1)
                | inr both ↦ absurd (ne both.1)
              ],
              λ h. (inserted c p).1 (inl ((removed c p).1 ((are c p).1 (h.0, sym kept ∙ h.1), inr ne))),
            )
      ]

-- the board without a stone has all its points in the set of the empty cell
module _ (count : ℕ) (cells : Position) (points : PointsByCell)
    (none : take count cells ≡ replicate count cell.Empty)
    (all : (p : ℕ) → Contains points.empty p ↔ (p < count))
    (no_black : points.black ≡ []) (no_white : points.white ≡ []) where
  empty_cell : (p : ℕ) → p < count → cell_at cells p ≡ cell.Empty
  empty_cell p h =
      sym (get_or-take count cells p cell.Empty h) ∙ ap (λ (q : Position). cell_at q p) none
      ∙ get_or-replicate count p cell.Empty cell.Empty h

  none_there : (ns : List ℕ) (p : ℕ) → ns ≡ [] → Contains ns p → ⊥
  none_there ns p e there = omega (arith, there.1, ap length e)

  pub ArePointsOf-empty : ArePointsOf count cells points
  ArePointsOf-empty cell.Empty p =
      (λ h. ((all p).0 h, empty_cell p ((all p).0 h)), λ h. (all p).1 h.0)
  ArePointsOf-empty cell.Black p = (
    λ h. absurd (none_there points.black p no_black h),
    λ h. let e : cell.Empty ≡ cell.Black = sym (empty_cell p h.0) ∙ h.1 in absurd cc,
  )
  ArePointsOf-empty cell.White p = (
    λ h. absurd (none_there points.white p no_white h),
    λ h. let e : cell.Empty ≡ cell.White = sym (empty_cell p h.0) ∙ h.1 in absurd cc,
  )

-- the set of a cell has the points of the position that have it
module _ (shape : Shape) (cells : Position) (points : PointsByCell) (are : ArePointsOf (point_count shape) cells points) where
  points_within : (stone : Cell) (p : ℕ) → Contains (points_in points stone) p ↔ ((p < point_count shape) × (cell_at (take (point_count shape) cells) p ≡ stone))
  points_within stone p = (
    λ h. let there = (are stone p).0 h in (there.0, get_or-take (point_count shape) cells p cell.Empty there.0 ∙ there.1),
    λ h. (are stone p).1 (h.0, sym (get_or-take (point_count shape) cells p cell.Empty h.0) ∙ h.1),
  )

  pub points_shown : (board : ShapedPosition) → board_with shape (take (point_count shape) cells) ≡ board → (stone variant : Cell) → stone ≡ variant → (p : ℕ) → Contains (points_in points variant) p ↔ ((p < point_count board.shape) × (cell_at board.position p ≡ stone))
  points_shown board view stone variant is p =
      subst (λ (b : ShapedPosition). Contains (points_in points variant) p ↔ ((p < point_count b.shape) × (cell_at b.position p ≡ stone))) view
      (subst (λ (s : Cell). Contains (points_in points variant) p ↔ ((p < point_count shape) × (cell_at (take (point_count shape) cells) p ≡ s))) (sym is) (points_within variant p))
