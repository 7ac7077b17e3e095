-- One cell more.
use Rattle.std.proofs.Common.{◌≡◌, ℕ, ◌+◌, ◌*◌, ◌<◌, ◌∙◌, length, refl, ap, arith, subst}
use Rattle.std.proofs.lemmas.Nat.{mul-add-lt}
use Rattle.kb_geometry.specs.Board.{cols_of, rows_of}
use Rattle.ready_images.specs.StoredWants.{ArePartedOn, grid_with}
use Rattle.ready_images.proofs.WantLists.{ArePartedOn-more, ArePartedOn-none, IsWantPut-read}
use Rattle.ready_images.proofs.wanted.add_row.Goals as goal

pub loop-x-init : goal.loop-x-init
loop-x-init c =
    let grid = grid_with c.args.size c.args.cells.now in
    subst (λ (n : ℕ). ArePartedOn c.args.shape grid (c.args.y * cols_of c.args.size) n c.args.lists.now c.args.lists.now) (omega arith)
    (ArePartedOn-none c.args.shape grid (c.args.y * cols_of c.args.size) c.args.lists.now)

pub loop-x-preserved : goal.loop-x-preserved
loop-x-preserved c =
    let grid = grid_with c.args.size c.args.cells.now in
    let x = c.loop-x.x in
    let y = c.args.y in
    let column : x < cols_of c.args.size = omega arith in
    let cols : c.from-cols.result ≡ cols_of c.args.size = c.from-cols.ensures ∙ c.cols.ensures.value in
    let at : c.from.result * c.from-cols.result + x ≡ y * cols_of c.args.size + x = ap (λ (n : ℕ). n * c.from-cols.result + x) c.from.ensures ∙ ap (λ (n : ℕ). y * n + x) cols in
    let lt : c.from.result * c.from-cols.result + x < length c.args.cells.now = omega (arith, at, mul-add-lt y (cols_of c.args.size) x (rows_of c.args.size) c.requires.row column, c.requires.count) in
    let behind : c.from-2.result * c.from-3.result + x ≡ y * cols_of c.args.shape + x = ap (λ (n : ℕ). n * c.from-3.result + x) c.from-2.ensures ∙ ap (λ (n : ℕ). y * n + x) (c.from-3.ensures ∙ c.cols-2.ensures.value) in
    let old = c.loop-x.lists in
    let new = c.add_cell.new.lists in
    subst (λ (n : ℕ). ArePartedOn c.args.shape grid (y * cols_of c.args.size) n c.args.lists.now new) (omega arith)
    (ArePartedOn-more c.args.shape grid c.args.size refl refl x y column c.requires.row (y * cols_of c.args.size) c.args.lists.now old new c.loop-x.invariant
    (IsWantPut-read c.args.shape grid 0 _ _ x y _ old.wants.items new.wants.items at lt behind c.in_ok-add_cell.ensures.stones)
    (IsWantPut-read c.args.shape grid 1 _ _ x y _ old.mixed.items new.mixed.items at lt behind c.in_ok-add_cell.ensures.mixed)
    (IsWantPut-read c.args.shape grid 2 _ _ x y _ old.empties.items new.empties.items at lt behind c.in_ok-add_cell.ensures.empties))

pub returns : goal.returns
returns c =
    let grid = grid_with c.args.size c.args.cells.now in
    let cols : c.loop-x.x ≡ cols_of c.args.size = omega arith in
    let next : c.args.y * cols_of c.args.size + c.loop-x.x ≡ (c.args.y + 1) * cols_of c.args.size = omega (arith, cols) in
    subst (λ (n : ℕ). ArePartedOn c.args.shape grid (c.args.y * cols_of c.args.size) n c.args.lists.now c.loop-x.lists) next c.loop-x.invariant
