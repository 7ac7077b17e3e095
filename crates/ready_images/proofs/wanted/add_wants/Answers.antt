-- One row more, and the two lists at the end.
use Rattle.std.proofs.Common.{◌≡◌, ℕ, ◌+◌, ◌-◌, ◌*◌, ◌++◌, ◌∙◌, List, ap, arith, length, subst, append_assoc}
use Rattle.std.proofs.lemmas.List.{length-append}
use Rattle.std.proofs.Math.Nat.{mul_comm}
use Rattle.kb_geometry.specs.declared.shape.Shape.{Shape}
use Rattle.kb_geometry.specs.Board.{cols_of, rows_of}
use Rattle.pattern_images.specs.Grid.{Grid}
use Rattle.pattern_images.specs.ImageList.{grid_at}
use Rattle.ready_images.specs.declared.want.Want.{Want}
use Rattle.ready_images.specs.StoredWants.{AreClassWants, ArePartedOn, grid_with}
use Rattle.ready_images.proofs.WantLists.{AreClassWants-parted, grid_with-same}
use Rattle.ready_images.proofs.wanted.add_wants.Goals as goal

pub loop-y-preserved : goal.loop-y-preserved
loop-y-preserved c =
    subst (λ (s : Shape). ArePartedOn s (grid_with c.class_size-size.result c.class_cells-cells.result.now) (c.loop-y.y * cols_of c.class_size-size.result) ((c.loop-y.y + 1) * cols_of c.class_size-size.result) c.loop-y.lists c.add_row.new.lists)
    c.shape.ensures.value c.in_ok-add_row.ensures c.args.lists.now.wants.items c.loop-y.invariant

pub returns : goal.returns
returns c =
    let shape = c.args.images.now.shape in
    let size = c.class_size-size.result in
    let cells = c.class_cells-cells.result.now in
    let grid = grid_with size cells in
    let of_class = grid_at c.args.images.now.grids c.args.class in
    let before = c.args.lists.now.wants.items in
    let parted = c.loop-y.invariant in
    let mixed = c.loop-y.lists.mixed.items in
    let empties = c.loop-y.lists.empties.items in
    let stones = parted.stones.more in
    let rows : c.loop-y.y ≡ rows_of size = omega arith in
    let all : c.loop-y.y * cols_of size ≡ cols_of size * rows_of size = ap (λ (n : ℕ). n * cols_of size) rows ∙ mul_comm (rows_of size) (cols_of size) in
    let same = grid_with-same size cells of_class c.class_size-size.ensures.cols c.class_size-size.ensures.rows c.class_cells-cells.ensures.value in
    let first : c.extend_from_slice.new.self.items ≡ before ++ (stones ++ mixed) =
    c.in_ok-extend_from_slice.ensures.items ∙ ap (λ (ws : List Want). c.loop-y.lists.wants.items ++ ws) c.deref.ensures.value ∙ ap (λ (ws : List Want). ws ++ mixed) parted.stones.added ∙ append_assoc before stones mixed in
    let whole : c.extend_from_slice-2.new.self.items ≡ before ++ (stones ++ (mixed ++ empties)) =
    c.in_ok-extend_from_slice-2.ensures.items ∙ ap (λ (ws : List Want). c.extend_from_slice.new.self.items ++ ws) c.deref-2.ensures.value ∙ ap (λ (ws : List Want). ws ++ empties) first
    ∙ append_assoc before (stones ++ mixed) empties ∙ ap (λ (ws : List Want). before ++ ws) (append_assoc stones mixed empties) in
    let start : c.len-start.result ≡ length before = omega (arith, c.len-start.ensures) in
    let second : c.len-mixed.result ≡ length before + length stones = omega (arith, c.len-mixed.ensures, ap length parted.stones.added, length-append before stones) in
    let third : c.len-empties.result ≡ length before + (length stones + length mixed) =
    omega (arith, c.len-empties.ensures, ap length first, length-append before (stones ++ mixed), length-append stones mixed) in
    record {
      more = stones ++ (mixed ++ empties);
      added = whole;
      from = start;
      to = omega (arith, c.len.ensures);
      behind = omega (arith, start, second);
      ordered = omega (arith, second, third);
      wants = subst (λ (g : Grid). AreClassWants shape g (c.len-mixed.result - c.len-start.result) (c.len-empties.result - c.len-start.result) (stones ++ (mixed ++ empties))) same
          (AreClassWants-parted shape grid (c.loop-y.y * cols_of size) all before c.loop-y.lists parted (c.len-mixed.result - c.len-start.result) (c.len-empties.result - c.len-start.result) (omega (arith, start, second)) (omega (arith, start, third)));
    }
