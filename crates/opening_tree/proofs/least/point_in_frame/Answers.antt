use Rattle.std.proofs.Common.{◌≡◌, ◌<◌, ◌+◌, ◌∙◌, Option, ap, arith, subst, sym}
use Rattle.std.proofs.lemmas.Bool.{false≢true}
use Rattle.kb_geometry.specs.declared.shape.Point.{Point}
use Rattle.kb_geometry.specs.Symmetry.{moved}
use Rattle.opening_tree.specs.Least.{IsLeastTo}
use Rattle.opening_tree.specs.NextMoves.{IsPointInFrame}
use Rattle.opening_tree.proofs.LeastPoints.{least_to-end, least_to-more, least_to-on_board, least_to-other, least_to-start}
use Rattle.opening_tree.proofs.least.point_in_frame.Goals.{then-is_among, else-is_among}
use Rattle.opening_tree.proofs.least.point_in_frame.Goals as goal

pub loop-number-init : goal.loop-number-init
loop-number-init c position canonical are = least_to-start c.args.shape position canonical c.args.point

pub lesser-requires-clause-one_on_board : goal.lesser-requires-clause-one_on_board
lesser-requires-clause-one_on_board c =
    let (position, canonical, are) = c.requires.some in
    least_to-on_board c.args.shape position canonical c.args.point c.loop-number.number c.loop-number.found c.requires.on_board (c.loop-number.invariant position canonical are)

pub loop-number-preserved : goal.loop-number-preserved
loop-number-preserved c position canonical are =
    let shape = c.args.shape in
    let point = c.args.point in
    let n = c.loop-number.number in
    let lt = subst (λ k. n < k) c.symmetry_count-number-end.ensures c.loop-number-test.true in
    let told = are.each n lt in
    elim c.if-is_among.branch [
      | then-is_among w ↦
          subst (λ (o : Option Point). IsLeastTo shape position canonical point (n + 1) o) (sym w.found-is)
          (least_to-more shape position canonical point n c.loop-number.found w.apply-here.result w.lesser.result (c.loop-number.invariant position canonical are)
          (told.0 (c.is_among.ensures.0 w.if-is_among.true)) (w.apply-here.ensures.value ∙ ap (λ s. moved s shape point) w.symmetry.ensures)
          w.lesser.ensures.either w.lesser.ensures.first w.lesser.ensures.second w.lesser.ensures.alone)
      | else-is_among w ↦
          subst (λ (o : Option Point). IsLeastTo shape position canonical point (n + 1) o) (sym w.found-is)
          (least_to-other shape position canonical point n c.loop-number.found (c.loop-number.invariant position canonical are)
          (λ brings. false≢true (sym w.if-is_among.false ∙ c.is_among.ensures.1 (told.1 brings))))
    ]

pub returns : goal.returns
returns c position canonical are =
    let all : c.loop-number.number ≡ c.symmetry_count-number-end.result = omega (arith, c.loop-number-test.false, c.loop-number.auto.number-end) in
    subst (λ (p : Point). IsPointInFrame c.args.shape position canonical c.args.point p) (sym c.unwrap_or.ensures)
    (least_to-end c.args.shape position canonical c.args.point c.args.all c.loop-number.number c.loop-number.found (all ∙ c.symmetry_count-number-end.ensures) are (c.loop-number.invariant position canonical are))
