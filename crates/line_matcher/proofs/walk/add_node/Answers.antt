-- The walker shows the position at the node.
use Rattle.std.proofs.Common.{◌≡◌, ◌<◌, ◌∙◌, ℕ, Option, length, ap, sym, subst}
use Rattle.std.proofs.lemmas.Result.{on_ok_weaker}
use Rattle.kb_geometry.specs.declared.stone.Change.{Change}
use Rattle.kb_geometry.specs.Board.{point_count}
use Rattle.capture_board.specs.Deltas.{parent_of, position_at, position_where}
use Rattle.capture_board.proofs.DeltaPaths.{length-position_where}
use Rattle.std.specs.Prelude.{All}
use Rattle.line_matcher.proofs.Nodes.{found_at_root, found_by_changes}
use Rattle.line_matcher.proofs.walk.add_node.Goals as goal

pub add_child-requires-clause-on_board : goal.add_child-requires-clause-on_board
add_child-requires-clause-on_board c =
    let deltas = c.args.deltas.now in
    let before = position_where deltas (parent_of deltas c.args.node) in
    let count : length before ≡ point_count c.args.matcher.now.images.now.shape = length-position_where deltas (parent_of deltas c.args.node) ∙ ap point_count (sym c.requires.shape) in
    subst (λ (most : ℕ). All (λ (d : Change). d.point < most) c.changes.result.now) count c.changes.ensures.changes.on_board

pub returns-in-None-clause-found : goal.returns-in-None-clause-found
returns-in-None-clause-found c =
    let deltas = c.args.deltas.now in
    let shown : c.args.walker.now.position ≡ position_at deltas c.args.node = c.requires.stands.shown ∙ ap (λ (o : Option ℕ). position_where deltas o) c.requires.here in
    on_ok_weaker c.add_root.result
    (found_at_root deltas c.args.matcher.now.images.now c.args.walker.now.position c.args.node c.args.found.now.items c.add_root.new.found.items c.requires.shape shown (sym c.in-None.ensures.value))
    c.add_root.ensures

pub returns-in-Some-clause-found : goal.returns-in-Some-clause-found
returns-in-Some-clause-found c =
    let deltas = c.args.deltas.now in
    let shown : c.args.walker.now.position ≡ position_at deltas c.args.node = c.requires.stands.shown ∙ ap (λ (o : Option ℕ). position_where deltas o) c.requires.here in
    on_ok_weaker c.add_child.result
    (found_by_changes deltas c.args.matcher.now.images.now c.args.walker.now.position c.changes.result.now c.args.node c.in-Some.field-0 c.args.found.now.items c.add_child.new.found.items
    c.requires.shape shown c.changes.ensures.deltas (sym c.in-Some.ensures.value) c.changes.ensures.changes c.changes.ensures.value)
    c.add_child.ensures.found
