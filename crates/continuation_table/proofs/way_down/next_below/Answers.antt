-- Each step of the way down, by the lemmas of `Descents.antt`.
use Rattle.std.proofs.Common.{◌≡◌, ℕ, true, false, sym, ap, subst, ◌∙◌, arith}
use Rattle.std.specs.Prelude.{◌==◌}
use Rattle.kb_geometry.specs.declared.shape.Shape.{Shape}
use Rattle.game_tree.specs.Tree.{move_number_of, node_at}
use Rattle.pattern_images.specs.ImageList.{IsPlacedOn, placement_at}
use Rattle.continuation_table.specs.Descending.{IsSpan}
use Rattle.continuation_table.proofs.Descents.{IsContinuation-found, IsWayDown-holds, IsWayDown-more, moves-more, no_continuation-end, no_continuation-lost, quiet-more}
use Rattle.continuation_table.proofs.way_down.next_below.Goals as goal

pub span_of-span-requires : goal.span_of-span-requires
span_of-span-requires c =
    let placement = placement_at c.args.images.now.placements c.args.i in
    (placement, c.place-place.ensures.value, subst (λ (s : Shape). IsPlacedOn s placement) (c.requires.shape ∙ sym c.shape.ensures.value) c.place-place.ensures.on_board)

pub loop-child-init : goal.loop-child-init
loop-child-init c =
    record {
      in_range = c.passed_to-here.ensures.in_range;
      behind = c.passed_to-here.ensures.behind;
      moves = c.passed_to-here.ensures.moves c.shape.ensures.tree;
      way = c.passed_to-here.ensures.way c.shape.ensures.tree c.args.deltas.now (placement_at c.args.images.now.placements c.args.i) c.place-place.ensures.value c.requires.holds c.requires.held_to;
    }

pub next_by-requires-clause-inside : goal.next_by-requires-clause-inside
next_by-requires-clause-inside c = (c.in-Some-move_inside.ensures.some (placement_at c.args.images.now.placements c.args.i) c.place-place.ensures.value).inside

pub returns-in-Some-move_inside-clause-some : goal.returns-in-Some-move_inside-clause-some
returns-in-Some-move_inside-clause-some c =
    let placement = placement_at c.args.images.now.placements c.args.i in
    IsContinuation-found c.args.tree.now c.args.deltas.now placement c.args.node c.loop-child.here
    (move_number_of c.args.tree.now c.loop-child.here == move_number_of c.args.tree.now c.args.node) c.loop-child.invariant.way
    c.in-Some.child (sym c.in-Some.ensures.value) c.in-Some-move_inside.field-0.colour c.in-Some-move_inside.field-0.point
    (c.in-Some-move_inside.ensures.some placement c.place-place.ensures.value)
    c.next_by.result
    (c.next_by.ensures.now
    ∙ ap (λ (moves : ℕ). moves == c.move_number-in-Some-move_inside.result) c.move_number.ensures
    ∙ ap (λ (moves : ℕ). move_number_of c.args.tree.now c.loop-child.here == moves) c.move_number-in-Some-move_inside.ensures)
    c.next_by.ensures.point c.next_by.ensures.colour

pub still_holds-requires-clause-span : goal.still_holds-requires-clause-span
still_holds-requires-clause-span c =
    let placement = placement_at c.args.images.now.placements c.args.i in
    subst (λ (s : Shape). IsSpan s placement c.span_of-span.result.first c.span_of-span.result.last) (c.shape.ensures.value ∙ sym c.requires.shape)
    (c.span_of-span.ensures placement c.place-place.ensures.value)

pub still_holds-requires-clause-held_to : goal.still_holds-requires-clause-held_to
still_holds-requires-clause-held_to c = λ before. c.requires.held_to c.in-Some.child (omega (arith, c.loop-child.invariant.behind, c.in-Some.ensures.in_range.0)) before

pub returns-then-not-still_holds-clause-none : goal.returns-then-not-still_holds-clause-none
returns-then-not-still_holds-clause-none c =
    let placement = placement_at c.args.images.now.placements c.args.i in
    let now = move_number_of c.args.tree.now c.loop-child.here == move_number_of c.args.tree.now c.args.node in
    let holds = IsWayDown-holds c.args.tree.now c.args.deltas.now placement c.args.node c.loop-child.here now c.loop-child.invariant.way in
    let parent = c.requires.deltas.lead.parents c.in-Some.child c.in-Some.ensures.in_range.1 ∙ c.in-Some.ensures.child in
    no_continuation-lost c.args.tree.now c.args.deltas.now placement c.args.node c.loop-child.here now c.loop-child.invariant.way
    c.in-Some.child (sym c.in-Some.ensures.value) (c.in_default-move_inside.ensures.none placement c.place-place.ensures.value)
    (λ still. let no : false ≡ true = sym c.if-not-still_holds.true ∙ (c.still_holds.ensures c.loop-child.here parent holds).1 still in absurd cc)

pub loop-child-preserved : goal.loop-child-preserved
loop-child-preserved c =
    let tree = c.args.tree.now in
    let placement = placement_at c.args.images.now.placements c.args.i in
    let child = c.in-Some.child in
    let here = c.loop-child.here in
    let now = move_number_of tree here == move_number_of tree c.args.node in
    let holds = IsWayDown-holds tree c.args.deltas.now placement c.args.node here now c.loop-child.invariant.way in
    let parent = c.requires.deltas.lead.parents child c.in-Some.ensures.in_range.1 ∙ c.in-Some.ensures.child in
    let more = moves-more tree c.shape.ensures.tree child here c.in-Some.ensures.child in
    record {
      in_range = c.in-Some.ensures.in_range.1;
      behind = omega (arith, c.loop-child.invariant.behind, c.in-Some.ensures.in_range.0);
      moves = omega (arith, more, c.loop-child.invariant.moves);
      way = IsWayDown-more tree c.args.deltas.now placement c.args.node here now c.loop-child.invariant.way
          child (sym c.in-Some.ensures.value) (c.in_default-move_inside.ensures.none placement c.place-place.ensures.value)
          ((c.still_holds.ensures here parent holds).0 c.if-not-still_holds.false)
          (move_number_of tree child == move_number_of tree c.args.node)
          (quiet-more (move_number_of tree c.args.node) (move_number_of tree here) (move_number_of tree child) (node_at tree child).played c.loop-child.invariant.moves more);
    }

pub returns-clause-none : goal.returns-clause-none
returns-clause-none c =
    no_continuation-end c.args.tree.now c.args.deltas.now (placement_at c.args.images.now.placements c.args.i) c.args.node c.loop-child.here
    (move_number_of c.args.tree.now c.loop-child.here == move_number_of c.args.tree.now c.args.node) c.loop-child.invariant.way
    (sym c.first_child.ensures.value ∙ c.in_default.is)
