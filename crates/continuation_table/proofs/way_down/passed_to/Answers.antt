-- Each step down the main line, by the lemmas of `Descents.antt`.
use Rattle.std.proofs.Common.{◌≡◌, ◌+◌, Bool, true, false, ◌∙◌, refl, sym, subst, arith}
use Rattle.std.specs.Prelude.{◌==◌}
use Rattle.std.proofs.lemmas.Bool.{eq-eqb}
use Rattle.game_tree.specs.Tree.{move_number_of, node_at}
use Rattle.continuation_table.specs.Descending.{IsWayDown}
use Rattle.continuation_table.proofs.Descents.{IsWayDown-more, IsWayDown-start, moves-more, quiet-more}
use Rattle.continuation_table.proofs.MainLines.{main-first_child, main-in_range, main-parent}
use Rattle.continuation_table.proofs.way_down.passed_to.Goals as goal

pub loop-here-init : goal.loop-here-init
loop-here-init c =
    let count = move_number_of c.args.tree.now c.args.node in
    record {
      in_range = c.requires.node;
      behind = omega arith;
      moves = λ good. omega arith;
      way = λ good deltas placement is holds held_to.
          subst (λ (now : Bool). IsWayDown c.args.tree.now deltas placement c.args.node c.args.node now)
          (sym (eq-eqb count count refl))
          (IsWayDown-start c.args.tree.now deltas placement c.args.node holds);
    }

pub loop-here-preserved : goal.loop-here-preserved
loop-here-preserved c =
    let tree = c.args.tree.now in
    let here = c.loop-here.here in
    let count = move_number_of tree c.args.node in
    let main = (c.main_count.ensures (here + 1)).0 (omega (arith, c.loop-here-test.true)) in
    record {
      in_range = main-in_range tree here main;
      behind = omega (arith, c.loop-here.invariant.behind);
      moves = λ good. omega (arith, moves-more tree good (here + 1) here (main-parent tree good here main), c.loop-here.invariant.moves good);
      way = λ good deltas placement is holds held_to.
          IsWayDown-more tree deltas placement c.args.node here (move_number_of tree here == count)
          (c.loop-here.invariant.way good deltas placement is holds held_to)
          (here + 1) (main-first_child tree good here main)
          (λ inside. let no : false ≡ true = sym c.if-has_move_inside.false ∙ (c.has_move_inside.ensures placement is).1 inside in absurd cc)
          (held_to (here + 1) (omega (arith, c.loop-here.invariant.behind)) (omega (arith, c.loop-here-test.true)))
          (move_number_of tree (here + 1) == count)
          (quiet-more count (move_number_of tree here) (move_number_of tree (here + 1)) (node_at tree (here + 1)).played (c.loop-here.invariant.moves good) (moves-more tree good (here + 1) here (main-parent tree good here main)));
    }

pub has_move_inside-requires-clause-node : goal.has_move_inside-requires-clause-node
has_move_inside-requires-clause-node c =
    main-in_range c.args.tree.now c.loop-here.here ((c.main_count.ensures (c.loop-here.here + 1)).0 (omega (arith, c.loop-here-test.true)))

pub returns-clause-stopped : goal.returns-clause-stopped
returns-clause-stopped c = λ before on placement is.
    absurd (omega (arith, c.loop-here-test.false, before, (c.main_count.ensures (c.loop-here.here + 1)).1 on))
