-- One turn adds that of the next label.
use Rattle.kb_geometry.specs.Symmetry.{number_of_label}
use Rattle.pattern_images.proofs.TurnLists.{AreTurns-start, AreTurns-pushed}
use Rattle.pattern_images.proofs.turn.turns.Goals as goal

pub loop-number-init : goal.loop-number-init
loop-number-init c = AreTurns-start c.args.query.now c.args.shape c.args.grids.now c.in_ok-turns.turns.items c.requires.empty c.in_ok-turns.ensures.items

pub loop-number-preserved : goal.loop-number-preserved
loop-number-preserved c =
    AreTurns-pushed c.args.query.now c.args.shape c.loop-number.grids c.turn_of.new.grids c.loop-number.turns.items c.push.new.self.items c.in_ok-turn.turn c.loop-number.number (number_of_label c.in-Some.label)
    c.loop-number.invariant c.in_ok-turn.ensures.grown c.in-Some.ensures.made c.in_ok-turn.ensures.turn c.in_ok-push.ensures.items
