use Rattle.opening_tree.proofs.turned.TurnedPositions.least.Goals as goal

pub loop-number-init : goal.loop-number-init
loop-number-init c = c.first-least.ensures c.args.self.now.images
