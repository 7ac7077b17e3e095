use Rattle.std.proofs.Common.{◌≡◌, arith, length, subst}
use Rattle.opening_tree.specs.GoneThrough.{AreNextsGone}
use Rattle.opening_tree.proofs.openings_of_games.OpeningsOfGames.add_nexts.Goals as goal

pub returns-clause-gone : goal.returns-clause-gone
returns-clause-gone c positions are es ns to =
    let all : c.loop-n.n ≡ length c.args.self.now.frames.items = omega (arith, c.loop-n-test.false, c.loop-n.auto.n-end, c.len-n-end.ensures) in
    subst (λ k. AreNextsGone c.args.self.now.asked.depth c.args.game.now.tree positions k es ns c.loop-n.self.openings.entries c.args.self.now.frames.items) all (c.loop-n.invariant.gone positions are es ns to)
