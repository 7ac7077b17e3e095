use Rattle.std.proofs.Common.{arith}
use Rattle.candidate_sieve.proofs.CornerGames.{asked-end, asked-next, asked-start}
use Rattle.candidate_sieve.proofs.corner_games.games_with_key.Goals as goal

pub loop-at-init : goal.loop-at-init
loop-at-init c = asked-start c.args.corners.now c.args.corner c.args.key c.args.games

pub loop-at-preserved : goal.loop-at-preserved
loop-at-preserved c =
    asked-next c.args.corners.now c.args.corner c.args.key c.args.games c.loop-at.at c.loop-at.left c.asked_of_game-left.result c.index-corners-at.result (omega (arith, c.loop-at-test.true, c.requires.few)) c.index-corners-at.is c.loop-at.invariant
    c.asked_of_game-left.ensures.here c.asked_of_game-left.ensures.others

pub returns-clause-those : goal.returns-clause-those
returns-clause-those c = asked-end c.args.corners.now c.args.corner c.args.key c.args.games c.loop-at.at c.loop-at.left (omega (arith, c.loop-at-test.false)) c.loop-at.invariant

pub returns-clause-among : goal.returns-clause-among
returns-clause-among c = c.loop-at.invariant.among
