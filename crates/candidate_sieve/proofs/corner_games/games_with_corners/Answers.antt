use Rattle.std.proofs.Common.{arith}
use Rattle.std.proofs.lemmas.List.{get_or_default}
use Rattle.candidate_sieve.proofs.CornerGames.{left-end, left-next, left-start}
use Rattle.candidate_sieve.proofs.CornersTold.{no_corner}
use Rattle.candidate_sieve.proofs.corner_games.games_with_corners.Goals as goal

pub loop-corner-init : goal.loop-corner-init
loop-corner-init c = left-start c.args.corners.now c.args.covered.now c.args.games

pub games_with_key-left-requires-clause-corner : goal.games_with_key-left-requires-clause-corner
games_with_key-left-requires-clause-corner c = c.requires.in_range c.loop-corner.corner-index _ c.loop-corner-test.true

pub loop-corner-preserved : goal.loop-corner-preserved
loop-corner-preserved c =
    left-next c.args.corners.now c.args.covered.now c.args.games c.loop-corner.corner-index c.loop-corner.left c.games_with_key-left.result _ (get_or_default c.args.covered.now c.loop-corner.corner-index no_corner _ c.loop-corner-test.true) c.loop-corner.invariant c.games_with_key-left.ensures.those c.games_with_key-left.ensures.among

pub returns-clause-those : goal.returns-clause-those
returns-clause-those c = left-end c.args.corners.now c.args.covered.now c.args.games c.loop-corner.corner-index c.loop-corner.left (omega (arith, c.loop-corner-test.false, c.loop-corner.auto.corner-index-end)) c.loop-corner.invariant

pub returns-clause-among : goal.returns-clause-among
returns-clause-among c = c.loop-corner.invariant.among
