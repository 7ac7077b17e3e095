use Rattle.std.proofs.Common.{arith}
use Rattle.kb_geometry.proofs.Prefixes.{refused_further}
use Rattle.candidate_sieve.specs.BlockGames.AreAddedFor.{nothing, one_more}
use Rattle.candidate_sieve.proofs.CandidateLists.{added-behind, unchanged-behind}
use Rattle.candidate_sieve.proofs.candidates.add_row.Goals as goal

pub add_games-requires : goal.add_games-requires
add_games-requires c = omega (arith, c.requires.small, c.loop-k-test.true)

pub loop-k-init : goal.loop-k-init
loop-k-init c = nothing

pub loop-k-preserved : goal.loop-k-preserved
loop-k-preserved c = one_more c.loop-k.k c.loop-k.found.items c.add_games.new.found.items c.loop-k.invariant c.in_ok-add_games.ensures.ok

pub returns-in_err-add_games-clause-refused : goal.returns-in_err-add_games-clause-refused
returns-in_err-add_games-clause-refused c =
    refused_further c.from_residual.result c.args.found.now.items c.loop-k.found.items c.add_games.new.found.items (added-behind c.args.row.now c.args.numbers.now c.args.words.now c.args.found.now.items c.loop-k.k c.loop-k.found.items c.loop-k.invariant)
    (unchanged-behind c.loop-k.found.items c.add_games.new.found.items c.in_err-add_games.ensures.refused)
