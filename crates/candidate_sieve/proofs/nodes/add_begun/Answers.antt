use Rattle.candidate_sieve.proofs.BegunLists.{begun-each}
use Rattle.candidate_sieve.proofs.nodes.add_begun.Goals as goal

pub returns : goal.returns
returns c = begun-each c.args.runs.now c.args.points.now c.args.point c.args.nodes.now.items c.add_where.new.nodes.items c.add_where-2.new.nodes.items c.add_where-3.new.nodes.items c.in_ok-add_where.ensures c.in_ok-add_where-2.ensures c.in_ok-add_where-3.ensures
