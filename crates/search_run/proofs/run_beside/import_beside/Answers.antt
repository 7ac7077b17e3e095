use Rattle.std.proofs.Common.{[], arith}
use Rattle.search_run.specs.Seen.{HaveSeen}
use Rattle.search_run.proofs.BesideLemmas.{answered-all, answers-none}
use Rattle.search_run.proofs.SeenLemmas.{prefix_length}
use Rattle.search_run.proofs.run_beside.import_beside.Goals as goal

pub returns-in-Err-clause-answered : goal.returns-in-Err-clause-answered
returns-in-Err-clause-answered g c = λ before written.
    let at = c.args.searchers.now in
    answered-all (HaveSeen at.own at.block.items) (HaveSeen at.own at.block.items) (HaveSeen at.own at.block.items) c.args.held.number c.args.held.number c.args.session.now c.args.session.now [] before _
    (λ batch. answers-none batch (HaveSeen at.own at.block.items) c.args.held.number c.args.session.now before _ written) (λ log seen. seen) (λ log seen. omega (arith, c.requires.held.number, prefix_length at.own.seen log seen.own_seen))
