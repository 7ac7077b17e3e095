use Rattle.session_core.proofs.AnswerTexts.{IsSearched-delivered}
use Rattle.session_core.proofs.session.Session.deliver.Goals as goal

pub returns-clause-searched : goal.returns-clause-searched
returns-clause-searched g c =
    IsSearched-delivered c.cut_back.result c.args.line c.args.number c.args.games c.args.answer.now.hits.items c.args.answer.now.table c.args.self.now _ c.args.out.now.items _
    (rw (rw c.deref.ensures.value at c.in_ok-print_hits.ensures.ok) at c.cut_back.ensures.ok)
    (rw c.cut_back.ensures.same c.feed-fed.ensures.fed)

pub returns-clause-left : goal.returns-clause-left
returns-clause-left g c = rw c.cut_back.ensures.same c.feed-fed.ensures.left
