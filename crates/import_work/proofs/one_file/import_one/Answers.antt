use Rattle.std.proofs.Common.{ap, Err, inr}
use Rattle.import_work.proofs.FileLemmas.{content_of-there, IsContent-read, told_there}
use Rattle.import_work.proofs.RoomLemmas.{IsAdded-outcome, read-not_unread}
use Rattle.import_work.proofs.one_file.import_one.Goals as goal

pub returns-in-Err-Missing-clause-unread : goal.returns-in-Err-Missing-clause-unread
returns-in-Err-Missing-clause-unread g c = λ is.
    let missing = ap Err c.in-Err-Missing.field-0-is in
    let (files, told) = told_there (g.F.Folder.files c.args.folder.now) (c.in-Err-Missing.ensures.missing_told missing) in
    inr (files, told, λ there. content_of-there files _ _ there (c.in-Err-Missing.ensures.missing missing files told))

pub returns-clause-outcome : goal.returns-clause-outcome
returns-clause-outcome g c = λ files told other.
    (c.deref.result.now, IsContent-read files c.args.path.now c.args.name.now c.in-Ok.bytes.items c.deref.result.now c.deref.ensures.value (c.in-Ok.ensures.there files told) (c.in-Ok.ensures.content files told), c.in_ok-outcome.ensures)

pub returns-clause-unread : goal.returns-clause-unread
returns-clause-unread g c = λ is. absurd (read-not_unread c.deref.result.now c.args.before c.in_ok-outcome.outcome c.in_ok-outcome.games.items c.in_ok-outcome.ensures is)

pub returns-clause-added : goal.returns-clause-added
returns-clause-added g c = IsAdded-outcome c.deref.result.now c.args.before c.in_ok-outcome.outcome c.in_ok-outcome.games.items c.in_ok-outcome.ensures
