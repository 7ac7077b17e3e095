use Rattle.import_work.proofs.FoundPieces.{texts-pushed}
use Rattle.import_work.proofs.pieces.with_last.Goals as goal

pub returns-clause-files : goal.returns-clause-files
returns-clause-files c = texts-pushed c.args.groups.items _ c.args.group c.in_ok-push.ensures.items
