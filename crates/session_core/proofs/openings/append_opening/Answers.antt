use Rattle.session_core.specs.Stores.{view_of}
use Rattle.session_core.proofs.OpeningTexts.{IsOpeningText-printed}
use Rattle.session_core.proofs.openings.append_opening.Goals as goal

pub returns-clause-ok : goal.returns-clause-ok
returns-clause-ok g c =
    IsOpeningText-printed c.append_openings.result c.args.line (view_of c.args.version.now) c.args.wanted.shape c.args.wanted.depth c.args.wanted.least c.in_ok-openings.openings.items c.as_slice.result.now c.args.out.now.items c.append_openings.new.out.items
    c.as_slice.ensures.value c.in_ok-openings.ensures c.append_openings.ensures.ok
