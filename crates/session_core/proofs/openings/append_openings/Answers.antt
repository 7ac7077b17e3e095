use Rattle.std.proofs.Common.{length, refl}
use Rattle.session_core.specs.Stores.{view_of}
use Rattle.session_core.proofs.OpeningTexts.{openings-printed}
use Rattle.session_core.proofs.openings.append_openings.Goals as goal

pub returns-clause-ok : goal.returns-clause-ok
returns-clause-ok c =
    openings-printed c.append_all_lines.result c.args.line (view_of c.args.version.now) c.number.result c.game_count.result (length c.args.openings.now) c.args.openings.now c.args.out.now.items c.print_opening_head.new.out.items c.append_all_lines.new.out.items
    c.number.ensures c.game_count.ensures.value refl c.in_ok-print_opening_head.ensures.ok c.append_all_lines.ensures.ok
