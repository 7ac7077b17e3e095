use Rattle.std.proofs.Common.{take}
use Rattle.std.specs.List.{flat_map}
use Rattle.kb_geometry.proofs.Prefixes.{refused_behind}
use Rattle.query_script.specs.Texts.{spaced}
use Rattle.query_script.proofs.list_text.append_all_spaced.Goals as goal

pub returns-in_err-append_spaced-clause-refused : goal.returns-in_err-append_spaced-clause-refused
returns-in_err-append_spaced-clause-refused c = refused_behind c.from_residual.result c.args.out.now.items (flat_map spaced (take c.loop-number.number-index c.args.numbers.now)) c.loop-number.invariant c.in_err-append_spaced.ensures.refused
