use Rattle.std.proofs.Common.{take}
use Rattle.std.specs.List.{flat_map}
use Rattle.kb_geometry.proofs.Prefixes.{refused_behind}
use Rattle.query_script.specs.Texts.{hit_text}
use Rattle.query_script.proofs.search_text.append_hits.Goals as goal

pub returns-in_err-append_hit-clause-refused : goal.returns-in_err-append_hit-clause-refused
returns-in_err-append_hit-clause-refused c = refused_behind c.from_residual.result c.args.out.now.items (flat_map hit_text (take c.loop-hit.hit-index c.args.hits.now)) c.loop-hit.invariant c.in_err-append_hit.ensures.refused
