use Rattle.std.proofs.Common.{◌≡◌, ◌++◌, take}
use Rattle.std.specs.List.{flat_map}
use Rattle.query_script.specs.Texts.{hit_text}
use Rattle.query_script.proofs.search_text.append_hits.Given as goal

abbrev pub invariant-loop-hit : goal.invariant-loop-hit
invariant-loop-hit l = l.out.items ≡ l.fn.out.items ++ flat_map hit_text (take l.hit-index l.hits)
