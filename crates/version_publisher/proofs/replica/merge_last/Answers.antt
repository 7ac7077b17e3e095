use Rattle.std.proofs.Common.{rules, ◌≡◌, length, map, sym, ap, ◌∙◌, arith, ◌-◌, ◌<◌, slice_set}
use Rattle.std.proofs.lemmas.List.{length-map}
use Rattle.std.specs.Arc.{arc_value}
use Rattle.version_publisher.specs.Contents.{merged_last}
use Rattle.version_publisher.proofs.PartLists.{set_merges_last_two, merged_last_few, map-merged_last}
use Rattle.version_publisher.proofs.replica.merge_last.Goals as goal

pub returns-then-len-ge2 : goal.returns-then-len-ge2
returns-then-len-ge2 g c =
    let xs = c.args.parts.now.items in
    let n : length xs ≡ c.len-len.result = search rules in
    let there = ap (λ zs. slice_set zs (c.len-len.result - 2) c.in_ok-part.part) c.truncate.ensures.items ∙ set_merges_last_two xs c.in_ok-part.part c.len-len.result n c.if-len-ge2.true in
    ap (map arc_value) there ∙ (map-merged_last arc_value xs c.in_ok-part.part ∙ ap (merged_last (map arc_value xs)) c.in_ok-part.ensures)

pub returns-else-len-ge2 : goal.returns-else-len-ge2
returns-else-len-ge2 g c =
    let xs = c.args.parts.now.items in
    let n : length xs ≡ c.len-len.result = search rules in
    let m : length (map arc_value xs) < 2 = omega (arith, length-map xs arc_value, n, c.if-len-ge2.false) in
    sym (merged_last_few (map arc_value xs) _ m)
