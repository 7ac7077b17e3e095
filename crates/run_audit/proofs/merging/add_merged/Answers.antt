use Rattle.std.proofs.Common.{◌∙◌, ◌+◌, ◌++◌, ◌∷◌, ◌≤◌, [], List, ap, ap₂, arith, length, length-append, map}
use Rattle.std.specs.Arc.{arc_value}
use Rattle.node_position.specs.Games.{Game}
use Rattle.version_publisher.specs.Contents.{items_in}
use Rattle.run_audit.proofs.MergedParts.{items-merged, items-pushed, merged-room}
use Rattle.run_audit.proofs.merging.add_merged.Goals as goal

pub merge-requires : goal.merge-requires
merge-requires c =
    let parts = map arc_value c.loop-before.parts.items in
    let few : length (items_in parts) + length (arc_value c.loop-before.last) ≤ 400000 =
    omega (arith, c.requires, ap length c.loop-before.invariant, length-append (items_in parts) (arc_value c.loop-before.last), length-append (items_in (map arc_value c.args.parts.now.items)) (arc_value c.args.part)) in
    let room = merged-room parts (map arc_value c.take_last.new.parts.items) (arc_value c.in-Some.before) (arc_value c.loop-before.last) 400000 c.in-Some.ensures.taken few in
    omega (arith, room, ap length c.deref-in-Some.ensures, ap length c.deref-in-Some-2.ensures)

pub loop-before-preserved : goal.loop-before-preserved
loop-before-preserved c =
    items-merged (map arc_value c.loop-before.parts.items) (map arc_value c.take_last.new.parts.items) (arc_value c.in-Some.before) (arc_value c.loop-before.last) (arc_value c.in_ok-last.last) c.in-Some.ensures.taken
    (c.in_ok-last.ensures.ok ∙ c.in_ok-both.ensures ∙ ap₂ (λ (a b : List Game). a ++ b) c.deref-in-Some.ensures c.deref-in-Some-2.ensures)
    ∙ c.loop-before.invariant

pub returns : goal.returns
returns c =
    ap (λ l. items_in (map arc_value l)) (c.in_ok-push.ensures.items ∙ ap (λ l. l ++ c.loop-before.last ∷ []) (c.take_last.ensures.none c.in_default.is))
    ∙ items-pushed arc_value c.loop-before.parts.items c.loop-before.last
    ∙ c.loop-before.invariant
