use Rattle.std.proofs.Common.{◌++◌, map, ap, ◌∙◌}
use Rattle.std.specs.Arc.{arc_value}
use Rattle.version_publisher.proofs.PartLists.{map_appended_clones, map_clones}
use Rattle.segment_store.proofs.block.joined.Goals as goal

pub returns-clause-games : goal.returns-clause-games
returns-clause-games c =
    let first = map_clones arc_value (λ x. x) c.args.a.now c.in_ok-games.games.items c.in_ok-games.ensures.items in
    let both = map_appended_clones arc_value (λ x. x) c.in_ok-games.games.items c.extend_from_slice.new.self.items c.args.b.now c.args.b.now c.in_ok-extend_from_slice.ensures.items (λ i. c.args.b.now) in
    ap (map arc_value) c.shrink_to_fit.ensures.items ∙ both ∙ ap (λ xs. xs ++ map arc_value c.args.b.now) first
