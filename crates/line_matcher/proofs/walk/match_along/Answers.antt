-- Nothing was found before the first node.
use Rattle.std.proofs.Common.{List, ◌++◌, ◌∙◌, ap}
use Rattle.pattern_occurrences.specs.declared.occurrence.Occurrence.{Occurrence}
use Rattle.pattern_occurrences.specs.Occurrences.{occurrences_in}
use Rattle.line_matcher.proofs.walk.match_along.Goals as goal

pub returns-clause-found : goal.returns-clause-found
returns-clause-found g c =
    let all = occurrences_in c.args.deltas.now c.args.matcher.now.images.now.placements in
    c.in_ok-add_nodes.ensures.found ∙ ap (λ (none : List Occurrence). none ++ all) c.new-found.ensures.items
