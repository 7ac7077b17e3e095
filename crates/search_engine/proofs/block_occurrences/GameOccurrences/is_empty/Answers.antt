use Rattle.std.proofs.Common.{◌≡◌, ◌<◌, ◌∙◌, ap, arith, length, sym}
use Rattle.run_matcher.specs.GoingOn.{occurrences_of}
use Rattle.search_engine.specs.Gathering.{begun_at}
use Rattle.search_engine.proofs.GatheredLists.{begun-read, none-begun}
use Rattle.search_engine.proofs.block_occurrences.GameOccurrences.is_empty.Goals as goal

pub returns : goal.returns
returns c =
    let lists = c.self.inside.lists.items in
    let lt : c.args.at < length lists = omega (arith, c.requires, c.self.invariant) in
    let here : c.index.result.now ≡ begun_at c.args.self.now c.args.at = begun-read lists c.args.at c.index.result.now lt c.index.ensures ∙ ap (λ ls. begun_at ls c.args.at) c.self.view_is in
    (λ t. ap occurrences_of (sym here ∙ c.is_empty.ensures.0 t), λ none. c.is_empty.ensures.1 (here ∙ none-begun (begun_at c.args.self.now c.args.at) none))
