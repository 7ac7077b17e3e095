use Rattle.std.proofs.Common.{subst}
use Rattle.search_engine.specs.Searching.{AreItemHitsAdded}
use Rattle.search_engine.proofs.pieces.counted_hits.Goals as goal

pub returns : goal.returns
returns g c =
    subst (λ old. AreItemHitsAdded c.args.searcher.now.ready.now.query c.args.searcher.now.filter.now c.args.searcher.now.ready.now.shapes c.args.items.now old c.add_items_hits.new.hits.items) c.new-hits.ensures.items c.in_ok-add_items_hits.ensures.hits
