use Rattle.std.proofs.Common.{subst}
use Rattle.search_engine.specs.Searching.{AreFirstHitsAdded}
use Rattle.search_engine.proofs.pieces.counted_first_hits.Goals as goal

pub returns-clause-hits : goal.returns-clause-hits
returns-clause-hits g c =
    subst (λ old. AreFirstHitsAdded c.args.searcher.now.ready.now.query c.args.searcher.now.filter.now c.args.searcher.now.ready.now.shapes c.args.items.now c.in_ok-blocks.blocks old c.add_first_hits.new.hits.items) c.new-hits.ensures.items c.in_ok-blocks.ensures.hits
