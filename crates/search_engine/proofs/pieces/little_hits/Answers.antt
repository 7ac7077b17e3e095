use Rattle.std.proofs.Common.{arith}
use Rattle.search_engine.proofs.BlocksSearched.{hits_of_first}
use Rattle.search_engine.proofs.pieces.little_hits.Goals as goal

pub returns : goal.returns
returns c =
    hits_of_first c.args.searcher.now.ready.now.query c.args.searcher.now.filter.now c.args.searcher.now.ready.now.shapes c.args.items.now c.in_ok-first.first.blocks 0 c.in_ok-first.first.hits.items (omega (arith, c.if-first-items.false)) c.in_ok-first.ensures.hits c.requires.numbered c.requires.covered
