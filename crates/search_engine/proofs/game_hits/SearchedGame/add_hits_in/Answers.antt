use Rattle.search_engine.proofs.AddedHits.{OnOk-then}
use Rattle.search_engine.proofs.GameHits.{AreHitsIn-added}
use Rattle.search_engine.proofs.game_hits.SearchedGame.add_hits_in.Goals as goal

pub add_hits-requires-clause-occurrences : goal.add_hits-requires-clause-occurrences
add_hits-requires-clause-occurrences g c = c.requires.occurrences c.deltas.result.now c.args.self.now.ready.now.images.placements c.deltas.ensures c.requires.images

pub add_hits-requires-clause-go_on : goal.add_hits-requires-clause-go_on
add_hits-requires-clause-go_on g c = c.requires.go_on c.deltas.result.now c.args.self.now.ready.now.images.placements c.deltas.ensures c.requires.images

pub returns-clause-hits : goal.returns-clause-hits
returns-clause-hits g c =
    let is = c.requires.occurrences c.deltas.result.now c.args.self.now.ready.now.images.placements c.deltas.ensures c.requires.images in
    OnOk-then c.add_hits.result (rw (is) at c.add_hits.ensures.hits)
    (AreHitsIn-added c.args.self.now.query.now c.args.self.now.number c.args.self.now.game.now.tree c.deltas.result.now c.deltas.ensures c.args.self.now.ready.now.images.placements c.requires.images c.args.hits.now.items c.add_hits.new.hits.items)
