use Rattle.std.proofs.Common.{◌∙◌, ap, subst, sym}
use Rattle.std.specs.Prelude.{Contains}
use Rattle.game_tree.specs.Tree.{Tree}
use Rattle.pattern_images.specs.declared.query.Query.{Query}
use Rattle.pattern_images.specs.Query.{IsForBoard}
use Rattle.run_matcher.specs.GoingOn.{occurrences_of}
use Rattle.search_engine.specs.Gathering.{AreOccurrencesIn, GoOnIn}
use Rattle.search_engine.specs.Hits.{AreHitsIn}
use Rattle.search_engine.specs.Searching.{AreHitsAdded}
use Rattle.search_engine.proofs.AddedHits.{OnOk-then}
use Rattle.search_engine.proofs.GameHits.{AreGameHits-asked}
use Rattle.search_engine.proofs.NodesVisited.{AreVisited-none}
use Rattle.search_engine.proofs.search_items.Searcher.add_on_its_board.Goals as goal

pub returns-in_default-clause-hits : goal.returns-in_default-clause-hits
returns-in_default-clause-hits g c =
    let shape = c.shape.ensures.value ∙ ap (λ (t : Tree). t.shape) c.tree.ensures.value in
    absurd (c.in_default.ensures.none (subst (Contains c.args.self.now.ready.now.shapes) (sym shape) c.requires.among_shapes))

pub returns-in_default-clause-visited : goal.returns-in_default-clause-visited
returns-in_default-clause-visited g c = AreVisited-none c.args.hits.now.items c.args.steps.now

pub add_hits_in-requires-clause-occurrences : goal.add_hits_in-requires-clause-occurrences
add_hits_in-requires-clause-occurrences g c = subst (λ (q : Query). AreOccurrencesIn q c.args.game.now.tree (occurrences_of c.args.begun.now)) (sym c.query.ensures) c.requires.occurrences

pub add_hits_in-requires-clause-go_on : goal.add_hits_in-requires-clause-go_on
add_hits_in-requires-clause-go_on g c = subst (λ (q : Query). GoOnIn q c.args.game.now.tree c.args.begun.now) (sym c.query.ensures) c.requires.go_on

pub returns-clause-hits : goal.returns-clause-hits
returns-clause-hits g c =
    let query = c.args.self.now.ready.now.query in
    let tree = c.args.game.now.tree in
    let shape = c.shape.ensures.value ∙ ap (λ (t : Tree). t.shape) c.tree.ensures.value in
    let board = subst (IsForBoard query) shape c.in-Some.ensures.for_board in
    OnOk-then c.add_hits_in.result c.add_hits_in.ensures.hits
    (λ added filter accepts. AreGameHits-asked query filter c.args.number tree c.args.hits.now.items c.add_hits_in.new.hits.items (board, accepts)
    (subst (λ (q : Query). AreHitsAdded (AreHitsIn q c.args.number tree) c.args.hits.now.items c.add_hits_in.new.hits.items) c.query.ensures added))
