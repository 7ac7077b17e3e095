use Rattle.std.proofs.Common.{◌≡◌, ◌+◌, ◌-◌, ◌∙◌, ◌∷◌, [], Contains, List, ap, subst, sym}
use Rattle.node_position.specs.Games.{Game}
use Rattle.run_matcher.specs.GoingOn.{occurrences_of}
use Rattle.run_matcher.specs.declared.begun.Begun.{Begun}
use Rattle.search_engine.specs.Gathering.{gathered_of}
use Rattle.search_engine.specs.Hits.{AreGameHits}
use Rattle.search_engine.specs.Searching.{AreHitsAdded, IsCovered}
use Rattle.search_engine.specs.StepBounds.{AreStepsIn}
use Rattle.search_engine.proofs.Gathering.{asked_with_some, has_exactly, kept_with_some, no_hits}
use Rattle.search_engine.proofs.GamesSearched.{same_game}
use Rattle.search_engine.proofs.StepsTaken.{AreStepsIn-game, AreStepsIn-none}
use Rattle.search_engine.proofs.NodesVisited.{AreVisited-none}
use Rattle.search_engine.proofs.TreeChanges.{has_changes}
use Rattle.search_engine.proofs.search_items.Searcher.add_one.Goals as goal

pub returns-then-is_empty-clause-hits : goal.returns-then-is_empty-clause-hits
returns-then-is_empty-clause-hits g c = λ game at covered.
    let own = has_changes c.get-game.result.now.tree c.get-game.ensures.tree in
    let query = c.args.self.now.ready.now.query in
    let same : c.get-game.result.now ≡ game = same_game c.args.item.now.block.now c.args.at c.get-game.result.now game c.get-game.ensures.value at in
    subst (λ (h : Game). AreHitsAdded (AreGameHits query c.args.self.now.filter.now (c.args.item.now.first + (c.args.at - c.args.item.now.skip)) h.tree) c.args.hits.now.items c.args.hits.now.items) same
    (no_hits query c.args.self.now.filter.now c.args.self.now.ready.now.shapes (c.args.item.now.first + (c.args.at - c.args.item.now.skip)) c.get-game.result.now.tree (gathered_of c.args.gathered.now c.args.at) (c.requires.gathered c.get-game.result.now c.get-game.ensures.value) own.0 own.1
    (c.is_empty.ensures.0 c.if-is_empty.true) (subst (λ (h : Game). IsCovered query c.args.self.now.ready.now.shapes h.tree.shape) (sym same) covered) c.args.hits.now.items)

pub add_on_its_board-requires-clause-among_shapes : goal.add_on_its_board-requires-clause-among_shapes
add_on_its_board-requires-clause-among_shapes g c =
    let own = has_changes c.get-game.result.now.tree c.get-game.ensures.tree in
    (asked_with_some c.args.self.now.ready.now.query c.args.self.now.filter.now c.args.self.now.ready.now.shapes c.get-game.result.now.tree (gathered_of c.args.gathered.now c.args.at) (c.requires.gathered c.get-game.result.now c.get-game.ensures.value) own.0 own.1 c.is_empty.result c.is_empty.ensures c.if-is_empty.false).1

pub add_on_its_board-requires-clause-occurrences : goal.add_on_its_board-requires-clause-occurrences
add_on_its_board-requires-clause-occurrences g c = λ changes placements of are.
    let own = has_changes c.get-game.result.now.tree c.get-game.ensures.tree in
    let query = c.args.self.now.ready.now.query in
    let tree = c.get-game.result.now.tree in
    let gathered = gathered_of c.args.gathered.now c.args.at in
    let has = c.requires.gathered c.get-game.result.now c.get-game.ensures.value in
    let asked = asked_with_some query c.args.self.now.filter.now c.args.self.now.ready.now.shapes tree gathered has own.0 own.1 c.is_empty.result c.is_empty.ensures c.if-is_empty.false in
    ap occurrences_of c.deref.ensures.value ∙ c.in_ok-found.ensures.list changes placements (has_exactly query c.args.self.now.filter.now c.args.self.now.ready.now.shapes tree gathered has changes of asked.0 asked.1 placements are)

pub add_on_its_board-requires-clause-go_on : goal.add_on_its_board-requires-clause-go_on
add_on_its_board-requires-clause-go_on g c = λ changes placements of are b h.
    c.requires.go_on c.get-game.result.now c.get-game.ensures.value changes placements of are b
    (c.in_ok-found.ensures.from b (subst (λ (bs : List Begun). Contains bs b) c.deref.ensures.value h))

pub returns-clause-hits : goal.returns-clause-hits
returns-clause-hits g c = λ game at covered.
    let own = has_changes c.get-game.result.now.tree c.get-game.ensures.tree in
    let asked = asked_with_some c.args.self.now.ready.now.query c.args.self.now.filter.now c.args.self.now.ready.now.shapes c.get-game.result.now.tree (gathered_of c.args.gathered.now c.args.at) (c.requires.gathered c.get-game.result.now c.get-game.ensures.value) own.0 own.1 c.is_empty.result c.is_empty.ensures c.if-is_empty.false in
    let same : c.get-game.result.now ≡ game = same_game c.args.item.now.block.now c.args.at c.get-game.result.now game c.get-game.ensures.value at in
    subst (λ (h : Game). AreHitsAdded (AreGameHits c.args.self.now.ready.now.query c.args.self.now.filter.now (c.args.item.now.first + (c.args.at - c.args.item.now.skip)) h.tree) c.args.hits.now.items c.add_on_its_board.new.hits.items) same
    (c.in_ok-add_on_its_board.ensures.hits c.args.self.now.filter.now asked.0)

pub returns-then-is_empty-clause-visited : goal.returns-then-is_empty-clause-visited
returns-then-is_empty-clause-visited g c = AreVisited-none c.args.hits.now.items c.args.steps.now

pub returns-then-is_empty-clause-steps : goal.returns-then-is_empty-clause-steps
returns-then-is_empty-clause-steps g c = λ game at. AreStepsIn-none c.args.self.now.ready.now.query (game ∷ []) c.args.steps.now

pub returns-in_err-found-clause-steps : goal.returns-in_err-found-clause-steps
returns-in_err-found-clause-steps g c = λ game at. AreStepsIn-none c.args.self.now.ready.now.query (game ∷ []) c.args.steps.now

pub returns-in_err-add_on_its_board-clause-steps : goal.returns-in_err-add_on_its_board-clause-steps
returns-in_err-add_on_its_board-clause-steps g c = λ game at.
    let own = has_changes c.get-game.result.now.tree c.get-game.ensures.tree in
    let query = c.args.self.now.ready.now.query in
    let kept = kept_with_some query c.args.self.now.filter.now c.args.self.now.ready.now.shapes c.get-game.result.now.tree (gathered_of c.args.gathered.now c.args.at) (c.requires.gathered c.get-game.result.now c.get-game.ensures.value) own.0 own.1 c.is_empty.result c.is_empty.ensures c.if-is_empty.false in
    let same : c.get-game.result.now ≡ game = same_game c.args.item.now.block.now c.args.at c.get-game.result.now game c.get-game.ensures.value at in
    subst (λ (h : Game). AreStepsIn query (h ∷ []) c.args.steps.now c.add_on_its_board.new.steps) same
    (AreStepsIn-game query c.get-game.result.now c.args.steps.now c.add_on_its_board.new.steps kept c.add_on_its_board.ensures.grows c.add_on_its_board.ensures.ticks)

pub returns-clause-steps : goal.returns-clause-steps
returns-clause-steps g c = λ game at.
    let own = has_changes c.get-game.result.now.tree c.get-game.ensures.tree in
    let query = c.args.self.now.ready.now.query in
    let kept = kept_with_some query c.args.self.now.filter.now c.args.self.now.ready.now.shapes c.get-game.result.now.tree (gathered_of c.args.gathered.now c.args.at) (c.requires.gathered c.get-game.result.now c.get-game.ensures.value) own.0 own.1 c.is_empty.result c.is_empty.ensures c.if-is_empty.false in
    let same : c.get-game.result.now ≡ game = same_game c.args.item.now.block.now c.args.at c.get-game.result.now game c.get-game.ensures.value at in
    subst (λ (h : Game). AreStepsIn query (h ∷ []) c.args.steps.now c.add_on_its_board.new.steps) same
    (AreStepsIn-game query c.get-game.result.now c.args.steps.now c.add_on_its_board.new.steps kept c.add_on_its_board.ensures.grows c.add_on_its_board.ensures.ticks)
