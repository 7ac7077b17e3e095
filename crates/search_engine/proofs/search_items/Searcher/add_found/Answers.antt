use Rattle.std.proofs.Common.{◌≡◌, ◌+◌, ◌-◌, ◌≤◌, List, arith, length-drop, refl, subst, sym, take}
use Rattle.std.proofs.lemmas.List.{take_all}
use Rattle.std.proofs.lemmas.Option.{get_or_from_slice_get, slice_get_within}
use Rattle.node_position.specs.Games.{Game}
use Rattle.run_matcher.specs.GoingOn.{occurrences_of}
use Rattle.run_matcher.specs.declared.begun.Begun.{Begun}
use Rattle.search_engine.specs.Gathering.{GoOnIn, HasOccurrences}
use Rattle.search_engine.specs.Hits.{AreHitsFrom}
use Rattle.search_engine.specs.Items.{games_of_item}
use Rattle.search_engine.specs.Searching.{AreHitsAdded, IsCovered}
use Rattle.search_engine.specs.StepBounds.{AreStepsIn}
use Rattle.search_engine.proofs.CutLists.{slice_get-behind}
use Rattle.search_engine.proofs.GamesSearched.{AreHitsAdded-game, AreHitsFrom-none, some_there}
use Rattle.search_engine.proofs.StepsTaken.{AreStepsIn-all, AreStepsIn-more, AreStepsIn-none}
use Rattle.search_engine.proofs.NodesVisited.{AreVisited-none, AreVisited-then}
use Rattle.search_engine.proofs.search_items.Searcher.add_found.Goals as goal

pub loop-at-init : goal.loop-at-init
loop-at-init g c =
    let item = c.args.item.now in
    let games = games_of_item item in
    let old = c.args.hits.now.items in
    let none : 0 ≡ item.skip - item.skip = omega arith in
    record {
      left_in = omega arith;
      rest = λ k game le there. c.requires.gathered k game le there;
      go_on = λ k game le there. c.requires.go_on k game there;
      hits = λ covered. subst (λ n. AreHitsAdded (AreHitsFrom item.first c.args.self.now.ready.now.query c.args.self.now.filter.now (take n games)) old old) none (AreHitsFrom-none item.first c.args.self.now.ready.now.query c.args.self.now.filter.now old);
      visited = AreVisited-none old c.args.steps.now;
      steps = AreStepsIn-none c.args.self.now.ready.now.query (take (item.skip - item.skip) games) c.args.steps.now;
    }

pub add_one-requires-clause-gathered : goal.add_one-requires-clause-gathered
add_one-requires-clause-gathered g c = λ game there. c.loop-at.invariant.rest c.loop-at.at game (omega arith) there

pub add_one-requires-clause-go_on : goal.add_one-requires-clause-go_on
add_one-requires-clause-go_on g c = λ game there. c.loop-at.invariant.go_on c.loop-at.at game (omega arith) there

pub loop-at-preserved : goal.loop-at-preserved
loop-at-preserved g c =
    let query = c.args.self.now.ready.now.query in
    let item = c.args.item.now in
    let block = item.block.now in
    let games = games_of_item item in
    let at = c.loop-at.at in
    let left_in : item.skip ≤ at = c.loop-at.invariant.left_in in
    let k = at - item.skip in
    let next : k + 1 ≡ at + 1 - item.skip = omega (arith, left_in) in
    let (game, here) = some_there block at (omega (arith, c.loop-at-test.true, c.len-at-end.ensures.value)) in
    let there = slice_get-behind item.skip block at game left_in here in
    record {
      left_in = omega (arith, left_in);
      rest = λ j other le found. subst (λ (bs : List Begun). HasOccurrences query c.args.self.now.filter.now c.args.self.now.ready.now.shapes other.tree (occurrences_of bs)) (sym (c.in_ok-add_one.ensures.others j (λ same. absurd (omega (arith, le, same))))) (c.loop-at.invariant.rest j other (omega (arith, le)) found);
      go_on = λ j other le found. subst (GoOnIn query other.tree) (sym (c.in_ok-add_one.ensures.others j (λ same. absurd (omega (arith, le, same))))) (c.loop-at.invariant.go_on j other (omega (arith, le)) found);
      hits = λ covered.
          let lt = slice_get_within games k game there in
          let covers = subst (λ (h : Game). IsCovered query c.args.self.now.ready.now.shapes h.tree.shape) (get_or_from_slice_get games k game game there) (covered k game lt) in
          subst (λ n. AreHitsAdded (AreHitsFrom item.first query c.args.self.now.filter.now (take n games)) c.args.hits.now.items c.add_one.new.hits.items) next
          (AreHitsAdded-game item.first query c.args.self.now.filter.now c.args.hits.now.items games k game c.loop-at.hits.items c.add_one.new.hits.items _ lt there refl (c.loop-at.invariant.hits covered)
          (c.in_ok-add_one.ensures.hits game here covers));
      visited = AreVisited-then c.args.hits.now.items c.loop-at.hits.items c.add_one.new.hits.items c.args.steps.now c.loop-at.steps c.add_one.new.steps c.loop-at.invariant.visited c.in_ok-add_one.ensures.visited;
      steps =
          subst (λ n. AreStepsIn query (take n games) c.args.steps.now c.add_one.new.steps) next
          (AreStepsIn-more query games k game c.args.steps.now c.loop-at.steps c.add_one.new.steps there c.loop-at.invariant.steps (c.add_one.ensures.steps game here));
    }

pub returns-in_err-add_one-clause-steps : goal.returns-in_err-add_one-clause-steps
returns-in_err-add_one-clause-steps g c =
    let query = c.args.self.now.ready.now.query in
    let item = c.args.item.now in
    let block = item.block.now in
    let games = games_of_item item in
    let at = c.loop-at.at in
    let k = at - item.skip in
    let (game, here) = some_there block at (omega (arith, c.loop-at-test.true, c.len-at-end.ensures.value)) in
    let there = slice_get-behind item.skip block at game c.loop-at.invariant.left_in here in
    AreStepsIn-all query games (k + 1) c.args.steps.now c.add_one.new.steps
    (AreStepsIn-more query games k game c.args.steps.now c.loop-at.steps c.add_one.new.steps there c.loop-at.invariant.steps (c.add_one.ensures.steps game here))

pub returns-clause-hits : goal.returns-clause-hits
returns-clause-hits g c = λ covered.
    let item = c.args.item.now in
    let games = games_of_item item in
    subst (λ gs. AreHitsAdded (AreHitsFrom item.first c.args.self.now.ready.now.query c.args.self.now.filter.now gs) c.args.hits.now.items c.loop-at.hits.items)
    (take_all (c.loop-at.at - item.skip) games (omega (arith, c.loop-at-test.false, c.len-at-end.ensures.value, length-drop item.skip item.block.now)))
    (c.loop-at.invariant.hits covered)

pub returns-clause-steps : goal.returns-clause-steps
returns-clause-steps g c = AreStepsIn-all c.args.self.now.ready.now.query (games_of_item c.args.item.now) (c.loop-at.at - c.args.item.now.skip) c.args.steps.now c.loop-at.steps c.loop-at.invariant.steps
