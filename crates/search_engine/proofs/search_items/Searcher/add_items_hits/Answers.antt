use Rattle.std.proofs.Common.{◌+◌, arith, take}
use Rattle.search_engine.specs.Items.{games_of_items}
use Rattle.search_engine.proofs.BlocksSearched.{so_far-all, so_far-more, so_far-none}
use Rattle.search_engine.proofs.StepsTaken.{AreStepsIn-block, AreStepsIn-items, AreStepsIn-none}
use Rattle.search_engine.proofs.NodesVisited.{AreVisited-none, AreVisited-then}
use Rattle.search_engine.proofs.search_items.Searcher.add_items_hits.Goals as goal

pub returns-in_err-room-clause-steps : goal.returns-in_err-room-clause-steps
returns-in_err-room-clause-steps g c = AreStepsIn-none c.args.self.now.ready.now.query (games_of_items c.args.items.now) c.args.steps.now

pub loop-item-init : goal.loop-item-init
loop-item-init g c = record {
  hits = so_far-none c.args.self.now.ready.now.query c.args.self.now.filter.now c.args.self.now.ready.now.shapes c.args.items.now c.args.hits.now.items;
  visited = AreVisited-none c.args.hits.now.items c.args.steps.now;
  steps = AreStepsIn-none c.args.self.now.ready.now.query (games_of_items (take 0 c.args.items.now)) c.args.steps.now;
}

pub loop-item-preserved : goal.loop-item-preserved
loop-item-preserved g c = record {
  hits = so_far-more c.args.self.now.ready.now.query c.args.self.now.filter.now c.args.self.now.ready.now.shapes c.args.items.now c.loop-item.item-index c.item-item.result c.args.hits.now.items c.loop-item.hits.items c.add_block.new.hits.items c.loop-item-test.true c.item-item.is c.loop-item.invariant.hits c.in_ok-add_block.ensures.hits;
  visited = AreVisited-then c.args.hits.now.items c.loop-item.hits.items c.add_block.new.hits.items c.args.steps.now c.loop-item.steps c.add_block.new.steps c.loop-item.invariant.visited c.in_ok-add_block.ensures.visited;
  steps = AreStepsIn-block c.args.self.now.ready.now.query c.args.items.now c.loop-item.item-index c.item-item.result c.args.steps.now c.loop-item.steps c.add_block.new.steps c.loop-item-test.true c.item-item.is c.loop-item.invariant.steps c.add_block.ensures.steps;
}

pub returns-in_err-add_block-clause-steps : goal.returns-in_err-add_block-clause-steps
returns-in_err-add_block-clause-steps g c =
    AreStepsIn-items c.args.self.now.ready.now.query c.args.items.now (c.loop-item.item-index + 1) c.args.steps.now c.add_block.new.steps
    (AreStepsIn-block c.args.self.now.ready.now.query c.args.items.now c.loop-item.item-index c.item-item.result c.args.steps.now c.loop-item.steps c.add_block.new.steps c.loop-item-test.true c.item-item.is c.loop-item.invariant.steps c.add_block.ensures.steps)

pub returns-clause-hits : goal.returns-clause-hits
returns-clause-hits g c = so_far-all c.args.self.now.ready.now.query c.args.self.now.filter.now c.args.self.now.ready.now.shapes c.args.items.now c.loop-item.item-index c.args.hits.now.items c.loop-item.hits.items (omega (arith, c.loop-item-test.false)) c.loop-item.invariant.hits

pub returns-clause-steps : goal.returns-clause-steps
returns-clause-steps g c = AreStepsIn-items c.args.self.now.ready.now.query c.args.items.now c.loop-item.item-index c.args.steps.now c.loop-item.steps c.loop-item.invariant.steps
