use Rattle.std.proofs.Common.{◌/◌, ◌^◌, arith, count_ones, subst}
use Rattle.std.proofs.lemmas.List.{take_all}
use Rattle.node_position.specs.Games.{Game}
use Rattle.search_engine.specs.Items.{games_of_item, games_of_items}
use Rattle.search_engine.specs.KeptGames.{AreKept}
use Rattle.search_engine.specs.Searching.{IsCovered}
use Rattle.search_engine.proofs.BlocksSearched.{All-of_part}
use Rattle.search_engine.proofs.KeptBits.{kept-behind, kept-most}
use Rattle.search_engine.proofs.KeptGames.{AreKept-block, games_longer, within_all}
use Rattle.search_engine.proofs.kept_games.kept_of_items.Goals as goal

pub overflow_add-count : goal.overflow_add-count
overflow_add-count c =
    let query = c.args.ready.now.query in
    let items = c.args.items.now in
    let k = c.loop-item.item-index in
    let item = c.item-item.result in
    let within = within_all items k item c.loop-item-test.true c.item-item.is c.requires.numbered in
    let covered = All-of_part (λ (g : Game). IsCovered query c.args.ready.now.shapes g.tree.shape) games_of_item items k item c.loop-item-test.true c.item-item.is c.requires.covered in
    let here = kept-behind query c.args.ready.now.shapes item c.in_ok-kept.kept c.in_ok-kept.ensures covered in
    omega (arith, within, c.loop-item.invariant.most, kept-most query (games_of_item item) (count_ones (c.in_ok-kept.kept / 2 ^ item.skip)) here)

pub loop-item-init : goal.loop-item-init
loop-item-init c = record { kept = AreKept.nothing; most = omega arith }

pub loop-item-preserved : goal.loop-item-preserved
loop-item-preserved c =
    let query = c.args.ready.now.query in
    let items = c.args.items.now in
    let k = c.loop-item.item-index in
    let item = c.item-item.result in
    let covered = All-of_part (λ (g : Game). IsCovered query c.args.ready.now.shapes g.tree.shape) games_of_item items k item c.loop-item-test.true c.item-item.is c.requires.covered in
    let here = kept-behind query c.args.ready.now.shapes item c.in_ok-kept.kept c.in_ok-kept.ensures covered in
    record {
      kept = AreKept-block query items k item c.loop-item.count (count_ones (c.in_ok-kept.kept / 2 ^ item.skip)) c.loop-item-test.true c.item-item.is c.loop-item.invariant.kept here;
      most = omega (arith, c.loop-item.invariant.most, kept-most query (games_of_item item) (count_ones (c.in_ok-kept.kept / 2 ^ item.skip)) here, games_longer items k item c.loop-item-test.true c.item-item.is);
    }

pub returns : goal.returns
returns c = subst (λ is. AreKept c.args.ready.now.query (games_of_items is) c.loop-item.count) (take_all c.loop-item.item-index c.args.items.now (omega (arith, c.loop-item-test.false))) c.loop-item.invariant.kept
