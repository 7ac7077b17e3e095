use Rattle.std.proofs.Common.{◌≡◌, ◌-◌, List, ap, arith, drop, length, subst, sym, take}
use Rattle.std.proofs.lemmas.Bool.{eqb-true}
use Rattle.std.proofs.lemmas.List.{length-drop, take_all}
use Rattle.std.proofs.lemmas.Result.{IfOk-weaker}
use Rattle.search_engine.specs.declared.item.Item.{Item}
use Rattle.search_engine.specs.Searching.{AreItemHitsAdded}
use Rattle.search_engine.proofs.BlocksSearched.{hits_behind_first, hits_of_first}
use Rattle.search_engine.proofs.pieces.hits_of.Goals as goal

pub returns-then-is_empty : goal.returns-then-is_empty
returns-then-is_empty g c =
    let first = c.in_ok-first.first in
    let items = c.args.items.now in
    let left : take (length items - first.blocks) (drop first.blocks items) ≡ drop first.blocks items = take_all (length items - first.blocks) (drop first.blocks items) (omega (arith, length-drop first.blocks items)) in
    let none : length (take (length items - first.blocks) (drop first.blocks items)) ≡ 0 = eqb-true _ 0 (sym c.if-is_empty.ensures) in
    hits_of_first c.args.searcher.now.ready.now.query c.args.searcher.now.filter.now c.args.searcher.now.ready.now.shapes items first.blocks 0 first.hits.items
    (omega (arith, none, ap (λ (is : List Item). length is) left, length-drop first.blocks items)) c.in_ok-first.ensures.hits c.requires.numbered c.requires.covered

pub returns : goal.returns
returns g c =
    let query = c.args.searcher.now.ready.now.query in
    let filter = c.args.searcher.now.filter.now in
    let shapes = c.args.searcher.now.ready.now.shapes in
    let items = c.args.items.now in
    let first = c.in_ok-first.first in
    let left : take (length items - first.blocks) (drop first.blocks items) ≡ drop first.blocks items = take_all (length items - first.blocks) (drop first.blocks items) (omega (arith, length-drop first.blocks items)) in
    IfOk-weaker c.hits_behind.result _ _ (λ hits behind. hits_behind_first query filter shapes items first.blocks 0 first.hits.items hits.items c.in_ok-first.ensures.hits
    (subst (λ (is : List Item). AreItemHitsAdded query filter shapes is first.hits.items hits.items) left behind) c.requires.numbered c.requires.covered) c.hits_behind.ensures
