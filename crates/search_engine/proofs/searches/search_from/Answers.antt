use Rattle.std.proofs.Common.{drop, subst}
use Rattle.pattern_images.specs.declared.query.Query.{Query}
use Rattle.search_engine.specs.Hits.{AreHitsFrom}
use Rattle.search_engine.specs.Items.{games_of_items}
use Rattle.search_engine.specs.Searching.{AreCovered, AreItemHitsAdded}
use Rattle.search_engine.proofs.BlocksSearched.{hits_of_items}
use Rattle.search_engine.proofs.NodesVisited.{visited_alone}
use Rattle.search_engine.proofs.StepsTaken.{steps_of_items}
use Rattle.search_engine.proofs.searches.search_from.Goals as goal

pub returns-clause-hits : goal.returns-clause-hits
returns-clause-hits g c =
    let filter = c.args.filter.now in
    let ready = c.in_ok-ready.ready in
    let items = c.in_ok-items.items.items in
    let games = drop c.args.from c.args.part.now in
    let new = c.add_items_hits.new.hits.items in
    let covered = subst (λ is. AreCovered ready.query ready.shapes (games_of_items is)) c.deref.ensures.value c.in_ok-ready.ensures.covered in
    let added = subst (λ is. AreItemHitsAdded ready.query filter ready.shapes is c.new-hits.result.items new) c.deref-2.ensures.value c.in_ok-add_items_hits.ensures.hits in
    subst (λ (q : Query). AreHitsFrom c.args.first q filter games new) c.in_ok-ready.ensures.same_query
    (hits_of_items ready.query filter ready.shapes items c.args.first games c.new-hits.result.items new c.in_ok-items.ensures covered c.new-hits.ensures.items added)

pub returns-clause-visited : goal.returns-clause-visited
returns-clause-visited g c = visited_alone c.new-hits.result.items c.add_items_hits.new.hits.items c.args.steps.now c.add_items_hits.new.steps c.new-hits.ensures.items c.in_ok-add_items_hits.ensures.visited

pub returns-clause-ticks : goal.returns-clause-ticks
returns-clause-ticks g c =
    let steps = steps_of_items c.args.query.now c.in_ok-ready.ready c.in_ok-items.items.items c.deref-2.result.now c.args.first (drop c.args.from c.args.part.now) c.args.steps.now c.add_items_hits.new.steps c.in_ok-ready.ensures.same_query c.deref-2.ensures.value c.in_ok-items.ensures c.add_items_hits.ensures.steps in
    steps.most

pub returns-clause-kept_ticks : goal.returns-clause-kept_ticks
returns-clause-kept_ticks g c =
    let steps = steps_of_items c.args.query.now c.in_ok-ready.ready c.in_ok-items.items.items c.deref-2.result.now c.args.first (drop c.args.from c.args.part.now) c.args.steps.now c.add_items_hits.new.steps c.in_ok-ready.ensures.same_query c.deref-2.ensures.value c.in_ok-items.ensures c.add_items_hits.ensures.steps in
    steps.of_kept

pub returns-clause-grows : goal.returns-clause-grows
returns-clause-grows g c = c.add_items_hits.ensures.steps.grows

pub returns-in_err-add_items_hits-clause-ticks : goal.returns-in_err-add_items_hits-clause-ticks
returns-in_err-add_items_hits-clause-ticks g c =
    let steps = steps_of_items c.args.query.now c.in_ok-ready.ready c.in_ok-items.items.items c.deref-2.result.now c.args.first (drop c.args.from c.args.part.now) c.args.steps.now c.add_items_hits.new.steps c.in_ok-ready.ensures.same_query c.deref-2.ensures.value c.in_ok-items.ensures c.add_items_hits.ensures.steps in
    steps.most

pub returns-in_err-add_items_hits-clause-kept_ticks : goal.returns-in_err-add_items_hits-clause-kept_ticks
returns-in_err-add_items_hits-clause-kept_ticks g c =
    let steps = steps_of_items c.args.query.now c.in_ok-ready.ready c.in_ok-items.items.items c.deref-2.result.now c.args.first (drop c.args.from c.args.part.now) c.args.steps.now c.add_items_hits.new.steps c.in_ok-ready.ensures.same_query c.deref-2.ensures.value c.in_ok-items.ensures c.add_items_hits.ensures.steps in
    steps.of_kept

pub returns-in_err-add_items_hits-clause-grows : goal.returns-in_err-add_items_hits-clause-grows
returns-in_err-add_items_hits-clause-grows g c = c.add_items_hits.ensures.steps.grows
