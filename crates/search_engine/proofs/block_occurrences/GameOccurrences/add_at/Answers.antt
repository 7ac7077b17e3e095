use Rattle.std.proofs.Common.{◌<◌, ◌∙◌, ap, arith, length}
use Rattle.run_matcher.specs.GoingOn.{GoesOnToHold}
use Rattle.run_matcher.specs.PlacementOccurrences.{IsOccurrenceOf}
use Rattle.search_engine.specs.Gathering.{begun_at}
use Rattle.search_engine.proofs.GatheredLists.{begun-set_other, gains, gains-only}
use Rattle.search_engine.proofs.block_occurrences.GameOccurrences.add_at.Goals as goal

pub returns-clause-here : goal.returns-clause-here
returns-clause-here c = λ changes of.
    let lists = c.self.inside.lists.items in
    let lt : c.args.at < length lists = omega (arith, c.requires.at, c.self.invariant) in
    gains lists c.args.self.now c.args.at c.index_mut.result.now c.add.new.self c.self.view_is lt c.index_mut.ensures.value (IsOccurrenceOf changes c.args.placement.now.ready.now.images.placements c.args.placement.now.number)
    (c.in_ok-add.ensures.occurrences changes of.net (c.runs.ensures.value changes of))

pub returns-clause-go_on : goal.returns-clause-go_on
returns-clause-go_on c = λ changes of.
    let lists = c.self.inside.lists.items in
    let lt : c.args.at < length lists = omega (arith, c.requires.at, c.self.invariant) in
    gains-only lists c.args.self.now c.args.at c.index_mut.result.now c.add.new.self c.self.view_is lt c.index_mut.ensures.value (GoesOnToHold changes c.args.placement.now.ready.now.images.placements)
    (c.in_ok-add.ensures.go_on changes of.net (c.runs.ensures.value changes of))

pub returns-clause-others : goal.returns-clause-others
returns-clause-others c = λ g other.
    begun-set_other c.self.inside.lists.items c.args.at c.add.new.self g other ∙ ap (λ ls. begun_at ls g) c.self.view_is
