use Rattle.std.proofs.Common.{◌≡◌, ◌<◌, ◌↔◌, ◌∙◌, List, ap, arith, length, subst, sym}
use Rattle.std.specs.Prelude.{Contains}
use Rattle.pattern_occurrences.specs.Occurrences.{occurrences_in}
use Rattle.run_matcher.specs.GoingOn.{occurrences_of}
use Rattle.run_matcher.specs.declared.begun.Begun.{Begun}
use Rattle.search_engine.specs.Gathering.{begun_at}
use Rattle.search_engine.proofs.GatheredLists.{begun-read, begun-set_other}
use Rattle.search_engine.proofs.block_occurrences.GameOccurrences.sorted.Goals as goal

pub returns-clause-list : goal.returns-clause-list
returns-clause-list c = λ changes placements same.
    let lists = c.self.inside.lists.items in
    let lt : c.args.at < length lists = omega (arith, c.requires, c.self.invariant) in
    let here : c.index_mut.result.now ≡ begun_at c.args.self.now c.args.at = begun-read lists c.args.at c.index_mut.result.now lt c.index_mut.ensures.value ∙ ap (λ ls. begun_at ls c.args.at) c.self.view_is in
    c.in_ok-sorted.ensures.list changes placements (λ o. subst (λ (bs : List Begun). Contains (occurrences_of bs) o ↔ Contains (occurrences_in changes placements) o) (sym here) (same o))

pub returns-clause-from : goal.returns-clause-from
returns-clause-from c = λ b h.
    let lists = c.self.inside.lists.items in
    let lt : c.args.at < length lists = omega (arith, c.requires, c.self.invariant) in
    let here : c.index_mut.result.now ≡ begun_at c.args.self.now c.args.at = begun-read lists c.args.at c.index_mut.result.now lt c.index_mut.ensures.value ∙ ap (λ ls. begun_at ls c.args.at) c.self.view_is in
    subst (λ (bs : List Begun). Contains bs b) here (c.in_ok-sorted.ensures.from b h)

pub returns-clause-others : goal.returns-clause-others
returns-clause-others c = λ g other.
    begun-set_other c.self.inside.lists.items c.args.at c.sorted.new.self g other ∙ ap (λ ls. begun_at ls g) c.self.view_is
