use Rattle.std.proofs.Common.{◌≡◌, ◌<◌, ◌∙◌, arith, get_or, length, refl, subst}
use Rattle.node_position.specs.Games.{Game}
use Rattle.version_publisher.specs.declared.state.SearcherState.{SearcherState}
use Rattle.std.proofs.lemmas.List.{get_or_default}
use mathlib.Core.List.{IsPrefix}
use Rattle.search_run.proofs.SeenLemmas.{HaveMet-more}
use Rattle.search_run.proofs.searchers.meet_each.Goals as goal

pub loop-i-preserved : goal.loop-i-preserved
loop-i-preserved g c =
    let h = c.loop-i.invariant in
    let d0 = c.index-searchers-i.result in
    let old = get_or c.loop-i.searchers c.loop-i.i d0 in
    let below : c.loop-i.i < length c.loop-i.searchers = omega (arith, c.loop-i-test.true, h.same_length) in
    let is : (d : SearcherState Game) → get_or c.loop-i.searchers c.loop-i.i d ≡ old = λ d. get_or_default c.loop-i.searchers c.loop-i.i d d0 below in
    HaveMet-more c.args.publisher.now.opening c.args.publisher.now.log c.args.searchers.now c.loop-i.searchers _ c.loop-i.i old c.meet.new.self h below is refl (subst (IsPrefix old.seen) c.meet.ensures.seen.0 c.meet.ensures.seen.1) (c.meet.ensures.same.0 ∙ h.opened c.loop-i.i d0 below)
