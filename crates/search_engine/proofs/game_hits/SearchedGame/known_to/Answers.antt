-- The runs tell how far it goes on to hold, where that isn't known.
use Rattle.std.proofs.Common.{ℕ, sym, ap, subst₂, arith}
use Rattle.pattern_images.specs.ImageList.{placement_at}
use Rattle.pattern_occurrences.specs.Occurrences.{HoldsAt}
use Rattle.ready_images.specs.Ready.{ReadyList}
use Rattle.capture_index.specs.NodePositions.{count_in}
use Rattle.run_matcher.proofs.BegunNodes.{count-seen}
use Rattle.search_engine.proofs.game_hits.SearchedGame.known_to.Goals as goal

pub returns-in-Known : goal.returns-in-Known
returns-in-Known c = λ k from below. c.requires.go_on c.in-Known.end k c.in-Known.is from below

pub holds_to-requires-clause-in_range : goal.holds_to-requires-clause-in_range
holds_to-requires-clause-in_range c =
    let is = c.runs.ensures.value c.args.deltas.now c.requires.changes in
    omega (arith, c.requires.node, ap count_in is, count-seen c.args.deltas.now, c.requires.changes.lead.each_node)

pub returns-in-Unknown : goal.returns-in-Unknown
returns-in-Unknown c = λ k from below.
    let o = c.args.begun.occurrence in
    let changes = c.args.deltas.now in
    let held = subst₂ (λ (r : ReadyList) (i : ℕ). HoldsAt changes (placement_at r.images.placements i) o.node) (sym c.placement.ensures.ready) (sym c.placement.ensures.number) c.requires.holds in
    subst₂ (λ (r : ReadyList) (i : ℕ). HoldsAt changes (placement_at r.images.placements i) k) c.placement.ensures.ready c.placement.ensures.number
    (c.holds_to.ensures.holds changes c.requires.changes.net (c.runs.ensures.value changes c.requires.changes) held k from below)
