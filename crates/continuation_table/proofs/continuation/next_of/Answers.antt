use Rattle.std.proofs.Common.{◌≡◌, ℕ, true, false, Option, Some, None, refl, sym, subst, ◌∙◌, arith}
use Rattle.std.specs.Prelude.{IfNone}
use Rattle.pattern_images.specs.declared.hit.Next.{Next}
use Rattle.pattern_images.specs.ImageList.{placement_at}
use Rattle.pattern_occurrences.specs.Occurrences.{HoldsAt}
use Rattle.continuation_table.specs.Continuation.{IsContinuation}
use Rattle.continuation_table.proofs.continuation.next_of.Goals as goal

weaker_none : (r : Option Next) (P Q : Type 0) → (P → Q) → IfNone r P → IfNone r Q
weaker_none None P Q weaker h = weaker h
weaker_none (Some next) P Q weaker h = tt

pub returns-then-not-holds_at-clause-none : goal.returns-then-not-holds_at-clause-none
returns-then-not-holds_at-clause-none c = λ i lt is next goes_on.
    let same : c.number_of_place-i.result ≡ i = c.number_of_place-i.ensures.value i lt is in
    let holds : HoldsAt c.args.deltas.now (placement_at c.args.images.now.placements i) c.args.found.now.node = goes_on.held 0 c.args.found.now.node (omega arith) refl in
    let told = c.holds_at.ensures.1 (subst (λ (k : ℕ). HoldsAt c.args.deltas.now (placement_at c.args.images.now.placements k) c.args.found.now.node) (sym same) holds) in
    let no : false ≡ true = sym c.if-not-holds_at.true ∙ told in
    absurd cc

pub returns-clause-none : goal.returns-clause-none
returns-clause-none c =
    weaker_none c.next_below.result _ _
    (λ none i lt is next goes_on.
    let same : c.number_of_place-i.result ≡ i = c.number_of_place-i.ensures.value i lt is in
    none next (subst (λ (k : ℕ). IsContinuation c.args.tree.now c.args.deltas.now (placement_at c.args.images.now.placements k) c.args.found.now.node next) (sym same) goes_on))
    c.next_below.ensures.none
