-- One placement more.
use Rattle.std.proofs.Common.{◌≡◌, ◌↔◌, ◌⊎◌, ◌∙◌, inl, inr, List, arith, subst, sym}
use Rattle.std.specs.Prelude.{Contains}
use Rattle.std.proofs.lemmas.Bool.{eqb-true}
use Rattle.pattern_images.specs.ImageList.{placement_at}
use Rattle.capture_index.specs.Stretches.{BeginsIn}
use Rattle.capture_index.specs.declared.stretch.Stretch.{Stretch}
use Rattle.run_matcher.specs.Begins.{IsKnownIn}
use Rattle.run_matcher.specs.GoingOn.{occurrences_of}
use Rattle.run_matcher.proofs.HoldingOn.{is-sought, on-board}
use Rattle.run_matcher.proofs.OccurrencesOfOne.{gathered-more, known-holds, none-begins}
use Rattle.run_matcher.proofs.gathered.Gathered.add.Goals as goal

pub find-requires : goal.find-requires
find-requires c =
    let images = c.args.placement.now.ready.now.images in
    on-board images.shape c.args.runs.now.shape c.requires (placement_at images.placements c.args.placement.now.number) c.base.result c.wants.result.wants.now c.base.ensures c.wants.ensures.on_board

pub returns-then-is_empty-clause-occurrences : goal.returns-then-is_empty-clause-occurrences
returns-then-is_empty-clause-occurrences c =
    let images = c.args.placement.now.ready.now.images in
    let number = c.args.placement.now.number in
    let wants = c.wants.result.wants.now in
    let sought = is-sought images.shape c.args.runs.now.shape c.requires (placement_at images.placements number) c.base.result wants c.base.ensures c.wants.ensures.placed c.wants.ensures.are in
    let stretches = c.find.new.found.items in
    gathered-more c.args.runs.now images.placements number c.base.result wants stretches sought c.in_ok-find.ensures.apart c.in_ok-find.ensures.nodes (occurrences_of c.args.self.now) (occurrences_of c.args.self.now)
    (none-begins c.args.runs.now stretches number (occurrences_of c.args.self.now) (omega (arith, eqb-true _ 0 (sym c.is_empty.ensures ∙ c.if-is_empty.true), c.find.new.found.ok.0)))

pub returns-then-is_empty-clause-go_on : goal.returns-then-is_empty-clause-go_on
returns-then-is_empty-clause-go_on c = λ deltas are is b h. inl h

pub returns-clause-occurrences : goal.returns-clause-occurrences
returns-clause-occurrences c =
    let images = c.args.placement.now.ready.now.images in
    let number = c.args.placement.now.number in
    let wants = c.wants.result.wants.now in
    let sought = is-sought images.shape c.args.runs.now.shape c.requires (placement_at images.placements number) c.base.result wants c.base.ensures c.wants.ensures.placed c.wants.ensures.are in
    let stretches = c.find.new.found.items in
    gathered-more c.args.runs.now images.placements number c.base.result wants stretches sought c.in_ok-find.ensures.apart c.in_ok-find.ensures.nodes (occurrences_of c.args.self.now) (occurrences_of c.add_begins.new.self)
    (λ o. subst (λ (ss : List Stretch). Contains (occurrences_of c.add_begins.new.self) o ↔ (Contains (occurrences_of c.args.self.now) o ⊎ ((o.placement ≡ number) × BeginsIn c.args.runs.now ss o.node))) c.deref.ensures.value (c.in_ok-add_begins.ensures.occurrences o))

pub returns-clause-go_on : goal.returns-clause-go_on
returns-clause-go_on c = λ deltas are is b h.
    let images = c.args.placement.now.ready.now.images in
    let number = c.args.placement.now.number in
    let wants = c.wants.result.wants.now in
    let sought = is-sought images.shape c.args.runs.now.shape c.requires (placement_at images.placements number) c.base.result wants c.base.ensures c.wants.ensures.placed c.wants.ensures.are in
    let stretches = c.find.new.found.items in
    elim (c.in_ok-add_begins.ensures.go_on b h) [
      | inl was ↦ inl was
      | inr told ↦
          inr (known-holds c.args.runs.now images.placements number c.base.result wants stretches sought c.in_ok-find.ensures.apart c.in_ok-find.ensures.nodes deltas is b
          (subst (λ (ss : List Stretch). IsKnownIn ss number b) c.deref.ensures.value told))
    ]
