-- Keys that are sorted, and of each occurrence the first.
use Rattle.std.proofs.Common.{◌↔◌, List, sym, subst}
use Rattle.std.specs.Prelude.{Contains, IsPermutation}
use Rattle.pattern_occurrences.specs.Occurrences.{occurrences_in}
use Rattle.run_matcher.specs.GoingOn.{occurrences_of}
use Rattle.run_matcher.specs.declared.begun.Begun.{Begun}
use Rattle.run_matcher.proofs.SortedKeys.{from_keys, sorted-occurrences}
use Rattle.run_matcher.proofs.gathered.Gathered.sorted.Goals as goal

pub returns-clause-list : goal.returns-clause-list
returns-clause-list c = λ deltas placements same.
    let keys = c.self.inside.keys.items in
    let moved = subst (IsPermutation keys) (sym c.deref.ensures.value) c.sort_unstable.ensures.permutation in
    sorted-occurrences keys c.deref.result.now moved c.in_ok-begun_once.field-0.items c.in_ok-begun_once.ensures.from c.in_ok-begun_once.ensures.all c.in_ok-begun_once.ensures.ordered deltas placements
    (λ o. subst (λ (bs : List Begun). Contains (occurrences_of bs) o ↔ Contains (occurrences_in deltas placements) o) (sym c.self.view_is) (same o))

pub returns-clause-from : goal.returns-clause-from
returns-clause-from c = λ b h.
    let keys = c.self.inside.keys.items in
    let moved = subst (IsPermutation keys) (sym c.deref.ensures.value) c.sort_unstable.ensures.permutation in
    subst (λ (bs : List Begun). Contains bs b) c.self.view_is (from_keys keys c.deref.result.now moved c.in_ok-begun_once.field-0.items c.in_ok-begun_once.ensures.from b h)
