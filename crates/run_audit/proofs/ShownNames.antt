-- Whether a record shows a file as unread is told by the names that are kept of it.
use Rattle.std.proofs.Common.{◌≡◌, ◌∙◌, inl, inr, ℕ, ◌<◌, ◌≤◌, Bool, List, length, sym}
use Rattle.std.specs.Borrow.{Bor}
use Rattle.std.specs.Prelude.{MatchResult, Result, is_ok}
use Rattle.std.specs.Cmp.Lexicographic.{slice_cmp}
use Rattle.std.specs.List.Sorted.{IsBinarySearchResult}
use Rattle.std.specs.Ordering.{nat_cmp}
use Rattle.run_audit.specs.Courses.{ShowsImport}
use Rattle.run_audit.specs.Shown.{is_shown_unread}
use Rattle.run_audit.specs.declared.course.ShownImport.{ShownImport}
use Rattle.run_audit.proofs.CourseSteps.{both-or}
use Rattle.run_audit.proofs.SortedNames.{search-has, search-lacks}

pub told-unread : (shown : ShownImport) (recorded name : List ℕ) (b : Bool) (r : Result ℕ ℕ) → ShowsImport recorded shown → MatchResult r (λ i. i < length shown.unread.items) (λ i. i ≤ length shown.unread.items)
    → IsBinarySearchResult (λ (y : Bor (List ℕ)). slice_cmp nat_cmp y.now name) shown.unread.items r → b ≡ is_ok r → b ≡ is_shown_unread recorded shown.line name
told-unread shown recorded name b r shows within found is = elim (both-or (is_ok r)) [
  | inl has ↦ is ∙ has ∙ sym ((shows.unread name).0 (search-has shown.unread.items name r shows.ascending found has within))
  | inr lacks ↦ elim (both-or (is_shown_unread recorded shown.line name)) [
    | inl holds ↦ absurd (search-lacks shown.unread.items name r shows.ascending found lacks ((shows.unread name).1 holds))
    | inr none ↦ is ∙ lacks ∙ sym none
  ]
]
