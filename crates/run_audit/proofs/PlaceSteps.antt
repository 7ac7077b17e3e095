-- The place of an import among those that stand in order of their lines.
use Rattle.std.proofs.Common.{◌≡◌, ◌≢◌, ◌∙◌, inl, inr, ℕ, ◌+◌, ◌<◌, ◌≤◌, List, get_or, length, ap, arith}
use Rattle.std.proofs.lemmas.Bool.{cases_lt}
use Rattle.std.proofs.lemmas.List.{get_or_default}
use Rattle.run_audit.specs.Courses.{AreAscending}
use Rattle.run_audit.specs.declared.course.ShownImport.{ShownImport}

rises : (shown : List ShownImport) (i j : ℕ) (d : ShownImport) → AreAscending shown → i ≤ j → j < length shown → (get_or shown i d).line ≤ (get_or shown j d).line
rises shown i j d ascending le below = elim (cases_lt i j) [
  | inl less ↦ omega (arith, ascending i j d less below)
  | inr above ↦ let same : i ≡ j = omega (arith, le, above) in omega (arith, ap (λ (k : ℕ). (get_or shown k d).line) same)
]

module _ (shown : List ShownImport) (place line : ℕ) (found : ShownImport) (is : get_or shown place found ≡ found) (within : place < length shown) where
  line_here : (d : ShownImport) → (get_or shown place d).line ≡ found.line
  line_here d = ap (λ (s : ShownImport). s.line) (get_or_default shown place d found within ∙ is)

  -- the lines up to a lower one are lower
  pub low-next : found.line < line → AreAscending shown → (k : ℕ) (d : ShownImport) → k < place + 1 → (get_or shown k d).line < line
  low-next less ascending k d before = omega (arith, less, line_here d, rises shown k place d ascending (omega (arith, before)) within)

  -- and those from one that isn't lower aren't either
  pub high-next : line ≤ found.line → AreAscending shown → (k : ℕ) (d : ShownImport) → place ≤ k → k < length shown → line ≤ (get_or shown k d).line
  high-next past ascending k d behind below = omega (arith, past, line_here d, rises shown place k d ascending behind below)

  -- where another one stands at the place, none has the line
  pub none-other : found.line ≢ line → ((k : ℕ) (d : ShownImport) → k < place → (get_or shown k d).line < line) → ((k : ℕ) (d : ShownImport) → place ≤ k → k < length shown → line ≤ (get_or shown k d).line)
      → AreAscending shown → (k : ℕ) (d : ShownImport) → k < length shown → (get_or shown k d).line ≢ line
  none-other other before behind ascending k d below same = elim (cases_lt k place) [
    | inl less ↦ omega (arith, same, before k d less)
    | inr above ↦ elim (cases_lt place k) [
      | inl more ↦ omega (arith, same, ascending place k d more below, behind place d (omega arith) within)
      | inr too ↦ let here : k ≡ place = omega (arith, above, too) in omega (arith, other, same, line_here d, ap (λ (n : ℕ). (get_or shown n d).line) here)
    ]
  ]

-- where the place is behind all, none has the line
pub none-past : (shown : List ShownImport) (place line : ℕ) → length shown ≤ place → ((k : ℕ) (d : ShownImport) → k < place → (get_or shown k d).line < line) → (k : ℕ) (d : ShownImport) → k < length shown → (get_or shown k d).line ≢ line
none-past shown place line past before k d below same = omega (arith, same, before k d (omega (arith, past, below)))
