-- Each script has its statements or a bad line: what each of its lines is can be told, and they are read in order.
use Rattle.std.proofs.Common.{◌≡◌, ◌⊎◌, ◌+◌, ℕ, zero, suc, List, [], ◌∷◌, ◌++◌, codes, length, refl, subst, inl, inr, arith}
use Rattle.std.proofs.lemmas.Bool.{cases_eq, cases_lt}
use Rattle.pattern_images.proofs.Tellings.{Told}
use Rattle.query_script.specs.Bytes.{number_sign}
use Rattle.query_script.specs.declared.line.Line.{Line}
use Rattle.query_script.specs.declared.line.Line.TheVariants as line
use Rattle.query_script.specs.declared.statement.Placed.{Placed}
use Rattle.query_script.specs.declared.statement.PlacedSearch.{PlacedSearch}
use Rattle.query_script.specs.declared.statement.Statement.{Statement}
use Rattle.query_script.specs.declared.statement.Statement.TheVariants as statement
use Rattle.query_script.specs.declared.word.Word.{Word}
use Rattle.query_script.specs.Lines.{IsLine}
use Rattle.query_script.specs.Progress.{AreReadBefore, IsBroken, IsReadInside, IsLineAt}
use Rattle.query_script.specs.Script.{AreStatements, IsLeastBadLine, line_at, most_searches}
use Rattle.query_script.specs.Statements.{IsRemark, IsSkipped}
use Rattle.query_script.specs.Words.{bare}
use Rattle.query_script.proofs.Faults.{no_other_end}
use Rattle.query_script.proofs.LineStatements.{bad-line, end-line, skipped, skipped-line, skipped-remark, statement-line, together-line}
use Rattle.query_script.proofs.ReadInside.{begin_block, block_again, end_broken, end_inside, end_too_early, never_ends, no_room, nothing_spelled, other_statement, placed_block, search_inside, skip_inside, still_broken}
use Rattle.query_script.proofs.ReadOutside.{bad_outside, ends_outside, read-all, read-none, read-skipped, read-statement}
use Rattle.query_script.proofs.ToldSearches.{behind_name, told_name}
use Rattle.query_script.proofs.ToldStatements.{told_statement}
use Rattle.query_script.proofs.ToldWords.{behind_blanks, told_words}

-- ---- what a line is

told_remark : (rest : List ℕ) → Told (IsRemark rest)
told_remark [] = inl (inl refl)
told_remark (c ∷ rest) = elim (cases_eq c number_sign) [
  | inl is ↦ inl (inr (rest, let e : c ∷ rest ≡ number_sign ∷ rest = cc in e))
  | inr other ↦ inr (λ remark. elim remark [
    | inl empty ↦ absurd (cc empty)
    | inr (text, is) ↦ other (let first : c ≡ number_sign = cc in first)
  ])
]

-- the only word is this bare one
told_only : (name : List ℕ) (words : List Word) → Told (words ≡ bare name ∷ [])
told_only name words = elim (told_name name words) [
  | inr absent ↦ inr (absent [])
  | inl ([], is) ↦ inl is
  | inl (w ∷ rest, is) ↦ inr (λ other. let none : w ∷ rest ≡ [] = behind_name name words (w ∷ rest) [] is other in absurd (cc none))
]

-- a line that isn't skipped
told_shown : (text : List ℕ) → (IsSkipped text → ⊥) → (is : Line) × IsLine text is
told_shown text shown = elim (told_words text) [
  | inr none ↦ (line.Bad, (shown, λ together. none _ together, λ end. none _ end, λ s spelled. none spelled.0 spelled.1))
  | inl (words, are) ↦ elim (told_only (codes "together") words) [
    | inl is ↦ (line.Together, together-line text words are shown is)
    | inr no_together ↦ elim (told_only (codes "end") words) [
      | inl is ↦ (line.End, end-line text words are shown is)
      | inr no_end ↦ elim (told_statement words) [
        | inl (s, spelled, _) ↦ (line.Statement s, statement-line text words s are shown no_together no_end spelled)
        | inr never ↦ (line.Bad, bad-line text words are shown no_together no_end never)
      ]
    ]
  ]
]

told_line : (text : List ℕ) → (is : Line) × IsLine text is
told_line text =
    let (rest, behind, starts) = behind_blanks text in
    elim (told_remark rest) [
      | inl remark ↦ (line.Skipped, skipped-line text (skipped text rest behind remark))
      | inr other ↦ told_shown text (λ skip. other (skipped-remark text rest behind starts skip))
    ]

-- ---- the lines in order

module _ (lines : List (List ℕ)) where
  -- the statements of the lines, or the least bad line
  abbrev Answer : Type 0
  Answer = ((placed : List Placed) × AreStatements lines placed) ⊎ ((k : ℕ) × IsLeastBadLine lines k)

  -- Where reading stands: outside blocks, in a block without a bad line so far, or in one with a bad line.
  data Stand (k : ℕ) : Type 0 where
    outside : (placed : List Placed) → AreReadBefore lines k placed → Stand k
    inside : (placed : List Placed) (first : ℕ) (searches : List PlacedSearch) → IsReadInside lines k placed first searches → Stand k
    broken : (placed : List Placed) (first bad : ℕ) → IsBroken lines k placed first bad → Stand k

  abbrev Step : ℕ → Type 0
  Step k = Stand (k + 1) ⊎ ((j : ℕ) × IsLeastBadLine lines j)

  step_outside : (k : ℕ) (placed : List Placed) → AreReadBefore lines k placed → (is : Line) → IsLineAt lines k is → Step k
  step_outside k placed read line.Skipped at = inl (outside placed (read-skipped lines k placed read at))
  step_outside k placed read line.Together at = inl (inside placed k [] (begin_block lines k placed read at))
  step_outside k placed read line.End at = inr (k, ends_outside lines k placed read at)
  step_outside k placed read (line.Statement s) at =
      let p : Placed = record { line = k; statement = s } in
      inl (outside (placed ++ p ∷ []) (read-statement lines p placed read at))
  step_outside k placed read line.Bad at = inr (k, bad_outside lines k placed read at)

  step_statement : (k : ℕ) (placed : List Placed) (first : ℕ) (searches : List PlacedSearch) → IsReadInside lines k placed first searches →
      (s : Statement) → IsLineAt lines k (line.Statement s) → Step k
  step_statement k placed first searches h (statement.Search query filter) at = elim (cases_lt (length searches) most_searches) [
    | inl room ↦ inl (inside placed first (searches ++ record { line = k; query = query; filter = filter } ∷ []) (search_inside lines k placed first searches h query filter room at))
    | inr full ↦ inl (broken placed first k (no_room lines k placed first searches h query filter full at))
  ]
  step_statement k placed first searches h (statement.Import path) at =
      inl (broken placed first k (other_statement lines k placed first searches h (statement.Import path) (λ is. absurd (cc is.2)) at))
  step_statement k placed first searches h (statement.Make games start) at =
      inl (broken placed first k (other_statement lines k placed first searches h (statement.Make games start) (λ is. absurd (cc is.2)) at))
  step_statement k placed first searches h statement.Wait at =
      inl (broken placed first k (other_statement lines k placed first searches h statement.Wait (λ is. absurd (cc is.2)) at))
  step_statement k placed first searches h (statement.Until number) at =
      inl (broken placed first k (other_statement lines k placed first searches h (statement.Until number) (λ is. absurd (cc is.2)) at))
  step_statement k placed first searches h (statement.Together block) at =
      inl (broken placed first k (other_statement lines k placed first searches h (statement.Together block) (λ is. absurd (cc is.2)) at))
  step_statement k placed first searches h (statement.Kept query) at =
      inl (broken placed first k (other_statement lines k placed first searches h (statement.Kept query) (λ is. absurd (cc is.2)) at))
  step_statement k placed first searches h (statement.Signature pattern) at =
      inl (broken placed first k (other_statement lines k placed first searches h (statement.Signature pattern) (λ is. absurd (cc is.2)) at))
  step_statement k placed first searches h statement.Players at =
      inl (broken placed first k (other_statement lines k placed first searches h statement.Players (λ is. absurd (cc is.2)) at))
  step_statement k placed first searches h statement.Doubles at =
      inl (broken placed first k (other_statement lines k placed first searches h statement.Doubles (λ is. absurd (cc is.2)) at))
  step_statement k placed first searches h (statement.Game number) at =
      inl (broken placed first k (other_statement lines k placed first searches h (statement.Game number) (λ is. absurd (cc is.2)) at))
  step_statement k placed first searches h (statement.Opening shape depth least) at =
      inl (broken placed first k (other_statement lines k placed first searches h (statement.Opening shape depth least) (λ is. absurd (cc is.2)) at))
  step_statement k placed first searches h statement.Report at =
      inl (broken placed first k (other_statement lines k placed first searches h statement.Report (λ is. absurd (cc is.2)) at))
  step_statement k placed first searches h (statement.Retire name) at =
      inl (broken placed first k (other_statement lines k placed first searches h (statement.Retire name) (λ is. absurd (cc is.2)) at))
  step_statement k placed first searches h (statement.Watch name query filter) at =
      inl (broken placed first k (other_statement lines k placed first searches h (statement.Watch name query filter) (λ is. absurd (cc is.2)) at))
  step_statement k placed first searches h (statement.Watched name) at =
      inl (broken placed first k (other_statement lines k placed first searches h (statement.Watched name) (λ is. absurd (cc is.2)) at))

  step_end : (k : ℕ) (placed : List Placed) (first : ℕ) (searches : List PlacedSearch) → IsReadInside lines k placed first searches →
      IsLineAt lines k line.End → Step k
  step_end k placed first [] h at = inr (k, end_too_early lines k placed first [] h refl at)
  step_end k placed first (s ∷ searches) h at =
      inl (outside (placed ++ placed_block lines first (s ∷ searches) ∷ []) (end_inside lines k placed first (s ∷ searches) h (omega arith) at))

  step_inside : (k : ℕ) (placed : List Placed) (first : ℕ) (searches : List PlacedSearch) → IsReadInside lines k placed first searches →
      (is : Line) → IsLineAt lines k is → Step k
  step_inside k placed first searches h line.Skipped at = inl (inside placed first searches (skip_inside lines k placed first searches h at))
  step_inside k placed first searches h line.Together at = inl (broken placed first k (block_again lines k placed first searches h at))
  step_inside k placed first searches h line.End at = step_end k placed first searches h at
  step_inside k placed first searches h (line.Statement s) at = step_statement k placed first searches h s at
  step_inside k placed first searches h line.Bad at = inl (broken placed first k (nothing_spelled lines k placed first searches h at))

  step_broken : (k : ℕ) (placed : List Placed) (first bad : ℕ) → IsBroken lines k placed first bad → (is : Line) → IsLineAt lines k is → Step k
  step_broken k placed first bad h line.End at = inr (bad, end_broken lines k placed first bad h at)
  step_broken k placed first bad h line.Skipped at =
      inl (broken placed first bad (still_broken lines k placed first bad h line.Skipped (no_other_end line.Skipped at.line (λ e. absurd (cc e))) at))
  step_broken k placed first bad h line.Together at =
      inl (broken placed first bad (still_broken lines k placed first bad h line.Together (no_other_end line.Together at.line (λ e. absurd (cc e))) at))
  step_broken k placed first bad h (line.Statement s) at =
      inl (broken placed first bad (still_broken lines k placed first bad h (line.Statement s) (no_other_end (line.Statement s) at.line (λ e. absurd (cc e))) at))
  step_broken k placed first bad h line.Bad at =
      inl (broken placed first bad (still_broken lines k placed first bad h line.Bad (no_other_end line.Bad at.line (λ e. absurd (cc e))) at))

  step : (k : ℕ) → Stand k → (is : Line) → IsLineAt lines k is → Step k
  step k (outside placed read) is at = step_outside k placed read is at
  step k (inside placed first searches h) is at = step_inside k placed first searches h is at
  step k (broken placed first bad h) is at = step_broken k placed first bad h is at

  at_end : Stand (length lines + 1) → Answer
  at_end (outside placed read) = inl (placed, read-all lines placed read)
  at_end (inside placed first searches h) = inr (first, never_ends lines first placed h.begun)
  at_end (broken placed first bad h) = inr (first, never_ends lines first placed h.begun)

  read_from : (left k : ℕ) → k + left ≡ length lines + 1 → Stand k → Answer
  read_from zero k all stand = at_end (subst Stand (let end : k ≡ length lines + 1 = omega arith in end) stand)
  read_from (suc left) k all stand =
      let told = told_line (line_at lines k) in
      elim (step k stand told.0 (record { to_last = omega arith; line = told.1 })) [
        | inl next ↦ read_from left (k + 1) (omega arith) next
        | inr bad ↦ inr bad
      ]

  pub told_lines : Answer
  told_lines = read_from (length lines) 1 (omega arith) (outside [] (read-none lines))
