-- The imports of a script stand in order of their lines, and each is among those of which it is kept what is shown.
use Rattle.std.proofs.Common.{◌≡◌, ◌∙◌, ℕ, suc, zero, ◌<◌, List, [], ◌∷◌, All, AllPairs, get_or, length, map, refl, sym, ap, subst, arith}
use Rattle.std.specs.Prelude.{Contains}
use Rattle.std.proofs.Math.ListN.{get_or-map}
use Rattle.std.proofs.lemmas.List.{get_or_default, length-map}
use Rattle.std.proofs.lemmas.List.Elements.{All-cons, All-head, All-nil, All-tail, Contains-append_right, Contains-get_or}
use Rattle.std.proofs.lemmas.List.Kept.{AllPairs-cons}
use Rattle.query_script.specs.declared.statement.Placed.{Placed}
use Rattle.query_script.specs.declared.statement.Statement.{Statement}
use Rattle.query_script.specs.declared.statement.Statement.TheVariants as statement
use Rattle.serial_run.specs.Script.{IsScript}
use Rattle.run_audit.specs.Courses.{AreAscending, IsAmongShown, ShowsImport, import_lines}
use Rattle.run_audit.specs.declared.course.ShownImport.{ShownImport}

-- a statement at a line
abbrev place : ℕ → Statement → Placed
place line s = record { line = line; statement = s }

-- ---- the lines of the imports ascend

abbrev IsAbove : ℕ → ℕ → Type 0
IsAbove low n = low < n

above_cons : (low line : ℕ) (s : Statement) (ps : List Placed) → low < line → All (IsAbove low) (import_lines ps) → All (IsAbove low) (import_lines (place line s ∷ ps))
above_cons low line (statement.Import path) ps here rest = All-cons (IsAbove low) line (import_lines ps) here rest
above_cons low line other ps here rest = rest

lines_above : (low : ℕ) (ps : List Placed) → All (λ (p : Placed). low < p.line) ps → All (IsAbove low) (import_lines ps)
lines_above low [] above = All-nil (IsAbove low)
lines_above low (p ∷ ps) above =
    above_cons low p.line p.statement ps (All-head (λ (q : Placed). low < q.line) p ps above) (lines_above low ps (All-tail (λ (q : Placed). low < q.line) p ps above))

ascend_cons : (line : ℕ) (s : Statement) (ps : List Placed) → All (IsAbove line) (import_lines ps) → AllPairs IsAbove (import_lines ps) → AllPairs IsAbove (import_lines (place line s ∷ ps))
ascend_cons line (statement.Import path) ps above rest = AllPairs-cons IsAbove line (import_lines ps) above rest
ascend_cons line other ps above rest = rest

lines_ascend : (placed : List Placed) → AllPairs (λ (a : Placed) (b : Placed). a.line < b.line) placed → AllPairs IsAbove (import_lines placed)
lines_ascend [] ordered = λ i j d less below. absurd (omega (arith, below))
lines_ascend (p ∷ ps) ordered =
    ascend_cons p.line p.statement ps
    (lines_above p.line ps (λ k d below. ordered 0 (suc k) d (omega arith) (omega (arith, below))))
    (lines_ascend ps (λ i j d less below. ordered (suc i) (suc j) d (omega (arith, less)) (omega (arith, below))))

pub shown-ascend : (placed : List Placed) (shown : List ShownImport) → AllPairs (λ (a : Placed) (b : Placed). a.line < b.line) placed → map (λ (s : ShownImport). s.line) shown ≡ import_lines placed → AreAscending shown
shown-ascend placed shown ordered lines i j d less below =
    let long : length (import_lines placed) ≡ length shown = ap length (sym lines) ∙ length-map shown (λ (s : ShownImport). s.line) in
    let at = λ (k : ℕ). ap (λ (l : List ℕ). get_or l k d.line) (sym lines) ∙ get_or-map (λ (s : ShownImport). s.line) shown k d in
    let there : get_or (import_lines placed) i d.line < get_or (import_lines placed) j d.line = lines_ascend placed ordered i j d.line less (omega (arith, below, long)) in
    omega (arith, there, at i, at j)

-- ---- each import is among them

contains_head : (line : ℕ) (s : Statement) (ps : List Placed) (path : List ℕ) → s ≡ statement.Import path → Contains (import_lines (place line s ∷ ps)) line
contains_head line s ps path own = subst (λ (o : Statement). Contains (import_lines (place line o ∷ ps)) line) (sym own) (0, omega arith, refl)

contains_tail : (line : ℕ) (s : Statement) (ps : List Placed) (n : ℕ) → Contains (import_lines ps) n → Contains (import_lines (place line s ∷ ps)) n
contains_tail line (statement.Import path) ps n has = Contains-append_right (line ∷ []) (import_lines ps) n has
contains_tail line other ps n has = has

lines_contain : (placed : List Placed) (k : ℕ) (d : Placed) (path : List ℕ) → k < length placed → (get_or placed k d).statement ≡ statement.Import path → Contains (import_lines placed) (get_or placed k d).line
lines_contain [] k d path below own = absurd (omega (arith, below))
lines_contain (p ∷ ps) zero d path below own = contains_head p.line p.statement ps path own
lines_contain (p ∷ ps) (suc k) d path below own = contains_tail p.line p.statement ps (get_or ps k d).line (lines_contain ps k d path (omega (arith, below)) own)

shown_there : (shown : List ShownImport) (n : ℕ) → Contains (map (λ (s : ShownImport). s.line) shown) n → (s : ShownImport) × Contains shown s × (s.line ≡ n)
shown_there [] n (k, below, at) = absurd (omega (arith, below))
shown_there (e ∷ shown) n (k, below, at) =
    let all = e ∷ shown in
    let inside : k < length all = omega (arith, below, length-map all (λ (s : ShownImport). s.line)) in (
      get_or all k e,
      Contains-get_or all k e inside,
      sym (get_or-map (λ (s : ShownImport). s.line) all k e) ∙ get_or_default (map (λ (s : ShownImport). s.line) all) k e.line n below ∙ at,
    )

module _ (script : List ℕ) (placed : List Placed) (is : IsScript script placed) (shown : List ShownImport) (lines : map (λ (s : ShownImport). s.line) shown ≡ import_lines placed) where
  -- of all that are kept it is kept what is shown
  pub all-shown : (recorded : List ℕ) → (AreAscending shown → All (ShowsImport recorded) shown) → All (ShowsImport recorded) shown
  all-shown recorded each = each (shown-ascend placed shown is.1.ordered lines)

  pub among-shown : (k : ℕ) (p : Placed) → k < length placed → p ≡ get_or placed k p → IsAmongShown p shown
  among-shown k p below at = record {
    ascending = shown-ascend placed shown is.1.ordered lines;
    among = λ path own.
        shown_there shown p.line
        (subst (λ (l : List ℕ). Contains l p.line) (sym lines)
        (subst (λ (q : Placed). Contains (import_lines placed) q.line) (sym at)
        (lines_contain placed k p path below (subst (λ (q : Placed). q.statement ≡ statement.Import path) at own))));
  }
