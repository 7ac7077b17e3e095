-- Between two positions with as many cells there are net changes: one for each point whose cell differs.
use Rattle.std.proofs.Common.{◌≡◌, ◌≢◌, ℕ, zero, suc, ◌+◌, ◌<◌, ◌≤◌, ◌⊎◌, inl, inr, List, [], ◌∷◌, length, refl, sym, ◌∙◌, arith}
use Rattle.std.specs.Prelude.{All, AllPairs}
use Rattle.std.proofs.lemmas.Bool.{cases_eq, cases_lt}
use Rattle.std.proofs.lemmas.List.{get_or_past}
use Rattle.std.proofs.lemmas.List.Elements.{All-cons, All-nil, All-weaker}
use Rattle.std.proofs.lemmas.List.Kept.{AllPairs-cons}
use Rattle.kb_geometry.specs.declared.stone.Cell.TheVariants as cell
use Rattle.kb_geometry.specs.declared.stone.Change.{Change}
use Rattle.kb_geometry.specs.Capture.{Position, cell_at}
use Rattle.capture_board.specs.Changes.{LeadFrom}
use Rattle.capture_board.proofs.Cells.{cases_cell}
use Rattle.capture_board.proofs.NetChanges.{IsChangedOn, IsUnchangedOn, LeadFrom-by_points, change_of, changed_later}

-- the changes of the points from a number on
record AreChangesFrom (before after : Position) (start : ℕ) (changes : List Change) : Type 0 where
  from : All (λ (c : Change). start ≤ c.point) changes
  on_board : All (λ (c : Change). c.point < length before) changes
  ascending : AllPairs (λ (c d : Change). c.point < d.point) changes
  old : All (λ (c : Change). c.old ≡ cell_at before c.point) changes
  new : All (λ (c : Change). cell_at after c.point ≡ c.new) changes
  differ : All (λ (c : Change). c.old ≢ c.new) changes
  complete : (p : ℕ) → start ≤ p → p < length before → cell_at before p ≢ cell_at after p → IsChangedOn p changes

module _ (before after : Position) where
  none_from : (start : ℕ) → length before ≤ start → AreChangesFrom before after start []
  none_from start end = record {
    from = All-nil (λ (c : Change). start ≤ c.point);
    on_board = All-nil (λ (c : Change). c.point < length before);
    ascending = λ i j d low high. absurd (omega arith);
    old = All-nil (λ (c : Change). c.old ≡ cell_at before c.point);
    new = All-nil (λ (c : Change). cell_at after c.point ≡ c.new);
    differ = All-nil (λ (c : Change). c.old ≢ c.new);
    complete = λ p low high. absurd (omega arith);
  }

  module _ (p : ℕ) (rest : List Change) (are : AreChangesFrom before after (suc p) rest) where
    lower : All (λ (c : Change). p ≤ c.point) rest
    lower = All-weaker (λ (c : Change). suc p ≤ c.point) (λ (c : Change). p ≤ c.point) (λ c le. omega arith) rest are.from

    same_at : cell_at before p ≡ cell_at after p → AreChangesFrom before after p rest
    same_at same = record {
      from = lower;
      on_board = are.on_board;
      ascending = are.ascending;
      old = are.old;
      new = are.new;
      differ = are.differ;
      complete = λ q low high differs. elim (cases_eq q p) [
        | inl e ↦ absurd (differs (rw e same))
        | inr other ↦ are.complete q (omega arith) high differs
      ];
    }

    differ_at : p < length before → cell_at before p ≢ cell_at after p
        → AreChangesFrom before after p (change_of before after p ∷ rest)
    differ_at fits differs =
        let here : Change = change_of before after p in
        record {
          from = All-cons (λ (c : Change). p ≤ c.point) here rest (omega arith) lower;
          on_board = All-cons (λ (c : Change). c.point < length before) here rest fits are.on_board;
          ascending = AllPairs-cons (λ (c d : Change). c.point < d.point) here rest
              (All-weaker (λ (c : Change). suc p ≤ c.point) (λ (c : Change). p < c.point) (λ c le. omega arith) rest are.from)
              are.ascending;
          old = All-cons (λ (c : Change). c.old ≡ cell_at before c.point) here rest refl are.old;
          new = All-cons (λ (c : Change). cell_at after c.point ≡ c.new) here rest refl are.new;
          differ = All-cons (λ (c : Change). c.old ≢ c.new) here rest differs are.differ;
          complete = λ q low high apart. elim (cases_eq p q) [
            | inl e ↦ (0, here, omega arith, refl, e)
            | inr other ↦ changed_later q here rest (are.complete q (omega arith) high apart)
          ];
        }

  changes_from : (n start : ℕ) → start + n ≡ length before → (changes : List Change) × AreChangesFrom before after start changes
  changes_from zero start e = ([], none_from start (omega arith))
  changes_from (suc n) start e =
      let rest = changes_from n (suc start) (omega arith) in
      elim (cases_cell (cell_at before start) (cell_at after start)) [
        | inl same ↦ (rest.0, same_at start rest.0 rest.1 same)
        | inr differs ↦ (change_of before after start ∷ rest.0, differ_at start rest.0 rest.1 (omega arith) differs)
      ]

  module _ (same_length : length after ≡ length before) (changes : List Change) (are : AreChangesFrom before after 0 changes) where
    unlisted : (p : ℕ) → IsUnchangedOn p changes → (p < length before) ⊎ (length before ≤ p)
        → (cell_at after p ≡ cell_at before p) ⊎ (cell_at after p ≢ cell_at before p) → cell_at after p ≡ cell_at before p
    unlisted p none fits (inl same) = same
    unlisted p none (inr past) (inr differs) =
        get_or_past after p cell.Empty (omega arith) ∙ sym (get_or_past before p cell.Empty past)
    unlisted p none (inl fits) (inr differs) =
        let there = are.complete p (omega arith) fits (λ e. differs (sym e)) in
        absurd (none there.0 there.1 there.2 (rw there.3 there.4))

    lead_found : LeadFrom before changes after
    lead_found = LeadFrom-by_points before changes after
        (record { on_board = are.on_board; ascending = are.ascending; old = are.old; differ = are.differ })
        same_length are.new
        (λ p none. unlisted p none (cases_lt p (length before)) (cases_cell (cell_at after p) (cell_at before p)))

pub LeadFrom-found : (before after : Position) → length after ≡ length before → (changes : List Change) × LeadFrom before changes after
LeadFrom-found before after same =
    let found = changes_from before after (length before) 0 (omega arith) in
    (found.0, lead_found before after same found.0 found.1)
