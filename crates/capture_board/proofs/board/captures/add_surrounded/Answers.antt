use Rattle.std.proofs.Common.{◌≡◌, ◌⊎◌, inl, inr, sym, ◌∙◌}
use Rattle.std.proofs.lemmas.Bool.{OnTrue_at, OnFalse_at, not-false}
use Rattle.std.specs.Prelude.{Contains}
use Rattle.kb_geometry.specs.Capture.{cell_at, HasLiberty}
use Rattle.capture_board.proofs.Cells.{same_cell}
use Rattle.capture_board.proofs.Captures.{IsSurrounded}
use Rattle.capture_board.proofs.GroupLaws.{HasWholeGroups-joined}
use Rattle.capture_board.proofs.board.captures.add_surrounded.Goals as goal
use Rattle.capture_board.proofs.board.captures.add_surrounded.Goals.{then-find_surrounded, else-find_surrounded}

joined : (A C D S : Type 0) → (A → C ⊎ D) × (C ⊎ D → A) → (D → S) → (S → D) → (A → C ⊎ S) × (C ⊎ S → A)
joined A C D S h to from = (λ a. elim (h.0 a) [ inl c ↦ inl c | inr d ↦ inr (to d) ], λ e. elim e [ inl c ↦ h.1 (inl c) | inr s ↦ h.1 (inr (from s)) ])

none_joined : (C S : Type 0) → (S → ⊥) → (C → C ⊎ S) × (C ⊎ S → C)
none_joined C S none = (λ c. inl c, λ e. elim e [ inl c ↦ c | inr s ↦ absurd (none s) ])

pub returns-clause-captured : goal.returns-clause-captured
returns-clause-captured c =
    let shape = c.args.shape in
    let cells = c.args.cells.now in
    let same : cell_at cells c.args.touching ≡ c.args.stone = rw (← c.from.ensures) (same_cell _ _ (not-false _ (sym c.ne.ensures ∙ c.if-ne.false))) in
    elim c.if-find_surrounded.branch [
      | then-find_surrounded w ↦
          let none : ¬ HasLiberty shape cells c.args.touching = OnTrue_at w.if-find_surrounded.true c.find_surrounded.ensures.surrounded in
          let members = OnTrue_at w.if-find_surrounded.true c.find_surrounded.ensures.members in
          rw w.sets-is (λ q. joined (Contains w.insert_all.new.self q) (Contains c.args.sets.now.captured q) (Contains c.find_surrounded.new.group q) (IsSurrounded shape cells c.args.stone c.args.touching q) (w.insert_all.ensures q) (λ d. (same, none, (members q).0 d)) (λ s. (members q).1 s.2))
      | else-find_surrounded w ↦
          let free : HasLiberty shape cells c.args.touching = OnFalse_at w.if-find_surrounded.false c.find_surrounded.ensures.liberty in
          rw w.sets-is (λ q. none_joined (Contains c.args.sets.now.captured q) (IsSurrounded shape cells c.args.stone c.args.touching q) (λ s. s.1 free))
    ]

pub returns-clause-whole_groups : goal.returns-clause-whole_groups
returns-clause-whole_groups c =
    elim c.if-find_surrounded.branch [
      | then-find_surrounded w ↦
          let members = OnTrue_at w.if-find_surrounded.true c.find_surrounded.ensures.members in
          rw w.sets-is (HasWholeGroups-joined c.args.shape c.args.cells.now c.args.touching c.args.sets.now.captured c.find_surrounded.new.group w.insert_all.new.self c.requires.whole_groups members w.insert_all.ensures)
      | else-find_surrounded w ↦ rw w.sets-is c.requires.whole_groups
    ]
