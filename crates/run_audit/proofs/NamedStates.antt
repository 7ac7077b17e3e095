-- A statement whose text names a version is passed, or the record departs in it, by the number that was taken
-- from the record.
use Rattle.std.proofs.Common.{◌≡◌, ◌∙◌, ℕ, Bool, List, ◌++◌, All, Some, sym, ap, subst}
use Rattle.kb_edges.specs.Files.{File}
use Rattle.game_tree.specs.Tree.{IsTree}
use Rattle.node_position.specs.Games.{Game}
use Rattle.query_script.specs.declared.statement.Placed.{Placed}
use Rattle.session_core.specs.Lawful.{Rules}
use Rattle.session_core.specs.SessionState.{SessionState}
use Rattle.session_core.specs.Stores.{view_of}
use Rattle.run_audit.specs.Asked.{HasNumber, least_asked}
use Rattle.run_audit.specs.Chosen.{IsChosen, StandsAt}
use Rattle.run_audit.specs.Guided.{asked_by, version_head}
use Rattle.run_audit.specs.Standing.{DepartsGuided, DepartsIn, DepartsInNumber, FitsTogether, IsRaised, IsWithin, Kept, PassesGuided, kept_last}
use Rattle.run_audit.specs.Texts.{IsOver, IsTextOver}
use Rattle.run_audit.proofs.OverStates.{head-departs-guided, number-departs-guided, over-passes, text-departs-guided}
use Rattle.run_audit.proofs.StatementSteps.{asked-some}

-- a number was taken between these two
pub number-told : (behind : List ℕ) (least last l m count : ℕ) → l ≡ least → m ≡ last → IsChosen (IsWithin l m) behind l × DepartsInNumber behind l count → IsChosen (IsWithin least last) behind least × DepartsInNumber behind least count
number-told behind least last l m count low high told =
    let to = subst (λ (k : ℕ). IsChosen (IsWithin l k) behind l × DepartsInNumber behind l count) high told in
    subst (λ (k : ℕ). IsChosen (IsWithin k last) behind k × DepartsInNumber behind k count) low to

pub number-within : (n least last l m : ℕ) → l ≡ least → m ≡ last → IsWithin l m n → IsWithin least last n
number-within n least last l m low high within =
    subst (λ (k : ℕ). IsWithin k last n) low (subst (λ (k : ℕ). IsWithin l k n) high within)

-- the record departs in the text of a statement, whatever the files
abbrev pub DepartsNamed : Bool → List ℕ → Placed → Kept → SessionState → ℕ → Type 0
DepartsNamed serial left p kept session count =
    (files : List File) (recorded : List ℕ) (rules : Rules) → rules.serial ≡ serial → DepartsGuided files rules recorded left p kept session count

module _ (serial : Bool) (left : List ℕ) (p : Placed) (kept : Kept) (session : SessionState) (over : IsOver p.statement) (has : HasNumber session p.statement) (fits : FitsTogether kept) (head : List ℕ) (head_is : (asked : List ℕ) → asked_by p.statement ≡ Some asked → head ≡ version_head p.line asked) where
  asked_is : (asked : List ℕ) × (asked_by p.statement ≡ Some asked)
  asked_is = asked-some session p.statement over has

  -- what stands before the number isn't there
  pub named-head-departs : (count : ℕ) → DepartsIn left head count → DepartsNamed serial left p kept session count
  named-head-departs count departs files recorded rules is =
      head-departs-guided files recorded rules left p kept session over has fits asked_is.0 asked_is.1 count
      (subst (λ (h : List ℕ). DepartsIn left h count) (head_is asked_is.0 asked_is.1) departs)

  module _ (behind : List ℕ) (stands : left ≡ head ++ behind) where
    abbrev least : ℕ
    least = least_asked serial kept p.statement

    stands_asked : left ≡ version_head p.line asked_is.0 ++ behind
    stands_asked = stands ∙ ap (λ (h : List ℕ). h ++ behind) (head_is asked_is.0 asked_is.1)

    -- the number isn't there
    pub named-number-departs : (n count : ℕ) → IsChosen (IsWithin least (kept_last kept)) behind n → DepartsInNumber behind n count → DepartsNamed serial left p kept session count
    named-number-departs n count chosen departs files recorded rules is =
        number-departs-guided files recorded rules left p kept session over has fits asked_is.0 asked_is.1 behind stands_asked n count
        (subst (λ (b : Bool). IsChosen (IsWithin (least_asked b kept p.statement) (kept_last kept)) behind n) (sym is) chosen) departs

    module _ (n : ℕ) (within : IsWithin least (kept_last kept) n) (there : StandsAt behind n) (after : Kept) (raised : IsRaised kept n after) where
      within_by : (b : Bool) → b ≡ serial → IsWithin (least_asked b kept p.statement) (kept_last kept) n
      within_by b is = subst (λ (x : Bool). IsWithin (least_asked x kept p.statement) (kept_last kept) n) (sym is) within

      -- its text isn't there
      pub named-text-departs : (count : ℕ) → (All (λ (g : Game). IsTree g.tree) (view_of after.held).games → (text : List ℕ) (leaves : SessionState) → IsTextOver p.line (view_of after.held) session p.statement text leaves → DepartsIn left text count)
          → DepartsNamed serial left p kept session count
      named-text-departs count departs files recorded rules is =
          text-departs-guided files recorded rules left p kept session over has fits asked_is.0 asked_is.1 behind stands_asked n (within_by rules.serial is) there after raised count departs

      -- it is
      pub named-passes : (text rest : List ℕ) (leaves : SessionState) → left ≡ text ++ rest → IsTextOver p.line (view_of after.held) session p.statement text leaves
          → (files : List File) (recorded : List ℕ) (rules : Rules) → rules.serial ≡ serial → PassesGuided files rules recorded left p kept session rest after leaves
      named-passes text rest leaves next of files recorded rules is =
          over-passes files recorded rules left p kept session over has fits asked_is.0 asked_is.1 behind stands_asked n (within_by rules.serial is) there after raised text rest leaves next of
