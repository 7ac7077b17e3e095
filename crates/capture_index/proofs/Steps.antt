-- Steps from node to node on the runs.
use Prim.Native.Nat.{zero}
use Rattle.std.proofs.Common.{◌≡◌, ◌≢◌, ℕ, ◌+◌, ◌-◌, ◌<◌, ◌≤◌, suc, List, [], ◌∷◌, length, get_or, set, take, Option, Some, None, refl, sym, ◌∙◌, ap, subst, arith, inl, inr, add-one, replicate}
use Rattle.std.proofs.lemmas.Bool.{cases_lt}
use Rattle.std.proofs.lemmas.List.{take_more, length-replicate}
use Rattle.std.proofs.lemmas.Option.{same_Some}
use Rattle.std.proofs.lemmas.List.Elements.{All-cons, All-head, All-nil, All-tail, All-weaker}
use Rattle.kb_geometry.specs.declared.stone.Cell.{Cell}
use Rattle.kb_geometry.specs.declared.stone.Cell.TheVariants as stone
use Rattle.kb_geometry.specs.declared.stone.Change.{Change}
use Rattle.kb_geometry.specs.Board.{point_count}
use Rattle.kb_geometry.specs.Capture.{Position}
use Rattle.capture_board.specs.Changes.{with_changes}
use Rattle.capture_board.specs.Deltas.{AreDeltas, Deltas, changes_of, node_count, parent_of, position_at, position_where}
use Rattle.capture_board.specs.StoredWalking.{with_old_cells}
use Rattle.capture_board.specs.Walking.{node_before}
use Rattle.capture_board.proofs.DeltaPaths.{position_at-step}
use Rattle.node_paths.specs.Parents.{IsOnPathTo}
use Rattle.node_paths.proofs.Ancestors.{IsOnPathTo-step, may_have-none, may_have-some}
use Rattle.capture_board.proofs.MadeChanges.{with_changes-append, with_old_cells-append, with_old_cells-back}
use Rattle.capture_index.specs.declared.run.Run.{Run}
use Rattle.capture_index.specs.Building.{AreBuilt, IsMade}
use Rattle.capture_index.specs.Runs.{BeginBy, BeginsBy, cell_by, position_by}
use Rattle.capture_index.proofs.Cells.{BeginsBy-later, cell_by-stays}

-- nothing is made yet
pub IsMade-none : (node : ℕ) (runs : List (List Run)) → BeginBy node runs → IsMade node (position_by runs node) runs runs
IsMade-none node runs begun = record { past = λ k lt. refl; now = refl; begun = begun }

pub IsMade-then : (node : ℕ) (p q : Position) (a b c : List (List Run)) → IsMade node p a b → IsMade node q b c → IsMade node q a c
IsMade-then node p q a b c one two = record {
  past = λ k lt. two.past k lt ∙ one.past k lt;
  now = two.now;
  begun = two.begun;
}

pub IsMade-as : (node : ℕ) (p q : Position) (a b : List (List Run)) → p ≡ q → IsMade node p a b → IsMade node q a b
IsMade-as node p q a b e made = subst (λ (r : Position). IsMade node r a b) e made

-- ---- a change more
module _ (node : ℕ) (start runs next : List (List Run)) (cs : List Change) (i : ℕ) (d : Change) (h : i < length cs) where
  abbrev change : Change
  change = get_or cs i d

  pub made-more : IsMade node (with_changes (position_by start node) (take i cs)) start runs → IsMade node (set (position_by runs node) change.point change.new) runs next → IsMade node (with_changes (position_by start node) (take (i + 1) cs)) start next
  made-more before more =
      IsMade-as node _ _ start next
      (ap (λ (q : Position). set q change.point change.new) before.now
      ∙ sym (ap (with_changes (position_by start node)) (take_more cs i d h) ∙ with_changes-append (position_by start node) (take i cs) (change ∷ [])))
      (IsMade-then node _ _ start runs next before more)

  pub taken-more : IsMade node (with_old_cells (position_by start node) (take i cs)) start runs → IsMade node (set (position_by runs node) change.point change.old) runs next → IsMade node (with_old_cells (position_by start node) (take (i + 1) cs)) start next
  taken-more before more =
      IsMade-as node _ _ start next
      (ap (λ (q : Position). set q change.point change.old) before.now
      ∙ sym (ap (with_old_cells (position_by start node)) (take_more cs i d h) ∙ with_old_cells-append (position_by start node) (take i cs) (change ∷ [])))
      (IsMade-then node _ _ start runs next before more)

-- ---- nodes
BeginBy-later : (runs : List (List Run)) (n k : ℕ) → n ≤ k → BeginBy n runs → BeginBy k runs
BeginBy-later runs n k le begun = All-weaker (BeginsBy n) (BeginsBy k) (λ rs h. BeginsBy-later rs n k le h) runs begun

-- behind the last run the position stays
position_by-stays : (runs : List (List Run)) (n k : ℕ) → n ≤ k → BeginBy n runs → position_by runs k ≡ position_by runs n
position_by-stays [] n k le begun = refl
position_by-stays (rs ∷ more) n k le begun =
    ap (λ (c : Cell). c ∷ position_by more k) (cell_by-stays rs n k (All-head (BeginsBy n) rs more begun) le)
    ∙ ap (λ (q : Position). cell_by rs n ∷ q) (position_by-stays more n k le (All-tail (BeginsBy n) rs more begun))

module _ (deltas : Deltas) (are : AreDeltas deltas) (n : ℕ) (start : List (List Run)) where
  -- back from a node to its parent
  pub back-more : (runs next : List (List Run)) (at above : ℕ) (cs : List Change) → at < node_count deltas → IsMade n (position_at deltas at) start runs → cs ≡ changes_of deltas at → parent_of deltas at ≡ Some above → IsMade n (with_old_cells (position_by runs n) cs) runs next → IsMade n (position_at deltas above) start next
  back-more runs next at above cs within made is parent taken =
      IsMade-as n _ _ start next
      (ap (with_old_cells (position_by runs n)) is
      ∙ ap (λ (q : Position). with_old_cells q (changes_of deltas at)) (made.now ∙ position_at-step deltas are at)
      ∙ with_old_cells-back (position_where deltas (parent_of deltas at)) (changes_of deltas at) (are.changes at within)
      ∙ ap (position_where deltas) parent)
      (IsMade-then n _ _ start runs next made taken)

  -- on to a node
  module _ (runs next : List (List Run)) (cs : List Change) (built : AreBuilt deltas n start) (made : IsMade n (position_where deltas (parent_of deltas n)) start runs) (is : cs ≡ changes_of deltas n) (more : IsMade n (with_changes (position_by runs n) cs) runs next) where
    here : position_by next n ≡ position_at deltas n
    here =
        more.now
        ∙ ap (with_changes (position_by runs n)) is
        ∙ ap (λ (q : Position). with_changes q (changes_of deltas n)) made.now
        ∙ sym (position_at-step deltas are n)

    past-more : (k : ℕ) → k < n + 1 → position_by next k ≡ position_at deltas k
    past-more k lt =
        elim (cases_lt k n) [
          | inl before ↦ more.past k before ∙ made.past k before ∙ built.past k before
          | inr last ↦ let e : n ≡ k = omega arith in subst (λ (i : ℕ). position_by next i ≡ position_at deltas i) e here
        ]

    pub on-more : length next ≡ point_count deltas.shape → AreBuilt deltas (n + 1) next
    on-more count = record {
      count = count;
      past = past-more;
      shown = position_by-stays next n (n + 1) (omega arith) more.begun ∙ here ∙ sym (ap (λ (i : ℕ). position_where deltas (node_before i)) (add-one n));
      begun = BeginBy-later next n (n + 1) (omega arith) more.begun;
    }

  -- where the parent is the node before, or there is none
  pub at_parent : (o : Option ℕ) → AreBuilt deltas n start → node_before n ≡ o → IsMade n (position_where deltas o) start start
  at_parent o built e = IsMade-as n _ _ start start (built.shown ∙ ap (position_where deltas) e) (IsMade-none n start built.begun)

  -- ---- parents
  -- a node below another one has a parent, which is that one or below it
  pub above-more : (a at above : ℕ) → IsOnPathTo (parent_of deltas) a at → a ≢ at → Some above ≡ parent_of deltas at → IsOnPathTo (parent_of deltas) a above
  above-more a at above up ne e =
      let step = IsOnPathTo-step (parent_of deltas) up ne in
      subst (IsOnPathTo (parent_of deltas) a) (same_Some step.0 above (sym step.1 ∙ sym e)) step.2

  pub none-above : (a at : ℕ) → IsOnPathTo (parent_of deltas) a at → a ≢ at → None ≡ parent_of deltas at → ⊥
  none-above a at up ne e =
      let step = IsOnPathTo-step (parent_of deltas) up ne in
      let none : None ≡ Some step.0 = e ∙ step.1 in
      cc

  -- the parent is the node before, or above that
  pub parent-above : (k m : ℕ) → k < node_count deltas → Some m ≡ parent_of deltas k → IsOnPathTo (parent_of deltas) m (k - 1)
  parent-above k m lt e = (may_have-some (parent_of deltas) k (parent_of deltas k) m (are.parents.each k lt) (sym e)).1

  -- only the root has no parent
  pub root-before : (k : ℕ) → k < node_count deltas → None ≡ parent_of deltas k → node_before k ≡ parent_of deltas k
  root-before k lt e =
      let root : k ≡ 0 = may_have-none (parent_of deltas) k (parent_of deltas k) (are.parents.each k lt) (sym e) in
      ap node_before root ∙ e

-- ---- before the root
position_by-none : (n k : ℕ) → position_by (replicate n []) k ≡ replicate n stone.Empty
position_by-none zero k = refl
position_by-none (suc n) k = ap (λ (q : Position). stone.Empty ∷ q) (position_by-none n k)

BeginBy-none : (n k : ℕ) → BeginBy k (replicate n [])
BeginBy-none zero k = All-nil (BeginsBy k)
BeginBy-none (suc n) k = All-cons (BeginsBy k) [] (replicate n []) (All-nil (λ (r : Run). r.first ≤ k)) (BeginBy-none n k)

pub AreBuilt-none : (deltas : Deltas) (n : ℕ) (runs : List (List Run)) → n ≡ point_count deltas.shape → runs ≡ replicate n [] → AreBuilt deltas 0 runs
AreBuilt-none deltas n runs count e =
    let none : List (List Run) = replicate n [] in
    subst (λ (rs : List (List Run)). AreBuilt deltas 0 rs) (sym e) (record {
      count = length-replicate n [] ∙ count;
      past = λ k lt. absurd (omega (arith, lt));
      shown = position_by-none n 0 ∙ ap (λ (i : ℕ). replicate i stone.Empty) count;
      begun = BeginBy-none n 0;
    })
