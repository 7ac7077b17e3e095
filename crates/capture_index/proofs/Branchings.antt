-- The nodes at which the text goes back.
use Prim.Native.Nat.{zero, min}
use Rattle.std.proofs.Common.{suc, Bool, cond, eqb, ◌≡◌, ◌≢◌, ℕ, ◌+◌, ◌-◌, ◌<◌, ◌≤◌, ◌⊎◌, List, [], ◌∷◌, ◌++◌, length, get_or, Option, Some, None, refl, sym, ◌∙◌, ap, subst, arith, inl, inr}
use Rattle.std.proofs.lemmas.Bool.{cases_lt, cases_Bool, eq-eqb, eqb-false, eqb-true, ne_eqb}
use Rattle.std.proofs.lemmas.List.{get_or_append_left, get_or_push, length_push}
use Rattle.capture_board.specs.Deltas.{AreDeltas, Deltas, node_count, parent_of}
use Rattle.node_paths.proofs.Ancestors.{may_have-none, may_have-some}
use Rattle.std.proofs.Math.Nat.{min-le_left, min-le_right, le-min}
use Rattle.std.specs.Prelude.{All}
use Rattle.node_paths.specs.Parents.{MayHaveParent}
use Rattle.capture_index.specs.Seen.{GoesOnTo}
use Rattle.capture_index.specs.declared.run.Branch.{Branch}
use Rattle.capture_index.specs.Branches.{AreAscending, AreBranchesTo, HasBranch, HasNoBranch, IsFirstAt, branch_parent, parent_by}

pub AreBranchesTo-none : (deltas : Deltas) (branches : List Branch) → branches ≡ [] → AreBranchesTo deltas 0 branches
AreBranchesTo-none deltas branches e = record {
  sound = λ n m (k, d, lt, at, is). absurd (omega (arith, lt, ap length e));
  complete = λ n low high none. absurd (omega (arith, high));
  ascending = λ i j d f lt l. absurd (omega (arith, l, ap length e));
}

-- a node whose parent is the node before it, or that has none
pub AreBranchesTo-pass : (deltas : Deltas) (n : ℕ) (branches : List Branch) → (1 ≤ n → parent_of deltas n ≡ Some (n - 1)) → AreBranchesTo deltas n branches → AreBranchesTo deltas (n + 1) branches
AreBranchesTo-pass deltas n branches parent to = record {
  sound = λ k m has. let s = to.sound k m has in (omega (arith, s.0), s.1);
  complete = λ k low high none. elim (cases_lt k n) [
    | inl before ↦ to.complete k low before none
    | inr last ↦ let here : n ≡ k = omega arith in subst (λ (i : ℕ). parent_of deltas i ≡ Some (i - 1)) here (parent (omega arith))
  ];
  ascending = to.ascending;
}

-- a node that goes back
pub AreBranchesTo-push : (deltas : Deltas) (n m : ℕ) (branches after : List Branch) → parent_of deltas n ≡ Some m → after ≡ branches ++ record { node = n; parent = m } ∷ [] → AreBranchesTo deltas n branches → AreBranchesTo deltas (n + 1) after
AreBranchesTo-push deltas n m branches after parent pushed to =
    let b : Branch = record { node = n; parent = m } in
    subst (λ (bs : List Branch). AreBranchesTo deltas (n + 1) bs) (sym pushed) (record {
      sound = λ k j (i, d, lt, at, is). elim (cases_lt i (length branches)) [
        | inl before ↦
            let e = get_or_append_left branches (b ∷ []) d i before in
            let s = to.sound k j (i, d, before, sym (ap (λ (c : Branch). c.node) e) ∙ at, sym (ap (λ (c : Branch). c.parent) e) ∙ is) in
            (omega (arith, s.0), s.1)
        | inr last ↦
            let here : length branches ≡ i = omega (arith, lt, length_push branches b) in
            let e = get_or_push branches b d i here in
            let node_is : n ≡ k = sym (ap (λ (c : Branch). c.node) e) ∙ at in
            let parent_is : m ≡ j = sym (ap (λ (c : Branch). c.parent) e) ∙ is in
            (omega (arith, node_is), sym (ap (parent_of deltas) node_is) ∙ parent ∙ ap (λ (i : ℕ). Some i) parent_is)
      ];
      complete = λ k low high none. elim (cases_lt k n) [
        | inl before ↦ to.complete k low before (λ i d lt at. none i d (omega (arith, length_push branches b)) (ap (λ (c : Branch). c.node) (get_or_append_left branches (b ∷ []) d i lt) ∙ at))
        | inr last ↦ absurd (none (length branches) b (omega (arith, length_push branches b)) (ap (λ (c : Branch). c.node) (get_or_push branches b b (length branches) refl) ∙ omega arith))
      ];
      ascending = λ i j d f less lt.
          let one = ap (λ (c : Branch). c.node) (get_or_append_left branches (b ∷ []) d i (omega (arith, lt, less, length_push branches b))) in
          elim (cases_lt j (length branches)) [
            | inl before ↦
                let two = ap (λ (c : Branch). c.node) (get_or_append_left branches (b ∷ []) f j before) in
                omega (arith, to.ascending i j d f less before, one, two)
            | inr last ↦
                let here : length branches ≡ j = omega (arith, lt, length_push branches b) in
                let two = ap (λ (c : Branch). c.node) (get_or_push branches b f j here) in
                let old = (to.sound (get_or branches i d).node (get_or branches i d).parent (i, d, omega arith, refl, refl)).0 in
                omega (arith, old, one, two)
          ];
    })

-- ---- the parent by the branches
branch-head : (b : Branch) (bs : List Branch) (n : ℕ) → b.node ≡ n → branch_parent (b ∷ bs) n ≡ b.parent
branch-head b bs n e = ap (λ (t : Bool). cond t b.parent (branch_parent bs n)) (eq-eqb b.node n e)

branch-tail : (b : Branch) (bs : List Branch) (n : ℕ) → b.node ≢ n → branch_parent (b ∷ bs) n ≡ branch_parent bs n
branch-tail b bs n ne = ap (λ (t : Bool). cond t b.parent (branch_parent bs n)) (ne_eqb b.node n ne)

-- that of a branch at the node
pub branch_parent-at : (bs : List Branch) (n k : ℕ) (d : Branch) → AreAscending bs → k < length bs → (get_or bs k d).node ≡ n → branch_parent bs n ≡ (get_or bs k d).parent
branch_parent-at [] n k d up lt at = absurd (omega (arith, lt))
branch_parent-at (b ∷ bs) n zero d up lt at = branch-head b bs n at
branch_parent-at (b ∷ bs) n (suc k) d up lt at =
    let less : b.node < (get_or bs k d).node = up 0 (suc k) d d (omega arith) lt in
    branch-tail b bs n (λ e. absurd (omega (arith, less, at, e)))
    ∙ branch_parent-at bs n k d (λ i j d e l m. up (suc i) (suc j) d e (omega arith) (omega (arith, m))) (omega (arith, lt)) at

-- the node before, where no branch is at the node
pub branch_parent-none : (bs : List Branch) (n : ℕ) → HasNoBranch bs n → branch_parent bs n ≡ n - 1
branch_parent-none [] n none = refl
branch_parent-none (b ∷ bs) n none = branch-tail b bs n (none 0 b (omega arith)) ∙ branch_parent-none bs n (λ k d lt. none (suc k) d (omega (arith, lt)))

none-more : (b : Branch) (bs : List Branch) (n : ℕ) → b.node ≢ n → HasNoBranch bs n → HasNoBranch (b ∷ bs) n
none-more b bs n ne none zero d lt = ne
none-more b bs n ne none (suc k) d lt = none k d (omega (arith, lt))

-- a branch is at the node, or none
pub cases_branch : (bs : List Branch) (n : ℕ) → HasBranch bs n (branch_parent bs n) ⊎ HasNoBranch bs n
cases_branch [] n = inr (λ k d lt. absurd (omega (arith, lt)))
cases_branch (b ∷ bs) n = elim (cases_Bool (eqb b.node n)) [
  | inl t ↦ let e = eqb-true b.node n t in inl (0, b, omega arith, e, sym (branch-head b bs n e))
  | inr f ↦
      let ne : b.node ≢ n = eqb-false b.node n f in
      elim (cases_branch bs n) [
        | inl (k, d, lt, at, is) ↦ inl (suc k, d, omega (arith, lt), at, is ∙ sym (branch-tail b bs n ne))
        | inr none ↦ inr (none-more b bs n ne none)
      ]
]

pub parent_by-some : (bs : List Branch) (n : ℕ) → 1 ≤ n → parent_by bs n ≡ Some (branch_parent bs n)
parent_by-some bs zero low = absurd (omega (arith, low))
parent_by-some bs (suc n) low = refl

pub parent-none : (bs : List Branch) (n : ℕ) → 1 ≤ n → HasNoBranch bs n → Some (n - 1) ≡ parent_by bs n
parent-none bs n low none = sym (parent_by-some bs n low ∙ ap (λ (m : ℕ). Some m) (branch_parent-none bs n none))

pub parent-at : (bs : List Branch) (n k : ℕ) (d : Branch) (m : ℕ) → 1 ≤ n → AreAscending bs → k < length bs → (get_or bs k d).node ≡ n → m ≡ (get_or bs k d).parent → Some m ≡ parent_by bs n
parent-at bs n k d m low up lt at is = sym (parent_by-some bs n low ∙ ap (λ (j : ℕ). Some j) (branch_parent-at bs n k d up lt at ∙ sym is))

root-alone : (parent : ℕ → Option ℕ) (o : Option ℕ) → MayHaveParent parent 0 o → None ≡ o
root-alone parent None may = refl
root-alone parent (Some m) may = absurd (omega (arith, may.0))

-- the parents by the branches are those of the game
pub parents-told : (deltas : Deltas) (branches : List Branch) → AreDeltas deltas → AreBranchesTo deltas (node_count deltas) branches → (n : ℕ) → n < node_count deltas → parent_by branches n ≡ parent_of deltas n
parents-told deltas branches are to zero lt = root-alone (parent_of deltas) (parent_of deltas 0) (are.parents.each 0 lt)
parents-told deltas branches are to (suc n) lt = elim (cases_branch branches (suc n)) [
  | inl has ↦ sym (to.sound (suc n) (branch_parent branches (suc n)) has).1
  | inr none ↦ ap (λ (m : ℕ). Some m) (branch_parent-none branches (suc n) none) ∙ sym (to.complete (suc n) (omega arith) lt none)
]

-- each branch leads to a node before it
pub above-told : (deltas : Deltas) (branches : List Branch) → AreDeltas deltas → AreBranchesTo deltas (node_count deltas) branches → All (λ (b : Branch). b.parent < b.node) branches
above-told deltas branches are to k d lt =
    let b = get_or branches k d in
    let told = to.sound b.node b.parent (k, d, lt, refl, refl) in
    (may_have-some (parent_of deltas) b.node (parent_of deltas b.node) b.parent (are.parents.each b.node told.0) told.1).0

-- ---- a search for the branch at a node
module _ (branches : List Branch) (n at : ℕ) (up : AreAscending branches) (first : IsFirstAt branches n at) where
  pub none-past : length branches ≤ at → HasNoBranch branches n
  none-past all k d lt e = absurd (omega (arith, first.before k d (omega arith), e))

  from-here : (b : Branch) (k : ℕ) (d : Branch) → at ≤ k → k < length branches → b ≡ get_or branches at d → b.node ≤ (get_or branches k d).node
  from-here b k d le lt is = elim (cases_lt at k) [
    | inl less ↦ let step = up at k d d less lt in omega (arith, step, ap (λ (c : Branch). c.node) is)
    | inr same ↦ let e : at ≡ k = omega arith in omega (arith, ap (λ (c : Branch). c.node) (is ∙ ap (λ (i : ℕ). get_or branches i d) e))
  ]

  module _ (b : Branch) (within : at < length branches) (is : (d : Branch) → b ≡ get_or branches at d) where
    pub least-here : n ≤ b.node
    least-here = let low = first.from at b (omega arith) within in omega (arith, low, ap (λ (c : Branch). c.node) (is b))

    pub none-here : b.node ≢ n → HasNoBranch branches n
    none-here ne k d lt e = elim (cases_lt k at) [
      | inl less ↦ absurd (omega (arith, first.before k d less, e))
      | inr ge ↦ elim (cases_lt at k) [
        | inl less ↦ let step = up at k d d less lt in absurd (omega (arith, step, e, least-here, ap (λ (c : Branch). c.node) (is d)))
        | inr same ↦ let here : at ≡ k = omega arith in absurd (ne (ap (λ (c : Branch). c.node) (is d ∙ ap (λ (i : ℕ). get_or branches i d) here) ∙ e))
      ]
    ]

-- behind a node, up to before the first branch behind it, each parent is the node before
module _ (branches : List Branch) (nodes n at : ℕ) (up : AreAscending branches) (first : IsFirstAt branches (n + 1) at) where
  pub goes_on-past : n < nodes → length branches ≤ at → GoesOnTo (parent_by branches) nodes n nodes
  goes_on-past lt all = record {
    more = lt;
    most = omega arith;
    goes_on = λ k low high. parent_by-some branches k (omega arith) ∙ ap (λ (m : ℕ). Some m) (branch_parent-none branches k (λ j d l e. absurd (omega (arith, first.before j d (omega arith), e))));
  }

  pub goes_on-here : (b : Branch) (next : ℕ) → n < nodes → at < length branches → ((d : Branch) → b ≡ get_or branches at d) → next ≡ min nodes b.node → GoesOnTo (parent_by branches) nodes n next
  goes_on-here b next lt within is e =
      let left = min-le_left nodes b.node in
      let right = min-le_right nodes b.node in
      let low = least-here branches (n + 1) at up first b within is in
      let some : n + 1 ≤ min nodes b.node = le-min (omega arith) low in
      record {
        more = omega (arith, some, e);
        most = omega (arith, left, e);
        goes_on = λ k lo hi. parent_by-some branches k (omega arith) ∙ ap (λ (m : ℕ). Some m) (branch_parent-none branches k (λ j d l same. elim (cases_lt j at) [
          | inl before ↦ absurd (omega (arith, first.before j d before, same))
          | inr behind ↦ let far = from-here branches (n + 1) at up first b j d behind l (is d) in absurd (omega (arith, far, same, hi, e, right))
        ]));
      }

-- only the root has no parent
pub parent-there : (deltas : Deltas) → AreDeltas deltas → (n : ℕ) → n < node_count deltas → None ≡ parent_of deltas n → 1 ≤ n → parent_of deltas n ≡ Some (n - 1)
parent-there deltas are n lt e low =
    let root : n ≡ 0 = may_have-none (parent_of deltas) n (parent_of deltas n) (are.parents.each n lt) (sym e) in
    absurd (omega (arith, root, low))

pub parent-before : (deltas : Deltas) (n m : ℕ) → Some m ≡ parent_of deltas n → m + 1 ≡ n → parent_of deltas n ≡ Some (n - 1)
parent-before deltas n m e next = let is : m ≡ n - 1 = omega (arith, next) in sym e ∙ ap (λ (i : ℕ). Some i) is
