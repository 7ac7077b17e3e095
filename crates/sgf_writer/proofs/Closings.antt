-- The loops that write a tree: what they keep.
use Rattle.std.proofs.Common.{◌≡◌, ℕ, ◌<◌, ◌≤◌, List, [], ◌++◌, Option, Some, None, refl, sym, ◌∙◌, ap, arith, inl, inr, append_assoc}
use Rattle.std.proofs.lemmas.Bool.{cases_lt}
use Rattle.std.proofs.lemmas.List.{append-nil}
use mathlib.Core.List.{IsPrefix}
use Rattle.node_paths.specs.Parents.{IsOnPathTo, higher, itself}
use Rattle.node_paths.proofs.Ancestors.{IsOnPathTo-between, IsOnPathTo-trans, cases_Option, not_below_sibling, parent-lt, root-parent}
use Rattle.kb_geometry.proofs.Prefixes.{prefix_same, prefix_trans}
use Rattle.game_tree.specs.Built.{IsGrown}
use Rattle.game_tree.specs.Tree.{Tree, first_child_of, next_sibling_of, node_count, parent_of}
use Rattle.game_tree.proofs.Trees.{next_sibling-facts, next_sibling-root}
use Rattle.std.specs.Prelude.{IfOk, Result, Ok, Err}
use Rattle.sgf_writer.specs.Walk.{Closes, at_end, before_sibling, closing, last_child, Follows, behind_leaf, opening}
use Rattle.sgf_writer.specs.Written.{IsWritten, node_text}
use Rattle.sgf_writer.proofs.Walks.{GoesOn, goes_on-more, goes_on-start}

-- the climb from a leaf has come to node n, and has written what is closed below it
pub record IsClosing (tree : Tree) (leaf n : ℕ) (before out : List ℕ) : Type 0 where
  pub within : n < node_count tree
  pub above : IsOnPathTo (parent_of tree) n leaf
  pub begins : IsPrefix before out
  pub so_far : (next : Option ℕ) (text : List ℕ) → Closes tree n next text → (whole : List ℕ) × Closes tree leaf next whole × (out ++ text ≡ before ++ whole)

pub IsClosing-start : (tree : Tree) (leaf : ℕ) (out : List ℕ) → leaf < node_count tree → IsClosing tree leaf leaf out out
IsClosing-start tree leaf out within = record { within = within; above = itself; begins = prefix_same out; so_far = λ next text c. (text, c, refl) }

module _ (tree : Tree) (grown : IsGrown tree) where
  pub IsClosing-more : (leaf n p : ℕ) (before out new : List ℕ) → IsClosing tree leaf n before out → new ≡ out ++ closing tree n → next_sibling_of tree n ≡ None → parent_of tree n ≡ Some p → IsClosing tree leaf p before new
  IsClosing-more leaf n p before out new c e last parent = record {
    within = omega (arith, parent-lt grown.parents n p parent, c.within);
    above = IsOnPathTo-trans (parent_of tree) (higher parent itself) c.above;
    begins = prefix_trans before out new c.begins (closing tree n, sym e);
    so_far = λ next text closes.
        let w = c.so_far next (closing tree n ++ text) (last_child last parent closes) in
        (w.0, w.1, ap (λ t. t ++ text) e ∙ append_assoc out (closing tree n) text ∙ w.2);
  }

  pub IsClosing-sibling : (leaf n s : ℕ) (before out new : List ℕ) → IsClosing tree leaf n before out → new ≡ out ++ closing tree n → next_sibling_of tree n ≡ Some s → (text : List ℕ) × Closes tree leaf (Some s) text × (new ≡ before ++ text)
  IsClosing-sibling leaf n s before out new c e next =
      let w = c.so_far (Some s) (closing tree n) (before_sibling next) in
      (w.0, w.1, e ∙ w.2)

  pub IsClosing-end : (leaf n : ℕ) (before out new : List ℕ) → IsClosing tree leaf n before out → new ≡ out ++ closing tree n → parent_of tree n ≡ None → (text : List ℕ) × Closes tree leaf None text × (new ≡ before ++ text)
  IsClosing-end leaf n before out new c e none =
      let w = c.so_far None (closing tree n) (at_end none) in
      (w.0, w.1, e ∙ w.2)

  -- the next sibling of a node stands behind all below the node
  pub IsClosing-later : (leaf n s : ℕ) (before out : List ℕ) → IsClosing tree leaf n before out → next_sibling_of tree n ≡ Some s → (leaf < s) × (s < node_count tree)
  IsClosing-later leaf n s before out c next =
      let f = next_sibling-facts tree n s next in
      elim (cases_Option (parent_of tree n)) [
        | inl none ↦ let g : None ≡ Some s = sym (next_sibling-root tree n none) ∙ next in absurd cc
        | inr p ↦ elim (cases_lt leaf s) [
          | inl l ↦ (l, f.1)
          | inr h ↦
              let below : IsOnPathTo (parent_of tree) n s = IsOnPathTo-between grown.parents n leaf s c.above (omega (arith, f.0)) h in
              absurd (omega (arith, not_below_sibling grown.parents p.0 n s p.1 (f.2 ∙ p.1) below, f.0))
        ]
      ]

-- the text before node n was written
pub record IsWriting (tree : Tree) (n : ℕ) (before out : List ℕ) : Type 0 where
  pub within : n < node_count tree
  pub done : List ℕ
  pub appended : out ≡ before ++ done
  pub goes_on : GoesOn tree done (Some n)

module _ (tree : Tree) (grown : IsGrown tree) where
  pub IsWriting-start : (out : List ℕ) → 1 ≤ node_count tree → IsWriting tree 0 out out
  IsWriting-start out some = record {
    within = omega arith;
    done = [];
    appended = sym (append-nil out);
    goes_on = goes_on-start tree grown (root-parent grown.parents);
  }

  -- the text with one node more
  appended_node : (before done o t s out opened noded closed : List ℕ) → out ≡ before ++ done → opened ≡ out ++ o → noded ≡ opened ++ t → closed ≡ noded ++ s → closed ≡ before ++ (done ++ (o ++ (t ++ s)))
  appended_node before done o t s out opened noded closed start one two three =
      three ∙ ap (λ x. x ++ s) two ∙ ap (λ x. (x ++ t) ++ s) one ∙ ap (λ x. ((x ++ o) ++ t) ++ s) start ∙ regroup before done o t s
    where
      regroup : (before done o t s : List ℕ) → (((before ++ done) ++ o) ++ t) ++ s ≡ before ++ (done ++ (o ++ (t ++ s)))
      regroup before done o t s = simp append_assoc

  pub IsWriting-more : (n s : ℕ) (before out opened noded closed text : List ℕ) → IsWriting tree n before out → opened ≡ out ++ opening tree n → noded ≡ opened ++ node_text tree n → Follows tree n (Some s) text → closed ≡ noded ++ text → s < node_count tree → IsWriting tree s before closed
  IsWriting-more n s before out opened noded closed text w one two follows three within = record {
    within = within;
    done = w.done ++ (opening tree n ++ (node_text tree n ++ text));
    appended = appended_node before w.done (opening tree n) (node_text tree n) text out opened noded closed w.appended one two three;
    goes_on = goes_on-more tree grown w.done follows w.goes_on;
  }

  pub IsWriting-end : (n : ℕ) (before out opened noded closed text : List ℕ) → IsWriting tree n before out → opened ≡ out ++ opening tree n → noded ≡ opened ++ node_text tree n → Follows tree n None text → closed ≡ noded ++ text → (whole : List ℕ) × IsWritten tree whole × (closed ≡ before ++ whole)
  IsWriting-end n before out opened noded closed text w one two follows three = (
    w.done ++ (opening tree n ++ (node_text tree n ++ text)),
    goes_on-more tree grown w.done follows w.goes_on,
    appended_node before w.done (opening tree n) (node_text tree n) text out opened noded closed w.appended one two three,
  )

-- behind a leaf follows what is closed there
pub closed_behind : {E : Type 0} (tree : Tree) (n : ℕ) (old new : List ℕ) (answer : Result (Option ℕ) E) → first_child_of tree n ≡ None → IfOk answer (λ next. (text : List ℕ) × Closes tree n next text × (new ≡ old ++ text)) → IfOk answer (λ next. (text : List ℕ) × Follows tree n next text × (new ≡ old ++ text))
closed_behind tree n old new (Ok next) leaf (text, closes, e) = (text, behind_leaf leaf closes, e)
closed_behind tree n old new (Err error) leaf h = tt
