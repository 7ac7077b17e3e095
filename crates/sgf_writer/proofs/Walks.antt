-- The text of a tree, node by node: what was written before a node, and what is still to be written from it on.
use Rattle.std.proofs.Common.{◌≡◌, ℕ, ltb, Bool, true, false, List, [], ◌∷◌, ◌++◌, length, Option, Some, None, refl, sym, ◌∙◌, ap, subst, append_assoc, cond}
use Rattle.std.proofs.lemmas.List.{append-nil}
use Rattle.std.proofs.lemmas.Option.{same_Some}
use Rattle.game_tree.specs.Built.{IsGrown}
use Rattle.game_tree.specs.Stored.{siblings_from}
use Rattle.game_tree.specs.Tree.{Tree, children_of, first_child_of, next_sibling_of, parent_of}
use Rattle.game_tree.proofs.Trees.{first_child-found, next_sibling-facts, next_sibling-root, siblings_from-first, siblings_from-next}
use Rattle.sgf_writer.specs.Walk.{Closes, before_sibling, at_end, last_child, Follows, before_child, behind_leaf, closing, in_brackets, opening}
use Rattle.sgf_writer.specs.Written.{AreWritten, IsWritten, IsWrittenFrom, children, leaf, node_text, only_child}
use Rattle.sgf_writer.proofs.InBrackets.{children-first, in_brackets-child, in_brackets-root, more_children, one_child}

-- the text from a node on, with the brackets round it
pub record IsPiece (tree : Tree) (n : ℕ) (piece : List ℕ) : Type 0 where
  pub text : List ℕ
  pub from : IsWrittenFrom tree n text
  pub whole : piece ≡ opening tree n ++ (text ++ closing tree n)

-- the text is those of a node, if there is one, and its later siblings
pub data AreSiblings (tree : Tree) : Option ℕ → List ℕ → Type 0 where
  no_sibling : AreSiblings tree None []
  sibling : {s : ℕ} {piece rest : List ℕ} → IsPiece tree s piece → AreSiblings tree (next_sibling_of tree s) rest → AreSiblings tree (Some s) (piece ++ rest)

-- the text is what stands behind the piece of a node, up to the end
pub data StandsBehind (tree : Tree) : ℕ → List ℕ → Type 0 where
  the_end : {n : ℕ} → parent_of tree n ≡ None → StandsBehind tree n []
  siblings : {n p : ℕ} {rest more : List ℕ} → parent_of tree n ≡ Some p → AreSiblings tree (next_sibling_of tree n) rest → StandsBehind tree p more → StandsBehind tree n (rest ++ (closing tree p ++ more))

-- with the piece of this node and what stands behind it, or with nothing, the text so far is the tree's
abbrev pub GoesOn : Tree → List ℕ → Option ℕ → Type 0
GoesOn tree done None = IsWritten tree done
GoesOn tree done (Some n) = (piece more : List ℕ) → IsPiece tree n piece → StandsBehind tree n more → IsWritten tree (done ++ (piece ++ more))

-- with the closing bracket of this node and what stands behind it, the text so far is the tree's
abbrev Ends : Tree → List ℕ → ℕ → Type 0
Ends tree done n = (more : List ℕ) → StandsBehind tree n more → IsWritten tree (done ++ (closing tree n ++ more))

same_opening : (tree : Tree) (n : ℕ) (b : Bool) → in_brackets tree n ≡ b → opening tree n ≡ cond b (40 ∷ []) []
same_opening tree n b e = ap (λ c. cond c (40 ∷ []) []) e

same_closing : (tree : Tree) (n : ℕ) (b : Bool) → in_brackets tree n ≡ b → closing tree n ≡ cond b (41 ∷ []) []
same_closing tree n b e = ap (λ c. cond c (41 ∷ []) []) e

piece-bracketed : (tree : Tree) (n : ℕ) (piece : List ℕ) (p : IsPiece tree n piece) → in_brackets tree n ≡ true → piece ≡ 40 ∷ (p.text ++ 41 ∷ [])
piece-bracketed tree n piece p e = p.whole ∙ ap (λ o. o ++ (p.text ++ closing tree n)) (same_opening tree n true e) ∙ ap (λ c. 40 ∷ (p.text ++ c)) (same_closing tree n true e)

piece-bare : (tree : Tree) (n : ℕ) (piece : List ℕ) (p : IsPiece tree n piece) → in_brackets tree n ≡ false → piece ≡ p.text
piece-bare tree n piece p e =
    p.whole ∙ ap (λ o. o ++ (p.text ++ closing tree n)) (same_opening tree n false e) ∙ ap (λ c. p.text ++ c) (same_closing tree n false e) ∙ append-nil p.text

-- ---- from the pieces of children to the text of a node

pieces-written : (tree : Tree) (p : ℕ) → ltb 1 (length (children_of tree p)) ≡ true → {o : Option ℕ} {text : List ℕ} → AreSiblings tree o text → ((s : ℕ) → o ≡ Some s → parent_of tree s ≡ Some p) → AreWritten tree (siblings_from tree o) text
pieces-written tree p several no_sibling below = AreWritten.none
pieces-written tree p several (sibling {s = s} {piece = piece} {rest = rest} one others) below =
    let inside : in_brackets tree s ≡ true = in_brackets-child tree p s (below s refl) ∙ several in
    let more = pieces-written tree p several others (λ d e. (next_sibling-facts tree s d e).2 ∙ below s refl) in
    let whole : 40 ∷ (one.text ++ 41 ∷ rest) ≡ piece ++ rest = ap (λ t. 40 ∷ t) (sym (append_assoc one.text (41 ∷ []) rest)) ∙ ap (λ t. t ++ rest) (sym (piece-bracketed tree s piece one inside)) in
    subst (λ (t : List ℕ). AreWritten tree (siblings_from tree (Some s)) t) whole
    (subst (λ (xs : List ℕ). AreWritten tree xs (40 ∷ (one.text ++ 41 ∷ rest))) (sym (siblings_from-next tree s)) (AreWritten.one_more one.text rest one.from more))

no_siblings : (tree : Tree) {o : Option ℕ} {text : List ℕ} → AreSiblings tree o text → o ≡ None → text ≡ []
no_siblings tree no_sibling e = refl
no_siblings tree (sibling {s = s} one others) e = absurd (let f : Some s ≡ None = e in cc)

module _ (tree : Tree) (grown : IsGrown tree) where
  from_children : (n : ℕ) {o : Option ℕ} {text : List ℕ} → AreSiblings tree o text → first_child_of tree n ≡ o → IsWrittenFrom tree n (node_text tree n ++ text)
  from_children n no_sibling e =
      let none : children_of tree n ≡ [] = sym (siblings_from-first tree n) ∙ ap (siblings_from tree) e in
      subst (λ (t : List ℕ). IsWrittenFrom tree n t) (sym (append-nil (node_text tree n))) (leaf none)
  from_children n (sibling {s = s} {piece = piece} {rest = rest} one others) e = go (next_sibling_of tree s) refl
    where
      all : children_of tree n ≡ s ∷ siblings_from tree (next_sibling_of tree s)
      all = children-first tree n s e

      parent : parent_of tree s ≡ Some n
      parent = let f = first_child-found tree grown n s e in ap (parent_of tree) f.0 ∙ f.1

      go : (o : Option ℕ) → next_sibling_of tree s ≡ o → IsWrittenFrom tree n (node_text tree n ++ (piece ++ rest))
      go None none =
          let bare = piece-bare tree s piece one (in_brackets-child tree n s parent ∙ one_child tree n s all none) in
          let nothing = no_siblings tree others none in
          let whole : one.text ≡ piece ++ rest = sym (append-nil one.text) ∙ ap (λ t. t ++ []) (sym bare) ∙ ap (λ t. piece ++ t) (sym nothing) in
          subst (λ (t : List ℕ). IsWrittenFrom tree n (node_text tree n ++ t)) whole (only_child s one.text (all ∙ ap (λ o. s ∷ siblings_from tree o) none) one.from)
      go (Some d) next =
          let two : children_of tree n ≡ s ∷ d ∷ siblings_from tree (next_sibling_of tree d) = all ∙ ap (λ o. s ∷ siblings_from tree o) next ∙ ap (λ xs. s ∷ xs) (siblings_from-next tree d) in
          let same : siblings_from tree (Some s) ≡ s ∷ d ∷ siblings_from tree (next_sibling_of tree d) = siblings_from-next tree s ∙ sym all ∙ two in
          let below : (i : ℕ) → Some s ≡ Some i → parent_of tree i ≡ Some n = λ i f. ap (parent_of tree) (sym (same_Some s i f)) ∙ parent in
          let whole = pieces-written tree n (more_children tree n s d all next) (sibling one others) below in
          children s d (siblings_from tree (next_sibling_of tree d)) (piece ++ rest) two (subst (λ (xs : List ℕ). AreWritten tree xs (piece ++ rest)) same whole)

  -- ---- one node after another

  pub goes_on-start : parent_of tree 0 ≡ None → GoesOn tree [] (Some 0)
  goes_on-start none piece more one behind = at_root one behind none
    where
      no_more : {n : ℕ} {text : List ℕ} → StandsBehind tree n text → parent_of tree n ≡ None → text ≡ []
      no_more (the_end e) none = refl
      no_more (siblings {p = p} e rest more) none = absurd (let f : Some p ≡ None = sym e ∙ none in cc)

      at_root : (one : IsPiece tree 0 piece) → StandsBehind tree 0 more → parent_of tree 0 ≡ None → IsWritten tree (piece ++ more)
      at_root one behind none =
          let whole : 40 ∷ (one.text ++ 41 ∷ []) ≡ piece ++ more =
          sym (piece-bracketed tree 0 piece one (in_brackets-root tree 0 none)) ∙ sym (append-nil piece) ∙ ap (λ t. piece ++ t) (sym (no_more behind none)) in
          subst (λ (t : List ℕ). AreWritten tree (0 ∷ []) t) whole (AreWritten.one_more one.text [] one.from AreWritten.none)

  behind_sibling : (n s : ℕ) (piece : List ℕ) → next_sibling_of tree n ≡ Some s → IsPiece tree s piece → {more : List ℕ} → StandsBehind tree s more → StandsBehind tree n (piece ++ more)
  behind_sibling n s piece next one (the_end e) =
      absurd (let f : None ≡ Some s = sym (next_sibling-root tree n (sym (next_sibling-facts tree n s next).2 ∙ e)) ∙ next in cc)
  behind_sibling n s piece next one (siblings {p = p} {rest = rest} {more = more} e others after) =
      subst (λ (t : List ℕ). StandsBehind tree n t) (append_assoc piece rest (closing tree p ++ more))
      (siblings (sym (next_sibling-facts tree n s next).2 ∙ e) (subst (λ (o : Option ℕ). AreSiblings tree o (piece ++ rest)) (sym next) (sibling one others)) after)

  closes-goes_on : (done : List ℕ) {n : ℕ} {next : Option ℕ} {text : List ℕ} → Closes tree n next text → Ends tree done n → GoesOn tree (done ++ text) next
  closes-goes_on done (before_sibling {n = n} {s = s} e) ends = λ piece more one behind.
      subst (λ (t : List ℕ). IsWritten tree t) (sym (append_assoc done (closing tree n) (piece ++ more))) (ends (piece ++ more) (behind_sibling n s piece e one behind))
  closes-goes_on done (at_end {n = n} e) ends =
      subst (λ (t : List ℕ). IsWritten tree (done ++ t)) (append-nil (closing tree n)) (ends [] (the_end e))
  closes-goes_on done (last_child {n = n} {p = p} {next = next} {text = text} last parent above) ends =
      subst (λ (t : List ℕ). GoesOn tree t next) (append_assoc done (closing tree n) text)
      (closes-goes_on (done ++ closing tree n) above (λ more behind.
      subst (λ (t : List ℕ). IsWritten tree t) (sym (append_assoc done (closing tree n) (closing tree p ++ more)))
      (ends (closing tree p ++ more) (siblings parent (subst (λ (o : Option ℕ). AreSiblings tree o []) (sym last) no_sibling) behind))))

  -- the text so far, and a first child whose piece and what stands behind it are known
  behind_child : (n c : ℕ) (piece : List ℕ) → first_child_of tree n ≡ Some c → IsPiece tree c piece → {more : List ℕ} → StandsBehind tree c more → (rest after : List ℕ) × (more ≡ rest ++ (closing tree n ++ after)) × AreSiblings tree (Some c) (piece ++ rest) × StandsBehind tree n after
  behind_child n c piece e one (the_end none) = let f = first_child-found tree grown n c e in absurd (let g : Some n ≡ None = sym f.1 ∙ sym (ap (parent_of tree) f.0) ∙ none in cc)
  behind_child n c piece e one (siblings {p = p} {rest = rest} {more = more} parent others after) =
      let f = first_child-found tree grown n c e in
      let same : p ≡ n = same_Some p n (sym parent ∙ ap (parent_of tree) f.0 ∙ f.1) in
      (rest, more, ap (λ i. rest ++ (closing tree i ++ more)) same, sibling one others, subst (λ (i : ℕ). StandsBehind tree i more) same after)

  pub goes_on-more : (done : List ℕ) {n : ℕ} {next : Option ℕ} {text : List ℕ} → Follows tree n next text → GoesOn tree done (Some n) → GoesOn tree (done ++ (opening tree n ++ (node_text tree n ++ text))) next
  goes_on-more done (before_child {n = n} {c = c} e) so_far = λ piece more one behind.
      let b = behind_child n c piece e one behind in
      let inner = node_text tree n ++ (piece ++ b.0) in
      let node : IsPiece tree n (opening tree n ++ (inner ++ closing tree n)) = record { text = inner; from = from_children n b.3 e; whole = refl } in
      let same : done ++ ((opening tree n ++ (inner ++ closing tree n)) ++ b.1) ≡ (done ++ (opening tree n ++ (node_text tree n ++ []))) ++ (piece ++ more) =
      regroup done (opening tree n) (node_text tree n) piece b.0 (closing tree n) b.1 ∙ ap (λ t. (done ++ (opening tree n ++ (node_text tree n ++ []))) ++ (piece ++ t)) (sym b.2) in
      subst (λ (t : List ℕ). IsWritten tree t) same (so_far _ b.1 node b.4)
    where
      regroup : (d o t p r c a : List ℕ) → d ++ ((o ++ ((t ++ (p ++ r)) ++ c)) ++ a) ≡ (d ++ (o ++ (t ++ []))) ++ (p ++ (r ++ (c ++ a)))
      regroup d o t p r c a = simp (append_assoc, append-nil)
  goes_on-more done (behind_leaf {n = n} {next = next} {text = text} none closes) so_far =
      let childless : children_of tree n ≡ [] = sym (siblings_from-first tree n) ∙ ap (siblings_from tree) none in
      let node : IsPiece tree n (opening tree n ++ (node_text tree n ++ closing tree n)) = record { text = node_text tree n; from = leaf childless; whole = refl } in
      subst (λ (t : List ℕ). GoesOn tree t next) (regroup_text done (opening tree n) (node_text tree n) text)
      (closes-goes_on (done ++ (opening tree n ++ node_text tree n)) closes (λ more behind.
      subst (λ (t : List ℕ). IsWritten tree t) (regroup done (opening tree n) (node_text tree n) (closing tree n) more) (so_far _ more node behind)))
    where
      regroup_text : (d o t s : List ℕ) → (d ++ (o ++ t)) ++ s ≡ d ++ (o ++ (t ++ s))
      regroup_text d o t s = simp append_assoc

      regroup : (d o t c m : List ℕ) → d ++ ((o ++ (t ++ c)) ++ m) ≡ (d ++ (o ++ t)) ++ (c ++ m)
      regroup d o t c m = simp append_assoc
