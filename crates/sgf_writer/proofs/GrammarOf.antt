-- The grammar of a written tree: each node's text is a node of the text, in the order of the numbers.
use Rattle.std.proofs.Common.{◌≡◌, ℕ, ◌+◌, ◌-◌, ◌<◌, ◌≤◌, suc, ltb, true, false, List, [], ◌∷◌, ◌++◌, length, map, Option, Some, None, refl, sym, ◌∙◌, ap, subst, arith, append_assoc, length-append}
use Rattle.std.proofs.lemmas.Bool.{le-ltb, lt-ltb}
use Rattle.std.proofs.lemmas.List.{append-nil}
use Rattle.std.proofs.lemmas.List.Elements.{All-nil}
use Rattle.sgf_reader.specs.Grammar.{AreNodes, AreTreeTexts, IsTreeText, IsWhite, SpelledNode}
use Rattle.game_tree.specs.Built.{IsGrown}
use Rattle.kb_geometry.specs.Counts.{one_if}
use Rattle.game_tree.specs.Stored.{siblings_from}
use Rattle.game_tree.specs.Tree.{IsTree, Tree, branchings_to, children_of, first_child_of, first_number, next_sibling_of, node_count, parent_of}
use Rattle.game_tree.proofs.Subtrees.{IsSubtree, IsSubtree-at, IsSubtree-last}
use Rattle.game_tree.proofs.Trees.{IsGrown-tree, first_child-found, parent-in_range, siblings_from-first}
use Rattle.sgf_writer.specs.Written.{AreWritten, IsWrittenFrom, children, leaf, node_text, only_child}
use Rattle.sgf_writer.proofs.Entries.{node_entries}
use Rattle.sgf_writer.proofs.InBrackets.{children-first}
use Rattle.sgf_writer.proofs.NodeSpelling.{properties_text, spell-node}
use Rattle.sgf_writer.proofs.Spelling.{entry_of}
use Rattle.sgf_writer.proofs.Standing.{Stands, Stands-as, Stands-at, Stands-back, Stands-front}
use Rattle.sgf_writer.proofs.SubtreeEnds.{Starts, branchings-step, branchings_above, branchings_above-child, branchings_above-lt, leaf-end, same_end, siblings-head, siblings-none, starts-next}

-- the spelled node is this node of the tree
pub record IsSpelled (whole : List ℕ) (tree : Tree) (n : ℕ) (node : SpelledNode) : Type 0 where
  pub parent : node.parent ≡ parent_of tree n
  pub depth : node.depth ≤ 1024
  pub shown : map (entry_of whole) node.pairs ≡ node_entries tree n

-- the spelled nodes are those of the tree from this number on
abbrev pub AreSpelled : List ℕ → Tree → ℕ → List SpelledNode → Type 0
AreSpelled whole tree n [] = Unit {0}
AreSpelled whole tree n (node ∷ nodes) = IsSpelled whole tree n node × AreSpelled whole tree (n + 1) nodes

pub AreSpelled-append : (whole : List ℕ) (tree : Tree) (n m : ℕ) (xs ys : List SpelledNode) → AreSpelled whole tree n xs → m ≡ n + length xs → AreSpelled whole tree m ys → AreSpelled whole tree n (xs ++ ys)
AreSpelled-append whole tree n m [] ys a e b = subst (λ (i : ℕ). AreSpelled whole tree i ys) (let f : m ≡ n = omega arith in f) b
AreSpelled-append whole tree n m (x ∷ xs) ys a e b = (a.0, AreSpelled-append whole tree (n + 1) m xs ys a.1 (omega arith) b)

-- the text is a node's own nodes, each the only child of the one before, and then trees
pub record ReadsFrom (whole : List ℕ) (tree : Tree) (n depth : ℕ) (opened parent : Option ℕ) (at : ℕ) (text : List ℕ) : Type 0 where
  pub sequence : List ℕ
  pub inner : List ℕ
  pub nodes : List SpelledNode
  pub inside : List SpelledNode
  pub split : text ≡ sequence ++ inner
  pub own : AreNodes depth opened parent n at sequence nodes
  pub some : 1 ≤ length nodes
  pub trees : AreTreeTexts depth (Some (n + length nodes - 1)) (n + length nodes) (at + length sequence) inner inside
  pub spelled : AreSpelled whole tree n (nodes ++ inside)
  pub subtree : IsSubtree tree n (n + length (nodes ++ inside))

-- the text is trees, up to the end of their parent's subtree
pub record ReadsTrees (whole : List ℕ) (tree : Tree) (depth : ℕ) (parent : Option ℕ) (number at : ℕ) (text : List ℕ) (end : ℕ) : Type 0 where
  pub nodes : List SpelledNode
  pub trees : AreTreeTexts depth parent number at text nodes
  pub spelled : AreSpelled whole tree number nodes
  pub all : number + length nodes ≡ end

-- the text is a node's text, and then other nodes
record HasFirst (whole : List ℕ) (tree : Tree) (n depth : ℕ) (opened parent : Option ℕ) (at : ℕ) (rest : List ℕ) (nodes : List SpelledNode) : Type 0 where
  pub node : SpelledNode
  pub own : AreNodes depth opened parent n at (59 ∷ (properties_text tree n ++ rest)) (node ∷ nodes)
  pub spelled : IsSpelled whole tree n node

no_white : IsWhite []
no_white = All-nil (λ (b : ℕ). b ≤ 32)

trees-moved : (depth a b m n at k : ℕ) (text : List ℕ) (nodes : List SpelledNode) → a ≡ b → m ≡ n → at ≡ k → AreTreeTexts depth (Some a) m at text nodes → AreTreeTexts depth (Some b) n k text nodes
trees-moved depth a b m n at k text nodes e f g t =
    subst (λ (i : ℕ). AreTreeTexts depth (Some b) n i text nodes) g (subst (λ (i : ℕ). AreTreeTexts depth (Some b) i at text nodes) f (subst (λ (i : ℕ). AreTreeTexts depth (Some i) m at text nodes) e t))

module _ (whole : List ℕ) (tree : Tree) (is_tree : IsTree tree) where
  abbrev pub grown : IsGrown tree
  grown = IsGrown-tree tree is_tree

  first-node : (n depth : ℕ) (opened parent : Option ℕ) (at : ℕ) (rest : List ℕ) (nodes : List SpelledNode) → n < node_count tree → parent ≡ parent_of tree n → depth ≡ suc (branchings_above tree grown n) → Stands whole at (59 ∷ properties_text tree n) → AreNodes depth None (Some n) (n + 1) (at + length (59 ∷ properties_text tree n)) rest nodes → HasFirst whole tree n depth opened parent at rest nodes
  first-node n depth opened parent at rest nodes h is_parent d stands others =
      let place : at + length {A = ℕ} (59 ∷ []) ≡ at + length {A = ℕ} [] + 1 = omega arith in
      let own = spell-node whole tree is_tree n h (at + length {A = ℕ} [] + 1) (Stands-at (at + length {A = ℕ} (59 ∷ [])) _ place (Stands-back (59 ∷ []) (properties_text tree n) stands)) in
      record {
        node = record { opened = opened; at = at + length {A = ℕ} []; depth = depth; parent = parent; pairs = own.pairs };
        own = AreNodes.one_more [] (properties_text tree n) rest no_white own.spelled others;
        spelled = record { parent = is_parent; depth = omega (arith, d, branchings_above-lt tree grown is_tree.depth n); shown = own.shown };
      }

  -- behind a node that has no or several children
  last-node : (n depth : ℕ) (opened parent : Option ℕ) (at : ℕ) (inner : List ℕ) (inside : List SpelledNode) → n < node_count tree → parent ≡ parent_of tree n → depth ≡ suc (branchings_above tree grown n) → Stands whole at (node_text tree n) → AreTreeTexts depth (Some n) (n + 1) (at + length (node_text tree n)) inner inside → AreSpelled whole tree (n + 1) inside → IsSubtree tree n (n + 1 + length inside) → ReadsFrom whole tree n depth opened parent at (node_text tree n ++ inner)
  last-node n depth opened parent at inner inside h is_parent d stands trees spelled subtree =
      let first = first-node n depth opened parent at [] [] h is_parent d stands AreNodes.none in
      let same : node_text tree n ≡ 59 ∷ (properties_text tree n ++ []) = sym (append-nil (node_text tree n)) in
      record {
        sequence = 59 ∷ (properties_text tree n ++ []);
        inner = inner;
        nodes = first.node ∷ [];
        inside = inside;
        split = ap (λ t. t ++ inner) same;
        own = first.own;
        some = omega arith;
        trees = trees-moved depth _ _ _ _ _ _ inner inside (omega arith) (omega arith) (ap (λ t. at + length t) same) trees;
        spelled = (first.spelled, spelled);
        subtree = subst (λ (i : ℕ). IsSubtree tree n i) (omega arith) subtree;
      }

  -- behind a node with one child
  more-nodes : (n depth : ℕ) (opened parent : Option ℕ) (at : ℕ) (text : List ℕ) (end : ℕ) → n < node_count tree → parent ≡ parent_of tree n → depth ≡ suc (branchings_above tree grown n) → Stands whole at (node_text tree n) → ReadsFrom whole tree (n + 1) depth None (Some n) (at + length (node_text tree n)) text → IsSubtree tree n end → IsSubtree tree (n + 1) end → ReadsFrom whole tree n depth opened parent at (node_text tree n ++ text)
  more-nodes n depth opened parent at text end h is_parent d stands r all own =
      let first = first-node n depth opened parent at r.sequence r.nodes h is_parent d stands r.own in
      let ends = same_end tree (n + 1) end (n + 1 + length (r.nodes ++ r.inside)) own r.subtree in
      record {
        sequence = 59 ∷ (properties_text tree n ++ r.sequence);
        inner = r.inner;
        nodes = first.node ∷ r.nodes;
        inside = r.inside;
        split = ap (λ t. node_text tree n ++ t) r.split ∙ sym (append_assoc (node_text tree n) r.sequence r.inner);
        own = first.own;
        some = omega arith;
        trees = trees-moved depth _ _ _ _ _ _ r.inner r.inside (omega arith) (omega arith) (omega (arith, length-append (node_text tree n) r.sequence)) r.trees;
        spelled = (first.spelled, r.spelled);
        subtree = subst (λ (i : ℕ). IsSubtree tree n i) (omega (arith, ends)) all;
      }

  -- an only child
  only_child-facts : (n child : ℕ) → children_of tree n ≡ child ∷ [] → (child ≡ n + 1) × (parent_of tree child ≡ Some n) × (next_sibling_of tree child ≡ None)
  only_child-facts n child e =
      let first : first_child_of tree n ≡ Some child = ap first_number e in
      let f = first_child-found tree grown n child first in
      let all : child ∷ [] ≡ child ∷ siblings_from tree (next_sibling_of tree child) = sym e ∙ children-first tree n child first in
      let rest : [] ≡ siblings_from tree (next_sibling_of tree child) = cc in
      (f.0, ap (parent_of tree) f.0 ∙ f.1, siblings-none tree (next_sibling_of tree child) rest)

  -- a bracketed tree
  pub bracketed : (parent : Option ℕ) (depth number at : ℕ) (text : List ℕ) (r : ReadsFrom whole tree number (depth + 1) (Some at) parent (at + 1) text) → IsTreeText depth parent number at (40 ∷ (text ++ 41 ∷ [])) (r.nodes ++ r.inside)
  bracketed parent depth number at text r =
      let same : 40 ∷ (r.sequence ++ r.inner ++ [] ++ 41 ∷ []) ≡ 40 ∷ (text ++ 41 ∷ []) =
      ap (λ t. 40 ∷ (t ++ 41 ∷ [])) (append-nil (r.sequence ++ r.inner) ∙ sym r.split) in
      subst (λ (t : List ℕ). IsTreeText depth parent number at t (r.nodes ++ r.inside)) same
      (IsTreeText.in_brackets r.sequence r.inner [] r.nodes r.inside r.own r.some (trees-moved (depth + 1) _ _ _ _ _ _ r.inner r.inside refl refl (omega arith) r.trees) no_white)

  one_tree : (m depth number at : ℕ) (text rest : List ℕ) (end : ℕ) (r : ReadsFrom whole tree number (depth + 1) (Some at) (Some m) (at + 1) text) → ReadsTrees whole tree depth (Some m) (number + length (r.nodes ++ r.inside)) (at + length (40 ∷ (text ++ 41 ∷ []))) rest end → ReadsTrees whole tree depth (Some m) number at (40 ∷ (text ++ 41 ∷ rest)) end
  one_tree m depth number at text rest end r others =
      let place : at ≡ at + length {A = ℕ} [] = omega arith in
      let first : IsTreeText depth (Some m) number (at + length {A = ℕ} []) (40 ∷ (text ++ 41 ∷ [])) (r.nodes ++ r.inside) =
      subst (λ (k : ℕ). IsTreeText depth (Some m) number k (40 ∷ (text ++ 41 ∷ [])) (r.nodes ++ r.inside)) place (bracketed (Some m) depth number at text r) in
      let same : (40 ∷ (text ++ 41 ∷ [])) ++ rest ≡ 40 ∷ (text ++ 41 ∷ rest) = ap (λ t. 40 ∷ t) (append_assoc text (41 ∷ []) rest) in
      record {
        nodes = (r.nodes ++ r.inside) ++ others.nodes;
        trees = subst (λ (t : List ℕ). AreTreeTexts depth (Some m) number at t ((r.nodes ++ r.inside) ++ others.nodes)) same (AreTreeTexts.one_more [] (40 ∷ (text ++ 41 ∷ [])) rest (r.nodes ++ r.inside) others.nodes no_white first others.trees);
        spelled = AreSpelled-append whole tree number (number + length (r.nodes ++ r.inside)) (r.nodes ++ r.inside) others.nodes r.spelled refl others.spelled;
        all = omega (arith, length-append (r.nodes ++ r.inside) others.nodes, others.all);
      }

  moved : (n number : ℕ) → n ≡ number → (m depth at : ℕ) (text rest : List ℕ) (end : ℕ) (r : ReadsFrom whole tree n (depth + 1) (Some at) (Some m) (at + 1) text) → ReadsTrees whole tree depth (Some m) (number + length (r.nodes ++ r.inside)) (at + length (40 ∷ (text ++ 41 ∷ []))) rest end → ReadsTrees whole tree depth (Some m) number at (40 ∷ (text ++ 41 ∷ rest)) end
  moved n number e m depth at text rest end =
      subst (λ (i : ℕ). (r : ReadsFrom whole tree n (depth + 1) (Some at) (Some m) (at + 1) text) → ReadsTrees whole tree depth (Some m) (i + length (r.nodes ++ r.inside)) (at + length (40 ∷ (text ++ 41 ∷ []))) rest end → ReadsTrees whole tree depth (Some m) i at (40 ∷ (text ++ 41 ∷ rest)) end) e (one_tree m depth n at text rest end)

  mutual
    pub reads-from : (n : ℕ) (text : List ℕ) → IsWrittenFrom tree n text → (at depth : ℕ) (opened parent : Option ℕ) → Stands whole at text → n < node_count tree → parent ≡ parent_of tree n → depth ≡ suc (branchings_above tree grown n) → ReadsFrom whole tree n depth opened parent at text
    reads-from n text (leaf none) at depth opened parent stands h is_parent d =
        let read = last-node n depth opened parent at [] [] h is_parent d stands AreTreeTexts.none tt (subst (λ (i : ℕ). IsSubtree tree n i) (omega arith) (leaf-end tree grown n h none)) in
        subst (λ (t : List ℕ). ReadsFrom whole tree n depth opened parent at t) (append-nil (node_text tree n)) read
    reads-from n text (only_child child rest e from) at depth opened parent stands h is_parent d =
        let f = only_child-facts n child e in
        let few : ltb 1 (length (children_of tree n)) ≡ false = le-ltb 1 (length (children_of tree n)) (omega (arith, ap length e)) in
        let step : branchings_to tree n ≡ branchings_above tree grown n = branchings-step tree grown n ∙ ap (λ b. branchings_above tree grown n + one_if b) few ∙ omega arith in
        let r = reads-from child rest from (at + length (node_text tree n)) depth None (Some n) (Stands-back (node_text tree n) rest stands) (parent-in_range tree child n f.1) (sym f.1) (d ∙ ap (λ i. suc i) (sym (branchings_above-child tree grown n child f.1 ∙ step))) in
        let all = IsSubtree-at tree grown n h in
        more-nodes n depth opened parent at rest all.0 h is_parent d (Stands-front (node_text tree n) rest stands)
        (subst (λ (i : ℕ). ReadsFrom whole tree i depth None (Some n) (at + length (node_text tree n)) rest) f.0 r) all.1
        (subst (λ (i : ℕ). IsSubtree tree i all.0) f.0 (IsSubtree-last tree grown n child all.0 f.1 f.2 all.1))
    reads-from n text (children first second others rest e written) at depth opened parent stands h is_parent d =
        let child : first_child_of tree n ≡ Some first = ap first_number e in
        let f = first_child-found tree grown n first child in
        let several : ltb 1 (length (children_of tree n)) ≡ true = lt-ltb 1 (length (children_of tree n)) (omega (arith, ap length e)) in
        let step : branchings_to tree n ≡ branchings_above tree grown n + 1 = branchings-step tree grown n ∙ ap (λ b. branchings_above tree grown n + one_if b) several in
        let all = IsSubtree-at tree grown n h in
        let from_first : first ∷ second ∷ others ≡ siblings_from tree (Some first) = sym e ∙ sym (siblings_from-first tree n) ∙ ap (siblings_from tree) child in
        let r = reads-trees (first ∷ second ∷ others) rest written (Some first) from_first n all.0 (n + 1) (at + length (node_text tree n)) depth all.1 (f.0, ap (parent_of tree) f.0 ∙ f.1) (omega (arith, d, step)) (Stands-back (node_text tree n) rest stands) in
        last-node n depth opened parent at rest r.nodes h is_parent d (Stands-front (node_text tree n) rest stands) r.trees r.spelled (subst (λ (i : ℕ). IsSubtree tree n i) (sym r.all) all.1)

    pub reads-trees : (ns : List ℕ) (text : List ℕ) → AreWritten tree ns text → (o : Option ℕ) → ns ≡ siblings_from tree o → (m end number at depth : ℕ) → IsSubtree tree m end → Starts tree m end o number → depth ≡ branchings_to tree m → Stands whole at text → ReadsTrees whole tree depth (Some m) number at text end
    reads-trees ns text AreWritten.none o e m end number at depth all starts d stands =
        let last = subst (λ (i : Option ℕ). Starts tree m end i number) (siblings-none tree o e) starts in
        record { nodes = []; trees = AreTreeTexts.none; spelled = tt; all = omega (arith, last) }
    reads-trees ns text (AreWritten.one_more {n = n} {others = others} first rest from written) o e m end number at depth all starts d stands =
        let head = siblings-head tree n others o e in
        let here = subst (λ (i : Option ℕ). Starts tree m end i number) head.0 starts in
        let r = reads-from n first from (at + 1) (depth + 1) (Some at) (Some m) (Stands-front first (41 ∷ rest) (Stands-back (40 ∷ []) (first ++ 41 ∷ rest) stands)) (parent-in_range tree n m here.1) (sym here.1) (omega (arith, d, branchings_above-child tree grown m n here.1)) in
        let behind : Stands whole (at + length (40 ∷ (first ++ 41 ∷ []))) rest = Stands-back (40 ∷ (first ++ 41 ∷ [])) rest (Stands-as _ _ (ap (λ t. 40 ∷ t) (sym (append_assoc first (41 ∷ []) rest))) stands) in
        let next : Starts tree m end (next_sibling_of tree n) (number + length (r.nodes ++ r.inside)) =
        subst (λ (i : ℕ). Starts tree m end (next_sibling_of tree n) (i + length (r.nodes ++ r.inside))) here.0 (starts-next tree grown m n end (length (r.nodes ++ r.inside)) here.1 all r.subtree) in
        let more = reads-trees others rest written (next_sibling_of tree n) head.1 m end (number + length (r.nodes ++ r.inside)) (at + length (40 ∷ (first ++ 41 ∷ []))) depth all next d behind in
        moved n number here.0 m depth at first rest end r more
