-- Each tree has a written text: a node's children have greater numbers, so the texts are made from the last node on.
use Rattle.std.proofs.Common.{◌≡◌, ◌≤◌, ◌<◌, ◌+◌, ◌++◌, ℕ, zero, suc, List, [], ◌∷◌, All, refl, arith}
use Rattle.std.proofs.lemmas.List.Elements.{All-head, All-tail}
use Rattle.game_tree.specs.Built.{IsGrown}
use Rattle.game_tree.specs.Tree.{IsTree, Tree, children_of, node_count}
use Rattle.game_tree.proofs.Trees.{IsGrown-tree, children-in_range}
use Rattle.sgf_writer.specs.Written.{AreWritten, IsWritten, IsWrittenFrom, children, leaf, node_text, only_child}

module _ (tree : Tree) (grown : IsGrown tree) where
  -- the text from a node on
  abbrev HasText : ℕ → Type 0
  HasText n = (text : List ℕ) × IsWrittenFrom tree n text

  -- the number of a node behind this one
  abbrev IsBehind : ℕ → ℕ → Type 0
  IsBehind n c = (n < c) × (c < node_count tree)

  list-written : (n : ℕ) → ((c : ℕ) → IsBehind n c → HasText c) → (cs : List ℕ) → All (IsBehind n) cs → (text : List ℕ) × AreWritten tree cs text
  list-written n each [] behind = ([], AreWritten.none)
  list-written n each (c ∷ cs) behind =
      let one = each c (All-head (IsBehind n) c cs behind) in
      let rest = list-written n each cs (All-tail (IsBehind n) c cs behind) in
      (40 ∷ one.0 ++ 41 ∷ rest.0, AreWritten.one_more one.0 rest.0 one.1 rest.1)

  node-written : (n : ℕ) → ((c : ℕ) → IsBehind n c → HasText c) → (cs : List ℕ) → children_of tree n ≡ cs → All (IsBehind n) cs → HasText n
  node-written n each [] is behind = (node_text tree n, leaf is)
  node-written n each (c ∷ []) is behind =
      let one = each c (All-head (IsBehind n) c [] behind) in
      (node_text tree n ++ one.0, only_child c one.0 is one.1)
  node-written n each (c ∷ d ∷ cs) is behind =
      let all = list-written n each (c ∷ d ∷ cs) behind in
      (node_text tree n ++ all.0, children c d cs all.0 is all.1)

  -- so many nodes at most stand behind it
  from-written : (most n : ℕ) → node_count tree ≤ n + most → HasText n
  from-written zero n last = node-written n (λ c behind. absurd (omega (arith, behind.0, behind.1))) (children_of tree n) refl (children-in_range tree grown n)
  from-written (suc most) n last = node-written n (λ c behind. from-written most c (omega (arith, behind.0))) (children_of tree n) refl (children-in_range tree grown n)

pub each-written : (tree : Tree) → IsTree tree → (text : List ℕ) × IsWritten tree text
each-written tree is =
    let root = from-written tree (IsGrown-tree tree is) (node_count tree) 0 (omega arith) in
    (40 ∷ root.0 ++ 41 ∷ [], AreWritten.one_more root.0 [] root.1 AreWritten.none)
