-- A tree has one written text only.
use Rattle.std.proofs.Common.{◌≡◌, ℕ, List, [], ◌∷◌, ◌++◌, refl, sym, ◌∙◌, ap}
use Rattle.game_tree.specs.Tree.{Tree, children_of}
use Rattle.sgf_writer.specs.Written.{AreWritten, IsWritten, IsWrittenFrom, children, leaf, node_text, only_child}

module _ (tree : Tree) where
  mutual
    one-from : (n : ℕ) (a : List ℕ) → IsWrittenFrom tree n a → (m : ℕ) (b : List ℕ) → IsWrittenFrom tree m b → n ≡ m → a ≡ b
    one-from n a (leaf e) m b (leaf f) s = ap (node_text tree) s
    one-from n a (leaf e) m b (only_child c t f y) s = absurd (let g : [] ≡ c ∷ [] = sym e ∙ ap (children_of tree) s ∙ f in cc)
    one-from n a (leaf e) m b (children c d others t f y) s = absurd (let g : [] ≡ c ∷ d ∷ others = sym e ∙ ap (children_of tree) s ∙ f in cc)
    one-from n a (only_child c t e x) m b (leaf f) s = absurd (let g : c ∷ [] ≡ [] = sym e ∙ ap (children_of tree) s ∙ f in cc)
    one-from n a (only_child c t e x) m b (only_child d u f y) s =
        let g : c ∷ [] ≡ d ∷ [] = sym e ∙ ap (children_of tree) s ∙ f in
        let child : c ≡ d = cc in
        ap (λ i. node_text tree i ++ t) s ∙ ap (λ v. node_text tree m ++ v) (one-from c t x d u y child)
    one-from n a (only_child c t e x) m b (children d second others u f y) s = absurd (let g : c ∷ [] ≡ d ∷ second ∷ others = sym e ∙ ap (children_of tree) s ∙ f in cc)
    one-from n a (children c second others t e x) m b (leaf f) s = absurd (let g : c ∷ second ∷ others ≡ [] = sym e ∙ ap (children_of tree) s ∙ f in cc)
    one-from n a (children c second others t e x) m b (only_child d u f y) s = absurd (let g : c ∷ second ∷ others ≡ d ∷ [] = sym e ∙ ap (children_of tree) s ∙ f in cc)
    one-from n a (children c second others t e x) m b (children d third more u f y) s =
        let g : c ∷ second ∷ others ≡ d ∷ third ∷ more = sym e ∙ ap (children_of tree) s ∙ f in
        ap (λ i. node_text tree i ++ t) s ∙ ap (λ v. node_text tree m ++ v) (one-list (c ∷ second ∷ others) t x (d ∷ third ∷ more) u y g)

    pub one-list : (ns : List ℕ) (a : List ℕ) → AreWritten tree ns a → (ms : List ℕ) (b : List ℕ) → AreWritten tree ms b → ns ≡ ms → a ≡ b
    one-list ns a AreWritten.none ms b AreWritten.none s = refl
    one-list ns a AreWritten.none ms b (AreWritten.one_more u v y ys) s = absurd cc
    one-list ns a (AreWritten.one_more t r x xs) ms b AreWritten.none s = absurd cc
    one-list ns a (AreWritten.one_more {n = n} {others = others} t r x xs) ms b (AreWritten.one_more {n = m} {others = more} u v y ys) s =
        let heads : n ≡ m = cc in
        let tails : others ≡ more = cc in
        ap (λ w. 40 ∷ (w ++ 41 ∷ r)) (one-from n t x m u y heads) ∙ ap (λ w. 40 ∷ (u ++ 41 ∷ w)) (one-list others r xs more v ys tails)

pub one_text : (tree : Tree) (a b : List ℕ) → IsWritten tree a → IsWritten tree b → a ≡ b
one_text tree a b x y = one-list tree (0 ∷ []) a x (0 ∷ []) b y refl
