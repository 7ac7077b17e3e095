-- How many games are kept, and how many nodes they have: games in parts, and that there is one number.
use Rattle.std.proofs.Common.{◌≡◌, ℕ, inl, inr, ◌+◌, ◌≤◌, List, [], ◌∷◌, ◌++◌, append_assoc, refl, sym, ap, subst, add-zero, arith}
use Rattle.std.specs.Prelude.{All}
use Rattle.std.proofs.lemmas.List.{append-nil}
use Rattle.std.proofs.lemmas.List.Elements.{All-head, All-tail}
use Rattle.std.proofs.lemmas.List.Sums.{sum_by-append, sum_by-cons}
use Rattle.kb_geometry.proofs.Lists.{push_not_nil, push_same}
use Rattle.game_tree.specs.Tree.{IsTree, node_count}
use Rattle.node_position.specs.Games.{Game}
use Rattle.pattern_images.specs.declared.query.Query.{Query}
use Rattle.search_engine.specs.KeptGames.{AreKept, HaveKeptNodes, IsKeptGame}
use Rattle.segment_store.specs.Nodes.{nodes_of}
use Rattle.search_engine.proofs.ToldKept.{told_kept_game}

module _ (query : Query) where
  -- ---- how many games

  pub AreKept-append : (games : List Game) (a : ℕ) → AreKept query games a → (more : List Game) (b : ℕ) → AreKept query more b → AreKept query (games ++ more) (a + b)
  AreKept-append games a one _ _ AreKept.nothing =
      subst (λ gs. AreKept query gs (a + 0)) (sym (append-nil games)) (subst (λ k. AreKept query games k) (sym (add-zero a)) one)
  AreKept-append games a one _ _ (AreKept.kept {games = before} {k = k} game so_far is) =
      let counted : a + k + 1 ≡ a + (k + 1) = omega arith in
      subst (λ gs. AreKept query gs (a + (k + 1))) (append_assoc games before (game ∷ []))
      (subst (λ n. AreKept query ((games ++ before) ++ game ∷ []) n) counted (AreKept.kept game (AreKept-append games a one before k so_far) is))
  AreKept-append games a one _ _ (AreKept.left_out {games = before} {k = k} game so_far not) =
      subst (λ gs. AreKept query gs (a + k)) (append_assoc games before (game ∷ [])) (AreKept.left_out game (AreKept-append games a one before k so_far) not)

  pub AreKept-unique : (games more : List Game) (a b : ℕ) → AreKept query games a → AreKept query more b → games ≡ more → a ≡ b
  AreKept-unique _ _ _ _ AreKept.nothing AreKept.nothing e = refl
  AreKept-unique _ _ _ _ AreKept.nothing (AreKept.kept {games = ks} k other too) e = absurd (push_not_nil ks k e)
  AreKept-unique _ _ _ _ AreKept.nothing (AreKept.left_out {games = ks} k other not) e = absurd (push_not_nil ks k e)
  AreKept-unique _ _ _ _ (AreKept.kept {games = gs} g one is) AreKept.nothing e = absurd (push_not_nil gs g (sym e))
  AreKept-unique _ _ _ _ (AreKept.left_out {games = gs} g one none) AreKept.nothing e = absurd (push_not_nil gs g (sym e))
  AreKept-unique _ _ _ _ (AreKept.kept {games = gs} {k = a} g one is) (AreKept.kept {games = ks} {k = b} k other too) e =
      ap (λ n. n + 1) (AreKept-unique gs ks a b one other (push_same gs ks g k e).0)
  AreKept-unique _ _ _ _ (AreKept.kept {games = gs} g one is) (AreKept.left_out {games = ks} k other not) e =
      absurd (not (subst (λ (h : Game). IsKeptGame query h.tree) (push_same gs ks g k e).1 is))
  AreKept-unique _ _ _ _ (AreKept.left_out {games = gs} g one none) (AreKept.kept {games = ks} k other too) e =
      absurd (none (subst (λ (h : Game). IsKeptGame query h.tree) (sym (push_same gs ks g k e).1) too))
  AreKept-unique _ _ _ _ (AreKept.left_out {games = gs} {k = a} g one none) (AreKept.left_out {games = ks} {k = b} k other not) e =
      AreKept-unique gs ks a b one other (push_same gs ks g k e).0

  kept_one : (game : Game) → IsTree game.tree → (k : ℕ) × AreKept query (game ∷ []) k
  kept_one game is_tree = elim (told_kept_game query game.tree is_tree) [
    | inl is ↦ (0 + 1, AreKept.kept game AreKept.nothing is)
    | inr not ↦ (0, AreKept.left_out game AreKept.nothing not)
  ]

  pub kept-found : (games : List Game) → All (λ (g : Game). IsTree g.tree) games → (k : ℕ) × AreKept query games k
  kept-found [] trees = (0, AreKept.nothing)
  kept-found (game ∷ games) trees =
      let one = kept_one game (All-head (λ (g : Game). IsTree g.tree) game games trees) in
      let rest = kept-found games (All-tail (λ (g : Game). IsTree g.tree) game games trees) in
      (one.0 + rest.0, AreKept-append (game ∷ []) one.0 one.1 games rest.0 rest.1)

  -- ---- how many nodes

  pub KeptNodes-append : (games : List Game) (a : ℕ) → HaveKeptNodes query games a → (more : List Game) (b : ℕ) → HaveKeptNodes query more b → HaveKeptNodes query (games ++ more) (a + b)
  KeptNodes-append games a one _ _ HaveKeptNodes.nothing =
      subst (λ gs. HaveKeptNodes query gs (a + 0)) (sym (append-nil games)) (subst (λ k. HaveKeptNodes query games k) (sym (add-zero a)) one)
  KeptNodes-append games a one _ _ (HaveKeptNodes.kept {games = before} {n = k} game so_far is) =
      let counted : a + k + node_count game.tree ≡ a + (k + node_count game.tree) = omega arith in
      subst (λ gs. HaveKeptNodes query gs (a + (k + node_count game.tree))) (append_assoc games before (game ∷ []))
      (subst (λ n. HaveKeptNodes query ((games ++ before) ++ game ∷ []) n) counted (HaveKeptNodes.kept game (KeptNodes-append games a one before k so_far) is))
  KeptNodes-append games a one _ _ (HaveKeptNodes.left_out {games = before} {n = k} game so_far not) =
      subst (λ gs. HaveKeptNodes query gs (a + k)) (append_assoc games before (game ∷ [])) (HaveKeptNodes.left_out game (KeptNodes-append games a one before k so_far) not)

  pub KeptNodes-unique : (games more : List Game) (a b : ℕ) → HaveKeptNodes query games a → HaveKeptNodes query more b → games ≡ more → a ≡ b
  KeptNodes-unique _ _ _ _ HaveKeptNodes.nothing HaveKeptNodes.nothing e = refl
  KeptNodes-unique _ _ _ _ HaveKeptNodes.nothing (HaveKeptNodes.kept {games = ks} k other too) e = absurd (push_not_nil ks k e)
  KeptNodes-unique _ _ _ _ HaveKeptNodes.nothing (HaveKeptNodes.left_out {games = ks} k other not) e = absurd (push_not_nil ks k e)
  KeptNodes-unique _ _ _ _ (HaveKeptNodes.kept {games = gs} g one is) HaveKeptNodes.nothing e = absurd (push_not_nil gs g (sym e))
  KeptNodes-unique _ _ _ _ (HaveKeptNodes.left_out {games = gs} g one none) HaveKeptNodes.nothing e = absurd (push_not_nil gs g (sym e))
  KeptNodes-unique _ _ _ _ (HaveKeptNodes.kept {games = gs} {n = a} g one is) (HaveKeptNodes.kept {games = ks} {n = b} k other too) e =
      let same = push_same gs ks g k e in
      let before = KeptNodes-unique gs ks a b one other same.0 in
      let last : node_count g.tree ≡ node_count k.tree = ap (λ (h : Game). node_count h.tree) same.1 in
      omega (arith, before, last)
  KeptNodes-unique _ _ _ _ (HaveKeptNodes.kept {games = gs} g one is) (HaveKeptNodes.left_out {games = ks} k other not) e =
      absurd (not (subst (λ (h : Game). IsKeptGame query h.tree) (push_same gs ks g k e).1 is))
  KeptNodes-unique _ _ _ _ (HaveKeptNodes.left_out {games = gs} g one none) (HaveKeptNodes.kept {games = ks} k other too) e =
      absurd (none (subst (λ (h : Game). IsKeptGame query h.tree) (sym (push_same gs ks g k e).1) too))
  KeptNodes-unique _ _ _ _ (HaveKeptNodes.left_out {games = gs} {n = a} g one none) (HaveKeptNodes.left_out {games = ks} {n = b} k other not) e =
      KeptNodes-unique gs ks a b one other (push_same gs ks g k e).0

  kept_nodes_one : (game : Game) → IsTree game.tree → (n : ℕ) × HaveKeptNodes query (game ∷ []) n
  kept_nodes_one game is_tree = elim (told_kept_game query game.tree is_tree) [
    | inl is ↦ (0 + node_count game.tree, HaveKeptNodes.kept game HaveKeptNodes.nothing is)
    | inr not ↦ (0, HaveKeptNodes.left_out game HaveKeptNodes.nothing not)
  ]

  pub kept_nodes-found : (games : List Game) → All (λ (g : Game). IsTree g.tree) games → (n : ℕ) × HaveKeptNodes query games n
  kept_nodes-found [] trees = (0, HaveKeptNodes.nothing)
  kept_nodes-found (game ∷ games) trees =
      let one = kept_nodes_one game (All-head (λ (g : Game). IsTree g.tree) game games trees) in
      let rest = kept_nodes-found games (All-tail (λ (g : Game). IsTree g.tree) game games trees) in
      (one.0 + rest.0, KeptNodes-append (game ∷ []) one.0 one.1 games rest.0 rest.1)

  pub kept_nodes-most : (games : List Game) (n : ℕ) → HaveKeptNodes query games n → n ≤ nodes_of games
  kept_nodes-most _ _ HaveKeptNodes.nothing = omega arith
  kept_nodes-most _ _ (HaveKeptNodes.kept {games = gs} {n = n} g so_far is) =
      let sum = sum_by-append (λ (h : Game). node_count h.tree) gs (g ∷ []) in
      let one = sum_by-cons (λ (h : Game). node_count h.tree) g [] in
      omega (arith, kept_nodes-most gs n so_far, sum, one)
  kept_nodes-most _ _ (HaveKeptNodes.left_out {games = gs} {n = n} g so_far not) =
      let sum = sum_by-append (λ (h : Game). node_count h.tree) gs (g ∷ []) in
      omega (arith, kept_nodes-most gs n so_far, sum)

  -- the nodes of the kept games of two parts
  pub record InParts (games more : List Game) (n : ℕ) : Type 0 where
    pub first : ℕ
    pub second : ℕ
    pub are_first : HaveKeptNodes query games first
    pub are_second : HaveKeptNodes query more second
    pub together : first + second ≡ n

  last_apart : (all games : List Game) (game : Game) (n : ℕ) → HaveKeptNodes query all n → all ≡ games ++ game ∷ [] → InParts games (game ∷ []) n
  last_apart _ games game _ HaveKeptNodes.nothing e = absurd (push_not_nil games game e)
  last_apart _ games game _ (HaveKeptNodes.kept {games = gs} {n = n} g so_far is) e =
      let same = push_same gs games g game e in
      record {
        first = n;
        second = 0 + node_count game.tree;
        are_first = subst (λ xs. HaveKeptNodes query xs n) same.0 so_far;
        are_second = HaveKeptNodes.kept game HaveKeptNodes.nothing (subst (λ (h : Game). IsKeptGame query h.tree) same.1 is);
        together = let last : node_count g.tree ≡ node_count game.tree = ap (λ (h : Game). node_count h.tree) same.1 in omega (arith, last);
      }
  last_apart _ games game _ (HaveKeptNodes.left_out {games = gs} {n = n} g so_far not) e =
      let same = push_same gs games g game e in
      record {
        first = n;
        second = 0;
        are_first = subst (λ xs. HaveKeptNodes query xs n) same.0 so_far;
        are_second = HaveKeptNodes.left_out game HaveKeptNodes.nothing (subst (λ (h : Game). ¬ IsKeptGame query h.tree) same.1 not);
        together = add-zero n;
      }

  pub in_parts : (more games : List Game) (n : ℕ) → HaveKeptNodes query (games ++ more) n → InParts games more n
  in_parts [] games n have = record {
    first = n;
    second = 0;
    are_first = subst (λ gs. HaveKeptNodes query gs n) (append-nil games) have;
    are_second = HaveKeptNodes.nothing;
    together = add-zero n;
  }
  in_parts (game ∷ more) games n have =
      let rest = in_parts more (games ++ game ∷ []) n (subst (λ gs. HaveKeptNodes query gs n) (sym (append_assoc games (game ∷ []) more)) have) in
      let last = last_apart (games ++ game ∷ []) games game rest.first rest.are_first refl in
      record {
        first = last.first;
        second = last.second + rest.second;
        are_first = last.are_first;
        are_second = KeptNodes-append (game ∷ []) last.second last.are_second more rest.second rest.are_second;
        together = omega (arith, last.together, rest.together);
      }
