-- Entries and next moves of games in parts.
use Rattle.std.proofs.Common.{◌≡◌, ℕ, ◌+◌, List, [], ◌∷◌, ◌++◌, length, length-append, append_assoc, sym, subst, arith}
use Rattle.std.proofs.lemmas.List.{append-nil}
use Rattle.kb_geometry.specs.declared.shape.Shape.{Shape}
use Rattle.node_position.specs.Games.{Game}
use Rattle.opening_tree.specs.Entries.{Entry}
use Rattle.opening_tree.specs.Games.{AreOfGames, AreOnBoard}
use Rattle.opening_tree.specs.NextMoves.{NextAt}

module _ (first : ℕ) (shape : Shape) (depth : ℕ) (games : List Game) (entries : List Entry) (nexts : List NextAt) (one : AreOfGames first shape depth games entries nexts) where
  -- those of games, and of more of them
  pub AreOfGames-append : (more : List Game) (others : List Entry) (behind : List NextAt) → AreOfGames (first + length games) shape depth more others behind → AreOfGames first shape depth (games ++ more) (entries ++ others) (nexts ++ behind)
  AreOfGames-append _ _ _ AreOfGames.nothing =
      subst (λ (gs : List Game). AreOfGames first shape depth gs (entries ++ []) (nexts ++ [])) (sym (append-nil games))
      (subst (λ (es : List Entry). AreOfGames first shape depth games es (nexts ++ [])) (sym (append-nil entries))
      (subst (λ (ns : List NextAt). AreOfGames first shape depth games entries ns) (sym (append-nil nexts)) one))
  AreOfGames-append _ _ _ (AreOfGames.one_more {games = before} {entries = es} {nexts = ns} game more_entries more_nexts so_far last) =
      let numbered : first + length games + length before ≡ first + length (games ++ before) = rw length-append (omega arith) in
      subst (λ (gs : List Game). AreOfGames first shape depth gs (entries ++ (es ++ more_entries)) (nexts ++ (ns ++ more_nexts))) (append_assoc games before (game ∷ []))
      (subst (λ (hs : List Entry). AreOfGames first shape depth ((games ++ before) ++ game ∷ []) hs (nexts ++ (ns ++ more_nexts))) (append_assoc entries es more_entries)
      (subst (λ (hs : List NextAt). AreOfGames first shape depth ((games ++ before) ++ game ∷ []) ((entries ++ es) ++ more_entries) hs) (append_assoc nexts ns more_nexts)
      (AreOfGames.one_more game more_entries more_nexts (AreOfGames-append before es ns so_far) (subst (λ k. AreOnBoard shape depth k game.tree more_entries more_nexts) numbered last))))
