-- The games that a pattern finds are exactly those whose signature matches it, ascending, and no other list is.
use Rattle.std.proofs.Common.{◌≡◌, ℕ, ◌<◌, List, [], ◌∷◌, ◌++◌, length, refl, sym, subst, arith}
use Rattle.std.proofs.lemmas.List.{append-nil}
use Rattle.kb_geometry.proofs.Lists.{All-before}
use Rattle.game_tree.specs.Tree.{IsTree}
use Rattle.dyer_signature.specs.Patterns.{Matches}
use Rattle.node_position.specs.Games.{Game}
use Rattle.search_engine.proofs.NumberedLists.{AreThose, next-none, next-one, those-more, those-none, those-same}
use Rattle.session_core.specs.Signed.{AreAllGamesFound, AreGamesFound, FoundGame, MatchesWith}
use Rattle.session_core.proofs.ListAnswers.{AreTrees, found_from, last_tree, same_signature}

module _ (pattern : List ℕ) where
  abbrev number : FoundGame → ℕ
  number f = f.game

  abbrev fits : Game → FoundGame → Type 0
  fits game f = MatchesWith pattern game.tree f.form

  abbrev less : FoundGame → FoundGame → Type 0
  less a b = a.game < b.game

  abbrev those : List Game → List FoundGame → Type 0
  those = AreThose number fits less

  listed : (games : List Game) (found : List FoundGame) → AreTrees games → AreGamesFound pattern games found → those games found
  listed _ _ trees AreGamesFound.nothing = those-none number fits less
  listed _ _ trees (AreGamesFound.found {games = gs} {found = fs} game signature form so_far has matches) =
      let is_tree = last_tree gs game trees in
      let before = listed gs fs (All-before (λ (g : Game). IsTree g.tree) gs (game ∷ []) trees) so_far in
      let one : FoundGame = record { game = length gs; form = form } in
      let only : (t : FoundGame) → t.game ≡ length gs → fits game t → one ≡ t =
      λ t e fit.
      let same = (same_signature game.tree is_tree signature form fit.signature t.form has fit.signed).1 in
      λ i. record { game = sym e i; form = same i } in
      let next = next-one number fits less (length gs) game one refl (record { signature = signature; signed = has; matches = matches }) only in
      those-more number fits less (λ a b lt. lt) gs fs before game (one ∷ []) next
  listed _ _ trees (AreGamesFound.left_out {games = gs} {found = fs} game signature form so_far has not) =
      let is_tree = last_tree gs game trees in
      let before = listed gs fs (All-before (λ (g : Game). IsTree g.tree) gs (game ∷ []) trees) so_far in
      let none : (t : FoundGame) → ¬ fits game t =
      λ t fit.
      let same = (same_signature game.tree is_tree signature form fit.signature t.form has fit.signed).0 in
      not (subst (λ (s : List ℕ). Matches game.tree.shape s pattern) (sym same) fit.matches) in
      let next = next-none number fits less (length gs) game none in
      subst (those (gs ++ game ∷ [])) (append-nil fs) (those-more number fits less (λ a b lt. lt) gs fs before game [] next)

  pub all-found : (games : List Game) (found : List FoundGame) → AreTrees games → AreGamesFound pattern games found → AreAllGamesFound pattern games found
  all-found games found trees are = let l = listed games found trees are in record { exactly = l.exactly; ascending = l.ordered }

  pub found-all : (games : List Game) (found : List FoundGame) → AreTrees games → AreAllGamesFound pattern games found → AreGamesFound pattern games found
  found-all games found trees are =
      let other = found_from pattern [] games [] trees AreGamesFound.nothing in
      let same = those-same number fits less (λ a b one too. omega arith) games found other.0 (record { exactly = are.exactly; ordered = are.ascending }) (listed games other.0 trees other.1) in
      subst (AreGamesFound pattern games) (sym same) other.1
