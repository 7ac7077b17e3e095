use Rattle.std.proofs.Common.{◌≡◌, ◌<◌, ◌≤◌, ℕ, ◌+◌, List, [], ◌∷◌, ◌++◌, Bor, ◌∙◌, ap, arith, get_or, length, map, subst, sym, take}
use Rattle.std.proofs.lemmas.List.{length-map, length-take-le, map-append, take_all, take_more}
use Rattle.node_position.specs.Games.{Game}
use Rattle.opening_tree.specs.declared.openings.Asked.{Asked}
use Rattle.kb_geometry.specs.Board.{point_count}
use Rattle.opening_tree.specs.OpeningTables.{OpeningList}
use Rattle.opening_tree.specs.Packing.{words_for}
use Rattle.opening_tree.specs.StoredGames.{AreOpeningsOf}
use Rattle.opening_tree.specs.StoredGroups.{Stored}
use Rattle.opening_tree.proofs.StoredSteps.{openings-start}
use Rattle.opening_tree.proofs.openings.openings_in.Goals as goal

pub loop-at-init : goal.loop-at-init
loop-at-init c =
    let asked = c.in_ok-openings.openings.asked in
    record {
      kept = subst (AreOpeningsOf c.args.first asked.shape asked.depth []) (sym c.in_ok-openings.ensures.none) (openings-start c.args.first asked.shape asked.depth);
      asked = c.in_ok-openings.ensures.asked;
      board = c.in_ok-openings.ensures.board ∙ sym (ap (λ (a : Asked). a.shape) c.in_ok-openings.ensures.asked);
      width = c.in_ok-openings.ensures.width ∙ sym (ap (λ (a : Asked). words_for (point_count a.shape)) c.in_ok-openings.ensures.asked);
    }

pub returns : goal.returns
returns c =
    let games = c.args.games.now in
    let all : length games ≤ c.loop-at.at = omega (arith, c.loop-at-test.false) in
    subst (λ (stored : List Stored). AreOpeningsOf c.args.first c.args.asked.shape c.args.asked.depth (map (λ (g : Bor Game). g.now) games) stored) (sym (ap (λ (v : OpeningList). v.entries) c.into_openings.ensures))
    (subst (λ gs. AreOpeningsOf c.args.first c.args.asked.shape c.args.asked.depth (map (λ (g : Bor Game). g.now) gs) c.loop-at.openings.openings.entries) (take_all c.loop-at.at games all)
    (subst (λ (a : Asked). AreOpeningsOf c.args.first a.shape a.depth (map (λ (g : Bor Game). g.now) (take c.loop-at.at games)) c.loop-at.openings.openings.entries) c.loop-at.invariant.asked c.loop-at.invariant.kept))

-- one game more
one-more : {A : Type 0} (f : A → Game) (xs : List A) (at : ℕ) (x : A) → at < length xs → x ≡ get_or xs at x → map f (take at xs) ++ f x ∷ [] ≡ map f (take (at + 1) xs)
one-more f xs at x lt is =
    let last : ◌≡◌ {A = List Game} (f (get_or xs at x) ∷ []) (f x ∷ []) = ap (λ y. f y ∷ []) (sym is) in
    sym (ap (map f) (take_more xs at x lt) ∙ map-append f (take at xs) (get_or xs at x ∷ []) ∙ ap (λ gs. map f (take at xs) ++ gs) last)

before : {A : Type 0} (f : A → Game) (xs : List A) (at first : ℕ) → at < length xs → first + length (map f (take at xs)) ≡ first + at
before f xs at first lt =
    let low : at ≤ length xs = omega (arith, lt) in
    ap (λ n. first + n) (length-map (take at xs) f ∙ length-take-le at xs low)

pub loop-at-preserved : goal.loop-at-preserved
loop-at-preserved c =
    let games = c.args.games.now in
    let at = c.loop-at.at in
    let new = c.add_game.new.self in
    record {
      kept =
          subst (λ (gs : List Game). AreOpeningsOf c.args.first new.asked.shape new.asked.depth gs new.openings.entries) (one-more (λ (g : Bor Game). g.now) games at c.index-games-at.result c.loop-at-test.true c.index-games-at.is)
          (c.in_ok-add_game.ensures.added c.args.first (map (λ (g : Bor Game). g.now) (take at games)) (before (λ (g : Bor Game). g.now) games at c.args.first c.loop-at-test.true) c.loop-at.invariant.kept);
      asked = c.add_game.ensures.asked ∙ c.loop-at.invariant.asked;
      board = c.in_ok-add_game.ensures.board;
      width = c.add_game.ensures.width ∙ c.loop-at.invariant.width ∙ sym (ap (λ (a : Asked). words_for (point_count a.shape)) c.add_game.ensures.asked);
    }
