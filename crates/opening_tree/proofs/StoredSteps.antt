-- The openings that are kept, one entry, one next move or one game more.
use Rattle.std.proofs.Common.{◌≡◌, ◌≢◌, ℕ, ◌+◌, ◌<◌, ◌≤◌, Bool, cond, List, [], ◌∷◌, ◌++◌, append-nil, take, length, length-append, get_or, map, refl, sym, ap, ◌∙◌, subst, arith}
use Rattle.std.specs.Prelude.{All, Any, IfSome, filter, nat_le}
use Rattle.std.specs.Map.{values_of}
use Rattle.std.proofs.lemmas.Bool.{le-leb, lt-leb}
use Rattle.std.proofs.lemmas.List.{map-append, take_more}
use Rattle.std.proofs.lemmas.List.Elements.{All-append, All-nil, filter-append}
use Rattle.kb_geometry.specs.declared.shape.Point.{Point}
use Rattle.kb_geometry.specs.declared.shape.Shape.{Shape}
use Rattle.kb_geometry.specs.Board.{IsOnBoard, point_count}
use Rattle.game_tree.specs.Tree.{IsTree}
use Rattle.node_position.specs.Games.{Game}
use Rattle.opening_tree.specs.declared.answer.Opening.{Opening}
use Rattle.opening_tree.specs.Entries.{Entry}
use Rattle.opening_tree.specs.Games.{AreOfGames, AreOnBoard}
use Rattle.opening_tree.specs.GoneThrough.{IsReadyForGame}
use Rattle.opening_tree.specs.Groups.{AreFollowing, Grouped, IsGroupWithin, groups_of, with_entry, with_next}
use Rattle.opening_tree.specs.NextMoves.{NextAt}
use Rattle.opening_tree.specs.Openings.{IsOpenings, all_openings_of, entries_at, first_entries, nexts_at, opening_of}
use Rattle.opening_tree.specs.Packing.{AreCells}
use Rattle.opening_tree.specs.StoredGames.{AreOpeningsOf, AreStored}
use Rattle.opening_tree.specs.StoredGroups.{AreKeys, Stored, groups_shown}
use Rattle.opening_tree.proofs.GamesRead.{IsGameRead, any-behind, any-front, game-read}
use Rattle.opening_tree.proofs.GroupBounds.{groups-within}
use Rattle.opening_tree.proofs.GroupsGrow.{groups-entry, groups-next}
use Rattle.opening_tree.proofs.NextsFollow.{none_played}
use Rattle.opening_tree.proofs.PlaysInOrder.{plays-one, plays-order}

-- next moves follow the entries that there are, and more
pub following-longer : (es more : List Entry) (ns : List NextAt) → AreFollowing es ns → AreFollowing (es ++ more) ns
following-longer es more ns follow k d lt = any-front (λ (e : Entry). e.canonical ≡ (get_or ns k d).canonical) es more (follow k d lt)

pub following-behind : (es more : List Entry) (ns : List NextAt) → AreFollowing more ns → AreFollowing (es ++ more) ns
following-behind es more ns follow k d lt = any-behind (λ (e : Entry). e.canonical ≡ (get_or ns k d).canonical) es more (follow k d lt)

-- no count is at its end
pub stored-room : (shape : Shape) (es : List Entry) (ns : List NextAt) (stored : List Stored) → AreStored shape es ns stored → length es ≤ 18446744073709551614 → length ns ≤ 18446744073709551614
    → All (λ (g : Grouped). IsGroupWithin 18446744073709551614 g.opening) (groups_shown (point_count shape) stored)
stored-room shape es ns stored are few few_nexts =
    subst (λ (gs : List Grouped). All (λ (g : Grouped). IsGroupWithin 18446744073709551614 g.opening) gs) (sym are.groups) (groups-within 18446744073709551614 shape es ns few few_nexts)

-- ---- one entry, and one next move

module _ (shape : Shape) (es : List Entry) (ns : List NextAt) (stored new : List Stored) (are : AreStored shape es ns stored) (keys : AreKeys (point_count shape) new) where
  pub entry-stored : (e : Entry) → AreFollowing es ns → groups_shown (point_count shape) new ≡ with_entry (groups_shown (point_count shape) stored) e → AreStored shape (es ++ e ∷ []) ns new
  entry-stored e follow added = record {
    keys = keys;
    groups = added ∙ ap (λ gs. with_entry gs e) are.groups ∙ groups-entry shape es ns e (none_played e.canonical es ns follow);
  }

  pub next-stored : (n : NextAt) → IfSome n.played.point (λ (p : Point). IsOnBoard shape p) → groups_shown (point_count shape) new ≡ with_next (groups_shown (point_count shape) stored) n → AreStored shape es (ns ++ n ∷ []) new
  next-stored n on added = record {
    keys = keys;
    groups = added ∙ ap (λ gs. with_next gs n) are.groups ∙ groups-next shape (plays-order shape) es ns n (plays-one shape n.played on);
  }

-- ---- one game

-- no game, no opening
pub openings-start : (first : ℕ) (shape : Shape) (depth : ℕ) → AreOpeningsOf first shape depth [] []
openings-start first shape depth = record {
  entries = [];
  nexts = [];
  are_all = AreOfGames.nothing;
  so_far = record { keys = All-nil (λ (e : Stored). AreCells (point_count shape) e.0); groups = refl };
  following = All-nil (λ (n : NextAt). Any (λ (e : Entry). e.canonical ≡ n.canonical) []);
  entries_fit = omega arith;
  nexts_fit = omega arith;
}

module _ (shape : Shape) (depth number : ℕ) (game : Game) (is_tree : IsTree game.tree) (first : ℕ) (games : List Game) (count : first + length games ≡ number) (few : number < 400000) (stored : List Stored) (are : AreOpeningsOf first shape depth games stored) where
  pub ready-game : game.tree.shape ≡ shape → IsReadyForGame game.tree.shape are.entries are.nexts stored
  ready-game e = record {
    so_far = subst (λ (s : Shape). AreStored s are.entries are.nexts stored) (sym e) are.so_far;
    following = are.following;
    entries_fit = omega (arith, are.entries_fit, count, few);
    nexts_fit = omega (arith, are.nexts_fit, count, few);
  }

  pub openings-more : (more : List Entry) (others : List NextAt) → AreOnBoard shape depth number game.tree more others → (last : List Stored) → AreStored shape (are.entries ++ more) (are.nexts ++ others) last → AreOpeningsOf first shape depth (games ++ game ∷ []) last
  openings-more more others on last is =
      let read : IsGameRead shape more others = game-read shape depth number game.tree is_tree more others on in
      record {
        entries = are.entries ++ more;
        nexts = are.nexts ++ others;
        are_all = AreOfGames.one_more game more others are.are_all (subst (λ k. AreOnBoard shape depth k game.tree more others) (sym count) on);
        so_far = is;
        following = All-append (λ (n : NextAt). Any (λ (e : Entry). e.canonical ≡ n.canonical) (are.entries ++ more)) are.nexts others (following-longer are.entries more are.nexts are.following) (following-behind are.entries more others read.following);
        entries_fit = omega (arith, are.entries_fit, read.entries_few, length-append are.entries more, length-append games (game ∷ []));
        nexts_fit = omega (arith, are.nexts_fit, read.nexts_few, length-append are.nexts others, length-append games (game ∷ []));
      }

  -- a game on another board adds nothing
  pub openings-elsewhere : game.tree.shape ≢ shape → AreOpeningsOf first shape depth (games ++ game ∷ []) stored
  openings-elsewhere ne =
      openings-more [] [] (AreOnBoard.elsewhere ne) stored
      (subst (λ (xs : List Entry). AreStored shape xs (are.nexts ++ []) stored) (sym (append-nil are.entries))
      (subst (λ (ys : List NextAt). AreStored shape are.entries ys stored) (sym (append-nil are.nexts)) are.so_far))

-- ---- the answer

module _ (least : ℕ) (es : List Stored) (at : ℕ) (d : Stored) (lt : at < length es) where
  abbrev enough : Opening → Bool
  enough o = nat_le least o.count

  listed-one : filter enough (values_of (take (at + 1) es)) ≡ filter enough (values_of (take at es)) ++ filter enough ((get_or es at d).1 ∷ [])
  listed-one =
      ap (λ (xs : List Stored). filter enough (values_of xs)) (take_more es at d lt)
      ∙ ap (filter enough) (map-append (λ (e : Stored). e.1) (take at es) (get_or es at d ∷ []))
      ∙ filter-append enough (values_of (take at es)) ((get_or es at d).1 ∷ [])

  -- an opening of enough entries, and one of fewer
  pub listed-more : (items : List Opening) (opening : Opening) → items ≡ filter enough (values_of (take at es)) → opening ≡ (get_or es at d).1 → least ≤ (get_or es at d).1.count → items ++ opening ∷ [] ≡ filter enough (values_of (take (at + 1) es))
  listed-more items opening so_far is le =
      (λ i. so_far i ++ is i ∷ [])
      ∙ sym (listed-one ∙ ap (λ b. filter enough (values_of (take at es)) ++ cond b ((get_or es at d).1 ∷ []) []) (le-leb least (get_or es at d).1.count le))

  pub listed-none : (items : List Opening) → items ≡ filter enough (values_of (take at es)) → ¬ (least ≤ (get_or es at d).1.count) → items ≡ filter enough (values_of (take (at + 1) es))
  listed-none items so_far few =
      so_far ∙ sym (append-nil (filter enough (values_of (take at es))))
      ∙ sym (listed-one ∙ ap (λ b. filter enough (values_of (take at es)) ++ cond b ((get_or es at d).1 ∷ []) []) (lt-leb least (get_or es at d).1.count (omega (arith, few))))

values-shown : (points : ℕ) (stored : List Stored) → values_of stored ≡ map (λ (g : Grouped). g.opening) (groups_shown points stored)
values-shown points [] = refl
values-shown points (x ∷ xs) = ap (λ os. x.1 ∷ os) (values-shown points xs)

groups-openings : (shape : Shape) (es : List Entry) (ns : List NextAt) → map (λ (g : Grouped). g.opening) (groups_of shape es ns) ≡ all_openings_of shape es ns
groups-openings shape es ns = by (first_entries es)
  where
    one : Entry → Opening
    one f = opening_of shape f (entries_at f.canonical es) (nexts_at f.canonical ns)

    by : (fs : List Entry) → map (λ (g : Grouped). g.opening) (map (λ (f : Entry). record { canonical = f.canonical; opening = one f }) fs) ≡ map one fs
    by [] = refl
    by (f ∷ fs) = ap (λ os. one f ∷ os) (by fs)

pub openings-answered : (shape : Shape) (depth least : ℕ) (games all : List Game) (stored : List Stored) (os : List Opening) → games ≡ all → AreOpeningsOf 0 shape depth games stored → os ≡ filter (λ (o : Opening). nat_le least o.count) (values_of stored) → IsOpenings shape depth least all os
openings-answered shape depth least games all stored os e are is = subst (λ (gs : List Game). IsOpenings shape depth least gs os) e (record {
  entries = are.entries;
  nexts = are.nexts;
  are_all = are.are_all;
  are_groups = is ∙ ap (filter (λ (o : Opening). nat_le least o.count)) (values-shown (point_count shape) stored ∙ ap (map (λ (g : Grouped). g.opening)) are.so_far.groups ∙ groups-openings shape are.entries are.nexts);
})
