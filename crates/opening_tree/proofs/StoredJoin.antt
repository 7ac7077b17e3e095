-- The openings that are kept, with those of more games.
use Rattle.std.proofs.Common.{◌≡◌, ℕ, ◌+◌, ◌*◌, ◌<◌, ◌≤◌, Bool, true, false, cond, List, [], ◌∷◌, ◌++◌, drop, get_or, length, length-append, map, take, sym, ap, ◌∙◌, subst, arith}
use Rattle.std.proofs.Math.Nat.{mul-le-mul_left}
use Rattle.std.proofs.Math.Seq.{take-add}
use Rattle.std.specs.Fork.{IsChunk}
use Rattle.std.specs.Prelude.{All, Any}
use Rattle.std.proofs.lemmas.List.{drop_all, drop_more, length-map, length-take, map-append}
use Rattle.std.proofs.lemmas.List.Elements.{All-append, All-cons, All-head, All-nil, All-tail}
use Rattle.kb_geometry.specs.declared.shape.Shape.{Shape}
use Rattle.kb_geometry.specs.Board.{point_count}
use Rattle.node_position.specs.Games.{Game}
use Rattle.opening_tree.specs.declared.answer.Opening.{Opening}
use Rattle.opening_tree.specs.Entries.{Entry}
use Rattle.opening_tree.specs.Groups.{Grouped, IsGroupWithin, opening_with, with_group, with_groups}
use Rattle.opening_tree.specs.NextMoves.{NextAt}
use Rattle.opening_tree.specs.Openings.{is_same_position}
use Rattle.opening_tree.specs.Packing.{AreCells}
use Rattle.opening_tree.specs.StoredGames.{AreOpeningsOf}
use Rattle.opening_tree.specs.StoredGroups.{AreKeys, IsReadyForGroup, IsReadyForGroups, Stored, group_shown, groups_shown}
use Rattle.opening_tree.proofs.GameParts.{AreOfGames-append}
use Rattle.opening_tree.proofs.GroupBounds.{groups-within}
use Rattle.opening_tree.proofs.GroupsJoin.{groups-join}
use Rattle.opening_tree.proofs.RowsJoin.{rows-fewer}
use Rattle.opening_tree.proofs.StoredSteps.{following-behind, following-longer}

-- ---- counts only grow

module _ (most : ℕ) where
  abbrev within : List Grouped → Type 0
  within groups = All (λ (g : Grouped). IsGroupWithin most g.opening) groups

  opening-less : (o more : Opening) → IsGroupWithin most (opening_with o more) → IsGroupWithin most o
  opening-less o more all = record {
    count = omega (arith, all.count);
    black = omega (arith, all.black);
    white = omega (arith, all.white);
    other = omega (arith, all.other);
    rows = rows-fewer most o.nexts more.nexts all.rows;
  }

  group-fewer : (groups : List Grouped) (m : Grouped) → within (with_group groups m) → within groups
  group-fewer [] m all = All-nil (λ (g : Grouped). IsGroupWithin most g.opening)
  group-fewer (g ∷ gs) m all = by (is_same_position m.canonical g.canonical) all (group-fewer gs m)
    where
      by : (b : Bool) → within (cond b (record { canonical = g.canonical; opening = opening_with g.opening m.opening } ∷ gs) (g ∷ with_group gs m)) → (within (with_group gs m) → within gs) → within (g ∷ gs)
      by true all rest =
          All-cons (λ (x : Grouped). IsGroupWithin most x.opening) g gs
          (opening-less g.opening m.opening (All-head (λ (x : Grouped). IsGroupWithin most x.opening) (record { canonical = g.canonical; opening = opening_with g.opening m.opening }) gs all))
          (All-tail (λ (x : Grouped). IsGroupWithin most x.opening) (record { canonical = g.canonical; opening = opening_with g.opening m.opening }) gs all)
      by false all rest =
          All-cons (λ (x : Grouped). IsGroupWithin most x.opening) g gs (All-head (λ (x : Grouped). IsGroupWithin most x.opening) g (with_group gs m) all)
          (rest (All-tail (λ (x : Grouped). IsGroupWithin most x.opening) g (with_group gs m) all))

  groups-fewer : (groups more : List Grouped) → within (with_groups groups more) → within groups
  groups-fewer groups [] all = all
  groups-fewer groups (m ∷ more) all = group-fewer groups m (groups-fewer (with_group groups m) more all)

-- ---- one opening of more games after another

module _ (points : ℕ) (s : Stored) (rest stored : List Stored) (ready : IsReadyForGroups points (s ∷ rest) stored) where
  ready-one : IsReadyForGroup points s stored
  ready-one = record {
    keys = ready.keys;
    key = All-head (λ (y : Stored). AreCells points y.0) s rest ready.more_keys;
    room = groups-fewer 18446744073709551615 (with_group (groups_shown points stored) (group_shown points s)) (groups_shown points rest) ready.room;
  }

  ready-rest : (new : List Stored) → AreKeys points new → groups_shown points new ≡ with_group (groups_shown points stored) (group_shown points s) → IsReadyForGroups points rest new
  ready-rest new keys made = record {
    keys = keys;
    more_keys = All-tail (λ (y : Stored). AreCells points y.0) s rest ready.more_keys;
    room = subst (λ (gs : List Grouped). All (λ (g : Grouped). IsGroupWithin 18446744073709551615 g.opening) (with_groups gs (groups_shown points rest))) (sym made) ready.room;
  }

-- What is still to be added leads to what all leads to.
pub record IsAdding (points : ℕ) (first all stored rest : List Stored) : Type 0 where
  pub ready : IsReadyForGroups points rest stored
  pub leads : with_groups (groups_shown points stored) (groups_shown points rest) ≡ with_groups (groups_shown points first) (groups_shown points all)

adding-next : (points : ℕ) (first all stored : List Stored) (s : Stored) (rest new : List Stored) → IsAdding points first all stored (s ∷ rest) → AreKeys points new → groups_shown points new ≡ with_group (groups_shown points stored) (group_shown points s) → IsAdding points first all new rest
adding-next points first all stored s rest new is keys made = record {
  ready = ready-rest points s rest stored is.ready new keys made;
  leads = ap (λ gs. with_groups gs (groups_shown points rest)) made ∙ is.leads;
}

-- the openings one by one
module _ (points : ℕ) (first all stored : List Stored) (at : ℕ) (d : Stored) (lt : at < length all) (is : IsAdding points first all stored (drop at all)) where
  adding : IsAdding points first all stored (get_or all at d ∷ drop (at + 1) all)
  adding = subst (IsAdding points first all stored) (drop_more all at d lt) is

  pub ready-at : IsReadyForGroup points (get_or all at d) stored
  ready-at = ready-one points (get_or all at d) (drop (at + 1) all) stored adding.ready

  pub adding-at : (new : List Stored) → AreKeys points new → groups_shown points new ≡ with_group (groups_shown points stored) (group_shown points (get_or all at d)) → IsAdding points first all new (drop (at + 1) all)
  adding-at new = adding-next points first all stored (get_or all at d) (drop (at + 1) all) new adding

pub adding-end : (points : ℕ) (first all stored : List Stored) (at : ℕ) → length all ≤ at → IsAdding points first all stored (drop at all) → AreKeys points stored × (groups_shown points stored ≡ with_groups (groups_shown points first) (groups_shown points all))
adding-end points first all stored at le is =
    let end = subst (IsAdding points first all stored) (drop_all at all le) is in
    (end.ready.keys, end.leads)

-- ---- more games

module _ (first : ℕ) (shape : Shape) (depth : ℕ) (games more : List Game) (few : length games + length more ≤ 400000) (stored others : List Stored) (are : AreOpeningsOf first shape depth games stored) (are_more : AreOpeningsOf (first + length games) shape depth more others) where
  pub ready-more : IsReadyForGroups (point_count shape) others stored
  ready-more = record {
    keys = are.so_far.keys;
    more_keys = are_more.so_far.keys;
    room = subst (λ (gs : List Grouped). All (λ (g : Grouped). IsGroupWithin 18446744073709551615 g.opening) gs)
        (sym ((λ i. with_groups (are.so_far.groups i) (are_more.so_far.groups i)) ∙ groups-join shape are.entries are_more.entries are.nexts are_more.nexts are.following are_more.following))
        (groups-within 18446744073709551615 shape (are.entries ++ are_more.entries) (are.nexts ++ are_more.nexts)
        (omega (arith, length-append are.entries are_more.entries, are.entries_fit, are_more.entries_fit, few))
        (omega (arith, length-append are.nexts are_more.nexts, are.nexts_fit, are_more.nexts_fit, few)));
  }

  pub openings-both : (new : List Stored) → AreKeys (point_count shape) new → groups_shown (point_count shape) new ≡ with_groups (groups_shown (point_count shape) stored) (groups_shown (point_count shape) others) → AreOpeningsOf first shape depth (games ++ more) new
  openings-both new keys made = record {
    entries = are.entries ++ are_more.entries;
    nexts = are.nexts ++ are_more.nexts;
    are_all = AreOfGames-append first shape depth games are.entries are.nexts are.are_all more are_more.entries are_more.nexts are_more.are_all;
    so_far = record {
      keys = keys;
      groups = made ∙ (λ i. with_groups (are.so_far.groups i) (are_more.so_far.groups i)) ∙ groups-join shape are.entries are_more.entries are.nexts are_more.nexts are.following are_more.following;
    };
    following = All-append (λ (n : NextAt). Any (λ (e : Entry). e.canonical ≡ n.canonical) (are.entries ++ are_more.entries)) are.nexts are_more.nexts (following-longer are.entries are_more.entries are.nexts are.following) (following-behind are.entries are_more.entries are_more.nexts are_more.following);
    entries_fit = omega (arith, length-append are.entries are_more.entries, length-append games more, are.entries_fit, are_more.entries_fit);
    nexts_fit = omega (arith, length-append are.nexts are_more.nexts, length-append games more, are.nexts_fit, are_more.nexts_fit);
  }

-- ---- one chunk of games more

few_mapped : {X Y : Type 0} (v : X → Y) (k : ℕ) (xs : List X) → k ≤ length xs → length (map v (take k xs)) ≡ k
few_mapped v k xs le = omega (arith, length-map (take k xs) v, length-take k xs, le)

module _ {X : Type 0} (v : X → Game) (shape : Shape) (depth : ℕ) (games : List X) (size n : ℕ) (few : length games ≤ 400000) (chunk : List X) (is : IsChunk games size (n * size) chunk) (stored others : List Stored) (are : AreOpeningsOf 0 shape depth (map v (take (n * size) games)) stored) (are_more : AreOpeningsOf (n * size) shape depth (map v chunk) others) where
  begins : 0 + length (map v (take (n * size) games)) ≡ n * size
  begins = let e = few_mapped v (n * size) games (omega (arith, is.in_bounds)) in omega (arith, e)

  behind : AreOpeningsOf (0 + length (map v (take (n * size) games))) shape depth (map v chunk) others
  behind = subst (λ (k : ℕ). AreOpeningsOf k shape depth (map v chunk) others) (sym begins) are_more

  together : length (map v (take (n * size) games)) + length (map v chunk) ≤ 400000
  together = omega (arith, begins, length-map chunk v, is.in_bounds, few)

  pub ready-chunk : IsReadyForGroups (point_count shape) others stored
  ready-chunk = ready-more 0 shape depth (map v (take (n * size) games)) (map v chunk) together stored others are behind

  pub openings-chunk : (new : List Stored) → AreKeys (point_count shape) new → groups_shown (point_count shape) new ≡ with_groups (groups_shown (point_count shape) stored) (groups_shown (point_count shape) others) → AreOpeningsOf 0 shape depth (map v (take ((n + 1) * size) games)) new
  openings-chunk new keys made =
      let end : (n + 1) * size ≡ n * size + size = omega arith in
      let all : map v (take ((n + 1) * size) games) ≡ map v (take (n * size) games) ++ map v chunk =
      ap (λ k. map v (take k games)) end ∙ ap (map v) (take-add (n * size) size games) ∙ ap (λ (xs : List X). map v (take (n * size) games ++ xs)) (sym is.value) ∙ map-append v (take (n * size) games) chunk in
      subst (λ (gs : List Game). AreOpeningsOf 0 shape depth gs new) (sym all) (openings-both 0 shape depth (map v (take (n * size) games)) (map v chunk) together stored others are behind new keys made)

-- so many pieces of this size are enough
pub enough : (games pieces size : ℕ) → games ≤ size * pieces → pieces ≤ 8 → games ≤ 8 * size
enough games pieces size all few = let most = mul-le-mul_left size few in omega (arith, all, most)
