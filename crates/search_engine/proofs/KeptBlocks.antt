-- The kept games of a block, one shape of boards after another.
use Rattle.std.proofs.Common.{◌≡◌, ℕ, inl, inr, ◌+◌, ◌^◌, ◌<◌, ◌≤◌, ◌∷◌, ◌++◌, [], List, None, Option, Some, bit_or, get_or, length, map, refl, sym, ap, ◌∙◌, subst, arith}
use Rattle.std.specs.Borrow.{Bor}
use Rattle.std.specs.Int.{bit_at}
use Rattle.std.specs.List.{slice_get}
use Rattle.std.specs.Option.{IsSome, IsSomeAnd}
use Rattle.std.specs.Prelude.{Contains}
use Rattle.std.proofs.lemmas.Bool.{cases_eq, cases_lt, false≢true}
use Rattle.std.proofs.lemmas.List.{get_or-map, get_or_append_left, get_or_default, get_or_past, get_or_push, length-map, length_push}
use Rattle.std.proofs.lemmas.Nat.Bits.{bit_at-lt, bit_at-zero}
use Rattle.std.proofs.lemmas.Option.{get_or_from_slice_get, slice_get_read, slice_get_within}
use Rattle.kb_geometry.specs.declared.shape.Shape.{Shape}
use Rattle.game_tree.specs.Tree.{Tree}
use Rattle.capture_board.specs.Deltas.{Deltas}
use Rattle.node_position.specs.Games.{AreNodeChanges, Game}
use Rattle.pattern_images.specs.declared.query.Query.{Query}
use Rattle.pattern_images.specs.Placements.{ArePlacements}
use Rattle.pattern_images.proofs.OneList.{one_list}
use Rattle.final_index.specs.declared.ever_sets.EverSets.{EverSets}
use Rattle.final_index.specs.Ever.{AreSetsOf}
use Rattle.final_index.specs.Planes.{PlaneGames}
use Rattle.final_index.proofs.KeptBits.{or-bit}
use Rattle.candidate_sieve.specs.Kept.{IsKept}
use Rattle.candidate_sieve.specs.KeptWords.{IsGameOf}
use Rattle.segment_store.specs.Planes.{ArePlanesOf, ArePlanesOn, IsGameOfPlanes}
use Rattle.search_engine.specs.KeptBlocks.{AreCornersOf, AreCornersTold, AreKeptInBlock, AreKeptOn}
use Rattle.search_engine.specs.KeptGames.{IsKeptGame}
use Rattle.search_engine.specs.Searching.{IsCovered}
use Rattle.search_engine.proofs.KeptGames.{kept_on_board, some_node}
use Rattle.search_engine.proofs.PossibleGames.{on_shape_where_there}

some-there : (o : Option EverSets) → IsSome o → ¬ (o ≡ None)
some-there None some = absurd (false≢true some)
some-there (Some sets) some = λ e. absurd cc

-- the sets that planes have for a game on a board of their shape
sets-of : (shape : Shape) (tree : Tree) (o : Option EverSets) → IsGameOfPlanes shape tree o → tree.shape ≡ shape → (changes : Deltas) → AreNodeChanges tree changes → IsSomeAnd o (AreSetsOf changes)
sets-of shape tree None not same changes of = absurd (not same)
sets-of shape tree (Some sets) is same changes of = is.1 changes of

within-planes : (games : List (Option EverSets)) (g : ℕ) → IsSome (get_or games g None) → g < length games
within-planes games g some = elim (cases_lt g (length games)) [
  | inl lt ↦ lt
  | inr ge ↦ absurd (false≢true (subst IsSome (get_or_past games g None ge) some))
]

module _ (query : Query) (shapes : List Shape) (games : List Game) where
  -- the games that are kept by the first so many planes
  pub record AreKeptTo (planes : List PlaneGames) (k word : ℕ) : Type 0 where
    pub within : (g : ℕ) → g < 64 → bit_at word g ≡ 1 → g < length games
    pub sound : (g : ℕ) (game : Game) → slice_get games g ≡ Some game → bit_at word g ≡ 1 → IsKeptGame query game.tree
    pub complete : (j g : ℕ) (d : PlaneGames) (game : Game) → IsCovered query shapes game.tree.shape → j < k → slice_get games g ≡ Some game → (get_or planes j d).shape ≡ game.tree.shape → IsKeptGame query game.tree → bit_at word g ≡ 1

  pub kept-start : (planes : List PlaneGames) → AreKeptTo planes 0 0
  kept-start planes = record {
    within = λ g lt e. absurd (omega (arith, e, bit_at-zero g));
    sound = λ g game there e. absurd (omega (arith, e, bit_at-zero g));
    complete = λ j g d game covered lt. absurd (omega (arith, lt));
  }

  module _ (corners : List (Bor (List (List ℕ)))) (are : AreCornersOf games corners) where
    below_64 : (g : ℕ) (game : Game) → slice_get games g ≡ Some game → g < 64
    below_64 g game there = omega (arith, are.most, slice_get_within games g game there)

    module _ (planes : List PlaneGames) (k : ℕ) (p : PlaneGames) (lt : k < length planes) (at : p ≡ get_or planes k p) (on : ArePlanesOn games p) (old new : ℕ) (so_far : AreKeptTo planes k old) (kept : AreKeptOn query shapes p corners new) where
      -- what the planes have for a game
      told : (g : ℕ) (game : Game) → slice_get games g ≡ Some game → IsGameOfPlanes p.shape game.tree (get_or p.games g None)
      told g game there = subst (λ (h : Game). IsGameOfPlanes p.shape h.tree (get_or p.games g None)) (get_or_from_slice_get games g game game there) (on.1 g game (slice_get_within games g game there))

      game-of : (g : ℕ) (game : Game) → slice_get games g ≡ Some game → game.tree.shape ≡ p.shape → (changes : Deltas) → AreNodeChanges game.tree changes → IsGameOf p corners g changes
      game-of g game there same changes of =
          let (keys, read, corner) = are.each g game there in record {
            some_node = some_node game.tree corner.is_tree changes of;
            same_shape = of.lead.same_shape ∙ same;
            sets = sets-of p.shape game.tree (get_or p.games g None) (told g game there) same changes of;
            numbers = record { keys = keys; at = read; are = corner.corners changes of };
          }

      -- the games that are kept on boards of the shape
      here-within : (g : ℕ) → g < 64 → bit_at new g ≡ 1 → IsSome (get_or p.games g None)
      here-within g few e = elim kept [
        | inl none ↦ absurd (omega (arith, e, ap (λ (w : ℕ). bit_at w g) none.1, bit_at-zero g))
        | inr found ↦ found.2.there g few e
      ]

      here-sound : (g : ℕ) (game : Game) → slice_get games g ≡ Some game → bit_at new g ≡ 1 → IsKeptGame query game.tree
      here-sound g game there e = elim kept [
        | inl none ↦ absurd (omega (arith, e, ap (λ (w : ℕ). bit_at w g) none.1, bit_at-zero g))
        | inr found ↦
            let few = below_64 g game there in
            let same = on_shape_where_there p.shape game.tree (get_or p.games g None) (told g game there) (some-there (get_or p.games g None) (found.2.there g few e)) in
            let (keys, read, corner) = are.each g game there in
            record {
              changes = corner.changes;
              are_changes = corner.are_changes;
              placements = found.0;
              are_placements = subst (λ (s : Shape). ArePlacements query s found.0) (sym same) found.1;
              kept = (found.2.exact g corner.changes few (game-of g game there same corner.changes corner.are_changes)).0 e;
            }
      ]

      here-complete : (g : ℕ) (game : Game) → IsCovered query shapes game.tree.shape → slice_get games g ≡ Some game → p.shape ≡ game.tree.shape → IsKeptGame query game.tree → bit_at new g ≡ 1
      here-complete g game covered there same is = elim kept [
        | inl none ↦ absurd (none.0 (subst (Contains shapes) (sym same) (covered (kept_on_board query game.tree is))))
        | inr found ↦
            let these = one_list query game.tree.shape is.placements found.0 is.are_placements (subst (λ (s : Shape). ArePlacements query s found.0) same found.1) in
            (found.2.exact g is.changes (below_64 g game there) (game-of g game there (sym same) is.changes is.are_changes)).1 (subst (IsKept is.changes) these is.kept)
      ]

      pub kept-more : AreKeptTo planes (k + 1) (bit_or old new)
      kept-more = record {
        within = λ g few e. elim ((or-bit old new g).0 e) [
          | inl was ↦ so_far.within g few was
          | inr now ↦ omega (arith, within-planes p.games g (here-within g few now), on.0)
        ];
        sound = λ g game there e. elim ((or-bit old new g).0 e) [
          | inl was ↦ so_far.sound g game there was
          | inr now ↦ here-sound g game there now
        ];
        complete = λ j g d game covered less there same is. elim (cases_eq j k) [
          | inr other ↦ (or-bit old new g).1 (inl (so_far.complete j g d game covered (omega (arith, less, other)) there same is))
          | inl this ↦
              let read : get_or planes j d ≡ p = ap (λ (n : ℕ). get_or planes n d) this ∙ get_or_default planes k d p lt ∙ sym at in
              (or-bit old new g).1 (inr (here-complete g game covered there (ap (λ (q : PlaneGames). q.shape) (sym read) ∙ same) is))
        ];
      }

    -- all planes of the block
    module _ (planes : List PlaneGames) (k word : ℕ) (le : length planes ≤ k) (all : ArePlanesOf games planes) (so_far : AreKeptTo planes k word) where
      complete-all : (g : ℕ) (game : Game) → slice_get games g ≡ Some game → IsCovered query shapes game.tree.shape → IsKeptGame query game.tree → bit_at word g ≡ 1
      complete-all g game there covered is =
          let within = slice_get_within games g game there in
          let read = get_or_from_slice_get games g game game there in
          let in_games : Contains (map (λ (h : Game). h.tree.shape) games) game.tree.shape = (g, omega (arith, within, length-map games (λ (h : Game). h.tree.shape)), get_or-map (λ (h : Game). h.tree.shape) games g game game.tree.shape within ∙ ap (λ (h : Game). h.tree.shape) read) in
          let (j, lt, at) = (all.shapes game.tree.shape).1 in_games in
          let inside : j < length planes = omega (arith, lt, length-map planes (λ (q : PlaneGames). q.shape)) in
          let none : PlaneGames = record { shape = game.tree.shape; games = [] } in
          so_far.complete j g none game covered (omega (arith, inside, le)) there
          (sym (get_or-map (λ (q : PlaneGames). q.shape) planes j none game.tree.shape inside) ∙ at) is

      pub kept-in_block : word < 2 ^ 64 → AreKeptInBlock query shapes games word
      kept-in_block small = record {
        small = small;
        most = are.most;
        exact = λ g game there covered. (λ e. so_far.sound g game there e, λ is. complete-all g game there covered is);
        no_others = λ g ge few. elim (cases_eq (bit_at word g) 1) [
          | inl one ↦ absurd (omega (arith, ge, so_far.within g few one))
          | inr other ↦ omega (arith, other, bit_at-lt word g)
        ];
      }

-- ---- the numbers of the corners, game after game

at-front : (corners : List (Bor (List (List ℕ)))) (keys : Bor (List (List ℕ))) (g : ℕ) (old : Bor (List (List ℕ))) → slice_get corners g ≡ Some old → slice_get (corners ++ keys ∷ []) g ≡ Some old
at-front corners keys g old read =
    let lt = slice_get_within corners g old read in
    slice_get_read (corners ++ keys ∷ []) (length (corners ++ keys ∷ [])) g old refl (omega (arith, lt, length_push corners keys)) (sym (get_or_append_left corners (keys ∷ []) old g lt ∙ get_or_from_slice_get corners g old old read))

at-last : (corners : List (Bor (List (List ℕ)))) (keys : Bor (List (List ℕ))) (g : ℕ) → g ≡ length corners → slice_get (corners ++ keys ∷ []) g ≡ Some keys
at-last corners keys g last = slice_get_read (corners ++ keys ∷ []) (length (corners ++ keys ∷ [])) g keys refl (omega (arith, last, length_push corners keys)) (sym (get_or_push corners keys keys g (sym last)))

module _ (games : List Game) where
  -- those of the first so many games
  pub record AreCornersTo (k : ℕ) (corners : List (Bor (List (List ℕ)))) : Type 0 where
    pub count : length corners ≡ k
    pub each : (g : ℕ) (game : Game) → g < k → slice_get games g ≡ Some game → (keys : Bor (List (List ℕ))) × (slice_get corners g ≡ Some keys) × AreCornersTold game.tree keys.now

  pub corners-start : (corners : List (Bor (List (List ℕ)))) → corners ≡ [] → AreCornersTo 0 corners
  corners-start corners none = record { count = ap length none; each = λ g game lt. absurd (omega (arith, lt)) }

  pub corners-more : (k : ℕ) (corners new : List (Bor (List (List ℕ)))) (keys : Bor (List (List ℕ))) → AreCornersTo k corners → new ≡ corners ++ keys ∷ [] → ((game : Game) → slice_get games k ≡ Some game → AreCornersTold game.tree keys.now) → AreCornersTo (k + 1) new
  corners-more k corners new keys so_far pushed here = record {
    count = ap length pushed ∙ length_push corners keys ∙ ap (λ (n : ℕ). n + 1) so_far.count;
    each = λ g game lt there. elim (cases_eq g k) [
      | inr other ↦
          let (old, read, is) = so_far.each g game (omega (arith, lt, other)) there in
          (old, ap (λ (ks : List (Bor (List (List ℕ)))). slice_get ks g) pushed ∙ at-front corners keys g old read, is)
      | inl same ↦
          let last : g ≡ length corners = same ∙ sym so_far.count in
          (keys, ap (λ (ks : List (Bor (List (List ℕ)))). slice_get ks g) pushed ∙ at-last corners keys g last, here game (subst (λ (n : ℕ). slice_get games n ≡ Some game) same there))
    ];
  }

  pub corners-all : (k : ℕ) (corners : List (Bor (List (List ℕ)))) → length games ≡ k → length games ≤ 64 → AreCornersTo k corners → AreCornersOf games corners
  corners-all k corners all most so_far = record {
    most = most;
    count = so_far.count ∙ sym all;
    each = λ g game there. so_far.each g game (omega (arith, all, slice_get_within games g game there)) there;
  }
