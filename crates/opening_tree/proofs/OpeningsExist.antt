-- Games of trees have entries, next moves and openings.
use Prim.Native.Nat.{zero}
use Rattle.std.proofs.Common.{◌≡◌, ◌≢◌, ℕ, suc, ◌+◌, ◌<◌, ◌≤◌, ◌⊎◌, inl, inr, List, [], ◌∷◌, ◌++◌, Option, Some, None, length, refl, sym, ap, ◌∙◌, subst, arith, add-zero}
use Rattle.std.specs.Prelude.{All, IfSome}
use Rattle.std.proofs.lemmas.Bool.{cases_eq, cases_lt}
use Rattle.std.proofs.lemmas.List.Elements.{All-head, All-tail}
use Rattle.kb_geometry.specs.declared.shape.Point.{Point}
use Rattle.kb_geometry.specs.declared.shape.Shape.{Shape}
use Rattle.kb_geometry.specs.Board.{cols_of, number_of, point_count, rows_of}
use Rattle.kb_geometry.specs.Capture.{Position}
use Rattle.kb_geometry.specs.Symmetry.{moved}
use Rattle.kb_geometry.proofs.Shapes.{shape_same}
use Rattle.game_tree.specs.declared.node.Move.{Move}
use Rattle.game_tree.specs.Position.{ArePositions}
use Rattle.game_tree.specs.Result.{outcome_of}
use Rattle.game_tree.specs.Tree.{IsTree, Tree, move_number_of, node_at, node_count, parent_of}
use Rattle.node_paths.proofs.Ancestors.{cases_Option, parent-lt}
use Rattle.node_position.specs.Games.{Game}
use Rattle.node_position.proofs.EachTree.{positions-found}
use Rattle.opening_tree.specs.declared.answer.Opening.{Opening}
use Rattle.opening_tree.specs.Canonical.{Brings, IsPositionImage}
use Rattle.opening_tree.specs.Entries.{AreEntriesTo, Entry, IsEntryAt, position_in}
use Rattle.opening_tree.specs.Games.{AreOfGame, AreOfGames, AreOnBoard}
use Rattle.opening_tree.specs.NextMoves.{AreNextsTo, IsMoveInFrame, IsNextAt, IsPlaceInFrame, IsPointInFrame, NextAt}
use Rattle.opening_tree.specs.Openings.{IsOpenings, openings_of}
use Rattle.opening_tree.proofs.GameParts.{AreOfGames-append}
use Rattle.opening_tree.proofs.PositionImages.{allowed_or_not, Brings-image, image_under, one_image, some_canonical}
use Rattle.opening_tree.proofs.PositionOrder.{same_or_not}
use Rattle.opening_tree.proofs.PositionsThere.{length-position_in}

-- ---- the point in the frame of the canonical position

module _ (shape : Shape) (position canonical : Position) (point : Point) where
  -- a symmetry brings the position to the canonical one or not
  brings_or_not : (s : ℕ) → s < 8 → length canonical ≡ point_count shape → Brings shape s position canonical ⊎ (¬ Brings shape s position canonical)
  brings_or_not s lt long =
      elim (allowed_or_not shape s) [
        | inr not ↦ inr (λ brings. not brings.is_allowed)
        | inl allowed ↦
            let made = Brings-image shape s position lt allowed in
            elim (same_or_not (image_under shape s position) canonical (made.each_point ∙ sym long)) [
              | inl e ↦ inl (subst (Brings shape s position) e made)
              | inr ne ↦ inr (λ brings. ne (one_image shape s position (image_under shape s position) canonical made brings))
            ]
      ]

  -- the least of the images of the point under the symmetries with the first numbers, if one of them brings the position
  -- to the canonical one
  record IsLeastTo (n : ℕ) : Type 0 where
    number : ℕ
    brings : Brings shape number position canonical
    least : (s : ℕ) → s < n → Brings shape s position canonical → number_of shape (moved number shape point) ≤ number_of shape (moved s shape point)

  abbrev IsToldTo : ℕ → Type 0
  IsToldTo n = IsLeastTo n ⊎ ((s : ℕ) → s < n → ¬ Brings shape s position canonical)

  told_more : (n : ℕ) → n < 8 → length canonical ≡ point_count shape → IsToldTo n → IsToldTo (suc n)
  told_more n lt long told =
      elim (brings_or_not n lt long) [
        | inr not ↦ elim told [
          | inl old ↦ inl (record { number = old.number; brings = old.brings; least = λ s below brings. elim (cases_eq s n) [ inl e ↦ absurd (not (subst (λ t. Brings shape t position canonical) e brings)) | inr ne ↦ old.least s (omega (arith, below, ne)) brings ] })
          | inr none ↦ inr (λ s below brings. elim (cases_eq s n) [ inl e ↦ not (subst (λ t. Brings shape t position canonical) e brings) | inr ne ↦ none s (omega (arith, below, ne)) brings ])
        ]
        | inl here ↦ elim told [
          | inr none ↦ inl (record { number = n; brings = here; least = λ s below brings. elim (cases_eq s n) [ inl e ↦ omega (arith, ap (λ t. number_of shape (moved t shape point)) e) | inr ne ↦ absurd (none s (omega (arith, below, ne)) brings) ] })
          | inl old ↦ elim (cases_lt (number_of shape (moved n shape point)) (number_of shape (moved old.number shape point))) [
            | inl less ↦ inl (record { number = n; brings = here; least = λ s below brings. elim (cases_eq s n) [ inl e ↦ omega (arith, ap (λ t. number_of shape (moved t shape point)) e) | inr ne ↦ omega (arith, less, old.least s (omega (arith, below, ne)) brings) ] })
            | inr le ↦ inl (record { number = old.number; brings = old.brings; least = λ s below brings. elim (cases_eq s n) [ inl e ↦ omega (arith, le, ap (λ t. number_of shape (moved t shape point)) e) | inr ne ↦ old.least s (omega (arith, below, ne)) brings ] })
          ]
        ]
      ]

  told_all : length canonical ≡ point_count shape → IsToldTo 8
  told_all long =
      told_more 7 (omega arith) long (told_more 6 (omega arith) long (told_more 5 (omega arith) long (told_more 4 (omega arith) long
      (told_more 3 (omega arith) long (told_more 2 (omega arith) long (told_more 1 (omega arith) long (told_more 0 (omega arith) long (inr (λ s lt brings. omega (arith, lt))))))))))

  pub point_in_frame : IsPositionImage shape position canonical → (q : Point) × IsPointInFrame shape position canonical point q
  point_in_frame image =
      elim (told_all image.1.each_point) [
        | inl old ↦ (moved old.number shape point, record { number = old.number; brings = old.brings; is_moved = refl; is_least = λ s brings. old.least s brings.is_symmetry brings })
        | inr none ↦ absurd (none image.0 image.1.is_symmetry image.1)
      ]

module _ (shape : Shape) (position canonical : Position) (image : IsPositionImage shape position canonical) where
  place_in_frame : (o : Option Point) → (framed : Option Point) × IsPlaceInFrame shape position canonical o framed
  place_in_frame None = (None, refl)
  place_in_frame (Some p) = let q = point_in_frame shape position canonical p image in (Some q.0, (q.0, refl, q.1))

  pub move_in_frame : (played : Move) → (framed : Move) × IsMoveInFrame shape position canonical played framed
  move_in_frame played = let place = place_in_frame played.point in (record { colour = played.colour; point = place.0 }, record { same_colour = refl; place = place.1 })

-- ---- the nodes of a game

module _ (depth number : ℕ) (tree : Tree) (is_tree : IsTree tree) (positions : List Position) (are : ArePositions tree positions) where
  long_at : (n : ℕ) → n < node_count tree → length (position_in positions n) ≡ point_count tree.shape
  long_at = length-position_in tree is_tree positions are

  below_parent : (n m : ℕ) → n < node_count tree → parent_of tree n ≡ Some m → m < node_count tree
  below_parent n m lt e = omega (arith, lt, parent-lt is_tree.parents n m e)

  changed_or_not : (n : ℕ) → n < node_count tree → (o : Option ℕ) → o ≡ parent_of tree n → IfSome o (λ m. position_in positions n ≢ position_in positions m) ⊎ (¬ IfSome o (λ m. position_in positions n ≢ position_in positions m))
  changed_or_not n lt None e = inl tt
  changed_or_not n lt (Some m) e =
      elim (same_or_not (position_in positions n) (position_in positions m) (long_at n lt ∙ sym (long_at m (below_parent n m lt (sym e))))) [
        | inl same ↦ inr (λ ne. ne same)
        | inr ne ↦ inl ne
      ]

  pub entry_or_not : (n : ℕ) → n < node_count tree → IsEntryAt depth tree positions n ⊎ (¬ IsEntryAt depth tree positions n)
  entry_or_not n lt =
      elim (cases_lt depth (move_number_of tree n)) [
        | inl deep ↦ inr (λ is. omega (arith, deep, is.within))
        | inr le ↦ elim (changed_or_not n lt (parent_of tree n) refl) [
          | inl changed ↦ inl (record { within = le; changed = changed })
          | inr not ↦ inr (λ is. not is.changed)
        ]
      ]

  abbrev these : ℕ → Type 0
  these n = (entries : List Entry) × AreEntriesTo depth number tree positions n entries

  entries_to : (n : ℕ) → n ≤ node_count tree → these n
  entries_to zero le = ([], AreEntriesTo.nothing)
  entries_to (suc n) le =
      let before = entries_to n (omega arith) in
      elim (entry_or_not n (omega arith)) [
        | inr not ↦ (before.0, AreEntriesTo.left_out before.1 not)
        | inl is ↦
            let canonical = some_canonical tree.shape (position_in positions n) (long_at n (omega arith)) in
            (before.0 ++ record { game = number; node = n; canonical = canonical.0; outcome = outcome_of tree.info.outcome_text } ∷ [], AreEntriesTo.entry canonical.0 before.1 is canonical.1)
      ]

  abbrev IsToldNext : ℕ → Type 0
  IsToldNext n = ((parent : ℕ) × (played : Move) × IsNextAt depth tree n parent played) ⊎ ((parent : ℕ) (played : Move) → ¬ IsNextAt depth tree n parent played)

  cases_Move : (o : Option Move) → (o ≡ None) ⊎ ((m : Move) × (o ≡ Some m))
  cases_Move None = inl refl
  cases_Move (Some m) = inr (m, refl)

  pub next_or_not : (n : ℕ) → IsToldNext n
  next_or_not n =
      elim (cases_Option (parent_of tree n)) [
        | inl root ↦ inr (λ parent played is. let bad : None ≡ Some parent = sym root ∙ is.is_parent in absurd cc)
        | inr parent ↦ elim (cases_Move (node_at tree n).played) [
          | inl none ↦ inr (λ p played is. let bad : None ≡ Some played = sym none ∙ is.plays in absurd cc)
          | inr played ↦ elim (cases_lt depth (move_number_of tree parent.0)) [
            | inl deep ↦ inr (λ p m is.
                let e : Some parent.0 ≡ Some p = sym parent.1 ∙ is.is_parent in
                let same : parent.0 ≡ p = cc in
                omega (arith, deep, is.within, ap (move_number_of tree) same))
            | inr le ↦ inl (parent.0, played.0, record { is_parent = parent.1; within = le; plays = played.1 })
          ]
        ]
      ]

  abbrev those : ℕ → Type 0
  those n = (nexts : List NextAt) × AreNextsTo depth tree positions n nexts

  nexts_to : (n : ℕ) → n ≤ node_count tree → those n
  nexts_to zero le = ([], AreNextsTo.nothing)
  nexts_to (suc n) le =
      let before = nexts_to n (omega arith) in
      elim (next_or_not n) [
        | inr not ↦ (before.0, AreNextsTo.left_out before.1 not)
        | inl is ↦
            let parent = is.0 in
            let there : parent < node_count tree = below_parent n parent (omega arith) is.2.is_parent in
            let canonical = some_canonical tree.shape (position_in positions parent) (long_at parent there) in
            let framed = move_in_frame tree.shape (position_in positions parent) canonical.0 canonical.1.is_image is.1 in
            (before.0 ++ record { canonical = canonical.0; played = framed.0; outcome = outcome_of tree.info.outcome_text } ∷ [], AreNextsTo.next parent is.1 canonical.0 framed.0 before.1 is.2 canonical.1 framed.1)
      ]

  pub game-found : (entries : List Entry) × (nexts : List NextAt) × AreOfGame depth number tree entries nexts
  game-found =
      let entries = entries_to (node_count tree) (omega arith) in
      let nexts = nexts_to (node_count tree) (omega arith) in
      (entries.0, nexts.0, record { positions = positions; are_positions = are; are_entries = entries.1; are_nexts = nexts.1 })

-- ---- games

pub shape_or_not : (a b : Shape) → (a ≡ b) ⊎ (a ≢ b)
shape_or_not a b =
    elim (cases_eq (cols_of a) (cols_of b)) [
      | inr ne ↦ inr (λ e. ne (ap cols_of e))
      | inl cols ↦ elim (cases_eq (rows_of a) (rows_of b)) [
        | inr ne ↦ inr (λ e. ne (ap rows_of e))
        | inl rows ↦ inl (shape_same a b cols rows)
      ]
    ]

module _ (shape : Shape) (depth : ℕ) where
  on_board-found : (number : ℕ) (tree : Tree) → IsTree tree → (entries : List Entry) × (nexts : List NextAt) × AreOnBoard shape depth number tree entries nexts
  on_board-found number tree is_tree =
      elim (shape_or_not tree.shape shape) [
        | inr ne ↦ ([], [], AreOnBoard.elsewhere ne)
        | inl e ↦
            let positions = positions-found tree is_tree in
            let found = game-found depth number tree is_tree positions.0 positions.1 in
            (found.0, found.1, AreOnBoard.on_board e found.2)
      ]

  pub all-found : (first : ℕ) (games : List Game) → All (λ (g : Game). IsTree g.tree) games → (entries : List Entry) × (nexts : List NextAt) × AreOfGames first shape depth games entries nexts
  all-found first [] trees = ([], [], AreOfGames.nothing)
  all-found first (game ∷ games) trees =
      let one = on_board-found first game.tree (All-head (λ (g : Game). IsTree g.tree) game games trees) in
      let single : AreOfGames first shape depth (game ∷ []) one.0 one.1 = AreOfGames.one_more game one.0 one.1 AreOfGames.nothing (subst (λ k. AreOnBoard shape depth k game.tree one.0 one.1) (sym (add-zero first)) one.2) in
      let rest = all-found (first + 1) games (All-tail (λ (g : Game). IsTree g.tree) game games trees) in
      (one.0 ++ rest.0, one.1 ++ rest.1, AreOfGames-append first shape depth (game ∷ []) one.0 one.1 single games rest.0 rest.1 rest.2)

pub openings-found : (shape : Shape) (depth least : ℕ) (games : List Game) → All (λ (g : Game). IsTree g.tree) games → (openings : List Opening) × IsOpenings shape depth least games openings
openings-found shape depth least games trees =
    let all = all-found shape depth 0 games trees in
    (openings_of shape least all.0 all.1, record { entries = all.0; nexts = all.1; are_all = all.2; are_groups = refl })
