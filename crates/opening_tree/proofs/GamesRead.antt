-- What the entries and the next moves of one game say of themselves: their positions, their points, how many they are,
-- and that each next move follows an entry.
use Prim.Native.Nat.{zero}
use Rattle.std.proofs.Common.{◌≡◌, ◌≢◌, ℕ, suc, ◌<◌, ◌≤◌, ◌⊎◌, inl, inr, List, [], ◌∷◌, ◌++◌, Option, Some, None, length, length-append, refl, sym, ◌∙◌, subst, arith}
use Rattle.std.specs.Prelude.{All, Any, IfSome}
use Rattle.std.proofs.lemmas.Bool.{cases_eq}
use Rattle.std.proofs.lemmas.Grind.{common_steps}
use Rattle.std.proofs.lemmas.List.Elements.{All-nil, All-push}
use Rattle.std.proofs.lemmas.List.Quantifiers.{Any-push}
use Rattle.kb_geometry.specs.declared.shape.Point.{Point}
use Rattle.kb_geometry.specs.declared.shape.Shape.{Shape}
use Rattle.kb_geometry.specs.Board.{IsOnBoard, point_count}
use Rattle.kb_geometry.specs.Capture.{Position}
use Rattle.game_tree.specs.declared.node.Move.{Move}
use Rattle.game_tree.specs.Position.{ArePositions}
use Rattle.game_tree.specs.Result.{outcome_of}
use Rattle.game_tree.specs.Tree.{IsTree, Tree, move_number_of, node_count, parent_of}
use Rattle.node_paths.proofs.Ancestors.{parent-lt}
use Rattle.opening_tree.specs.Canonical.{IsCanonicalPosition}
use Rattle.opening_tree.specs.Entries.{AreEntriesTo, Entry, IsEntryAt, position_in}
use Rattle.opening_tree.specs.Games.{AreOnBoard}
use Rattle.opening_tree.specs.Groups.{AreFollowing}
use Rattle.opening_tree.specs.NextMoves.{AreNextsTo, IsPlaceInFrame, NextAt}
use Rattle.opening_tree.specs.StoredGames.{AreEntriesOn, AreNextsOn}
use Rattle.opening_tree.proofs.FramesOfGames.{move_number-above}
use Rattle.opening_tree.proofs.OneOpening.{frame-on_board, played_on_board}
use Rattle.opening_tree.proofs.PositionImages.{one_canonical}
use Rattle.opening_tree.proofs.PositionOrder.{same_or_not}
use Rattle.opening_tree.proofs.PositionsThere.{length-position_in}

-- what is said of one of some elements is said of one of these and more
pub any-front : {A : Type 0} (P : A → Type 0) (xs ys : List A) → Any P xs → Any P (xs ++ ys)
any-front P xs ys (k, x, lt, at, p) = (k, x, grind (arith, common_steps), grind (arith, common_steps), p)

pub any-behind : {A : Type 0} (P : A → Type 0) (xs ys : List A) → Any P ys → Any P (xs ++ ys)
any-behind P [] ys any = any
any-behind P (x ∷ xs) ys any = let (k, y, lt, at, p) = any-behind P xs ys any in (suc k, y, omega (arith, lt), at, p)

any-map : {A : Type 0} (P Q : A → Type 0) → ((x : A) → P x → Q x) → (xs : List A) → Any P xs → Any Q xs
any-map P Q f xs (k, x, lt, at, p) = (k, x, lt, at, f x p)

module _ (depth number : ℕ) (tree : Tree) (is_tree : IsTree tree) (positions : List Position) (are : ArePositions tree positions) where
  abbrev entry_of : ℕ → Position → Entry
  entry_of n canonical = record { game = number; node = n; canonical = canonical; outcome = outcome_of tree.info.outcome_text }

  abbrev next_of : Position → Move → NextAt
  next_of canonical played = record { canonical = canonical; played = played; outcome = outcome_of tree.info.outcome_text }

  abbrev entries_to : ℕ → List Entry → Type 0
  entries_to = AreEntriesTo depth number tree positions

  abbrev nexts_to : ℕ → List NextAt → Type 0
  nexts_to = AreNextsTo depth tree positions

  -- ---- entries

  entries-on : (n : ℕ) (es : List Entry) → entries_to n es → AreEntriesOn (point_count tree.shape) es
  entries-on _ _ AreEntriesTo.nothing = All-nil (λ (e : Entry). length e.canonical ≡ point_count tree.shape)
  entries-on _ _ (AreEntriesTo.entry {n = n} {entries = xs} c before is can) =
      All-push (λ (e : Entry). length e.canonical ≡ point_count tree.shape) xs (entry_of n c) (entries-on n xs before) can.is_image.1.each_point
  entries-on _ _ (AreEntriesTo.left_out {n = n} {entries = xs} before not) = entries-on n xs before

  pub entries-few : (n : ℕ) (es : List Entry) → entries_to n es → length es ≤ n
  entries-few _ _ AreEntriesTo.nothing = omega arith
  entries-few _ _ (AreEntriesTo.entry {n = n} {entries = xs} c before is can) = omega (arith, length-append xs (entry_of n c ∷ []), entries-few n xs before)
  entries-few _ _ (AreEntriesTo.left_out {n = n} {entries = xs} before not) = omega (arith, entries-few n xs before)

  -- ---- next moves

  pub place-on_board : (position canonical : Position) (o f : Option Point) → IfSome o (λ (q : Point). IsOnBoard tree.shape q) → IsPlaceInFrame tree.shape position canonical o f → IfSome f (λ (q : Point). IsOnBoard tree.shape q)
  place-on_board position canonical None f on at = subst (λ (g : Option Point). IfSome g (λ (q : Point). IsOnBoard tree.shape q)) (sym at) tt
  place-on_board position canonical (Some p) f on at =
      subst (λ (g : Option Point). IfSome g (λ (q : Point). IsOnBoard tree.shape q)) (sym at.1) (frame-on_board tree.shape position canonical p at.0 on at.2)

  nexts-cells : (n : ℕ) (ns : List NextAt) → nexts_to n ns → All (λ (x : NextAt). length x.canonical ≡ point_count tree.shape) ns
  nexts-cells _ _ AreNextsTo.nothing = All-nil (λ (x : NextAt). length x.canonical ≡ point_count tree.shape)
  nexts-cells _ _ (AreNextsTo.next {n = n} {nexts = xs} parent played c framed before is can in_frame) =
      All-push (λ (x : NextAt). length x.canonical ≡ point_count tree.shape) xs (next_of c framed) (nexts-cells n xs before) can.is_image.1.each_point
  nexts-cells _ _ (AreNextsTo.left_out {n = n} {nexts = xs} before not) = nexts-cells n xs before

  nexts-points : (n : ℕ) (ns : List NextAt) → n ≤ node_count tree → nexts_to n ns → All (λ (x : NextAt). IfSome x.played.point (λ (q : Point). IsOnBoard tree.shape q)) ns
  nexts-points _ _ most AreNextsTo.nothing = All-nil (λ (x : NextAt). IfSome x.played.point (λ (q : Point). IsOnBoard tree.shape q))
  nexts-points _ _ most (AreNextsTo.next {n = n} {nexts = xs} parent played c framed before is can in_frame) =
      All-push (λ (x : NextAt). IfSome x.played.point (λ (q : Point). IsOnBoard tree.shape q)) xs (next_of c framed) (nexts-points n xs (omega (arith, most)) before)
      (place-on_board (position_in positions parent) c played.point framed.point (played_on_board depth tree is_tree positions n played (omega (arith, most)) is.plays) in_frame.place)
  nexts-points _ _ most (AreNextsTo.left_out {n = n} {nexts = xs} before not) = nexts-points n xs (omega (arith, most)) before

  pub nexts-few : (n : ℕ) (ns : List NextAt) → nexts_to n ns → length ns ≤ n
  nexts-few _ _ AreNextsTo.nothing = omega arith
  nexts-few _ _ (AreNextsTo.next {n = n} {nexts = xs} parent played c framed before is can in_frame) = omega (arith, length-append xs (next_of c framed ∷ []), nexts-few n xs before)
  nexts-few _ _ (AreNextsTo.left_out {n = n} {nexts = xs} before not) = omega (arith, nexts-few n xs before)

  -- ---- the entry from which a next move was played

  abbrev has_entry : List Entry → ℕ → Type 0
  has_entry es m = Any (λ (e : Entry). IsCanonicalPosition tree.shape (position_in positions m) e.canonical) es

  -- a node has an entry, or is none
  told_entry : (n : ℕ) (es : List Entry) → entries_to n es → (m : ℕ) → m < n → has_entry es m ⊎ (¬ IsEntryAt depth tree positions m)
  told_entry _ _ AreEntriesTo.nothing m lt = absurd (omega (arith, lt))
  told_entry _ _ (AreEntriesTo.entry {n = n} {entries = xs} c before is can) m lt =
      elim (cases_eq m n) [
        | inl e ↦ inl (Any-push (λ (x : Entry). IsCanonicalPosition tree.shape (position_in positions m) x.canonical) xs (entry_of n c) (subst (λ k. IsCanonicalPosition tree.shape (position_in positions k) c) (sym e) can))
        | inr ne ↦ elim (told_entry n xs before m (omega (arith, lt, ne))) [
          | inl there ↦ inl (any-front (λ (x : Entry). IsCanonicalPosition tree.shape (position_in positions m) x.canonical) xs (entry_of n c ∷ []) there)
          | inr not ↦ inr not
        ]
      ]
  told_entry _ _ (AreEntriesTo.left_out {n = n} {entries = xs} before none) m lt =
      elim (cases_eq m n) [
        | inl e ↦ inr (λ is. none (subst (IsEntryAt depth tree positions) e is))
        | inr ne ↦ told_entry n xs before m (omega (arith, lt, ne))
      ]

  module _ (es : List Entry) (all : entries_to (node_count tree) es) where
    -- a node within the depth, or an ancestor with its position, is an entry
    climb : (k m : ℕ) → m < k → m < node_count tree → move_number_of tree m ≤ depth → has_entry es m
    climb zero m lt below within = absurd (omega (arith, lt))
    climb (suc k) m lt below within =
        elim (told_entry (node_count tree) es all m below) [
          | inl there ↦ there
          | inr not ↦ by not (λ p less low near. climb k p less low near) (parent_of tree m) refl
        ]
      where
        by : ¬ IsEntryAt depth tree positions m → ((p : ℕ) → p < k → p < node_count tree → move_number_of tree p ≤ depth → has_entry es p) → (o : Option ℕ) → o ≡ parent_of tree m → has_entry es m
        by not above None e = absurd (not (record { within = within; changed = subst (λ (o : Option ℕ). IfSome o (λ p. position_in positions m ≢ position_in positions p)) e tt }))
        by not above (Some p) e =
            let less : p < m = parent-lt is_tree.parents m p (sym e) in
            let low : p < node_count tree = omega (arith, less, below) in
            elim (same_or_not (position_in positions m) (position_in positions p) (length-position_in tree is_tree positions are m below ∙ sym (length-position_in tree is_tree positions are p low))) [
              | inr ne ↦ absurd (not (record { within = within; changed = subst (λ (o : Option ℕ). IfSome o (λ q. position_in positions m ≢ position_in positions q)) e ne }))
              | inl same ↦
                  subst (λ (x : Position). Any (λ (n : Entry). IsCanonicalPosition tree.shape x n.canonical) es) (sym same)
                  (above p (omega (arith, less, lt)) low (omega (arith, within, move_number-above tree is_tree m p (sym e))))
            ]

    nexts-follow : (n : ℕ) (ns : List NextAt) → n ≤ node_count tree → nexts_to n ns → AreFollowing es ns
    nexts-follow _ _ most AreNextsTo.nothing = All-nil (λ (x : NextAt). Any (λ (e : Entry). e.canonical ≡ x.canonical) es)
    nexts-follow _ _ most (AreNextsTo.next {n = n} {nexts = xs} parent played c framed before is can in_frame) =
        let low : parent < node_count tree = omega (arith, most, parent-lt is_tree.parents n parent is.is_parent) in
        let there : has_entry es parent = climb (suc parent) parent (omega arith) low is.within in
        All-push (λ (x : NextAt). Any (λ (e : Entry). e.canonical ≡ x.canonical) es) xs (next_of c framed) (nexts-follow n xs (omega (arith, most)) before)
        (any-map (λ (e : Entry). IsCanonicalPosition tree.shape (position_in positions parent) e.canonical) (λ (e : Entry). e.canonical ≡ c)
        (λ e could. one_canonical tree.shape (position_in positions parent) e.canonical c could can) es there)
    nexts-follow _ _ most (AreNextsTo.left_out {n = n} {nexts = xs} before not) = nexts-follow n xs (omega (arith, most)) before

-- what is known of the entries and the next moves of a game
pub record IsGameRead (shape : Shape) (es : List Entry) (ns : List NextAt) : Type 0 where
  pub entries_on : AreEntriesOn (point_count shape) es
  pub nexts_on : AreNextsOn shape ns
  pub entries_few : length es ≤ 65536
  pub nexts_few : length ns ≤ 65536
  pub following : AreFollowing es ns

pub game-read : (shape : Shape) (depth number : ℕ) (tree : Tree) → IsTree tree → (es : List Entry) (ns : List NextAt) → AreOnBoard shape depth number tree es ns → IsGameRead shape es ns
game-read shape depth number tree is_tree es ns (AreOnBoard.on_board e of) = subst (λ (s : Shape). IsGameRead s es ns) e (record {
  entries_on = entries-on depth number tree is_tree of.positions of.are_positions (node_count tree) es of.are_entries;
  nexts_on = record {
    positions = nexts-cells depth number tree is_tree of.positions of.are_positions (node_count tree) ns of.are_nexts;
    points = nexts-points depth number tree is_tree of.positions of.are_positions (node_count tree) ns (omega arith) of.are_nexts;
  };
  entries_few = omega (arith, is_tree.most, entries-few depth number tree is_tree of.positions of.are_positions (node_count tree) es of.are_entries);
  nexts_few = omega (arith, is_tree.most, nexts-few depth number tree is_tree of.positions of.are_positions (node_count tree) ns of.are_nexts);
  following = nexts-follow depth number tree is_tree of.positions of.are_positions es of.are_entries (node_count tree) ns (omega arith) of.are_nexts;
})
game-read shape depth number tree is_tree _ _ (AreOnBoard.elsewhere not) = record {
  entries_on = All-nil (λ (e : Entry). length e.canonical ≡ point_count shape);
  nexts_on = record {
    positions = All-nil (λ (n : NextAt). length n.canonical ≡ point_count shape);
    points = All-nil (λ (n : NextAt). IfSome n.played.point (λ (q : Point). IsOnBoard shape q));
  };
  entries_few = omega arith;
  nexts_few = omega arith;
  following = All-nil (λ (n : NextAt). Any (λ (e : Entry). e.canonical ≡ n.canonical) []);
}
