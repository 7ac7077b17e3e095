-- Planes of order: one game more, those of two blocks, and one of the planes more.
use Rattle.std.proofs.Common.{◌≡◌, ◌≢◌, ℕ, ◌+◌, ◌-◌, ◌<◌, inl, inr, List, [], ◌∷◌, ◌++◌, get_or, length, map, take, Option, None, Some, refl, ap, ap₂, sym, subst, ◌∙◌, arith, length-append}
use Rattle.std.specs.Borrow.{Bor}
use Rattle.std.specs.Int.{bit_at}
use Rattle.std.specs.Prelude.{All, Contains, IfSome, slice_index}
use Rattle.std.proofs.lemmas.List.Elements.{All-contains}
use Rattle.std.proofs.Math.Seq.{get_or-append_seam}
use Rattle.std.proofs.lemmas.Bool.{cases_lt}
use Rattle.std.proofs.lemmas.List.{get_or_append_left, get_or-append_right, length_push, map_push, take_more}
use Rattle.kb_geometry.specs.declared.shape.Shape.{Shape}
use Rattle.game_tree.specs.Tree.{Tree}
use Rattle.capture_board.specs.Deltas.{Deltas}
use Rattle.node_position.specs.Games.{AreNodeChanges, Game}
use Rattle.final_index.specs.Order.{AreJoined, HasGameMore, HasOrderOf, KeepsBits, OrderGames}
use Rattle.final_index.proofs.OrderedBits.{HasOrderOf-behind, HasOrderOf-kept}
use Rattle.segment_store.specs.Orders.{AreOrdersOn, HasOrderMore, HasOrderOfTree}

-- ---- one game more

-- a game on a board of another shape
pub other-more : (tree : Tree) (old new : OrderGames) → new ≡ record { shape = old.shape; count = old.count + 1; words = old.words } → tree.shape ≢ old.shape → HasOrderMore tree old new
other-more tree old new is other = record {
  shape = ap (λ (o : OrderGames). o.shape) is;
  count = ap (λ (o : OrderGames). o.count) is;
  kept = λ k g one. ap (λ (o : OrderGames). bit_at (slice_index o.words k) g) is ∙ one;
  added = λ same. absurd (other (same ∙ ap (λ (o : OrderGames). o.shape) is));
}

-- a game on such a board, by its changes
pub own-more : (tree : Tree) (own : Deltas) (old new : OrderGames) → ((changes : Deltas) → AreNodeChanges tree changes → changes ≡ own) → HasGameMore own old new → HasOrderMore tree old new
own-more tree own old new one more = record {
  shape = more.shape;
  count = more.count;
  kept = more.kept;
  added = λ same changes of. subst (λ (d : Deltas). HasOrderOf d new old.count) (sym (one changes of)) more.added;
}

tree-kept : (tree : Tree) (g : ℕ) (old new : OrderGames) → new.shape ≡ old.shape → KeepsBits old new → HasOrderOfTree old g tree → HasOrderOfTree new g tree
tree-kept tree g old new same kept has = λ on changes of. HasOrderOf-kept changes g old new same kept (has (on ∙ same) changes of)

pub orders-start : (order : OrderGames) → order.count ≡ 0 → AreOrdersOn [] order
orders-start order none = (none, λ g d lt. absurd (omega (arith, lt)))

module _ (games : List Game) (game : Game) (old new : OrderGames) (so_far : AreOrdersOn games old) (added : HasOrderMore game.tree old new) where
  at_place : (g : ℕ) (d : Game) → g < length (games ++ game ∷ []) → HasOrderOfTree new g (get_or (games ++ game ∷ []) g d).tree
  at_place g d lt = elim (cases_lt g (length games)) [
    | inl below ↦ rw (get_or_append_left games (game ∷ []) d g below) (tree-kept (get_or games g d).tree g old new added.shape added.kept (so_far.1 g d below))
    | inr last ↦
        let here : length games ≡ g = omega (arith, last, lt, length_push games game) in
        let read = ap (λ (j : ℕ). get_or (games ++ game ∷ []) j d) (sym here) ∙ get_or-append_seam games game [] d in
        rw read (subst (λ (j : ℕ). HasOrderOfTree new j game.tree) (so_far.0 ∙ here) added.added)
  ]

  pub orders-push : AreOrdersOn (games ++ game ∷ []) new
  orders-push = (added.count ∙ ap (λ (n : ℕ). n + 1) so_far.0 ∙ sym (length_push games game), at_place)

pub orders-more : {X : Type 0} (v : X → Game) (xs : List X) (k : ℕ) (x : X) (old new : OrderGames) (tree : Tree) → k < length xs → x ≡ get_or xs k x → tree ≡ (v x).tree → AreOrdersOn (map v (take k xs)) old → HasOrderMore tree old new → AreOrdersOn (map v (take (k + 1) xs)) new
orders-more v xs k x old new tree lt at is so_far added =
    let next : map v (take (k + 1) xs) ≡ map v (take k xs) ++ v x ∷ [] = ap (map v) (take_more xs k x lt) ∙ map_push v (take k xs) (get_or xs k x) ∙ ap (λ y. map v (take k xs) ++ v y ∷ []) (sym at) in
    subst (λ gs. AreOrdersOn gs new) (sym next) (orders-push (map v (take k xs)) (v x) old new so_far (subst (λ (t : Tree). HasOrderMore t old new) is added))

-- ---- the games of two blocks

module _ (xs ys : List Game) (a b both : OrderGames) (first : AreOrdersOn xs a) (second : AreOrdersOn ys b) (same : a.shape ≡ b.shape) (joined : AreJoined a b both) where
  tree-behind : (tree : Tree) (j : ℕ) → HasOrderOfTree b j tree → HasOrderOfTree both (j + a.count) tree
  tree-behind tree j has = λ on changes of. HasOrderOf-behind changes j a b both same joined (has (on ∙ joined.shape ∙ same) changes of)

  joined_at : (g : ℕ) (d : Game) → g < length (xs ++ ys) → HasOrderOfTree both g (get_or (xs ++ ys) g d).tree
  joined_at g d lt = elim (cases_lt g (length xs)) [
    | inl below ↦ rw (get_or_append_left xs ys d g below) (tree-kept (get_or xs g d).tree g a both joined.shape joined.kept (first.1 g d below))
    | inr from ↦
        let within : g - length xs < length ys = omega (arith, from, lt, length-append xs ys) in
        let place : g - length xs + a.count ≡ g = omega (arith, from, first.0) in
        rw (get_or-append_right xs ys (length xs) g d refl from) (subst (λ (n : ℕ). HasOrderOfTree both n (get_or ys (g - length xs) d).tree) place (tree-behind (get_or ys (g - length xs) d).tree (g - length xs) (second.1 (g - length xs) d within)))
  ]

  pub orders-join : AreOrdersOn (xs ++ ys) both
  orders-join = (joined.count ∙ ap₂ (λ (m n : ℕ). m + n) first.0 second.0 ∙ sym (length-append xs ys), joined_at)

-- the planes of order that were found
pub order-found : (games : List Game) (orders : List OrderGames) (shape : Shape) (found : Option (Bor OrderGames)) → All (AreOrdersOn games) orders → IfSome found (λ (o : Bor OrderGames). (o.now.shape ≡ shape) × Contains orders o.now) →
    IfSome found (λ (o : Bor OrderGames). (o.now.shape ≡ shape) × AreOrdersOn games o.now)
order-found games orders shape None all is = tt
order-found games orders shape (Some o) all is = (is.0, All-contains (AreOrdersOn games) orders o.now all is.1)
