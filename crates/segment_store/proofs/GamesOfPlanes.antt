-- Planes of games: one game more, those of two blocks, and one of the planes more.
use Rattle.std.proofs.Common.{◌≡◌, ◌≢◌, ℕ, ◌+◌, ◌-◌, ◌<◌, inl, inr, List, [], ◌∷◌, ◌++◌, get_or, length, map, replicate, take, Option, None, refl, ap, ap₂, sym, subst, ◌∙◌, arith, length-append}
use Rattle.std.specs.Prelude.{All, Contains}
use Rattle.std.proofs.Math.Seq.{get_or-append_seam}
use Rattle.std.proofs.lemmas.Bool.{cases_lt}
use Rattle.std.proofs.lemmas.List.{get_or_append_left, get_or-append_right, get_or-replicate, get_or-map, length-map, length-replicate, length_push, map_push, take_more}
use Rattle.std.proofs.lemmas.List.Elements.{All-contains, All-push, Contains-get_or}
use Rattle.kb_geometry.specs.declared.shape.Shape.{Shape}
use Rattle.game_tree.specs.Tree.{Tree}
use Rattle.node_position.specs.Games.{Game}
use Rattle.final_index.specs.declared.ever_sets.EverSets.{EverSets}
use Rattle.final_index.specs.Planes.{PlaneGames}
use Rattle.segment_store.specs.BoardShapes.{AreDifferent, HaveShapes}
use Rattle.segment_store.specs.Planes.{AreMadeFor, ArePlanesFor, ArePlanesOf, ArePlanesOn, IsGameAdded, IsGameOfPlanes}

-- ---- one game more

pub ArePlanesFor-start : (shape : Shape) (planes : PlaneGames) → planes ≡ record { shape = shape; games = [] } → ArePlanesFor shape [] planes
ArePlanesFor-start shape planes e = (ap (λ (p : PlaneGames). p.shape) e, (ap (λ (p : PlaneGames). length p.games) e, λ g d lt. absurd (omega arith)))

module _ (shape : Shape) (games : List Game) (game : Game) (old new : PlaneGames) (so_far : ArePlanesFor shape games old) (added : IsGameAdded game.tree old new) where
  long : length new.games ≡ length games + 1
  long = ap length added.games ∙ length_push old.games added.added ∙ ap (λ (n : ℕ). n + 1) so_far.1.0

  at_place : (g : ℕ) (d : Game) → g < length (games ++ game ∷ []) → IsGameOfPlanes old.shape (get_or (games ++ game ∷ []) g d).tree (get_or (old.games ++ added.added ∷ []) g None)
  at_place g d lt =
      elim (cases_lt g (length games)) [
        | inl below ↦
            let was = so_far.1.1 g d below in
            rw (get_or_append_left games (game ∷ []) d g below, get_or_append_left old.games (added.added ∷ []) None g (omega (arith, so_far.1.0))) was
        | inr last ↦
            let here : length games ≡ g = omega (arith, last, lt, length_push games game) in
            let there : length old.games ≡ g = omega (arith, here, so_far.1.0) in
            let one = ap (λ (j : ℕ). get_or (games ++ game ∷ []) j d) (sym here) ∙ get_or-append_seam games game [] d in
            let other = ap (λ (j : ℕ). get_or (old.games ++ added.added ∷ []) j None) (sym there) ∙ get_or-append_seam old.games added.added [] None in
            rw (one, other) added.told
      ]

  ArePlanesFor-push : ArePlanesFor shape (games ++ game ∷ []) new
  ArePlanesFor-push = (added.shape ∙ so_far.0, (long ∙ sym (length_push games game), λ g d lt. rw (added.shape, added.games) (at_place g d lt)))

pub ArePlanesFor-more : {X : Type 0} (v : X → Game) (xs : List X) (k : ℕ) (x : X) (shape : Shape) (old new : PlaneGames) (tree : Tree) → k < length xs → x ≡ get_or xs k x → tree ≡ (v x).tree → ArePlanesFor shape (map v (take k xs)) old → IsGameAdded tree old new → ArePlanesFor shape (map v (take (k + 1) xs)) new
ArePlanesFor-more v xs k x shape old new tree lt at is so_far added =
    let next : map v (take (k + 1) xs) ≡ map v (take k xs) ++ v x ∷ [] = ap (map v) (take_more xs k x lt) ∙ map_push v (take k xs) (get_or xs k x) ∙ ap (λ y. map v (take k xs) ++ v y ∷ []) (sym at) in
    subst (λ gs. ArePlanesFor shape gs new) (sym next) (ArePlanesFor-push shape (map v (take k xs)) (v x) old new so_far (subst (λ (t : Tree). IsGameAdded t old new) is added))

-- ---- the games of two blocks

module _ (shape : Shape) (xs ys : List Game) (one other : PlaneGames) (first : ArePlanesFor shape xs one) (second : ArePlanesFor shape ys other) where
  joined_at : (g : ℕ) (d : Game) → g < length (xs ++ ys) → IsGameOfPlanes one.shape (get_or (xs ++ ys) g d).tree (get_or (one.games ++ other.games) g None)
  joined_at g d lt =
      elim (cases_lt g (length xs)) [
        | inl below ↦ rw (get_or_append_left xs ys d g below, get_or_append_left one.games other.games None g (omega (arith, first.1.0))) (first.1.1 g d below)
        | inr from ↦
            let within : g - length xs < length ys = omega (arith, from, lt, length-append xs ys) in
            let was = second.1.1 (g - length xs) d within in
            rw (get_or-append_right xs ys (length xs) g d refl from, get_or-append_right one.games other.games (length xs) g None first.1.0 from)
            (rw (second.0 ∙ sym first.0) at was)
      ]

  pub ArePlanesFor-join : (both : PlaneGames) → both ≡ record { shape = one.shape; games = one.games ++ other.games } → ArePlanesFor shape (xs ++ ys) both
  ArePlanesFor-join both is = subst (λ (p : PlaneGames). ArePlanesFor shape (xs ++ ys) p) (sym is)
      (first.0, (length-append one.games other.games ∙ ap₂ (λ (m n : ℕ). m + n) first.1.0 second.1.0 ∙ sym (length-append xs ys), joined_at))

-- no board has the shape
abbrev shape_of : PlaneGames → Shape
shape_of p = p.shape

module _ (shape : Shape) (games : List Game) (planes : List PlaneGames) (are : ArePlanesOf games planes) (none : All (λ (p : PlaneGames). p.shape ≢ shape) planes) where
  no_plane : Contains (map shape_of planes) shape → ⊥
  no_plane there =
      let d : PlaneGames = record { shape = shape; games = [] } in
      let within : there.0 < length planes = omega (arith, there.1, length-map planes shape_of) in
      none there.0 d within (sym (get_or-map shape_of planes there.0 d shape within) ∙ there.2)

  no_game : (g : ℕ) (d : Game) → g < length games → (get_or games g d).tree.shape ≢ shape
  no_game g d lt e = no_plane ((are.shapes shape).1 (subst (λ (s : Shape). Contains (map (λ (h : Game). h.tree.shape) games) s) (get_or-map (λ (h : Game). h.tree.shape) games g d shape lt ∙ e)
      (Contains-get_or (map (λ (h : Game). h.tree.shape) games) g shape (omega (arith, lt, length-map games (λ (h : Game). h.tree.shape))))))

-- no game is on a board of the shape
abbrev HasNoneOn : List Game → Shape → Type 0
HasNoneOn games shape = (g : ℕ) (d : Game) → g < length games → (get_or games g d).tree.shape ≢ shape

ArePlanesFor-others : (shape : Shape) (games : List Game) → HasNoneOn games shape → (count : ℕ) → count ≡ length games → (made : PlaneGames) → made ≡ record { shape = shape; games = replicate count None } → ArePlanesFor shape games made
ArePlanesFor-others shape games none count all made is = subst (λ (p : PlaneGames). ArePlanesFor shape games p) (sym is)
    (refl, (length-replicate {A = Option EverSets} count None ∙ all, λ g d lt. rw (get_or-replicate {A = Option EverSets} count g None None (omega (arith, all, lt))) (none g d lt)))

HasNoneOn-append : (xs ys : List Game) (shape : Shape) → HasNoneOn xs shape → HasNoneOn ys shape → HasNoneOn (xs ++ ys) shape
HasNoneOn-append xs ys shape first second g d lt =
    elim (cases_lt g (length xs)) [
      | inl below ↦ rw (get_or_append_left xs ys d g below) (first g d below)
      | inr from ↦ rw (get_or-append_right xs ys (length xs) g d refl from) (second (g - length xs) d (omega (arith, from, lt, length-append xs ys)))
    ]

module _ (shape : Shape) (games : List Game) (planes : List PlaneGames) (are : ArePlanesOf games planes) (none : All (λ (p : PlaneGames). p.shape ≢ shape) planes) where
  pub ArePlanesFor-none : (count : ℕ) → count ≡ length games → (made : PlaneGames) → made ≡ record { shape = shape; games = replicate count None } → ArePlanesFor shape games made
  ArePlanesFor-none = ArePlanesFor-others shape games (no_game shape games planes are none)

  -- nor has the other block such a board
  module _ (games' : List Game) (planes' : List PlaneGames) (are' : ArePlanesOf games' planes') (none' : All (λ (p : PlaneGames). p.shape ≢ shape) planes') where
    pub ArePlanesFor-neither : (count count' : ℕ) → count ≡ length games → count' ≡ length games' → (made : PlaneGames) → made ≡ record { shape = shape; games = replicate (count + count') None } → ArePlanesFor shape (games ++ games') made
    ArePlanesFor-neither count count' all all' = ArePlanesFor-others shape (games ++ games') (HasNoneOn-append games games' shape (no_game shape games planes are none) (no_game shape games' planes' are' none'))
        (count + count') (ap₂ (λ (m n : ℕ). m + n) all all' ∙ sym (length-append games games'))

-- the planes that were found
pub ArePlanesFor-found : (shape : Shape) (games : List Game) (planes : List PlaneGames) (found : PlaneGames) → ArePlanesOf games planes → (found.shape ≡ shape) × Contains planes found → ArePlanesFor shape games found
ArePlanesFor-found shape games planes found are is = (is.0, All-contains (ArePlanesOn games) planes found are.each is.1)

-- ---- one of the planes more

pub AreMadeFor-more : (shapes : List Shape) (k : ℕ) (shape : Shape) (games : List Game) (old : List PlaneGames) (new : PlaneGames) → k < length shapes → shape ≡ get_or shapes k shape → AreMadeFor (take k shapes) games old → ArePlanesFor shape games new → AreMadeFor (take (k + 1) shapes) games (old ++ new ∷ [])
AreMadeFor-more shapes k shape games old new lt at so_far is = record {
  in_order = map_push (λ (p : PlaneGames). p.shape) old new ∙ ap₂ (λ (ss : List Shape) (s : Shape). ss ++ s ∷ []) so_far.in_order (is.0 ∙ at) ∙ sym (take_more shapes k shape lt);
  each = All-push (ArePlanesOn games) old new so_far.each is.1;
}

pub ArePlanesOf-made : (shapes : List Shape) (games : List Game) (planes : List PlaneGames) → HaveShapes games shapes → AreDifferent shapes → AreMadeFor shapes games planes → ArePlanesOf games planes
ArePlanesOf-made shapes games planes have different made = record {
  shapes = subst (HaveShapes games) (sym made.in_order) have;
  each = made.each;
  different = λ i j d before within same.
      let inside : j < length shapes = omega (arith, within, ap length made.in_order, length-map planes shape_of) in
      let one = sym (get_or-map shape_of planes i d d.shape (omega arith)) ∙ ap (λ (ss : List Shape). get_or ss i d.shape) made.in_order in
      let other = sym (get_or-map shape_of planes j d d.shape within) ∙ ap (λ (ss : List Shape). get_or ss j d.shape) made.in_order in
      different i j d.shape before inside (sym one ∙ same ∙ other);
}
