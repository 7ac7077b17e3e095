-- Games have their hits: each occurrence has a hit or is one at which the query doesn't look.
use Prim.Native.Nat.{zero}
use Rattle.std.proofs.Common.{◌≡◌, ◌⊎◌, inl, inr, ℕ, suc, ◌+◌, ◌<◌, ◌≤◌, List, [], ◌∷◌, ◌++◌, length, get_or, take, Option, Some, None, refl, sym, ap, ◌∙◌, subst, add-zero, add-one, arith}
use Rattle.std.specs.Prelude.{◌==◌, ◌&&◌, All, IfSome, IsTrue}
use Rattle.std.proofs.lemmas.Bool.{cases_Bool, cases_lt, false≢true}
use Rattle.std.proofs.lemmas.List.{take_all, take_more}
use Rattle.std.proofs.lemmas.List.Elements.{All-head, All-tail}
use Rattle.kb_geometry.specs.declared.shape.Shape.{Shape}
use Rattle.kb_geometry.specs.declared.symmetry.Label.{Label}
use Rattle.game_tree.specs.MainLine.{IsOnMainLine}
use Rattle.game_tree.specs.Result.{outcome_of}
use Rattle.game_tree.specs.Tree.{IsTree, Tree, move_number_of}
use Rattle.game_tree.proofs.MainLines.{IsOnMainLine-below, main_end}
use Rattle.game_tree.proofs.Trees.{IsGrown-tree}
use Rattle.capture_board.specs.Deltas.{Deltas}
use Rattle.search_engine.proofs.TreeChanges.{has_changes}
use Rattle.pattern_images.specs.declared.hit.Hit.{Hit}
use Rattle.pattern_images.specs.declared.hit.Next.{Next}
use Rattle.pattern_images.specs.declared.hit.Place.{Place}
use Rattle.pattern_images.specs.declared.query.Query.{Query}
use Rattle.info_filter.specs.declared.filter.Filter.{Filter}
use Rattle.pattern_images.specs.ImageList.{IsPlaceOf, IsPlacedOn, placement_at}
use Rattle.pattern_images.specs.Placements.{ArePlacements, IsResult, Placement}
use Rattle.pattern_images.specs.Query.{IsForBoard}
use Rattle.info_filter.proofs.ToldFilters.{told_accepts}
use Rattle.pattern_images.proofs.Existence.{some_list}
use Rattle.pattern_images.proofs.PlacedOn.{IsPlacedOn-result}
use Rattle.continuation_table.proofs.ToldContinuations.{told_continuation}
use Rattle.pattern_occurrences.specs.declared.occurrence.Occurrence.{Occurrence}
use Rattle.pattern_occurrences.specs.Occurrences.{occurrences_in}
use Rattle.node_position.specs.Games.{AreNodeChanges, Game}
use Rattle.search_engine.specs.Hits.{AreGameHits, AreHitsFrom, AreHitsIn, AreHitsOf, AsksFor, GoesOn, IsHit, LooksAt}
use Rattle.search_engine.proofs.SameShapes.{same_shape}
use Rattle.search_engine.proofs.HitParts.{AreHitsFrom-append}
use Rattle.search_engine.proofs.WhereFound.{IsThere, occurrences_are_there}

-- ---- whether the query looks at a node

module _ (query : Query) (tree : Tree) (is_tree : IsTree tree) (n : ℕ) where
  on_main_line : IsOnMainLine tree n ⊎ ¬ IsOnMainLine tree n
  on_main_line =
      let end = main_end tree is_tree.some in
      let law = IsOnMainLine-below tree (IsGrown-tree tree is_tree) end.0 end.1 is_tree.some n in
      elim (cases_lt n end.0) [
        | inl below ↦ inl (law.0 below)
        | inr past ↦ inr (λ on. let below = law.1 on in absurd (omega arith))
      ]

  main_asked : (IsTrue query.main → IsOnMainLine tree n) ⊎ ¬ (IsTrue query.main → IsOnMainLine tree n)
  main_asked = elim (cases_Bool query.main) [
    | inl asked ↦ elim on_main_line [ inl on ↦ inl (λ _. on) | inr off ↦ inr (λ all. off (all asked)) ]
    | inr free ↦ inl (λ asked. absurd (false≢true (sym free ∙ asked)))
  ]

  pub looks-or-not : LooksAt query tree n ⊎ ¬ LooksAt query tree n
  looks-or-not =
      let moves = move_number_of tree n in
      elim main_asked [
        | inr off ↦ inr (λ looks. off looks.main)
        | inl main ↦ elim (cases_lt moves query.from_move) [
          | inl early ↦ inr (λ looks. let from = looks.from in absurd (omega arith))
          | inr from ↦ elim (cases_lt query.to_move moves) [
            | inl late ↦ inr (λ looks. let to = looks.to in absurd (omega arith))
            | inr to ↦ inl (record { main = main; from = from; to = to })
          ]
        ]
      ]

-- ---- the hit of an occurrence

-- the place of a placement
place_of : (placement : Placement) → placement.label < 16 → (place : Place) × IsPlaceOf placement place
place_of placement small =
    let label : Label = record { number = placement.label; in_range = small } in
    let place : Place = record { x = placement.x; y = placement.y; cols = placement.grid.cols; rows = placement.grid.rows; label = label } in
    (place, record { column = refl; row = refl; columns = refl; rows = refl; label = refl })

module _ (query : Query) (number : ℕ) (tree : Tree) (is_tree : IsTree tree) (changes : Deltas) (of : AreNodeChanges tree changes) (placements : List Placement) (are : ArePlacements query tree.shape placements) where
  abbrev these : List Occurrence → List Hit → Type 0
  these = AreHitsOf query number tree changes placements

  goes_on : (placement : Placement) (n : ℕ) → IsPlacedOn changes.shape placement → (next : Option Next) × GoesOn tree changes placement n next
  goes_on placement n placed = elim (told_continuation tree is_tree changes placement placed n) [
    | inl (next, is) ↦ (Some next, is)
    | inr none ↦ (None, none)
  ]

  hit_of : (o : Occurrence) → IsThere changes placements o → (hit : Hit) × IsHit number tree changes placements o hit
  hit_of o there =
      let placement = placement_at placements o.placement in
      let result : IsResult query tree.shape placement = are.sound o.placement _ there.placement in
      let placed : IsPlacedOn changes.shape placement = subst (λ (s : Shape). IsPlacedOn s placement) (sym of.lead.same_shape) (IsPlacedOn-result query tree.shape placement result) in
      let place = place_of placement result.label.in_range in
      let next = goes_on placement o.node placed in
      let hit : Hit = record { game = number; node = o.node; place = place.0; moves = move_number_of tree o.node; outcome = outcome_of tree.info.outcome_text; next = next.0 } in
      (hit, record { game = refl; node = refl; place = place.1; moves = refl; outcome = refl; next = next.1 })

  -- the hits of the first so many occurrences
  hits_to : (os : List Occurrence) → All (IsThere changes placements) os → (k : ℕ) → k ≤ length os → (hits : List Hit) × these (take k os) hits
  hits_to os there zero le = ([], AreHitsOf.nothing)
  hits_to os there (suc k) le =
      let none : Occurrence = record { node = 0; placement = 0 } in
      let before = hits_to os there k (omega arith) in
      let o = get_or os k none in
      let next : take (suc k) os ≡ take k os ++ o ∷ [] = ap (λ n. take n os) (sym (add-one k)) ∙ take_more os k none (omega arith) in
      let here = there k none (omega arith) in
      elim (looks-or-not query tree is_tree o.node) [
        | inl looks ↦
            let hit = hit_of o here in
            (before.0 ++ hit.0 ∷ [], subst (λ xs. these xs (before.0 ++ hit.0 ∷ [])) (sym next) (AreHitsOf.hit o hit.0 before.1 looks hit.1))
        | inr not ↦ (before.0, subst (λ xs. these xs before.0) (sym next) (AreHitsOf.left_out o before.1 not))
      ]

-- ---- the hits of games

-- the query is for a board of this shape or not
told_board : (query : Query) (shape : Shape) → IsForBoard query shape ⊎ ¬ IsForBoard query shape
told_board query shape = told query.board
  where
    told : (board : Option Shape) → IfSome board (λ (b : Shape). b ≡ shape) ⊎ ¬ IfSome board (λ (b : Shape). b ≡ shape)
    told None = inl tt
    told (Some board) =
        let test = same_shape board shape in
        elim (cases_Bool ((board.cols == shape.cols) && (board.rows == shape.rows))) [
          | inl t ↦ inl (test.0 t)
          | inr f ↦ inr (λ same. absurd (false≢true (sym f ∙ test.1 same)))
        ]

hits_in : (query : Query) (number : ℕ) (tree : Tree) → IsTree tree → (hits : List Hit) × AreHitsIn query number tree hits
hits_in query number tree is_tree =
    let (changes, of) = has_changes tree is_tree in
    let placements = some_list query tree.shape in
    let os = occurrences_in changes placements.0 in
    let hits = hits_to query number tree is_tree changes of placements.0 placements.1 os (occurrences_are_there changes placements.0) (length os) (omega arith) in (
      hits.0,
      record {
        changes = changes;
        are_changes = of;
        placements = placements.0;
        are_placements = placements.1;
        are_hits = subst (λ xs. AreHitsOf query number tree changes placements.0 xs hits.0) (take_all (length os) os (omega arith)) hits.1;
      },
    )

-- a game is asked for or not
pub asks-or-not : (query : Query) (filter : Filter) (tree : Tree) → AsksFor query filter tree ⊎ ¬ AsksFor query filter tree
asks-or-not query filter tree = elim (told_board query tree.shape) [
  | inr other ↦ inr (λ asks. other asks.0)
  | inl board ↦ elim (told_accepts filter tree.info) [
    | inl accepts ↦ inl (board, accepts)
    | inr refuses ↦ inr (λ asks. refuses asks.1)
  ]
]

game_hits : (query : Query) (filter : Filter) (number : ℕ) (tree : Tree) → IsTree tree → (hits : List Hit) × AreGameHits query filter number tree hits
game_hits query filter number tree is_tree = elim (asks-or-not query filter tree) [
  | inl asks ↦ let hits = hits_in query number tree is_tree in (hits.0, AreGameHits.asked asks hits.1)
  | inr not ↦ ([], AreGameHits.not_asked not)
]

-- games of trees have hits
pub hits-found : (first : ℕ) (query : Query) (filter : Filter) (games : List Game) → All (λ (g : Game). IsTree g.tree) games → (hits : List Hit) × AreHitsFrom first query filter games hits
hits-found first query filter [] trees = ([], AreHitsFrom.nothing)
hits-found first query filter (game ∷ games) trees =
    let one = game_hits query filter first game.tree (All-head (λ (g : Game). IsTree g.tree) game games trees) in
    let single : AreHitsFrom first query filter (game ∷ []) one.0 = AreHitsFrom.one_more game one.0 AreHitsFrom.nothing (subst (λ k. AreGameHits query filter k game.tree one.0) (sym (add-zero first)) one.1) in
    let rest = hits-found (first + 1) query filter games (All-tail (λ (g : Game). IsTree g.tree) game games trees) in
    (one.0 ++ rest.0, AreHitsFrom-append first query filter (game ∷ []) one.0 single games rest.0 rest.1)
