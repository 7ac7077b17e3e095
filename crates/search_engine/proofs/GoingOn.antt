-- What is gathered goes on to hold, as far as is known.
use Rattle.std.proofs.Common.{◌≡◌, ◌≢◌, ℕ, inl, inr, ◌⊎◌, List, [], Some, Contains, length, sym, ap, subst, arith}
use Rattle.std.specs.List.{slice_get}
use Rattle.std.proofs.lemmas.Bool.{cases_eq}
use Rattle.kb_geometry.specs.declared.shape.Shape.{Shape}
use Rattle.capture_board.specs.Deltas.{Deltas}
use Rattle.node_position.specs.Games.{AreNodeChanges, Game}
use Rattle.pattern_images.specs.declared.query.Query.{Query}
use Rattle.pattern_images.specs.Placements.{ArePlacements, Placement}
use Rattle.pattern_images.proofs.OneList.{one_list}
use Rattle.run_matcher.specs.GoingOn.{GoesOnToHold}
use Rattle.run_matcher.specs.declared.begun.Begun.{Begun}
use Rattle.search_engine.specs.Gathering.{AllGoOn, MoreGoOn, begun_at, gathered_of}
use Rattle.search_engine.proofs.GamesSearched.{same_game}
use Rattle.search_engine.proofs.GatheredLists.{none-begun}

-- where nothing is gathered
pub all-none : (query : Query) (games : List Game) (lists : List (List Begun)) → ((g : ℕ) → gathered_of lists g ≡ []) → AllGoOn query games lists
all-none query games lists none g game there changes placements of are b h = absurd (omega (arith, h.1, ap length (none-begun (begun_at lists g) (none g))))

module _ (games : List Game) (shape : Shape) (placements : List Placement) where
  pub more-none : (lists : List (List Begun)) → MoreGoOn games shape placements lists lists
  more-none lists g game there changes of b h = inl h

  -- one list after another
  pub more-then : (old mid new : List (List Begun)) → MoreGoOn games shape placements old mid → MoreGoOn games shape placements mid new → MoreGoOn games shape placements old new
  more-then old mid new first second g game there changes of b h = elim (second g game there changes of b h) [
    | inl was ↦ first g game there changes of b was
    | inr more ↦ inr more
  ]

  -- the list of one game
  pub more-at : (at : ℕ) (lists new : List (List Begun)) (game : Game) → slice_get games at ≡ Some game → game.tree.shape ≡ shape
      → ((changes : Deltas) → AreNodeChanges game.tree changes → (b : Begun) → Contains (begun_at new at) b → Contains (begun_at lists at) b ⊎ GoesOnToHold changes placements b)
      → ((g : ℕ) → g ≢ at → begun_at new g ≡ begun_at lists g) → MoreGoOn games shape placements lists new
  more-at at lists new game place on here others g other there changes of b h = elim (cases_eq g at) [
    | inl same ↦
        let read : slice_get games at ≡ Some other = subst (λ (n : ℕ). slice_get games n ≡ Some other) same there in
        let is : game ≡ other = same_game games at game other place read in
        elim (here changes (subst (λ (k : Game). AreNodeChanges k.tree changes) (sym is) of) b (subst (λ (n : ℕ). Contains (begun_at new n) b) same h)) [
          | inl was ↦ inl (subst (λ (n : ℕ). Contains (begun_at lists n) b) (sym same) was)
          | inr goes ↦ inr (subst (λ (k : Game). k.tree.shape ≡ shape) is on, goes)
        ]
    | inr ne ↦ inl (subst (λ (bs : List Begun). Contains bs b) (others g ne) h)
  ]

  -- the games on boards of the shape of the query's placements
  pub all-more : (query : Query) → ArePlacements query shape placements → (old new : List (List Begun)) → MoreGoOn games shape placements old new → AllGoOn query games old → AllGoOn query games new
  all-more query are old new more all g game there changes others of too b h = elim (more g game there changes of b h) [
    | inl was ↦ all g game there changes others of too b was
    | inr (same, goes) ↦
        subst (λ (ps : List Placement). GoesOnToHold changes ps b) (one_list query shape placements others are (subst (λ (s : Shape). ArePlacements query s others) same too)) goes
  ]
