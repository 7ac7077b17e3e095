-- The occurrences in the games of a block, one shape of boards after another.
use Rattle.std.proofs.Common.{◌≡◌, ℕ, inl, inr, ◌+◌, ◌<◌, ◌≤◌, List, [], ◌++◌, None, Option, Some, Contains, get_or, length, map, refl, sym, ap, ◌∙◌, subst, arith}
use Rattle.std.specs.Borrow.{Bor}
use Rattle.std.specs.Int.{bit_at}
use Rattle.std.specs.List.{slice_get}
use Rattle.std.specs.Prelude.{Any}
use Rattle.std.proofs.lemmas.Bool.{cases_eq, cases_lt}
use Rattle.std.proofs.lemmas.List.{get_or_default, get_or_past, get_or-map, length-map}
use Rattle.std.proofs.lemmas.List.Elements.{All-contains, Contains-get_or}
use Rattle.std.proofs.lemmas.Option.{get_or_from_slice_get, slice_get_within}
use Rattle.kb_geometry.specs.declared.shape.Shape.{Shape}
use Rattle.game_tree.specs.Tree.{Tree}
use Rattle.capture_board.specs.Deltas.{Deltas}
use Rattle.node_position.specs.Games.{AreNodeChanges, Game}
use Rattle.pattern_images.specs.declared.query.Query.{Query}
use Rattle.pattern_images.specs.ImageList.{ImageList, IsPlacedOn, no_placement, placement_at}
use Rattle.pattern_images.specs.Placements.{ArePlacements, Placement}
use Rattle.pattern_images.proofs.OneList.{one_list}
use Rattle.pattern_images.proofs.PlacedOn.{IsPlacedOn-result}
use Rattle.info_filter.specs.declared.filter.Filter.{Filter}
use Rattle.pattern_occurrences.specs.declared.occurrence.Occurrence.{Occurrence}
use Rattle.pattern_occurrences.specs.Occurrences.{occurrences_in}
use Rattle.pattern_occurrences.proofs.OccurrenceLaw.{occurrences-are}
use Rattle.final_index.specs.Order.{OrderGames}
use Rattle.final_index.specs.Planes.{PlaneGames}
use Rattle.run_matcher.specs.declared.begun.Begun.{Begun}
use Rattle.ready_images.specs.Prepared.{IsPreparedAs}
use Rattle.candidate_sieve.specs.declared.candidates.Candidate.{Candidate}
use Rattle.candidate_sieve.specs.Candidates.{AreCandidates, AreCandidatesAdded, IsPossibleIn, MeetsCells}
use Rattle.candidate_sieve.specs.Ordered.{MayStand}
use Rattle.candidate_sieve.proofs.CellsTold.{holds-were}
use Rattle.segment_store.specs.Planes.{ArePlanesOf, ArePlanesOn, IsGameOfPlanes}
use Rattle.search_engine.specs.BlockCandidates.{AreAccepted, candidate_at, no_candidate}
use Rattle.search_engine.specs.Gathering.{AreGathered, AreOnBoards, HaveOccurrences, IsOfCandidates, IsOnPlanes, IsOnShape, gathered_of}
use Rattle.search_engine.proofs.GamesSearched.{some_there}
use Rattle.search_engine.proofs.GatheredLists.{AreGathered-as, AreGathered-more, AreGathered-none}
use Rattle.search_engine.proofs.Gathering.{begins-occurs, occurs-begins}
use Rattle.search_engine.proofs.OrderedGames.{IsOrderOn, may_stand}
use Rattle.search_engine.proofs.PossibleGames.{not_none, on_shape_where_there, possible_where_allowed}

-- candidates that are added to none are all
pub only_candidates : (p : PlaneGames) (order : Option (Bor OrderGames)) (among : ℕ) (images : ImageList) (old new found : List Candidate) → old ≡ [] → found ≡ new → AreCandidatesAdded p order images among old new → AreCandidates p order images among found
only_candidates p order among images old new found none read added =
    let is : found ≡ added.more = read ∙ added.added ∙ ap (λ (cs : List Candidate). cs ++ added.more) none in
    subst (λ (cs : List Candidate). AreCandidates p order images among cs) (sym is) added.are

-- a candidate that is contained is one of its game
candidate_is : (found : List Candidate) (c : Candidate) (g : ℕ) → Contains found c → bit_at c.games g ≡ 1 → Any (λ (d : Candidate). (d.placement ≡ c.placement) × (bit_at d.games g ≡ 1)) found
candidate_is found c g (k, lt, at) bit = (k, c, lt, at, (refl, bit))

-- ---- the games on boards of one shape

module _ (query : Query) (games : List Game) (few : length games ≤ 64) (among : ℕ) (p : PlaneGames) (on : ArePlanesOn games p) (order : Option (Bor OrderGames)) (ordered : IsOrderOn games p.shape order) (images : ImageList) (same_shape : images.shape ≡ p.shape) (are : ArePlacements query p.shape images.placements) (found : List Candidate) (candidates : AreCandidates p order images among found) where
  abbrev placements : List Placement
  placements = images.placements

  -- what the planes have for a game
  told : (g : ℕ) (game : Game) → slice_get games g ≡ Some game → IsGameOfPlanes p.shape game.tree (get_or p.games g None)
  told g game there = subst (λ (h : Game). IsGameOfPlanes p.shape h.tree (get_or p.games g None)) (get_or_from_slice_get games g game game there) (on.1 g game (slice_get_within games g game there))

  pub prepared : (c : Candidate) → Contains found c → IsPreparedAs images c.placement c.base c.class
  prepared c there = All-contains (λ (d : Candidate). IsPreparedAs images d.placement d.base d.class) found c candidates.prepared there

  in_list : (c : Candidate) → Contains found c → c.placement < length placements
  in_list c there = (prepared c there).in_range

  -- the sets of a game meet the placement of a candidate that has a bit for it
  possible : (c : Candidate) (g : ℕ) → Contains found c → g < 64 → bit_at c.games g ≡ 1 → (bit_at among g ≡ 1) × IsPossibleIn p g (placement_at placements c.placement)
  possible c g there below bit = candidates.sound c.placement g (in_list c there) below (candidate_is found c g there bit)

  shape_of : (c : Candidate) (g : ℕ) (game : Game) → slice_get games g ≡ Some game → Contains found c → bit_at c.games g ≡ 1 → game.tree.shape ≡ p.shape
  shape_of c g game at there bit =
      let here = possible c g there (omega (arith, few, slice_get_within games g game at)) bit in
      on_shape_where_there p.shape game.tree (get_or p.games g None) (told g game at)
      (not_none (get_or p.games g None) (λ sets. MeetsCells p.shape sets (placement_at placements c.placement)) here.1)

  pub on_boards : (c : Candidate) → Contains found c → AreOnBoards games p.shape c
  on_boards c there g below bit =
      let here = possible c g there below bit in
      let some = not_none (get_or p.games g None) (λ sets. MeetsCells p.shape sets (placement_at placements c.placement)) here.1 in
      let lt : g < length games = elim (cases_lt g (length games)) [
        | inl lt ↦ lt
        | inr ge ↦ absurd (some (get_or_past p.games g None (omega (arith, ge, on.0))))
      ] in
      let (game, at) = some_there games g lt in
      (game, at, shape_of c g game at there bit)

  module _ (shapes : List Shape) (covered : Contains shapes p.shape) where
    abbrev here : ℕ → Tree → Deltas → Occurrence → Type 0
    here = IsOnShape query shapes among p.shape

    -- an occurrence of a candidate's placement is one in the game
    sound : (g : ℕ) (game : Game) → slice_get games g ≡ Some game → (changes : Deltas) → AreNodeChanges game.tree changes → (o : Occurrence) → IsOfCandidates placements found (length found) g game.tree changes o → here g game.tree changes o
    sound g game at changes of o (j, lt, bit, (is, node, begins)) =
        let c = candidate_at found j in
        let there : Contains found c = Contains-get_or found j no_candidate lt in
        let same = shape_of c g game at there bit in
        let occurs = (occurrences-are changes placements o).1 (begins-occurs changes placements o c.placement is node (in_list c there) begins) in (
          (possible c g there (omega (arith, few, slice_get_within games g game at)) bit).0,
          same,
          subst (Contains shapes) (sym same) covered,
          λ ps too. subst (λ (qs : List Placement). Contains (occurrences_in changes qs) o) (one_list query p.shape placements ps are (subst (λ (s : Shape). ArePlacements query s ps) same too)) occurs,
        )

    -- and each of them is one of some candidate's placement
    complete : (g : ℕ) (game : Game) → slice_get games g ≡ Some game → (changes : Deltas) → AreNodeChanges game.tree changes → (o : Occurrence) → here g game.tree changes o → IsOfCandidates placements found (length found) g game.tree changes o
    complete g game at changes of o (bit, same, there, occurs) =
        let on_board = subst (λ (s : Shape). ArePlacements query s placements) (sym same) are in
        let is = (occurrences-are changes placements o).0 (occurs placements on_board) in
        let placement = placement_at placements o.placement in
        let placed : IsPlacedOn game.tree.shape placement = IsPlacedOn-result query game.tree.shape placement (on_board.sound o.placement no_placement is.placement_there) in
        let meets = possible_where_allowed p.shape game.tree (get_or p.games g None) (told g game at) same changes of placement placed (holds-were changes placement o.node is.node_there is.holds_there) in
        let stands = subst (λ (s : Shape). MayStand order g s placement) (sym same_shape) (may_stand games p.shape order ordered g game at same changes of placement placed o.node is.node_there is.holds_there) in
        let (j, c, lt, read, (number, has)) = candidates.complete o.placement g is.placement_there (omega (arith, few, slice_get_within games g game at)) bit meets stands in
        let at_j : candidate_at found j ≡ c = get_or_default found j no_candidate c lt ∙ read in
        let placement_is : o.placement ≡ (candidate_at found j).placement = sym number ∙ ap (λ (d : Candidate). d.placement) (sym at_j) in
        (j, lt, ap (λ (d : Candidate). bit_at d.games g) at_j ∙ has, (placement_is, is.node_there, occurs-begins changes placements o (candidate_at found j).placement placement_is is))

    pub on_shape : (old new : List (List Begun)) → AreGathered games (IsOfCandidates placements found (length found)) old new → AreGathered games here old new
    on_shape old new gathered = AreGathered-as games here (IsOfCandidates placements found (length found)) old new (λ g game at changes of o. (sound g game at changes of o, complete g game at changes of o)) gathered

-- where the query doesn't look on boards of the shape nothing is added
pub not_on_shape : (query : Query) (shapes : List Shape) (games : List Game) (among : ℕ) (shape : Shape) (lists : List (List Begun)) → ¬ Contains shapes shape → AreGathered games (IsOnShape query shapes among shape) lists lists
not_on_shape query shapes games among shape lists none = AreGathered-none games (IsOnShape query shapes among shape) lists (λ g tree changes o h. none (subst (Contains shapes) h.1 h.2))

-- ---- one shape after another

module _ (query : Query) (shapes : List Shape) (games : List Game) (among : ℕ) (planes : List PlaneGames) where
  pub on_planes-start : (lists : List (List Begun)) → ((g : ℕ) → gathered_of lists g ≡ []) → AreGathered games (IsOnPlanes query shapes among planes 0) [] lists
  on_planes-start lists none g game there changes of o = (
    λ h. absurd (omega (arith, h.1, ap length (none g))),
    λ h. elim h [ inl before ↦ absurd (omega (arith, before.1)) | inr is ↦ absurd (omega (arith, is.2)) ],
  )

  pub on_planes-more : (k : ℕ) (p : PlaneGames) (mid new : List (List Begun)) → k < length planes → p ≡ get_or planes k p → AreGathered games (IsOnPlanes query shapes among planes k) [] mid → AreGathered games (IsOnShape query shapes among p.shape) mid new → AreGathered games (IsOnPlanes query shapes among planes (k + 1)) [] new
  on_planes-more k p mid new lt at so_far added =
      AreGathered-more games (IsOnPlanes query shapes among planes (k + 1)) (IsOnPlanes query shapes among planes k) (IsOnShape query shapes among p.shape) [] mid new (λ g tree changes o. (
        λ (j, q, less, read, h). elim (cases_eq j k) [
          | inr ne ↦ inl (j, q, omega (arith, less, ne), read, h)
          | inl same ↦
              let is : q ≡ p = sym read ∙ ap (λ (n : ℕ). get_or planes n q) same ∙ get_or_default planes k q p lt ∙ sym at in
              inr (subst (λ (r : PlaneGames). IsOnShape query shapes among r.shape g tree changes o) is h)
        ],
        λ h. elim h [
          | inl (j, q, less, read, is) ↦ (j, q, omega (arith, less), read, is)
          | inr is ↦ (k, p, omega arith, sym at, is)
        ],
      )) so_far added

  -- each game's board has the shape of some planes
  module _ (k : ℕ) (le : length planes ≤ k) (are : ArePlanesOf games planes) where
    planes_of : (g : ℕ) (game : Game) → slice_get games g ≡ Some game → (j : ℕ) × (p : PlaneGames) × (j < k) × (get_or planes j p ≡ p) × (game.tree.shape ≡ p.shape)
    planes_of g game there =
        let within = slice_get_within games g game there in
        let read = get_or_from_slice_get games g game game there in
        let shape = λ (h : Game). h.tree.shape in
        let in_games : Contains (map (λ (h : Game). h.tree.shape) games) game.tree.shape = (g, omega (arith, within, length-map games (λ (h : Game). h.tree.shape)), get_or-map (λ (h : Game). h.tree.shape) games g game game.tree.shape within ∙ ap (λ (h : Game). h.tree.shape) read) in
        let (j, lt, at) = (are.shapes game.tree.shape).1 in_games in
        let inside : j < length planes = omega (arith, lt, length-map planes (λ (q : PlaneGames). q.shape)) in
        let none : PlaneGames = record { shape = game.tree.shape; games = [] } in
        let p = get_or planes j none in
        (j, p, omega (arith, inside, le), get_or_default planes j p none inside, sym at ∙ get_or-map (λ (q : PlaneGames). q.shape) planes j none game.tree.shape inside)

    pub on_planes-all : length games ≤ 64 → (filter : Filter) (skip : ℕ) (new : List (List Begun)) → AreAccepted filter skip games among → AreGathered games (IsOnPlanes query shapes among planes k) [] new → HaveOccurrences query filter shapes skip games new
    on_planes-all few filter skip new accepted gathered g game low there changes of o =
        let below : g < 64 = omega (arith, few, slice_get_within games g game there) in (
          λ h. elim ((gathered g game there changes of o).0 h) [
            | inl before ↦ absurd (omega (arith, before.1))
            | inr (j, p, lt, read, (bit, same, shape_there, occurs)) ↦ ((accepted g game low below there).0 bit, shape_there, occurs)
          ],
          λ (accepts, shape_there, occurs).
              let (j, p, lt, read, same) = planes_of g game there in
              (gathered g game there changes of o).1 (inr (j, p, lt, read, ((accepted g game low below there).1 accepts, same, shape_there, occurs))),
        )
