-- The lists of the games of a block, to which occurrences are added candidate by candidate and bit by bit.
use Rattle.std.proofs.Common.{◌≡◌, ◌≢◌, ℕ, inl, inr, ◌+◌, ◌<◌, ◌≤◌, ◌↔◌, ◌⊎◌, List, [], ◌∷◌, Some, Contains, get_or, length, slice_set, refl, sym, ap, ◌∙◌, subst, arith}
use Rattle.std.specs.Int.{bit_at}
use Rattle.std.specs.List.{slice_get}
use Rattle.std.proofs.lemmas.Bool.{cases_eq, cases_lt}
use Rattle.std.proofs.lemmas.List.{get_or-set_other, get_or-set_same, get_or_default}
use Rattle.std.proofs.lemmas.Option.{slice_get_within}
use Rattle.game_tree.specs.Tree.{Tree}
use Rattle.capture_board.specs.Deltas.{Deltas}
use Rattle.node_position.specs.Games.{AreNodeChanges, Game}
use Rattle.pattern_images.specs.Placements.{Placement}
use Rattle.pattern_occurrences.specs.declared.occurrence.Occurrence.{Occurrence}
use Rattle.candidate_sieve.specs.declared.candidates.Candidate.{Candidate}
use Rattle.run_matcher.specs.GoingOn.{occurrences_of}
use Rattle.run_matcher.specs.PlacementOccurrences.{IsOccurrenceOf}
use Rattle.run_matcher.specs.declared.begun.Begun.{Begun}
use Rattle.search_engine.specs.BlockCandidates.{IsNextBit, candidate_at}
use Rattle.search_engine.specs.Gathering.{AreGathered, IsOfCandidate, IsOfCandidates, begun_at, gathered_of}
use Rattle.search_engine.proofs.GamesSearched.{same_game}

-- ---- one list changes

module _ (lists : List (List Begun)) (at : ℕ) (one : List Begun) where
  pub begun-set_same : at < length lists → begun_at (slice_set lists at one) at ≡ one
  begun-set_same lt = get_or-set_same lists at one [] lt

  pub begun-set_other : (g : ℕ) → g ≢ at → begun_at (slice_set lists at one) g ≡ begun_at lists g
  begun-set_other g other = get_or-set_other lists at g one [] other

  pub begun-read : at < length lists → one ≡ get_or lists at one → one ≡ begun_at lists at
  begun-read lt is = is ∙ get_or_default lists at one [] lt

module _ (lists seen : List (List Begun)) (at : ℕ) (old new : List Begun) (shown : lists ≡ seen) (lt : at < length lists) (is : old ≡ get_or lists at old) where
  here : begun_at (slice_set lists at new) at ≡ new
  here = begun-set_same lists at new lt

  before : old ≡ begun_at seen at
  before = begun-read lists at old lt is ∙ ap (λ (ls : List (List Begun)). begun_at ls at) shown

  -- the list of one game gains the occurrences that its new list has more
  pub gains : (more : Occurrence → Type 0) → ((o : Occurrence) → Contains (occurrences_of new) o ↔ (Contains (occurrences_of old) o ⊎ more o))
      → (o : Occurrence) → Contains (gathered_of (slice_set lists at new) at) o ↔ (Contains (gathered_of seen at) o ⊎ more o)
  gains more added o =
      subst (λ (bs : List Begun). Contains (occurrences_of bs) o ↔ (Contains (gathered_of seen at) o ⊎ more o)) (sym here)
      (subst (λ (bs : List Begun). Contains (occurrences_of new) o ↔ (Contains (occurrences_of bs) o ⊎ more o)) before (added o))

  -- each that it gains is one of these
  pub gains-only : (more : Begun → Type 0) → ((b : Begun) → Contains new b → Contains old b ⊎ more b) → (b : Begun) → Contains (begun_at (slice_set lists at new) at) b → Contains (begun_at seen at) b ⊎ more b
  gains-only more added b h = elim (added b (subst (λ (bs : List Begun). Contains bs b) here h)) [
    | inl was ↦ inl (subst (λ (bs : List Begun). Contains bs b) before was)
    | inr told ↦ inr told
  ]

-- a list without an occurrence is empty
pub none-begun : (begun : List Begun) → occurrences_of begun ≡ [] → begun ≡ []
none-begun [] none = refl
none-begun (b ∷ begun) none = absurd (omega (arith, ap length none))

-- ---- what is added

module _ (games : List Game) (are : ℕ → Tree → Deltas → Occurrence → Type 0) where
  -- nothing, where nothing is to be added
  pub AreGathered-none : (lists : List (List Begun)) → ((g : ℕ) (tree : Tree) (changes : Deltas) (o : Occurrence) → are g tree changes o → ⊥) → AreGathered games are lists lists
  AreGathered-none lists none g game there changes of o = (λ h. inl h, λ h. elim h [ inl before ↦ before | inr more ↦ absurd (none g game.tree changes o more) ])

  -- the same in other words
  pub AreGathered-as : (same : ℕ → Tree → Deltas → Occurrence → Type 0) (old new : List (List Begun)) → ((g : ℕ) (game : Game) → slice_get games g ≡ Some game → (changes : Deltas) → AreNodeChanges game.tree changes → (o : Occurrence) → same g game.tree changes o ↔ are g game.tree changes o)
      → AreGathered games same old new → AreGathered games are old new
  AreGathered-as same old new told gathered g game there changes of o = (
    λ h. elim ((gathered g game there changes of o).0 h) [ inl before ↦ inl before | inr more ↦ inr ((told g game there changes of o).0 more) ],
    λ h. (gathered g game there changes of o).1 (elim h [ inl before ↦ inl before | inr more ↦ inr ((told g game there changes of o).1 more) ]),
  )

  -- in two parts
  pub AreGathered-more : (one other : ℕ → Tree → Deltas → Occurrence → Type 0) (old mid new : List (List Begun)) → ((g : ℕ) (tree : Tree) (changes : Deltas) (o : Occurrence) → are g tree changes o ↔ (one g tree changes o ⊎ other g tree changes o))
      → AreGathered games one old mid → AreGathered games other mid new → AreGathered games are old new
  AreGathered-more one other old mid new parts first second g game there changes of o = (
    λ h. elim ((second g game there changes of o).0 h) [
      | inl before ↦ elim ((first g game there changes of o).0 before) [ inl old ↦ inl old | inr a ↦ inr ((parts g game.tree changes o).1 (inl a)) ]
      | inr b ↦ inr ((parts g game.tree changes o).1 (inr b))
    ],
    λ h. (second g game there changes of o).1 (elim h [
      | inl old ↦ inl ((first g game there changes of o).1 (inl old))
      | inr more ↦ elim ((parts g game.tree changes o).0 more) [ inl a ↦ inl ((first g game there changes of o).1 (inr a)) | inr b ↦ inr b ]
    ]),
  )

-- ---- the games of one candidate

module _ (games : List Game) (placements : List Placement) (c : Candidate) (old : List (List Begun)) where
  pub of_candidate-start : AreGathered games (IsOfCandidate placements c 0) old old
  of_candidate-start = AreGathered-none games (IsOfCandidate placements c 0) old (λ g tree changes o h. omega (arith, h.0))

  -- the next game with a bit
  pub of_candidate-more : (from at : ℕ) (lists new : List (List Begun)) (game : Game) → slice_get games at ≡ Some game → IsNextBit c.games from at → AreGathered games (IsOfCandidate placements c from) old lists
      → ((changes : Deltas) → AreNodeChanges game.tree changes → (o : Occurrence) → Contains (gathered_of new at) o ↔ (Contains (gathered_of lists at) o ⊎ IsOccurrenceOf changes placements c.placement o))
      → ((g : ℕ) → g ≢ at → gathered_of new g ≡ gathered_of lists g) → AreGathered games (IsOfCandidate placements c (at + 1)) old new
  of_candidate-more from at lists new game place next so_far here others g other there changes of o = elim (cases_eq g at) [
    | inl same ↦
        let read : slice_get games at ≡ Some other = subst (λ (n : ℕ). slice_get games n ≡ Some other) same there in
        let is : game ≡ other = same_game games at game other place read in
        let step : Contains (gathered_of new g) o ↔ (Contains (gathered_of lists g) o ⊎ IsOccurrenceOf changes placements c.placement o) =
        subst (λ (n : ℕ). Contains (gathered_of new n) o ↔ (Contains (gathered_of lists n) o ⊎ IsOccurrenceOf changes placements c.placement o)) (sym same) (here changes (subst (λ (h : Game). AreNodeChanges h.tree changes) (sym is) of) o) in
        let before = so_far g other there changes of o in (
          λ h. elim (step.0 h) [
            | inl was ↦ elim (before.0 was) [ inl first ↦ inl first | inr more ↦ inr (omega (arith, same), more.1, more.2) ]
            | inr occurs ↦ inr (omega (arith, same), subst (λ (n : ℕ). bit_at c.games n ≡ 1) (sym same) next.set, occurs)
          ],
          λ h. step.1 (elim h [
            | inl first ↦ inl (before.1 (inl first))
            | inr more ↦ inr more.2
          ]),
        )
    | inr ne ↦
        let before = so_far g other there changes of o in (
          λ h. elim (before.0 (subst (λ (os : List Occurrence). Contains os o) (others g ne) h)) [
            | inl first ↦ inl first
            | inr more ↦ inr (omega (arith, more.0, next.from_on), more.1, more.2)
          ],
          λ h. subst (λ (os : List Occurrence). Contains os o) (sym (others g ne)) (before.1 (elim h [
            | inl first ↦ inl first
            | inr more ↦ elim (cases_lt g from) [
              | inl lt ↦ inr (lt, more.1, more.2)
              | inr ge ↦ absurd (omega (arith, more.1, next.first g ge (omega (arith, more.0, ne))))
            ]
          ])),
        )
  ]

  -- no other game has a bit
  pub of_candidate-all : (few : length games ≤ 64) (from : ℕ) (new : List (List Begun)) → ((g : ℕ) → from ≤ g → g < 64 → bit_at c.games g ≡ 0) → AreGathered games (IsOfCandidate placements c from) old new → AreGathered games (IsOfCandidate placements c 64) old new
  of_candidate-all few from new none so_far = AreGathered-as games (IsOfCandidate placements c 64) (IsOfCandidate placements c from) old new (λ g game there changes of o. (
    λ h. (omega (arith, few, slice_get_within games g game there), h.1, h.2),
    λ h. elim (cases_lt g from) [
      | inl lt ↦ (lt, h.1, h.2)
      | inr ge ↦ absurd (omega (arith, h.1, none g ge h.0))
    ],
  )) so_far

-- ---- one candidate after another

module _ (games : List Game) (placements : List Placement) (found : List Candidate) (old : List (List Begun)) where
  pub of_candidates-start : AreGathered games (IsOfCandidates placements found 0) old old
  of_candidates-start = AreGathered-none games (IsOfCandidates placements found 0) old (λ g tree changes o h. omega (arith, h.1))

  pub of_candidates-more : (few : length games ≤ 64) (k : ℕ) (c : Candidate) (lists new : List (List Begun)) → c ≡ candidate_at found k → AreGathered games (IsOfCandidates placements found k) old lists → AreGathered games (IsOfCandidate placements c 64) lists new → AreGathered games (IsOfCandidates placements found (k + 1)) old new
  of_candidates-more few k c lists new at so_far added g game there changes of o =
      let before = so_far g game there changes of o in
      let step = added g game there changes of o in (
        λ h. elim (step.0 h) [
          | inl was ↦ elim (before.0 was) [ inl first ↦ inl first | inr (j, lt, bit, occurs) ↦ inr (j, omega (arith, lt), bit, occurs) ]
          | inr (below, bit, occurs) ↦ inr (k, omega arith, subst (λ (d : Candidate). bit_at d.games g ≡ 1) at bit, subst (λ (d : Candidate). IsOccurrenceOf changes placements d.placement o) at occurs)
        ],
        λ h. step.1 (elim h [
          | inl first ↦ inl (before.1 (inl first))
          | inr (j, lt, bit, occurs) ↦ elim (cases_eq j k) [
            | inr ne ↦ inl (before.1 (inr (j, omega (arith, lt, ne), bit, occurs)))
            | inl same ↦
                let here : candidate_at found j ≡ c = ap (candidate_at found) same ∙ sym at in
                inr (omega (arith, few, slice_get_within games g game there), subst (λ (d : Candidate). bit_at d.games g ≡ 1) here bit, subst (λ (d : Candidate). IsOccurrenceOf changes placements d.placement o) here occurs)
          ]
        ]),
      )
