-- The occurrences in a game, which its list has, and what follows where there is none.
use Rattle.std.proofs.Common.{◌≡◌, ℕ, Bool, true, false, inl, inr, not, ◌<◌, ◌↔◌, List, [], ◌∷◌, Option, Some, None, Contains, length, refl, sym, ap, ◌∙◌, subst, arith}
use Rattle.std.specs.Option.{option_map_or}
use Rattle.std.specs.Prelude.{IfSome, IsTrue}
use Rattle.kb_geometry.specs.declared.shape.Shape.{Shape}
use Rattle.std.proofs.lemmas.Bool.{and_from, and_parts, false≢true, false_from_ne_true}
use Rattle.kb_geometry.proofs.Lists.{Contains-first}
use Rattle.game_tree.specs.Tree as tree
use Rattle.capture_board.specs.Deltas.{Deltas, node_count, parent_of, position_at}
use Rattle.node_position.specs.Games.{AreNodeChanges}
use Rattle.pattern_images.specs.declared.hit.Hit.{Hit}
use Rattle.pattern_images.specs.declared.query.Query.{Query}
use Rattle.pattern_images.specs.ImageList.{placement_at}
use Rattle.pattern_images.specs.Placements.{ArePlacements, Placement}
use Rattle.pattern_images.proofs.Existence.{some_list}
use Rattle.pattern_images.proofs.OneList.{one_list}
use Rattle.info_filter.specs.declared.filter.Filter.{Filter}
use Rattle.info_filter.specs.Filter.{Accepts}
use Rattle.pattern_occurrences.specs.declared.occurrence.Occurrence.{Occurrence}
use Rattle.pattern_occurrences.specs.Occurrences.{HoldsAt, Occurs, begins_at, holds_at, occurrences_in}
use Rattle.pattern_occurrences.proofs.HoldsLaw.{holds-decides}
use Rattle.pattern_occurrences.proofs.OccurrenceLaw.{occurrences-are}
use Rattle.candidate_sieve.proofs.OccurrencesKept.{occurs-kept}
use Rattle.search_engine.specs.Gathering.{HasOccurrences}
use Rattle.search_engine.specs.Hits.{AreGameHits, AreHitsOf}
use Rattle.search_engine.specs.KeptGames.{IsKeptGame}
use Rattle.search_engine.specs.Searching.{AreHitsAdded, IsCovered}
use Rattle.search_engine.proofs.AddedHits.{AreHitsAdded-none}
use Rattle.search_engine.proofs.HitsExist.{asks-or-not}

-- a list without a member
none_in : {X : Type 0} (xs : List X) → ((x : X) → Contains xs x → ⊥) → xs ≡ []
none_in [] none = refl
none_in (x ∷ xs) none = absurd (none x (Contains-first x xs))

-- a member of a list that isn't empty
some_in : {X : Type 0} (xs : List X) → ¬ (xs ≡ []) → (x : X) × Contains xs x
some_in [] some = absurd (some refl)
some_in (x ∷ xs) some = (x, Contains-first x xs)

module _ (changes : Deltas) (placements : List Placement) where
  abbrev placed : ℕ → Placement
  placed i = placement_at placements i

  not_at : (i : ℕ) (parent : Option ℕ) → not (option_map_or (holds_at changes (placed i)) parent false) ≡ true → IfSome parent (λ m. ¬ HoldsAt changes (placed i) m)
  not_at i None t = tt
  not_at i (Some m) t = λ held. false≢true (sym (ap not ((holds-decides changes.shape (position_at changes m) (placed i)).1 held)) ∙ t)

  at_none : (i : ℕ) (parent : Option ℕ) → IfSome parent (λ m. ¬ HoldsAt changes (placed i) m) → not (option_map_or (holds_at changes (placed i)) parent false) ≡ true
  at_none i None none = refl
  at_none i (Some m) none = ap not (false_from_ne_true (holds_at changes (placed i) m) (λ t. none ((holds-decides changes.shape (position_at changes m) (placed i)).0 t)))

  -- what begins to hold at a node occurs there
  pub begins-occurs : (o : Occurrence) (i : ℕ) → o.placement ≡ i → o.node < node_count changes → i < length placements → begins_at changes (placed i) o.node ≡ true → Occurs changes placements o
  begins-occurs o i is node in_list t =
      let there : begins_at changes (placed o.placement) o.node ≡ true = subst (λ k. begins_at changes (placed k) o.node ≡ true) (sym is) t in
      let parts = and_parts (holds_at changes (placed o.placement) o.node) (not (option_map_or (holds_at changes (placed o.placement)) (parent_of changes o.node) false)) there in
      record {
        node_there = node;
        placement_there = omega (arith, is, in_list);
        holds_there = (holds-decides changes.shape (position_at changes o.node) (placed o.placement)).0 parts.0;
        not_before = not_at o.placement (parent_of changes o.node) parts.1;
      }

  pub occurs-begins : (o : Occurrence) (i : ℕ) → o.placement ≡ i → Occurs changes placements o → begins_at changes (placed i) o.node ≡ true
  occurs-begins o i is occurs =
      let holds = (holds-decides changes.shape (position_at changes o.node) (placed o.placement)).1 occurs.holds_there in
      let before = not (option_map_or (holds_at changes (placed o.placement)) (parent_of changes o.node) false) in
      subst (λ k. begins_at changes (placed k) o.node ≡ true) is
      (and_from (holds_at changes (placed o.placement) o.node) before holds (at_none o.placement (parent_of changes o.node) occurs.not_before))

-- ---- the list of a game

module _ (query : Query) (filter : Filter) (shapes : List Shape) (game : tree.Tree) (gathered : List Occurrence) (has : HasOccurrences query filter shapes game gathered) (changes : Deltas) (of : AreNodeChanges game changes) where
  -- a game in whose list is an occurrence was asked for, on a board on which the query looks
  pub asked_with_some : (test : Bool) → (IsTrue test ↔ (gathered ≡ [])) → test ≡ false → Accepts filter game.info × Contains shapes game.shape
  asked_with_some test told is = let some = some_in gathered (λ none. false≢true (sym is ∙ told.1 none)) in let h = (has changes of some.0).0 some.1 in (h.0, h.1)

  -- and it is kept for the query
  pub kept_with_some : (test : Bool) → (IsTrue test ↔ (gathered ≡ [])) → test ≡ false → IsKeptGame query game
  kept_with_some test told is =
      let some = some_in gathered (λ none. false≢true (sym is ∙ told.1 none)) in
      let occurs = ((has changes of some.0).0 some.1).2 in
      let placements = some_list query game.shape in
      record {
        changes = changes;
        are_changes = of;
        placements = placements.0;
        are_placements = placements.1;
        kept = occurs-kept changes placements.0 some.0 ((occurrences-are changes placements.0 some.0).0 (occurs placements.0 placements.1));
      }

  -- the list has the occurrences of a game that was asked for
  pub has_exactly : Accepts filter game.info → Contains shapes game.shape → (placements : List Placement) → ArePlacements query game.shape placements → (o : Occurrence) → Contains gathered o ↔ Contains (occurrences_in changes placements) o
  has_exactly accepts there placements are o = (
    λ h. ((has changes of o).0 h).2 placements are,
    λ h. (has changes of o).1 (accepts, there, λ ps too. subst (λ (qs : List Placement). Contains (occurrences_in changes qs) o) (one_list query game.shape placements ps are too) h),
  )

-- a game without an occurrence has no hit, if its shape is covered
pub no_hits : (query : Query) (filter : Filter) (shapes : List Shape) (number : ℕ) (game : tree.Tree) (gathered : List Occurrence) → HasOccurrences query filter shapes game gathered → (changes : Deltas) → AreNodeChanges game changes → gathered ≡ [] → IsCovered query shapes game.shape
    → (hits : List Hit) → AreHitsAdded (AreGameHits query filter number game) hits hits
no_hits query filter shapes number game gathered has changes of none covered hits =
    AreHitsAdded-none (AreGameHits query filter number game) hits (elim (asks-or-not query filter game) [
      | inr not ↦ AreGameHits.not_asked not
      | inl asks ↦
          let placements = some_list query game.shape in
          let exactly = has_exactly query filter shapes game gathered has changes of asks.1 (covered asks.0) placements.0 placements.1 in
          let empty = none_in (occurrences_in changes placements.0) (λ o is_in. let h = (exactly o).1 is_in in omega (arith, h.1, ap length none)) in
          AreGameHits.asked asks (record {
            changes = changes;
            are_changes = of;
            placements = placements.0;
            are_placements = placements.1;
            are_hits = subst (λ os. AreHitsOf query number game changes placements.0 os []) (sym empty) AreHitsOf.nothing;
          })
    ])
