-- The hits of one game tell of exactly the triples that a search finds in it, in order.
use Prim.Native.Nat.{zero}
use Rattle.std.proofs.Common.{◌≡◌, ◌↔◌, inl, inr, ℕ, suc, ◌<◌, List, [], ◌∷◌, ◌++◌, length, get_or, map, Option, Some, None, refl, sym, ap, ◌∙◌, subst, arith}
use Rattle.std.specs.Prelude.{AllPairs, Contains, IfSome}
use Rattle.core.specs.List.{AllZip}
use Rattle.std.proofs.lemmas.List.{get_or-map, get_or_append_left, get_or_default, get_or_push, length-map, length_push}
use Rattle.std.proofs.lemmas.List.Elements.{Contains-append_left, Contains-get_or, Contains-push, Contains-push_cases}
use Rattle.std.proofs.lemmas.List.Quantifiers.{all_pairs_push}
use Rattle.node_paths.proofs.Ancestors.{parent-lt}
use Rattle.kb_geometry.specs.Capture.{Position}
use Rattle.game_tree.specs.Tree as tree
use Rattle.game_tree.specs.Tree.{IsTree, Tree}
use Rattle.capture_board.specs.Deltas as deltas
use Rattle.capture_board.specs.Deltas.{Deltas}
use Rattle.node_position.specs.Games.{AreNodeChanges, Game}
use Rattle.node_position.proofs.OnePosition.{positions-unique}
use Rattle.pattern_images.specs.declared.hit.Hit.{Hit}
use Rattle.pattern_images.specs.declared.query.Query.{Query}
use Rattle.pattern_images.specs.Holds.{Holds}
use Rattle.pattern_images.specs.ImageList.{no_placement, placement_at}
use Rattle.pattern_images.specs.Placements.{ArePlacements, Placement}
use Rattle.pattern_images.proofs.OneList.{one_list}
use Rattle.info_filter.specs.declared.filter.Filter.{Filter}
use Rattle.pattern_occurrences.specs.declared.occurrence.Occurrence.{Occurrence}
use Rattle.pattern_occurrences.specs.Occurrences.{HoldsAt, Occurs, StandsBefore, occurrences_in}
use Rattle.pattern_occurrences.proofs.OccurrenceLaw.{occurrences-are, occurrences-ordered}
use Rattle.run_matcher.proofs.KeyLists.{map-member, member-map}
use Rattle.search_engine.specs.Hits.{AreGameHits, AreHitsOf, AsksFor, IsHit, LooksAt}
use Rattle.search_engine.specs.Triples.{BeginsToHold, IsFoundIn, IsTripleBefore, TellsOf, Triple}
use Rattle.search_engine.proofs.NumberedLists.{AreNext, next-none}

-- ---- pairs of a list with one element more
module _ {X : Type 0} (R : X → X → Type 0) (xs : List X) (x : X) (pairs : AllPairs R (xs ++ x ∷ [])) where
  pairs-before : AllPairs R xs
  pairs-before i j d less below =
      let one = get_or_append_left xs (x ∷ []) d i (omega arith) in
      let two = get_or_append_left xs (x ∷ []) d j below in
      subst (λ y. R y (get_or xs j d)) one (subst (R (get_or (xs ++ x ∷ []) i d)) two (pairs i j d less (omega (arith, length_push xs x))))

  pairs-last : (y : X) → Contains xs y → R y x
  pairs-last y (k, lt, is) =
      let one : get_or (xs ++ x ∷ []) k y ≡ y = get_or_append_left xs (x ∷ []) y k lt ∙ is in
      let two = get_or_push xs x y (length xs) refl in
      subst (λ z. R z x) one (subst (R (get_or (xs ++ x ∷ []) k y)) two (pairs k (length xs) y lt (omega (arith, length_push xs x))))

-- ---- lists one for one
pub zip-weaker : {A B : Type 0} (R S : A → B → Type 0) → ((a : A) (b : B) → R a b → S a b) → (xs : List A) (ys : List B) → AllZip R xs ys → AllZip S xs ys
zip-weaker R S f [] [] h = tt
zip-weaker R S f [] (y ∷ ys) h = absurd h
zip-weaker R S f (x ∷ xs) [] h = absurd h
zip-weaker R S f (x ∷ xs) (y ∷ ys) h = (f x y h.0, zip-weaker R S f xs ys h.1)

pub zip-append : {A B : Type 0} (R : A → B → Type 0) (xs : List A) (ys : List B) (vs : List A) (ws : List B) → AllZip R xs ys → AllZip R vs ws → AllZip R (xs ++ vs) (ys ++ ws)
zip-append R [] [] vs ws h more = more
zip-append R [] (y ∷ ys) vs ws h more = absurd h
zip-append R (x ∷ xs) [] vs ws h more = absurd h
zip-append R (x ∷ xs) (y ∷ ys) vs ws h more = (h.0, zip-append R xs ys vs ws h.1 more)

zip-push : {A B : Type 0} (R : A → B → Type 0) (xs : List A) (ys : List B) (x : A) (y : B) → AllZip R xs ys → R x y → AllZip R (xs ++ x ∷ []) (ys ++ y ∷ [])
zip-push R xs ys x y h r = zip-append R xs ys (x ∷ []) (y ∷ []) h (r, tt)

zip-mapped : {A B C : Type 0} (R : A → B → Type 0) (S : A → C → Type 0) (f : B → C) → ((a : A) (b : B) → R a b → S a (f b)) → (xs : List A) (ys : List B) → AllZip R xs ys → AllZip S xs (map f ys)
zip-mapped R S f g [] [] h = tt
zip-mapped R S f g [] (y ∷ ys) h = absurd h
zip-mapped R S f g (x ∷ xs) [] h = absurd h
zip-mapped R S f g (x ∷ xs) (y ∷ ys) h = (g x y h.0, zip-mapped R S f g xs ys h.1)

pub zip-length : {A B : Type 0} (R : A → B → Type 0) (xs : List A) (ys : List B) → AllZip R xs ys → length xs ≡ length ys
zip-length R [] [] h = refl
zip-length R [] (y ∷ ys) h = absurd h
zip-length R (x ∷ xs) [] h = absurd h
zip-length R (x ∷ xs) (y ∷ ys) h = ap suc (zip-length R xs ys h.1)

pub zip-at : {A B : Type 0} (R : A → B → Type 0) (xs : List A) (ys : List B) (k : ℕ) (a : A) (b : B) → AllZip R xs ys → k < length xs → R (get_or xs k a) (get_or ys k b)
zip-at R [] ys k a b h lt = absurd (omega (arith, lt))
zip-at R (x ∷ xs) [] k a b h lt = absurd h
zip-at R (x ∷ xs) (y ∷ ys) zero a b h lt = h.0
zip-at R (x ∷ xs) (y ∷ ys) (suc k) a b h lt = zip-at R xs ys k a b h.1 (omega (arith, lt))

-- ---- the occurrences at whose nodes the query looks
module _ (query : Query) (number : ℕ) (tree : Tree) (changes : Deltas) (placements : List Placement) where
  abbrev tells : Hit → Occurrence → Type 0
  tells hit o = IsHit number tree changes placements o hit

  record Kept (os : List Occurrence) (hits : List Hit) : Type 0 where
    kept : List Occurrence
    exactly : (o : Occurrence) → Contains kept o ↔ (Contains os o × LooksAt query tree o.node)
    ordered : AllPairs StandsBefore os → AllPairs StandsBefore kept
    told : AllZip tells hits kept

  kept-of : (os : List Occurrence) (hits : List Hit) → AreHitsOf query number tree changes placements os hits → Kept os hits
  kept-of _ _ AreHitsOf.nothing = record {
    kept = [];
    exactly = λ o. (λ h. absurd (omega (arith, h.1)), λ h. absurd (omega (arith, h.0.1)));
    ordered = λ pairs. pairs;
    told = tt;
  }
  kept-of _ _ (AreHitsOf.hit {occurrences = os} {hits = hs} o hit so_far looks is) =
      let b = kept-of os hs so_far in
      record {
        kept = b.kept ++ o ∷ [];
        exactly = λ p. (
          λ h. elim (Contains-push_cases b.kept o p h) [
            | inl old ↦ let both = (b.exactly p).0 old in (Contains-append_left os (o ∷ []) p both.0, both.1)
            | inr here ↦ (subst (Contains (os ++ o ∷ [])) here (Contains-push os o), subst (λ (q : Occurrence). LooksAt query tree q.node) here looks)
          ],
          λ h. elim (Contains-push_cases os o p h.0) [
            | inl old ↦ Contains-append_left b.kept (o ∷ []) p ((b.exactly p).1 (old, h.1))
            | inr here ↦ subst (Contains (b.kept ++ o ∷ [])) here (Contains-push b.kept o)
          ],
        );
        ordered = λ pairs.
            all_pairs_push StandsBefore b.kept o (b.ordered (pairs-before StandsBefore os o pairs))
            (λ k d lt. pairs-last StandsBefore os o pairs (get_or b.kept k d) ((b.exactly (get_or b.kept k d)).0 (Contains-get_or b.kept k d lt)).0);
        told = zip-push tells hs b.kept hit o b.told is;
      }
  kept-of _ _ (AreHitsOf.left_out {occurrences = os} {hits = hs} o so_far not) =
      let b = kept-of os hs so_far in
      record {
        kept = b.kept;
        exactly = λ p. (
          λ h. let both = (b.exactly p).0 h in (Contains-append_left os (o ∷ []) p both.0, both.1),
          λ h. elim (Contains-push_cases os o p h.0) [
            | inl old ↦ (b.exactly p).1 (old, h.1)
            | inr here ↦ absurd (not (subst (λ (q : Occurrence). LooksAt query tree q.node) (sym here) h.1))
          ],
        );
        ordered = λ pairs. b.ordered (pairs-before StandsBefore os o pairs);
        told = b.told;
      }

-- ---- where a placement begins to hold, by changes and by positions
module _ (game : Tree) (changes : Deltas) (of : AreNodeChanges game changes) (placement : Placement) where
  abbrev stands : ℕ → Type 0
  stands n = Holds game.shape (get_or of.positions n []) placement

  -- the positions are the same
  same_there : (n : ℕ) → n < tree.node_count game → HoldsAt changes placement n ↔ stands n
  same_there n lt =
      let shape = of.lead.same_shape in
      let position = of.lead.each_position n lt in (
        λ h. subst (λ s. Holds s (get_or of.positions n []) placement) shape (subst (λ p. Holds changes.shape p placement) position h),
        λ h. subst (λ p. Holds changes.shape p placement) (sym position) (subst (λ s. Holds s (get_or of.positions n []) placement) (sym shape) h),
      )

  not-to : (n : ℕ) → n < tree.node_count game → (parent : Option ℕ) → deltas.parent_of changes n ≡ parent → IfSome parent (λ m. ¬ HoldsAt changes placement m) → IfSome parent (λ m. ¬ stands m)
  not-to n lt None e none = tt
  not-to n lt (Some m) e none = λ h. none ((same_there m (omega (arith, lt, parent-lt of.net.parents n m e))).1 h)

  not-from : (n : ℕ) → n < tree.node_count game → (parent : Option ℕ) → deltas.parent_of changes n ≡ parent → IfSome parent (λ m. ¬ stands m) → IfSome parent (λ m. ¬ HoldsAt changes placement m)
  not-from n lt None e none = tt
  not-from n lt (Some m) e none = λ h. none ((same_there m (omega (arith, lt, parent-lt of.net.parents n m e))).0 h)

  pub begins-to : (n : ℕ) → n < tree.node_count game → HoldsAt changes placement n → IfSome (deltas.parent_of changes n) (λ m. ¬ HoldsAt changes placement m) → BeginsToHold game n placement
  begins-to n lt holds none = record {
    positions = of.positions;
    are_positions = of.are_positions;
    holds_there = (same_there n lt).0 holds;
    not_before = subst (λ parent. IfSome parent (λ m. ¬ stands m)) (of.lead.parents n lt) (not-to n lt (deltas.parent_of changes n) refl none);
  }

  pub begins-from : IsTree game → (n : ℕ) → n < tree.node_count game → BeginsToHold game n placement → HoldsAt changes placement n × IfSome (deltas.parent_of changes n) (λ m. ¬ HoldsAt changes placement m)
  begins-from is_tree n lt begins =
      let same : begins.positions ≡ of.positions = positions-unique game begins.positions of.positions is_tree begins.are_positions of.are_positions in
      let holds = subst (λ (ps : List Position). Holds game.shape (get_or ps n []) placement) same begins.holds_there in
      let none = subst (λ (ps : List Position). IfSome (tree.parent_of game n) (λ m. ¬ Holds game.shape (get_or ps m []) placement)) same begins.not_before in
      ((same_there n lt).1 holds, not-from n lt (deltas.parent_of changes n) refl (subst (λ parent. IfSome parent (λ m. ¬ stands m)) (sym (of.lead.parents n lt)) none))

-- ---- the triples of a game
abbrev pub game_of : Triple → ℕ
game_of t = t.game

abbrev pub found_there : Query → Filter → Game → Triple → Type 0
found_there query filter game t = IsFoundIn query filter game.tree t.node t.placement

module _ (query : Query) (filter : Filter) (number : ℕ) (game : Game) (is_tree : IsTree game.tree) where
  pub record GameTriples (hits : List Hit) : Type 0 where
    pub triples : List Triple
    pub are : AreNext game_of (found_there query filter) IsTripleBefore number game triples
    pub told : AllZip (λ (hit : Hit) (t : Triple). (t.game ≡ number) × TellsOf game.tree t hit) hits triples

  module _ (asks : AsksFor query filter game.tree) (changes : Deltas) (of : AreNodeChanges game.tree changes) (placements : List Placement) (are : ArePlacements query game.tree.shape placements) where
    abbrev triple : Occurrence → Triple
    triple o = record { game = number; node = o.node; placement = placement_at placements o.placement }

    abbrev none : Occurrence
    none = record { node = 0; placement = 0 }

    abbrev all : List Occurrence
    all = occurrences_in changes placements

    found-of : (o : Occurrence) → Contains all o → LooksAt query game.tree o.node → IsFoundIn query filter game.tree o.node (placement_at placements o.placement)
    found-of o here looks =
        let occurs = (occurrences-are changes placements o).0 here in
        let lt : o.node < tree.node_count game.tree = omega (arith, occurs.node_there, of.lead.each_node) in
        record {
          asked = asks;
          node_there = lt;
          looks = looks;
          placed = record { placements = placements; are_placements = are; is_one = Contains-get_or placements o.placement no_placement occurs.placement_there };
          begins = begins-to game.tree changes of (placement_at placements o.placement) o.node lt occurs.holds_there occurs.not_before;
        }

    of-found : (n : ℕ) (placement : Placement) → IsFoundIn query filter game.tree n placement → (o : Occurrence) × Contains all o × (o.node ≡ n) × (placement_at placements o.placement ≡ placement)
    of-found n placement found =
        let same = one_list query game.tree.shape found.placed.placements placements found.placed.are_placements are in
        let member = subst (λ (ps : List Placement). Contains ps placement) same found.placed.is_one in
        let i = member.0 in
        let is : placement_at placements i ≡ placement = get_or_default placements i no_placement placement member.1 ∙ member.2 in
        let o : Occurrence = record { node = n; placement = i } in
        let begins = begins-from game.tree changes of placement is_tree n found.node_there found.begins in
        let occurs : Occurs changes placements o = record {
          node_there = omega (arith, found.node_there, of.lead.each_node);
          placement_there = member.1;
          holds_there = subst (λ p. HoldsAt changes p n) (sym is) begins.0;
          not_before = subst (λ p. IfSome (deltas.parent_of changes n) (λ m. ¬ HoldsAt changes p m)) (sym is) begins.1;
        } in
        (o, (occurrences-are changes placements o).1 occurs, refl, is)

    before-of : (a b : Occurrence) → a.placement < length placements → b.placement < length placements → StandsBefore a b → IsTripleBefore (triple a) (triple b)
    before-of a b in_a in_b (inl node) = inr (refl, inl node)
    before-of a b in_a in_b (inr (node, placement)) = inr (refl, inr (node, are.ordered a.placement b.placement no_placement placement in_b))

    asked-triples : (hits : List Hit) → AreHitsOf query number game.tree changes placements all hits → GameTriples hits
    asked-triples hits have =
        let k = kept-of query number game.tree changes placements all hits have in
        let there : (o : Occurrence) → Contains k.kept o → o.placement < length placements = λ o h. ((occurrences-are changes placements o).0 ((k.exactly o).0 h).0).placement_there in
        let pairs = k.ordered (occurrences-ordered changes placements) in
        record {
          triples = map triple k.kept;
          are = record {
            exactly = λ t. (
              λ h.
                  let (o, in_kept, is) = map-member triple none k.kept t h in
                  let both = (k.exactly o).0 in_kept in
                  (ap (λ (u : Triple). u.game) (sym is), subst (λ (u : Triple). found_there query filter game u) is (found-of o both.0 both.1)),
              λ h.
                  let (o, in_all, node, placed) = of-found t.node t.placement h.1 in
                  let looks = subst (LooksAt query game.tree) (sym node) h.1.looks in
                  let is : triple o ≡ t = λ i. record { game = sym h.0 i; node = node i; placement = placed i } in
                  subst (Contains (map triple k.kept)) is (member-map triple none k.kept o ((k.exactly o).1 (in_all, looks))),
            );
            ordered = λ i j d less below.
                let within : j < length k.kept = omega (arith, below, length-map k.kept triple) in
                let a = get_or k.kept i none in
                let b = get_or k.kept j none in
                let one = get_or-map triple k.kept i none d (omega (arith, less, within)) in
                let two = get_or-map triple k.kept j none d within in
                let is = before-of a b (there a (Contains-get_or k.kept i none (omega (arith, less, within)))) (there b (Contains-get_or k.kept j none within)) (pairs i j none less within) in
                subst (λ (u : Triple). IsTripleBefore u (get_or (map triple k.kept) j d)) (sym one) (subst (IsTripleBefore (triple a)) (sym two) is);
          };
          told = zip-mapped (tells query number game.tree changes placements) (λ (hit : Hit) (t : Triple). (t.game ≡ number) × TellsOf game.tree t hit) triple
              (λ hit o is. (refl, record { game = is.game; node = is.node; place = is.place; moves = is.moves; outcome = is.outcome; changes = changes; are_changes = of; next = is.next })) hits k.kept k.told;
        }

  pub game-triples : (hits : List Hit) → AreGameHits query filter number game.tree hits → GameTriples hits
  game-triples hits (AreGameHits.asked asks have) = asked-triples asks have.changes have.are_changes have.placements have.are_placements hits have.are_hits
  game-triples _ (AreGameHits.not_asked not) = record {
    triples = [];
    are = next-none game_of (found_there query filter) IsTripleBefore number game (λ t found. not found.asked);
    told = tt;
  }
