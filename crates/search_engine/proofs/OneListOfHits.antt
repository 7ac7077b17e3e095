-- Games have one list of hits only.
use Rattle.std.proofs.Common.{◌≡◌, ℕ, suc, ◌+◌, ◌<◌, List, [], ◌∷◌, ◌++◌, length, Option, Some, None, refl, sym, ap, ◌∙◌, subst, arith}
use Rattle.std.specs.Prelude.{All}
use Rattle.std.proofs.Math.Bridge.{le_prop}
use Rattle.std.proofs.lemmas.List.Elements.{All-cons}
use Rattle.kb_geometry.specs.declared.symmetry.Label.{Label}
use Rattle.game_tree.specs.Tree.{IsTree, Tree}
use Rattle.capture_board.specs.Deltas.{Deltas}
use Rattle.node_position.specs.Games.{Game}
use Rattle.node_position.specs.Positions.{AreDeltasOf}
use Rattle.node_position.proofs.OneChange.{changes-unique}
use Rattle.node_position.proofs.OnePosition.{positions-unique}
use Rattle.pattern_images.specs.declared.hit.Hit.{Hit}
use Rattle.pattern_images.specs.declared.hit.Next.{Next}
use Rattle.pattern_images.specs.declared.hit.Place.{Place}
use Rattle.pattern_images.specs.declared.query.Query.{Query}
use Rattle.info_filter.specs.declared.filter.Filter.{Filter}
use Rattle.pattern_images.specs.ImageList.{IsPlaceOf, placement_at}
use Rattle.pattern_images.specs.Placements.{Placement}
use Rattle.pattern_images.proofs.OneList.{one_list}
use Rattle.continuation_table.proofs.OneContinuation.{one_continuation}
use Rattle.pattern_occurrences.specs.declared.occurrence.Occurrence.{Occurrence}
use Rattle.pattern_occurrences.specs.Occurrences.{occurrences_in}
use Rattle.kb_geometry.proofs.Lists.{push_not_nil, push_same}
use Rattle.search_engine.specs.Hits.{AreGameHits, AreHitsFrom, AreHitsIn, AreHitsOf, GoesOn, IsHit, LooksAt}

-- ---- the hit of an occurrence

same_label : (a b : Label) → a.number ≡ b.number → a ≡ b
same_label a b e =
    let single : IsProp (a.number < 16) = hlevel (le_prop) in
    subst (λ (n : ℕ). (small : n < 16) → a ≡ record { number = n; in_range = small }) e
    (λ small. ap (λ (own : a.number < 16). record { number = a.number; in_range = own }) (single a.in_range small))
    b.in_range

pub same_place : (placement : Placement) (a b : Place) → IsPlaceOf placement a → IsPlaceOf placement b → a ≡ b
same_place placement a b one other =
    let label = same_label a.label b.label (one.label ∙ sym other.label) in
    λ i. record {
      x = (one.column ∙ sym other.column) i;
      y = (one.row ∙ sym other.row) i;
      cols = (one.columns ∙ sym other.columns) i;
      rows = (one.rows ∙ sym other.rows) i;
      label = label i;
    }

pub same_next : (tree : Tree) (changes : Deltas) (placement : Placement) (n : ℕ) (a b : Option Next) → GoesOn tree changes placement n a → GoesOn tree changes placement n b → a ≡ b
same_next tree changes placement n (Some a) (Some b) one other = ap (λ (k : Next). Some k) (one_continuation tree changes placement n a b one other)
same_next tree changes placement n (Some a) None one none = absurd (none a one)
same_next tree changes placement n None (Some b) none other = absurd (none b other)
same_next tree changes placement n None None none other = refl

module _ (number : ℕ) (tree : Tree) (changes : Deltas) (placements : List Placement) where
  same_hit : (o : Occurrence) (a b : Hit) → IsHit number tree changes placements o a → IsHit number tree changes placements o b → a ≡ b
  same_hit o a b one other =
      let place = same_place (placement_at placements o.placement) a.place b.place one.place other.place in
      let next = same_next tree changes (placement_at placements o.placement) o.node a.next b.next one.next other.next in
      λ i. record {
        game = (one.game ∙ sym other.game) i;
        node = (one.node ∙ sym other.node) i;
        place = place i;
        moves = (one.moves ∙ sym other.moves) i;
        outcome = (one.outcome ∙ sym other.outcome) i;
        next = next i;
      }

  module _ (query : Query) where
    abbrev these : List Occurrence → List Hit → Type 0
    these = AreHitsOf query number tree changes placements

    same_hits : (os ps : List Occurrence) (a b : List Hit) → these os a → these ps b → os ≡ ps → a ≡ b
    same_hits _ _ _ _ AreHitsOf.nothing AreHitsOf.nothing e = refl
    same_hits _ _ _ _ AreHitsOf.nothing (AreHitsOf.hit {occurrences = ps} p k more looks is) e = absurd (push_not_nil ps p e)
    same_hits _ _ _ _ AreHitsOf.nothing (AreHitsOf.left_out {occurrences = ps} p more not) e = absurd (push_not_nil ps p e)
    same_hits _ _ _ _ (AreHitsOf.hit {occurrences = os} o h one looks is) AreHitsOf.nothing e = absurd (push_not_nil os o (sym e))
    same_hits _ _ _ _ (AreHitsOf.left_out {occurrences = os} o one not) AreHitsOf.nothing e = absurd (push_not_nil os o (sym e))
    same_hits _ _ _ _ (AreHitsOf.hit {occurrences = os} {hits = hs} o h one looks is) (AreHitsOf.hit {occurrences = ps} {hits = bs} p k other looked was) e =
        let same = push_same os ps o p e in
        let before = same_hits os ps hs bs one other same.0 in
        let last = same_hit o h k is (subst (λ (q : Occurrence). IsHit number tree changes placements q k) (sym same.1) was) in
        λ i. before i ++ last i ∷ []
    same_hits _ _ _ _ (AreHitsOf.hit {occurrences = os} o h one looks is) (AreHitsOf.left_out {occurrences = ps} p other not) e =
        absurd (not (subst (λ (q : Occurrence). LooksAt query tree q.node) (push_same os ps o p e).1 looks))
    same_hits _ _ _ _ (AreHitsOf.left_out {occurrences = os} o one not) (AreHitsOf.hit {occurrences = ps} p k other looked was) e =
        absurd (not (subst (λ (q : Occurrence). LooksAt query tree q.node) (sym (push_same os ps o p e).1) looked))
    same_hits _ _ _ _ (AreHitsOf.left_out {occurrences = os} {hits = hs} o one not) (AreHitsOf.left_out {occurrences = ps} {hits = bs} p other none) e =
        same_hits os ps hs bs one other (push_same os ps o p e).0

-- ---- the hits of a game, and of games

module _ (query : Query) (number : ℕ) (tree : Tree) (is_tree : IsTree tree) where
  same_in : (a b : List Hit) → AreHitsIn query number tree a → AreHitsIn query number tree b → a ≡ b
  same_in a b one other =
      let positions = positions-unique tree one.are_changes.positions other.are_changes.positions is_tree one.are_changes.are_positions other.are_changes.are_positions in
      let lead = subst (λ ps. AreDeltasOf tree ps one.changes) positions one.are_changes.lead in
      let changes = changes-unique tree other.are_changes.positions one.changes other.changes is_tree one.are_changes.net other.are_changes.net lead other.are_changes.lead in
      let placements = one_list query tree.shape one.placements other.placements one.are_placements other.are_placements in
      let moved = subst (λ (c : Deltas). AreHitsOf query number tree c one.placements (occurrences_in c one.placements) a) changes one.are_hits in
      let here = subst (λ ps. AreHitsOf query number tree other.changes ps (occurrences_in other.changes ps) a) placements moved in
      same_hits number tree other.changes other.placements query _ _ a b here other.are_hits refl

  same_in_game : (filter : Filter) (a b : List Hit) → AreGameHits query filter number tree a → AreGameHits query filter number tree b → a ≡ b
  same_in_game filter a b (AreGameHits.asked asks one) (AreGameHits.asked too other) = same_in a b one other
  same_in_game filter a _ (AreGameHits.asked asks one) (AreGameHits.not_asked not) = absurd (not asks)
  same_in_game filter _ b (AreGameHits.not_asked not) (AreGameHits.asked asks other) = absurd (not asks)
  same_in_game filter _ _ (AreGameHits.not_asked not) (AreGameHits.not_asked none) = refl

-- the parts of a claim on a list and one element more
pub last_of_all : {A : Type 0} (P : A → Type 0) (xs : List A) (x : A) → All P (xs ++ x ∷ []) → All P xs × P x
last_of_all P [] x all = (λ k d below. absurd (omega arith), all 0 x (omega arith))
last_of_all {A} P (y ∷ ys) x all =
    let rest = last_of_all P ys x (λ k d below. all (suc k) d (omega arith)) in
    (All-cons P y ys (all 0 y (omega arith)) rest.0, rest.1)

module _ (first : ℕ) (query : Query) (filter : Filter) where
  pub hits-unique : (games more : List Game) (a b : List Hit) → All (λ (g : Game). IsTree g.tree) games → AreHitsFrom first query filter games a → AreHitsFrom first query filter more b → games ≡ more → a ≡ b
  hits-unique _ _ _ _ trees AreHitsFrom.nothing AreHitsFrom.nothing e = refl
  hits-unique _ _ _ _ trees AreHitsFrom.nothing (AreHitsFrom.one_more {games = gs} g found other last) e = absurd (push_not_nil gs g e)
  hits-unique _ _ _ _ trees (AreHitsFrom.one_more {games = gs} g found one last) AreHitsFrom.nothing e = absurd (push_not_nil gs g (sym e))
  hits-unique _ _ _ _ trees (AreHitsFrom.one_more {games = gs} {hits = hs} g found one last) (AreHitsFrom.one_more {games = ks} {hits = bs} k other_found other other_last) e =
      let same = push_same gs ks g k e in
      let split = last_of_all (λ (h : Game). IsTree h.tree) gs g trees in
      let before = hits-unique gs ks hs bs split.0 one other same.0 in
      let number : first + length ks ≡ first + length gs = ap (λ (xs : List Game). first + length xs) (sym same.0) in
      let moved = subst (λ (h : Game). AreGameHits query filter (first + length ks) h.tree other_found) (sym same.1) other_last in
      let here = subst (λ n. AreGameHits query filter n g.tree other_found) number moved in
      let now = same_in_game query (first + length gs) g.tree split.1 filter found other_found last here in
      λ i. before i ++ now i
