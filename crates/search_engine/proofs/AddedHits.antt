-- Hits that are added, one occurrence after another.
use Rattle.std.proofs.Common.{◌≡◌, ℕ, ◌+◌, ◌<◌, List, [], ◌∷◌, ◌++◌, length, get_or, take, Option, Some, None, sym, ap, ◌∙◌, subst, append_assoc}
use Rattle.std.specs.Prelude.{IfNone, IfOk, IfSome, Result, Ok, Err, OnOk}
use Rattle.std.proofs.lemmas.List.{append-nil, take_more}
use Rattle.game_tree.specs.Tree.{Tree}
use Rattle.capture_board.specs.Deltas.{Deltas}
use Rattle.pattern_images.specs.declared.hit.Hit.{Hit}
use Rattle.pattern_images.specs.declared.hit.Next.{Next}
use Rattle.pattern_images.specs.declared.query.Query.{Query}
use Rattle.pattern_images.specs.Placements.{Placement}
use Rattle.continuation_table.specs.Continuation.{IsContinuation}
use Rattle.pattern_occurrences.specs.declared.occurrence.Occurrence.{Occurrence}
use Rattle.search_engine.specs.Hits.{AreHitsOf, GoesOn, IsHit, LooksAt}
use Rattle.search_engine.specs.Searching.{AreHitsAdded}

-- what follows from what is known of a success
pub OnOk-then : {T E P Q : Type 0} (r : Result T E) → OnOk r P → (P → Q) → OnOk r Q
OnOk-then (Ok v) p then = then p
OnOk-then (Err e) p then = p

-- the same, where it is said of what was made
pub IfOk-then : {T E : Type 0} {P Q : T → Type 0} (r : Result T E) → IfOk r P → ((v : T) → P v → Q v) → IfOk r Q
IfOk-then (Ok v) p then = then v p
IfOk-then (Err e) p then = p

-- the hits that are none yet
pub AreHitsAdded-none : (are : List Hit → Type 0) (hits : List Hit) → are [] → AreHitsAdded are hits hits
AreHitsAdded-none are hits h = record { more = []; added = sym (append-nil hits); are_hits = h }

-- how a game goes on, from what is known of the answer and of no answer
pub GoesOn-from : (tree : Tree) (changes : Deltas) (placement : Placement) (n : ℕ) (next : Option Next)
    → IfSome next (λ told. IsContinuation tree changes placement n told)
    → IfNone next ((told : Next) → ¬ IsContinuation tree changes placement n told)
    → GoesOn tree changes placement n next
GoesOn-from tree changes placement n (Some next) some none = some
GoesOn-from tree changes placement n None some none = none

module _ (query : Query) (number : ℕ) (tree : Tree) (changes : Deltas) (placements : List Placement) (occurrences : List Occurrence) (old hits : List Hit) (k : ℕ) (o : Occurrence) (lt : k < length occurrences) (at : o ≡ get_or occurrences k o) where
  abbrev these : List Occurrence → List Hit → Type 0
  these = AreHitsOf query number tree changes placements

  one_more : take (k + 1) occurrences ≡ take k occurrences ++ o ∷ []
  one_more = take_more occurrences k o lt ∙ ap (λ (p : Occurrence). take k occurrences ++ p ∷ []) (sym at)

  -- one occurrence more at whose node the query looks
  pub AreHitsAdded-hit : (new : List Hit) (hit : Hit) → AreHitsAdded (these (take k occurrences)) old hits → LooksAt query tree o.node → IsHit number tree changes placements o hit
      → new ≡ hits ++ hit ∷ [] → AreHitsAdded (these (take (k + 1) occurrences)) old new
  AreHitsAdded-hit new hit so_far looks is pushed = record {
    more = so_far.more ++ hit ∷ [];
    added = pushed ∙ ap (λ xs. xs ++ hit ∷ []) so_far.added ∙ append_assoc old so_far.more (hit ∷ []);
    are_hits = subst (λ os. these os (so_far.more ++ hit ∷ [])) (sym one_more) (AreHitsOf.hit o hit so_far.are_hits looks is);
  }

  -- one more at whose node it doesn't look
  pub AreHitsAdded-left_out : (new : List Hit) → AreHitsAdded (these (take k occurrences)) old hits → ¬ LooksAt query tree o.node
      → new ≡ hits → AreHitsAdded (these (take (k + 1) occurrences)) old new
  AreHitsAdded-left_out new so_far looks same = record {
    more = so_far.more;
    added = same ∙ so_far.added;
    are_hits = subst (λ os. these os so_far.more) (sym one_more) (AreHitsOf.left_out o so_far.are_hits looks);
  }
