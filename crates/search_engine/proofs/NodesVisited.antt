-- The nodes at which hits stand are visited, each by a step.
use Rattle.std.proofs.Common.{◌≡◌, inl, inr, ◌⊎◌, ℕ, ◌+◌, ◌<◌, ◌≤◌, Bool, true, false, eqb, if◌then◌else◌, List, [], ◌∷◌, ◌++◌, append_assoc, get_or, length, refl, sym, ap, ◌∙◌, subst, arith}
use Rattle.std.specs.Prelude.{AllPairs}
use Rattle.std.proofs.lemmas.Bool.{and_from, cases_lt, eq-eqb}
use Rattle.std.proofs.lemmas.List.{append-nil, get_or_default}
use Rattle.game_tree.specs.Tree.{Tree}
use Rattle.pattern_images.specs.declared.hit.Hit.{Hit}
use Rattle.pattern_images.specs.declared.query.Query.{Query}
use Rattle.pattern_occurrences.specs.declared.occurrence.Occurrence.{Occurrence}
use Rattle.pattern_occurrences.specs.Occurrences.{StandsBefore}
use Rattle.search_engine.specs.HitNodes.{are_at_one_node, hit_nodes}
use Rattle.search_engine.specs.Hits.{LooksAt}
use Rattle.search_engine.specs.StepBounds.{AreVisited}

-- ---- at how many nodes hits stand
one_at_most : (b : Bool) → (if b then 0 else 1) ≤ 1
one_at_most true = omega arith
one_at_most false = omega arith

-- those of two lists stand at no more nodes than those of one and those of the other
pub hit_nodes-append : (xs ys : List Hit) → hit_nodes (xs ++ ys) ≤ hit_nodes xs + hit_nodes ys
hit_nodes-append [] ys = omega arith
hit_nodes-append (a ∷ []) [] = omega arith
hit_nodes-append (a ∷ []) (b ∷ ys) = omega (arith, one_at_most (are_at_one_node a b))
hit_nodes-append (a ∷ b ∷ xs) ys = omega (arith, hit_nodes-append (b ∷ xs) ys)

-- one hit more at the node of the last one stands at no further node
hit_nodes-again : (front : List Hit) (a b : Hit) → are_at_one_node a b ≡ true → hit_nodes ((front ++ a ∷ []) ++ b ∷ []) ≡ hit_nodes (front ++ a ∷ [])
hit_nodes-again [] a b same =
    let none : ◌≡◌ {A = ℕ} (if are_at_one_node a b then 0 else 1) 0 = ap (λ (t : Bool). if t then 0 else 1) same in
    omega (arith, none)
hit_nodes-again (x ∷ []) a b same = omega (arith, hit_nodes-again [] a b same)
hit_nodes-again (x ∷ y ∷ front) a b same = omega (arith, hit_nodes-again (y ∷ front) a b same)

one_node : (a b : Hit) → a.game ≡ b.game → a.node ≡ b.node → are_at_one_node a b ≡ true
one_node a b game node = and_from (eqb a.game b.game) (eqb a.node b.node) (eq-eqb a.game b.game game) (eq-eqb a.node b.node node)

-- ---- hits that are added
pub AreVisited-none : (hits : List Hit) (steps : ℕ) → AreVisited hits hits steps steps
AreVisited-none hits steps = record { more = []; added = sym (append-nil hits); visited = omega arith }

-- some, and more of them
pub AreVisited-then : (old mid new : List Hit) (before between now : ℕ) → AreVisited old mid before between → AreVisited mid new between now → AreVisited old new before now
AreVisited-then old mid new before between now one other = record {
  more = one.more ++ other.more;
  added = other.added ∙ ap (λ (hits : List Hit). hits ++ other.more) one.added ∙ append_assoc old one.more other.more;
  visited = omega (arith, one.visited, other.visited, hit_nodes-append one.more other.more);
}

-- those that are added to none
pub visited_alone : (old new : List Hit) (before now : ℕ) → old ≡ [] → AreVisited old new before now → before + hit_nodes new ≤ now
visited_alone old new before now none one =
    let all : new ≡ one.more = one.added ∙ ap (λ (hits : List Hit). hits ++ one.more) none in
    subst (λ (hits : List Hit). before + hit_nodes hits ≤ now) (sym all) one.visited

-- ---- in one game, one occurrence after another

-- what a visit of a node does: it is a step, unless the node is among those below a bound
pub record IsVisit (node visited to before now : ℕ) : Type 0 where
  pub again : node < visited → (to ≡ visited) × (before ≤ now)
  pub anew : visited ≤ node → (to ≡ node + 1) × (before + 1 ≤ now)

-- the hits end with one at this node of the game with this number
pub record EndsAt (number node : ℕ) (hits : List Hit) : Type 0 where
  pub front : List Hit
  pub last : Hit
  pub ends : hits ≡ front ++ last ∷ []
  pub of_game : last.game ≡ number
  pub at_node : last.node ≡ node

not_later : (a b : Occurrence) → StandsBefore a b → a.node ≤ b.node
not_later a b (inl less) = omega (arith, less)
not_later a b (inr same) = omega (arith, same.0)

module _ (query : Query) (number : ℕ) (tree : Tree) (os : List Occurrence) where
  -- The nodes of the first so many occurrences were visited, up to the last one, which is the one
  -- before `visited`; and if the query looks there, the last hit stands there.
  pub record AreVisitedTo (k visited : ℕ) (old new : List Hit) (before now : ℕ) : Type 0 where
    pub more : List Hit
    pub added : new ≡ old ++ more
    pub counted : before + hit_nodes more ≤ now
    pub reached : (d : Occurrence) → (visited ≡ 0) ⊎ ((i : ℕ) × (i < k) × (visited ≡ (get_or os i d).node + 1))
    pub last : (n : ℕ) → visited ≡ n + 1 → LooksAt query tree n → EndsAt number n more

  pub AreVisitedTo-none : (hits : List Hit) (steps : ℕ) → AreVisitedTo 0 0 hits hits steps steps
  AreVisitedTo-none hits steps = record {
    more = [];
    added = sym (append-nil hits);
    counted = omega arith;
    reached = λ d. inl refl;
    last = λ n is. absurd (omega (arith, is));
  }

  pub AreVisitedTo-all : (k visited : ℕ) (old new : List Hit) (before now : ℕ) → AreVisitedTo k visited old new before now → AreVisited old new before now
  AreVisitedTo-all k visited old new before now all = record { more = all.more; added = all.added; visited = all.counted }

  module _ (ordered : AllPairs StandsBefore os) (k : ℕ) (o : Occurrence) (lt : k < length os) (at : o ≡ get_or os k o)
      (visited to : ℕ) (old hits new : List Hit) (before now next : ℕ) (so_far : AreVisitedTo k visited old hits before now) (visit : IsVisit o.node visited to now next) where
    -- a node that was visited is the last one
    ended : o.node < visited → visited ≡ o.node + 1
    ended below = elim (so_far.reached o) [
      | inl none ↦ absurd (omega (arith, none, below))
      | inr (i, less, is) ↦
          let pair = subst (λ (p : Occurrence). StandsBefore (get_or os i o) p) (sym at) (ordered i k o less lt) in
          omega (arith, is, below, not_later (get_or os i o) o pair)
    ]

    reached-again : to ≡ visited → (d : Occurrence) → (to ≡ 0) ⊎ ((i : ℕ) × (i < k + 1) × (to ≡ (get_or os i d).node + 1))
    reached-again same d = elim (so_far.reached d) [
      | inl none ↦ inl (same ∙ none)
      | inr (i, less, is) ↦ inr (i, omega (arith, less), same ∙ is)
    ]

    reached-anew : to ≡ o.node + 1 → (d : Occurrence) → (to ≡ 0) ⊎ ((i : ℕ) × (i < k + 1) × (to ≡ (get_or os i d).node + 1))
    reached-anew is d = inr (k, omega arith, is ∙ ap (λ (p : Occurrence). p.node + 1) (at ∙ get_or_default os k o d lt))

    -- a hit more, at whose node the query looks
    pub AreVisitedTo-hit : (hit : Hit) → LooksAt query tree o.node → hit.game ≡ number → hit.node ≡ o.node → new ≡ hits ++ hit ∷ [] → AreVisitedTo (k + 1) to old new before next
    AreVisitedTo-hit hit looks of_game at_node pushed =
        let added : new ≡ old ++ (so_far.more ++ hit ∷ []) = pushed ∙ ap (λ (xs : List Hit). xs ++ hit ∷ []) so_far.added ∙ append_assoc old so_far.more (hit ∷ []) in
        elim (cases_lt o.node visited) [
          | inl below ↦
              let step = visit.again below in
              let end = so_far.last o.node (ended below) looks in
              let same = one_node end.last hit (end.of_game ∙ sym of_game) (end.at_node ∙ sym at_node) in
              let nodes : hit_nodes (so_far.more ++ hit ∷ []) ≡ hit_nodes so_far.more =
              ap (λ (xs : List Hit). hit_nodes (xs ++ hit ∷ [])) end.ends ∙ hit_nodes-again end.front end.last hit same ∙ sym (ap hit_nodes end.ends) in
              record {
                more = so_far.more ++ hit ∷ [];
                added = added;
                counted = omega (arith, so_far.counted, nodes, step.1);
                reached = reached-again step.0;
                last = λ n is looks_there. record { front = so_far.more; last = hit; ends = refl; of_game = of_game; at_node = omega (arith, at_node, is, step.0, ended below) };
              }
          | inr from ↦
              let step = visit.anew from in
              record {
                more = so_far.more ++ hit ∷ [];
                added = added;
                counted = omega (arith, so_far.counted, hit_nodes-append so_far.more (hit ∷ []), step.1);
                reached = reached-anew step.0;
                last = λ n is looks_there. record { front = so_far.more; last = hit; ends = refl; of_game = of_game; at_node = omega (arith, at_node, is, step.0) };
              }
        ]

    -- no hit, as the query doesn't look at the node
    pub AreVisitedTo-left_out : ¬ LooksAt query tree o.node → new ≡ hits → AreVisitedTo (k + 1) to old new before next
    AreVisitedTo-left_out not same = elim (cases_lt o.node visited) [
      | inl below ↦
          let step = visit.again below in
          record {
            more = so_far.more;
            added = same ∙ so_far.added;
            counted = omega (arith, so_far.counted, step.1);
            reached = reached-again step.0;
            last = λ n is looks. so_far.last n (sym step.0 ∙ is) looks;
          }
      | inr from ↦
          let step = visit.anew from in
          record {
            more = so_far.more;
            added = same ∙ so_far.added;
            counted = omega (arith, so_far.counted, step.1);
            reached = reached-anew step.0;
            last = λ n is looks.
                let here : n ≡ o.node = omega (arith, is, step.0) in
                absurd (not (subst (LooksAt query tree) here looks));
          }
    ]
