use Rattle.std.proofs.Common.{◌≡◌, ℕ, ◌<◌, List, [], true, false, get_or, length, ap, arith, subst, sym, ◌∙◌}
use Rattle.std.proofs.lemmas.List.{get_or-map, length-map, take_all}
use Rattle.std.proofs.lemmas.List.Elements.{Contains-get_or}
use Rattle.std.specs.Prelude.{AllPairs}
use Rattle.game_tree.specs.Tree.{Tree, node_count}
use Rattle.pattern_occurrences.specs.Occurrences.{StandsBefore}
use Rattle.pattern_occurrences.proofs.OccurrenceLaw.{occurrences-ordered}
use Rattle.run_matcher.specs.GoingOn.{occurrences_of}
use Rattle.run_matcher.specs.declared.begun.Begun.{Begun}
use Rattle.run_matcher.specs.declared.begun.HoldsTo.TheVariants as holding
use Rattle.search_engine.specs.Hits.{AreHitsOf, LooksAt}
use Rattle.search_engine.specs.Searching.{AreHitsAdded}
use Rattle.search_engine.proofs.AddedHits.{AreHitsAdded-hit, AreHitsAdded-left_out, AreHitsAdded-none}
use Rattle.search_engine.proofs.FoundHits.{is_there, node_in_tree}
use Rattle.search_engine.proofs.NodesVisited.{AreVisitedTo-all, AreVisitedTo-hit, AreVisitedTo-left_out, AreVisitedTo-none, IsVisit}
use Rattle.search_engine.proofs.game_hits.SearchedGame.add_hits.Goals as goal
use Rattle.search_engine.proofs.game_hits.SearchedGame.add_hits.Goals.{then-looks_at+in_ok-push, else-looks_at}

-- what a read past the end would give
abbrev none : Begun
none = record { occurrence = record { node = 0; placement = 0 }; holds = holding.Known 0 }

-- an element of the list, and its occurrence
module _ (begun : List Begun) (k : ℕ) (lt : k < length begun) where
  abbrev one : Begun
  one = get_or begun k none

  within : k < length (occurrences_of begun)
  within = omega (arith, lt, length-map begun (λ (b : Begun). b.occurrence))

  read : one.occurrence ≡ get_or (occurrences_of begun) k one.occurrence
  read = sym (get_or-map (λ (b : Begun). b.occurrence) begun k none one.occurrence lt)

pub loop-one-init : goal.loop-one-init
loop-one-init g c = record {
  hits = AreHitsAdded-none (AreHitsOf c.args.self.now.query.now c.args.self.now.number c.args.self.now.game.now.tree c.args.deltas.now c.args.self.now.ready.now.images.placements []) c.args.hits.now.items AreHitsOf.nothing;
  within = omega arith;
  ticks = omega arith;
  grows = omega arith;
  nodes = AreVisitedTo-none c.args.self.now.query.now c.args.self.now.number c.args.self.now.game.now.tree (occurrences_of c.args.begun.now) c.args.hits.now.items c.args.steps.now;
}

pub looks_at-requires : goal.looks_at-requires
looks_at-requires g c =
    let begun = c.args.begun.now in
    let k = c.loop-one.one-index in
    let lt = c.loop-one-test.true in
    subst (λ (t : Tree). (one begun k lt).occurrence.node < node_count t) (sym c.tree.ensures.value)
    (node_in_tree c.args.self.now.game.now.tree c.args.deltas.now c.requires.changes c.args.self.now.ready.now.images.placements (occurrences_of begun) c.requires.occurrences k (one begun k lt).occurrence (within begun k lt) (read begun k lt))

pub hit_of-requires-clause-node : goal.hit_of-requires-clause-node
hit_of-requires-clause-node g c =
    let begun = c.args.begun.now in
    let k = c.loop-one.one-index in
    let lt = c.loop-one-test.true in
    node_in_tree c.args.self.now.game.now.tree c.args.deltas.now c.requires.changes c.args.self.now.ready.now.images.placements (occurrences_of begun) c.requires.occurrences k (one begun k lt).occurrence (within begun k lt) (read begun k lt)

pub hit_of-requires-clause-placement : goal.hit_of-requires-clause-placement
hit_of-requires-clause-placement g c =
    let begun = c.args.begun.now in
    let k = c.loop-one.one-index in
    let lt = c.loop-one-test.true in
    (is_there c.args.self.now.game.now.tree c.args.deltas.now c.requires.changes c.args.self.now.ready.now.images.placements (occurrences_of begun) c.requires.occurrences k (one begun k lt).occurrence (within begun k lt) (read begun k lt)).placement

pub hit_of-requires-clause-holds : goal.hit_of-requires-clause-holds
hit_of-requires-clause-holds g c =
    let begun = c.args.begun.now in
    let k = c.loop-one.one-index in
    let lt = c.loop-one-test.true in
    (is_there c.args.self.now.game.now.tree c.args.deltas.now c.requires.changes c.args.self.now.ready.now.images.placements (occurrences_of begun) c.requires.occurrences k (one begun k lt).occurrence (within begun k lt) (read begun k lt)).holds

pub hit_of-requires-clause-go_on : goal.hit_of-requires-clause-go_on
hit_of-requires-clause-go_on g c =
    c.requires.go_on (get_or c.args.begun.now c.loop-one.one-index none) (Contains-get_or c.args.begun.now c.loop-one.one-index none c.loop-one-test.true)

pub loop-one-preserved : goal.loop-one-preserved
loop-one-preserved g c =
    let begun = c.args.begun.now in
    let k = c.loop-one.one-index in
    let lt = c.loop-one-test.true in
    let o = (one begun k lt).occurrence in
    let node = node_in_tree c.args.self.now.game.now.tree c.args.deltas.now c.requires.changes c.args.self.now.ready.now.images.placements (occurrences_of begun) c.requires.occurrences k o (within begun k lt) (read begun k lt) in
    let ordered = subst (AllPairs StandsBefore) (sym c.requires.occurrences) (occurrences-ordered c.args.deltas.now c.args.self.now.ready.now.images.placements) in
    let visit : IsVisit o.node c.loop-one.visited c.visit-visited.result c.loop-one.steps c.visit-visited.new.steps = record { again = c.visit-visited.ensures.again; anew = c.visit-visited.ensures.anew } in
    record {
      hits =
          elim c.if-looks_at.branch [
            | then-looks_at+in_ok-push w ↦
                AreHitsAdded-hit c.args.self.now.query.now c.args.self.now.number c.args.self.now.game.now.tree c.args.deltas.now c.args.self.now.ready.now.images.placements (occurrences_of begun) c.args.hits.now.items c.loop-one.hits.items k o (within begun k lt) (read begun k lt)
                c.if-looks_at.hits.items w.hit_of.result c.loop-one.invariant.hits
                (subst (λ (t : Tree). LooksAt c.args.self.now.query.now t o.node) c.tree.ensures.value (c.looks_at.ensures.0 w.if-looks_at.true))
                w.hit_of.ensures (ap (λ v. v.items) w.hits-is ∙ w.in_ok-push.ensures.items)
            | else-looks_at w ↦
                AreHitsAdded-left_out c.args.self.now.query.now c.args.self.now.number c.args.self.now.game.now.tree c.args.deltas.now c.args.self.now.ready.now.images.placements (occurrences_of begun) c.args.hits.now.items c.loop-one.hits.items k o (within begun k lt) (read begun k lt)
                c.if-looks_at.hits.items c.loop-one.invariant.hits
                (λ looks. let no : false ≡ true = sym w.if-looks_at.false ∙ c.looks_at.ensures.1 (subst (λ (t : Tree). LooksAt c.args.self.now.query.now t o.node) (sym c.tree.ensures.value) looks) in absurd cc)
                (ap (λ v. v.items) w.hits-is)
          ];
      within = c.visit-visited.ensures.within (node_count c.args.self.now.game.now.tree) node c.loop-one.invariant.within;
      ticks = omega (arith, c.visit-visited.ensures.ticks, c.loop-one.invariant.ticks);
      grows = omega (arith, c.visit-visited.ensures.grows, c.loop-one.invariant.grows);
      nodes =
          elim c.if-looks_at.branch [
            | then-looks_at+in_ok-push w ↦
                AreVisitedTo-hit c.args.self.now.query.now c.args.self.now.number c.args.self.now.game.now.tree (occurrences_of begun) ordered k o (within begun k lt) (read begun k lt)
                c.loop-one.visited c.visit-visited.result c.args.hits.now.items c.loop-one.hits.items c.if-looks_at.hits.items c.args.steps.now c.loop-one.steps c.visit-visited.new.steps c.loop-one.invariant.nodes visit w.hit_of.result
                (subst (λ (t : Tree). LooksAt c.args.self.now.query.now t o.node) c.tree.ensures.value (c.looks_at.ensures.0 w.if-looks_at.true))
                w.hit_of.ensures.game w.hit_of.ensures.node (ap (λ v. v.items) w.hits-is ∙ w.in_ok-push.ensures.items)
            | else-looks_at w ↦
                AreVisitedTo-left_out c.args.self.now.query.now c.args.self.now.number c.args.self.now.game.now.tree (occurrences_of begun) ordered k o (within begun k lt) (read begun k lt)
                c.loop-one.visited c.visit-visited.result c.args.hits.now.items c.loop-one.hits.items c.if-looks_at.hits.items c.args.steps.now c.loop-one.steps c.visit-visited.new.steps c.loop-one.invariant.nodes visit
                (λ looks. let no : false ≡ true = sym w.if-looks_at.false ∙ c.looks_at.ensures.1 (subst (λ (t : Tree). LooksAt c.args.self.now.query.now t o.node) (sym c.tree.ensures.value) looks) in absurd cc)
                (ap (λ v. v.items) w.hits-is)
          ];
    }

pub returns-clause-hits : goal.returns-clause-hits
returns-clause-hits g c =
    let all = occurrences_of c.args.begun.now in
    subst (λ os. AreHitsAdded (AreHitsOf c.args.self.now.query.now c.args.self.now.number c.args.self.now.game.now.tree c.args.deltas.now c.args.self.now.ready.now.images.placements os) c.args.hits.now.items c.loop-one.hits.items)
    (take_all c.loop-one.one-index all (omega (arith, c.loop-one-test.false, length-map c.args.begun.now (λ (b : Begun). b.occurrence)))) c.loop-one.invariant.hits

pub returns-clause-visited : goal.returns-clause-visited
returns-clause-visited g c = AreVisitedTo-all c.args.self.now.query.now c.args.self.now.number c.args.self.now.game.now.tree (occurrences_of c.args.begun.now) c.loop-one.one-index c.loop-one.visited c.args.hits.now.items c.loop-one.hits.items c.args.steps.now c.loop-one.steps c.loop-one.invariant.nodes

pub returns-clause-ticks : goal.returns-clause-ticks
returns-clause-ticks g c = omega (arith, c.loop-one.invariant.within, c.loop-one.invariant.ticks)

pub returns-clause-grows : goal.returns-clause-grows
returns-clause-grows g c = c.loop-one.invariant.grows

pub returns-in_err-push-clause-ticks : goal.returns-in_err-push-clause-ticks
returns-in_err-push-clause-ticks g c =
    let begun = c.args.begun.now in
    let k = c.loop-one.one-index in
    let lt = c.loop-one-test.true in
    let node = node_in_tree c.args.self.now.game.now.tree c.args.deltas.now c.requires.changes c.args.self.now.ready.now.images.placements (occurrences_of begun) c.requires.occurrences k (one begun k lt).occurrence (within begun k lt) (read begun k lt) in
    omega (arith, c.visit-visited.ensures.within (node_count c.args.self.now.game.now.tree) node c.loop-one.invariant.within, c.visit-visited.ensures.ticks, c.loop-one.invariant.ticks)

pub returns-in_err-push-clause-grows : goal.returns-in_err-push-clause-grows
returns-in_err-push-clause-grows g c = omega (arith, c.visit-visited.ensures.grows, c.loop-one.invariant.grows)
