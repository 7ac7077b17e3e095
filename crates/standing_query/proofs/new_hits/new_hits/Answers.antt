use Rattle.std.proofs.Common.{◌≡◌, ◌∙◌, ◌-◌, ◌+◌, ◌≤◌, ◌++◌, ℕ, List, [], ap, arith, drop, length, map, refl, subst, sym, take}
use Rattle.std.specs.Arc.{arc_value}
use Rattle.std.proofs.lemmas.List.{take_all}
use Rattle.node_position.specs.Games.{Game}
use Rattle.pattern_images.specs.declared.hit.Hit.{Hit}
use Rattle.version_publisher.specs.Contents.{items_in}
use Rattle.standing_query.specs.NewGames.{AreFoundTo}
use Rattle.segment_store.specs.Nodes.{nodes_of}
use Rattle.standing_query.proofs.NewHitsFound.{found-nothing, nodes-both, nodes-front, same-back, same-self, same-then, to-same, to-start}
use Rattle.standing_query.proofs.VersionParts.{items-cut, items-fit, items-more}
use Rattle.standing_query.proofs.new_hits.new_hits.Goals as goal

pub loop-part-init : goal.loop-part-init
loop-part-init g c =
    let finder = c.args.finder.now in
    let finds = g.N.Finder.finds finder in
    let nothing = found-nothing finds (g.met.N.Finder.some_list finder) (g.met.N.Finder.one_list finder) (g.met.N.Finder.by_parts finder) c.args.covered in
    record {
      covered = refl;
      found = subst (λ (hits : List Hit). AreFoundTo finds c.args.covered [] 0 hits) (sym c.new.ensures.items) (to-start finds c.args.covered nothing);
      same = same-self finds;
      ticks = omega arith;
      grows = omega arith;
    }

pub add_part-requires : goal.add_part-requires
add_part-requires g c =
    let parts = c.parts-part-items.result.now in
    let fits = items-fit arc_value parts c.loop-part.part-index c.part-item.result c.loop-part-test.true c.part-item.is in
    let all = ap (λ (ps : List (List Game)). length (items_in ps)) c.parts-part-items.ensures.items in
    omega (arith, fits, all, c.parts-part-items.ensures.fits, c.loop-part.invariant.found.counted, ap length c.deref.ensures)

pub returns-in_err-add_part-clause-same : goal.returns-in_err-add_part-clause-same
returns-in_err-add_part-clause-same g c = same-then (g.N.Finder.finds c.args.finder.now) (g.N.Finder.finds c.loop-part.finder) (g.N.Finder.finds c.add_part.new.finder) c.loop-part.invariant.same c.add_part.ensures.same

pub returns-in_err-add_part-clause-ticks : goal.returns-in_err-add_part-clause-ticks
returns-in_err-add_part-clause-ticks g c =
    let finds = g.N.Finder.finds in
    let parts = c.parts-part-items.result.now in
    let k = c.loop-part.part-index in
    let part = c.part-item.result in
    let before = items_in (map arc_value (take k parts)) in
    let covered = c.args.covered in
    let next = items-more arc_value parts k part c.loop-part-test.true c.part-item.is in
    let there : nodes_of (drop (c.loop-part.found.covered - c.loop-part.found.games) c.deref.result.now) ≡ nodes_of (drop (covered - length before) (arc_value part)) =
    ap (λ n. nodes_of (drop (n - c.loop-part.found.games) c.deref.result.now)) c.loop-part.invariant.covered ∙ ap (λ n. nodes_of (drop (covered - n) c.deref.result.now)) c.loop-part.invariant.found.counted
    ∙ ap (λ (gs : List Game). nodes_of (drop (covered - length before) gs)) c.deref.ensures in
    let both = nodes-both covered before (arc_value part) in
    let all = ap (λ (gs : List Game). nodes_of (drop covered gs)) next in
    let front = nodes-front covered (items_in (map arc_value (take (k + 1) parts))) (items_in (map arc_value (drop (k + 1) parts))) in
    let whole = ap (λ (gs : List Game). nodes_of (drop covered gs)) (items-cut arc_value parts (k + 1)) in
    let seen = ap (λ (ps : List (List Game)). nodes_of (drop covered (items_in ps))) c.parts-part-items.ensures.items in
    omega (arith, c.add_part.ensures.ticks, c.loop-part.invariant.ticks, there, both, all, front, whole, seen)

pub returns-in_err-add_part-clause-grows : goal.returns-in_err-add_part-clause-grows
returns-in_err-add_part-clause-grows g c = omega (arith, c.loop-part.invariant.grows, c.add_part.ensures.grows)

pub loop-part-preserved : goal.loop-part-preserved
loop-part-preserved g c =
    let finds = g.N.Finder.finds in
    let parts = c.parts-part-items.result.now in
    let k = c.loop-part.part-index in
    let part = c.part-item.result in
    let before = items_in (map arc_value (take k parts)) in
    let covered = c.args.covered in
    let next = items-more arc_value parts k part c.loop-part-test.true c.part-item.is in
    let there : nodes_of (drop (c.loop-part.found.covered - c.loop-part.found.games) c.deref.result.now) ≡ nodes_of (drop (covered - length before) (arc_value part)) =
    ap (λ n. nodes_of (drop (n - c.loop-part.found.games) c.deref.result.now)) c.loop-part.invariant.covered ∙ ap (λ n. nodes_of (drop (covered - n) c.deref.result.now)) c.loop-part.invariant.found.counted
    ∙ ap (λ (gs : List Game). nodes_of (drop (covered - length before) gs)) c.deref.ensures in
    let both = nodes-both covered before (arc_value part) in
    let all = ap (λ (gs : List Game). nodes_of (drop covered gs)) next in
    let one = finds c.args.finder.now in
    let two = finds c.loop-part.finder in
    let new = c.add_part.new.self in
    let so_far = to-same one two covered before c.loop-part.found.games c.loop-part.found.hits.items c.loop-part.invariant.same c.loop-part.invariant.found in
    let added = c.in_ok-add_part.ensures.found before (subst (λ n. AreFoundTo two n before c.loop-part.found.games c.loop-part.found.hits.items) (sym c.loop-part.invariant.covered) so_far) in
    let stays : new.covered ≡ covered = c.in_ok-add_part.ensures.covered ∙ c.loop-part.invariant.covered in
    let games : before ++ c.deref.result.now ≡ items_in (map arc_value (take (k + 1) parts)) = ap (λ (gs : List Game). before ++ gs) c.deref.ensures ∙ sym next in
    record {
      covered = stays;
      found =
          to-same two one covered (items_in (map arc_value (take (k + 1) parts))) new.games new.hits.items (same-back one two c.loop-part.invariant.same)
          (subst (λ (gs : List Game). AreFoundTo two covered gs new.games new.hits.items) games (subst (λ n. AreFoundTo two n (before ++ c.deref.result.now) new.games new.hits.items) stays added));
      same = same-then one two (finds c.add_part.new.finder) c.loop-part.invariant.same c.add_part.ensures.same;
      ticks = omega (arith, c.add_part.ensures.ticks, c.loop-part.invariant.ticks, there, both, all);
      grows = omega (arith, c.loop-part.invariant.grows, c.add_part.ensures.grows);
    }

pub returns-clause-found : goal.returns-clause-found
returns-clause-found g c =
    let parts = c.parts-part-items.result.now in
    let all : items_in (map arc_value (take c.loop-part.part-index parts)) ≡ items_in c.args.version.now.parts =
    ap (λ ps. items_in (map arc_value ps)) (take_all c.loop-part.part-index parts (omega (arith, c.loop-part-test.false))) ∙ ap items_in c.parts-part-items.ensures.items in
    subst (λ (gs : List Game). AreFoundTo (g.N.Finder.finds c.args.finder.now) c.args.covered gs c.loop-part.found.games c.loop-part.found.hits.items) all c.loop-part.invariant.found

pub returns-clause-same : goal.returns-clause-same
returns-clause-same g c = c.loop-part.invariant.same

pub returns-clause-ticks : goal.returns-clause-ticks
returns-clause-ticks g c =
    let parts = c.parts-part-items.result.now in
    let all : items_in (map arc_value (take c.loop-part.part-index parts)) ≡ items_in c.args.version.now.parts =
    ap (λ ps. items_in (map arc_value ps)) (take_all c.loop-part.part-index parts (omega (arith, c.loop-part-test.false))) ∙ ap items_in c.parts-part-items.ensures.items in
    omega (arith, c.loop-part.invariant.ticks, ap (λ (gs : List Game). nodes_of (drop c.args.covered gs)) all)

pub returns-clause-grows : goal.returns-clause-grows
returns-clause-grows g c = c.loop-part.invariant.grows
