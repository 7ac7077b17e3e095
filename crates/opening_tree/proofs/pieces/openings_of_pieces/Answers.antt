use Rattle.std.proofs.Common.{ap, ◌≡◌, ◌≤◌, ◌*◌, [], ◌∷◌, Bor, arith, get_or, length, length-append, map, rules, subst, sym, take, ◌∙◌}
use Rattle.std.specs.Prelude.{IfOk}
use Rattle.std.proofs.lemmas.Grind.{common_steps}
use Rattle.std.proofs.lemmas.Iterator.Adapters.{YieldsList-from_vec}
use Rattle.std.proofs.lemmas.Iterator.Consumers.{YieldsList-end, YieldsList-turn}
use Rattle.std.proofs.lemmas.List.{take_all}
use Rattle.kb_geometry.specs.Board.{point_count}
use Rattle.node_position.specs.Games.{Game}
use Rattle.opening_tree.specs.Packing.{words_for}
use Rattle.opening_tree.specs.StoredGames.{AreOpeningsOf}
use Rattle.opening_tree.proofs.StoredJoin.{openings-chunk, ready-chunk}
use Rattle.opening_tree.proofs.StoredSteps.{openings-start}
use Rattle.opening_tree.proofs.pieces.openings_of_pieces.Goals as goal

pub loop-piece-init : goal.loop-piece-init
loop-piece-init g c =
    let shape = c.args.asked.shape in
    let depth = c.args.asked.depth in
    let start : 0 * c.piece_size-size.result ≡ 0 = omega arith in
    record {
      kept =
          subst (λ k. AreOpeningsOf 0 shape depth (map (λ (x : Bor Game). x.now) (take k c.args.games.now)) c.in_ok-openings.openings.entries) (sym start)
          (subst (AreOpeningsOf 0 shape depth []) (sym c.in_ok-openings.ensures.none) (openings-start 0 shape depth));
      width = c.in_ok-openings.ensures.width ∙ c.words_for.ensures ∙ ap words_for c.count.ensures.value;
    }

pub add_openings-requires : goal.add_openings-requires
add_openings-requires g c =
    let shape = c.args.asked.shape in
    let depth = c.args.asked.depth in
    let size = c.piece_size-size.result in
    let n = length c.loop-piece.yielded in
    let pieces = c.in_ok-pieces.pieces.items in
    let h = c.into_iter-piece-iterator.ensures.into_iter_gives in
    let gives = YieldsList-from_vec pieces h.0 (omega (arith, h.1)) in
    let turn = YieldsList-turn gives c.loop-piece.yielded c.loop-piece.piece-iterator c.loop-piece.yielded_by c.next.result c.next.new.self c.in-Some.piece c.in-Some.is c.next.ensures.steps in
    let given = (c.in_ok-pieces.ensures.each n c.in-Some.piece turn.0).1 in
    let of_chunk : IfOk (get_or pieces n c.in-Some.piece) (λ m. AreOpeningsOf (n * size) shape depth (map (λ (x : Bor Game). x.now) given.argument.now) m.entries) = let called = given.call in search rules in
    let are_more : AreOpeningsOf (n * size) shape depth (map (λ (x : Bor Game). x.now) given.argument.now) c.in_ok-piece.field-0.entries =
    subst (λ r. IfOk r (λ m. AreOpeningsOf (n * size) shape depth (map (λ (x : Bor Game). x.now) given.argument.now) m.entries)) (sym turn.1 ∙ c.in_ok-piece.was) of_chunk in
    (point_count shape, ready-chunk (λ (x : Bor Game). x.now) shape depth c.args.games.now size n c.requires given.argument.now given.argument_is c.loop-piece.openings.entries c.in_ok-piece.field-0.entries c.loop-piece.invariant.kept are_more, c.loop-piece.invariant.width)

pub loop-piece-preserved : goal.loop-piece-preserved
loop-piece-preserved g c =
    let shape = c.args.asked.shape in
    let depth = c.args.asked.depth in
    let size = c.piece_size-size.result in
    let n = length c.loop-piece.yielded in
    let pieces = c.in_ok-pieces.pieces.items in
    let h = c.into_iter-piece-iterator.ensures.into_iter_gives in
    let gives = YieldsList-from_vec pieces h.0 (omega (arith, h.1)) in
    let turn = YieldsList-turn gives c.loop-piece.yielded c.loop-piece.piece-iterator c.loop-piece.yielded_by c.next.result c.next.new.self c.in-Some.piece c.in-Some.is c.next.ensures.steps in
    let given = (c.in_ok-pieces.ensures.each n c.in-Some.piece turn.0).1 in
    let of_chunk : IfOk (get_or pieces n c.in-Some.piece) (λ m. AreOpeningsOf (n * size) shape depth (map (λ (x : Bor Game). x.now) given.argument.now) m.entries) = let called = given.call in search rules in
    let are_more : AreOpeningsOf (n * size) shape depth (map (λ (x : Bor Game). x.now) given.argument.now) c.in_ok-piece.field-0.entries =
    subst (λ r. IfOk r (λ m. AreOpeningsOf (n * size) shape depth (map (λ (x : Bor Game). x.now) given.argument.now) m.entries)) (sym turn.1 ∙ c.in_ok-piece.was) of_chunk in
    let ready = ready-chunk (λ (x : Bor Game). x.now) shape depth c.args.games.now size n c.requires given.argument.now given.argument_is c.loop-piece.openings.entries c.in_ok-piece.field-0.entries c.loop-piece.invariant.kept are_more in
    let added = c.in_ok-add_openings.ensures.added (point_count shape) ready in
    let kept = subst (λ k. AreOpeningsOf 0 shape depth (map (λ (x : Bor Game). x.now) (take (k * size) c.args.games.now)) c.add_openings.new.openings.entries) (sym (length-append c.loop-piece.yielded (c.in-Some.piece ∷ [])))
    (openings-chunk (λ (x : Bor Game). x.now) shape depth c.args.games.now size n c.requires given.argument.now given.argument_is c.loop-piece.openings.entries c.in_ok-piece.field-0.entries c.loop-piece.invariant.kept are_more c.add_openings.new.openings.entries added.0 added.1) in
    record { kept = kept; width = c.add_openings.ensures.width ∙ c.loop-piece.invariant.width }

pub returns : goal.returns
returns g c =
    let size = c.piece_size-size.result in
    let pieces = c.in_ok-pieces.pieces.items in
    let games = c.args.games.now in
    let h = c.into_iter-piece-iterator.ensures.into_iter_gives in
    let gives = YieldsList-from_vec pieces h.0 (omega (arith, h.1)) in
    let end = YieldsList-end gives c.loop-piece.yielded c.loop-piece.piece-iterator c.loop-piece.yielded_by c.next.result c.next.new.self c.in-None.is c.next.ensures.steps in
    let all : length games ≤ length pieces * size = first_of (search rules, grind (arith, common_steps)) in
    let enough : length games ≤ length c.loop-piece.yielded * size = subst (λ k. length games ≤ k * size) (sym end.1) all in
    subst (λ gs. AreOpeningsOf 0 c.args.asked.shape c.args.asked.depth (map (λ (x : Bor Game). x.now) gs) c.loop-piece.openings.entries) (take_all (length c.loop-piece.yielded * size) games enough) c.loop-piece.invariant.kept
