use Rattle.std.proofs.Common.{◌≡◌, ◌∙◌, [], arith, rules, subst, sym}
use Rattle.std.proofs.lemmas.Grind.{common_steps}
use Rattle.std.proofs.lemmas.Iterator.Adapters.{YieldsList-from_vec}
use Rattle.std.proofs.lemmas.Iterator.Consumers.{YieldsList-end}
use Rattle.std.proofs.lemmas.List.{map-id}
use Rattle.kb_geometry.specs.Pieces.{ArePiecesJoined}
use Rattle.kb_geometry.proofs.Pieces.{ArePiecesJoined-more, ArePiecesJoined-none}
use Rattle.kb_geometry.proofs.joining.joined.Goals as goal

pub loop-piece-init : goal.loop-piece-init
loop-piece-init g c = subst (ArePiecesJoined []) (sym c.new-all.ensures.items) ArePiecesJoined-none

pub loop-piece-preserved : goal.loop-piece-preserved
loop-piece-preserved g c = ArePiecesJoined-more c.loop-piece.yielded c.in-Some.piece c.loop-piece.all.items c.add_piece.new.all.items c.loop-piece.invariant c.in_ok-add_piece.ensures

pub returns : goal.returns
returns g c =
    let all : c.loop-piece.yielded ≡ c.args.pieces.items = sym (map-id c.loop-piece.yielded) ∙ (YieldsList-end (YieldsList-from_vec {s = c.into_iter-piece-iterator.result} c.args.pieces.items (first_of (search rules, grind (arith, common_steps))) (first_of (search rules, grind (arith, common_steps)))) c.loop-piece.yielded c.loop-piece.piece-iterator c.loop-piece.yielded_by c.next.result c.next.new.self c.in-None.is c.next.ensures.steps).0 in
    subst (λ pieces. ArePiecesJoined pieces c.loop-piece.all.items) all c.loop-piece.invariant
