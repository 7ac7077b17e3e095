use Rattle.std.proofs.Common.{◌≡◌, ◌∙◌, arith, length, rules, subst, sym}
use Rattle.std.proofs.lemmas.Grind.{common_steps}
use Rattle.std.proofs.lemmas.Iterator.Adapters.{YieldsList-from_vec}
use Rattle.std.proofs.lemmas.Iterator.Consumers.{YieldsList-end, YieldsList-turn}
use Rattle.std.proofs.lemmas.List.{map-id}
use Rattle.std.proofs.lemmas.List.Elements.{All-get_or}
use Rattle.import_work.specs.Judged.{AreFoundFiles, HasAllGames, files_in}
use Rattle.import_work.proofs.Judges.{piece-judged, pieces-start}
use Rattle.import_work.proofs.judge.judge_all.Goals as goal

pub loop-piece-init : goal.loop-piece-init
loop-piece-init c = λ texts none. pieces-start texts _ _ _ c.new-segments.ensures.items none

pub judge_piece-requires : goal.judge_piece-requires
judge_piece-requires c =
    let turn = YieldsList-turn (YieldsList-from_vec {s = c.into_iter-piece-iterator.result} c.args.pieces.items (first_of (search rules, grind (arith, common_steps))) (first_of (search rules, grind (arith, common_steps)))) c.loop-piece.yielded c.loop-piece.piece-iterator c.loop-piece.yielded_by c.next.result c.next.new.self c.in-Some.piece c.in-Some.is c.next.ensures.steps in
    subst HasAllGames (sym turn.1) (All-get_or HasAllGames c.args.pieces.items (length c.loop-piece.yielded) c.in-Some.piece turn.0 c.requires)

pub loop-piece-preserved : goal.loop-piece-preserved
loop-piece-preserved c = λ texts are.
    piece-judged texts c.loop-piece.yielded c.in-Some.piece _ c.loop-piece.counts _ _ _ _ c.loop-piece.segments.items _ _ c.loop-piece.invariant c.in_ok-judge_piece.ensures c.in_ok-push.ensures.items are

pub returns : goal.returns
returns c = λ texts are.
    let all : c.loop-piece.yielded ≡ c.args.pieces.items = sym (map-id c.loop-piece.yielded) ∙ (YieldsList-end (YieldsList-from_vec {s = c.into_iter-piece-iterator.result} c.args.pieces.items (first_of (search rules, grind (arith, common_steps))) (first_of (search rules, grind (arith, common_steps)))) c.loop-piece.yielded c.loop-piece.piece-iterator c.loop-piece.yielded_by c.next.result c.next.new.self c.in-None.is c.next.ensures.steps).0 in
    c.loop-piece.invariant texts (subst (λ ps. AreFoundFiles texts (files_in ps)) (sym all) are)
