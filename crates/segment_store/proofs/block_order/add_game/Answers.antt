use Rattle.std.proofs.Common.{sym, ◌∙◌}
use Rattle.std.proofs.lemmas.Bool.{false≢true}
use Rattle.std.proofs.lemmas.Result.{on_ok_weaker}
use Rattle.segment_store.proofs.OneTree.{node_changes-unique}
use Rattle.segment_store.proofs.OrdersOfGames.{other-more, own-more}
use Rattle.segment_store.proofs.block_order.add_game.Goals as goal

pub returns-then-not-is_on : goal.returns-then-not-is_on
returns-then-not-is_on c =
    other-more c.args.game.now.tree c.args.order.now c.push_other.new.self c.push_other.ensures
    (λ e. false≢true (sym c.if-not-is_on.true ∙ c.is_on.ensures.shape.1 (e ∙ sym c.shape.ensures)))

pub push-requires-clause-shape : goal.push-requires-clause-shape
push-requires-clause-shape c = c.deltas.ensures.lead.same_shape ∙ c.is_on.ensures.shape.0 c.if-not-is_on.false ∙ c.shape.ensures

pub returns : goal.returns
returns c =
    let tree = c.args.game.now.tree in
    let own = c.deltas.result.now in
    on_ok_weaker c.push.result
    (λ more. own-more tree own c.args.order.now c.push.new.self (λ other others. node_changes-unique tree other own c.is_on.ensures.tree others c.deltas.ensures) more) c.push.ensures.ok
