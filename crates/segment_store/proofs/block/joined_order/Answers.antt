use Rattle.std.proofs.Common.{sym, ◌∙◌, arith}
use Rattle.std.proofs.lemmas.Result.{IfOk-weaker}
use Rattle.segment_store.proofs.OrdersOfGames.{orders-join}
use Rattle.segment_store.proofs.block.joined_order.Goals as goal

pub join-requires-clause-same : goal.join-requires-clause-same
join-requires-clause-same c = c.in-Some-Some.ensures.value.0 ∙ sym c.in-Some-Some.ensures'.value.0

pub join-requires-clause-few : goal.join-requires-clause-few
join-requires-clause-few c = omega (arith, c.in-Some-Some.ensures.value.1.0, c.in-Some-Some.ensures'.value.1.0, c.requires.few)

pub returns : goal.returns
returns c =
    let w = c.in-Some-Some in
    let first = w.ensures.value in
    let second = w.ensures'.value in
    IfOk-weaker c.join.result _ _ (λ both joined. orders-join c.args.a.now c.args.b.now w.one.now w.other.now both first.1 second.1 (first.0 ∙ sym second.0) joined) c.join.ensures
