use Rattle.std.proofs.Common.{arith, ap, ◌∙◌}
use Rattle.std.proofs.lemmas.Result.{IfOk-weaker}
use Rattle.segment_store.specs.Blocks.{games_in}
use Rattle.segment_store.proofs.GamesInBlocks.{games_joined}
use Rattle.segment_store.proofs.block_list.merged.Goals as goal

pub returns : goal.returns
returns c =
    let one = c.as_slice-a.result.now in
    let other = c.as_slice-b.result.now in
    let all = games_joined one other c.last-item.result c.first-item.result c.args.a.now c.args.b.now (omega (arith, c.in-len1-up.len_at_least)) (omega (arith, c.in-len1-up-b.len_at_least)) c.last-item.is c.first-item.is (ap games_in c.as_slice-a.ensures.value ∙ c.a.view_is) (ap games_in c.as_slice-b.ensures.value ∙ c.b.view_is) in
    IfOk-weaker c.merge_joined.result _ _ (λ merged is. is ∙ all) c.merge_joined.ensures
