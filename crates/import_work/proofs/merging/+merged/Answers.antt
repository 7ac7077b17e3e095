use Rattle.std.proofs.Common.{◌≡◌, ◌/◌, ◌<◌, ◌≤◌, ◌++◌, ◌∙◌, List, ap, ap₂, arith, length, length-append, rules}
use Rattle.std.proofs.lemmas.Result.{IfOk-weaker}
use Rattle.node_position.specs.Games.{Game}
use Rattle.import_work.specs.Log.{games_of_segments}
use Rattle.import_work.proofs.OneSegment.{games_of_halves}
use Rattle.import_work.proofs.merging.+merged.Goals as goal

pub merged-requires : goal.merged-requires
merged-requires t c =
    let before = c.split_at.result.0.now in
    let behind = c.split_at.result.1.now in
    let all = games_of_halves c.args.segments.now before behind (length c.args.segments.now / 2) c.split_at.ensures.front c.split_at.ensures.back in
    let few : length (games_of_segments before) ≤ 400000 = omega (arith, ap length all, length-append (games_of_segments before) (games_of_segments behind), c.requires) in
    let more : 2 ≤ length c.args.segments.now = grind arith in
    let smaller : length before < length c.args.segments.now = omega (arith, c.split_at.ensures.front_len, more) in
    search rules

pub merged-requires-2 : goal.merged-requires-2
merged-requires-2 t c =
    let before = c.split_at.result.0.now in
    let behind = c.split_at.result.1.now in
    let all = games_of_halves c.args.segments.now before behind (length c.args.segments.now / 2) c.split_at.ensures.front c.split_at.ensures.back in
    let few : length (games_of_segments behind) ≤ 400000 = omega (arith, ap length all, length-append (games_of_segments before) (games_of_segments behind), c.requires) in
    let more : 2 ≤ length c.args.segments.now = grind arith in
    let smaller : length behind < length c.args.segments.now = omega (arith, c.split_at.ensures.back_len, more) in
    search rules

pub returns : goal.returns
returns t c =
    let before = c.split_at.result.0.now in
    let behind = c.split_at.result.1.now in
    let all = games_of_halves c.args.segments.now before behind (length c.args.segments.now / 2) c.split_at.ensures.front c.split_at.ensures.back in
    IfOk-weaker c.merge-2.result _ _ (λ one is. is ∙ (ap₂ (λ (xs ys : List Game). xs ++ ys) c.in_ok-a.ensures c.in_ok-b.ensures ∙ all)) c.merge-2.ensures
