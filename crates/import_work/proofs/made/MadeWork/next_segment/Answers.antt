use Rattle.std.proofs.Common.{◌≡◌, ◌+◌, ◌-◌, ◌<◌, ap, arith, length, replicate}
use Rattle.std.proofs.lemmas.List.{length-replicate}
use Rattle.import_work.specs.Course.{made_name}
use Rattle.import_work.proofs.MadeSteps.{made_taken}
use Rattle.import_work.proofs.made.MadeWork.next_segment.Goals as goal

pub returns-clause-ended : goal.returns-clause-ended
returns-clause-ended g c =
    let own = c.args.self.now in
    let left : 0 < own.games - (own.added + own.full) = omega (arith, c.if-left-eq0.false, c.requires.kept.passed) in
    let many : length (replicate (own.games - (own.added + own.full)) made_name) ≡ own.games - (own.added + own.full) = length-replicate (own.games - (own.added + own.full)) made_name in
    ((λ same. cc), (λ none. absurd (omega (arith, left, many, ap length none))))

pub returns-clause-step : goal.returns-clause-step
returns-clause-step g c =
    let own = c.args.self.now in
    made_taken own.games own.start own.added own.full c.args.batch c.min-count.result c.room_for-fit.result c.args.before c.in_ok-segment.segment
    c.requires.some (omega (arith, c.if-left-eq0.false, c.requires.kept.passed)) c.min-count.ensures c.room_for-fit.ensures.few c.room_for-fit.ensures.room c.room_for-fit.ensures.most c.in_ok-segment.ensures
