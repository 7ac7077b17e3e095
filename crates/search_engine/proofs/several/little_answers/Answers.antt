use Rattle.search_engine.proofs.SeveralAnswers.{answers_more}
use Rattle.search_engine.proofs.several.little_answers.Goals as goal

pub loop-one-preserved : goal.loop-one-preserved
loop-one-preserved c =
    let more = answers_more c.args.asked.now c.loop-one.one-index c.loop-one.answers.items c.push.new.self.items _ c.one-item.result c.in_ok-answer.field-0 c.in-Some.answer c.loop-one-test.true c.one-item.is c.loop-one.invariant.as_many c.loop-one.invariant.are c.in_ok-answer.ensures c.in-Some.is c.in_ok-push.ensures.items in
    record { as_many = more.0; are = more.1 }
