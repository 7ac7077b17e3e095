use Rattle.std.specs.Prelude.{string_bytes}
use Rattle.hit_collectors.proofs.RoomSteps.{hit_taken}
use Rattle.hit_collectors.proofs.counter.CounterCollector.take.Goals as goal

pub returns-clause-ok : goal.returns-clause-ok
returns-clause-ok c =
    hit_taken (string_bytes c.args.self.now.name) c.args.self.now.kind c.args.hit.now c.args.self.now.numbers c.counted_by-i.result c.one_more.result
    c.counted_by-i.ensures.value c.counted_by-i.ensures.below c.one_more.ensures
