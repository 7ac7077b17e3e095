use Rattle.hit_collectors.specs.Tallies.{BoxTally}
use Rattle.hit_collectors.proofs.RetiredBoxes.{first_retired, retired_shown}
use Rattle.hit_collectors.proofs.retiring.retire.Goals as goal

pub returns-clause-ok : goal.returns-clause-ok
returns-clause-ok g c =
    first_retired _ c.args.name.now c.deref.result.now c.args.boards.now.items c.remove-retired.new.self.items c.in-Some.i c.remove-retired.result
    c.deref.ensures.value c.in-Some.ensures.some c.remove-retired.ensures.by_index.2

pub returns-clause-told : goal.returns-clause-told
returns-clause-told g c =
    retired_shown (λ (told : BoxTally). told.name) (λ b. g.C.Collector.tally b) c.args.name.now c.args.boards.now.items
    c.remove-retired.new.self.items
    (first_retired _ c.args.name.now c.deref.result.now c.args.boards.now.items c.remove-retired.new.self.items c.in-Some.i c.remove-retired.result
    c.deref.ensures.value c.in-Some.ensures.some c.remove-retired.ensures.by_index.2)
