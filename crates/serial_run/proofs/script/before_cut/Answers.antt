use Rattle.std.proofs.Common.{◌+◌, arith}
use Rattle.std.proofs.lemmas.List.{length-take}
use Rattle.serial_run.proofs.ScriptLemmas.{IsCut-all, IsCut-behind, last_allowed}
use Rattle.serial_run.proofs.script.before_cut.Goals as goal

pub slice_bounds-allowed-end : goal.slice_bounds-allowed-end
slice_bounds-allowed-end c = omega (arith, length-take 1048576 c.args.text.now, c.requires)

pub overflow_add-result : goal.overflow_add-result
overflow_add-result c =
    let below = last_allowed c.args.text.now c.in-Some.last c.in-Some.ensures in
    omega (arith, below)

pub slice_bounds-result-end : goal.slice_bounds-result-end
slice_bounds-result-end c =
    let below = last_allowed c.args.text.now c.in-Some.last c.in-Some.ensures in
    omega (arith, length-take (c.in-Some.last + 1) c.args.text.now, c.requires, below)

pub returns-in-Some : goal.returns-in-Some
returns-in-Some c = IsCut-behind c.args.text.now c.in-Some.last c.requires c.in-Some.ensures

pub returns-in-None : goal.returns-in-None
returns-in-None c = IsCut-all c.args.text.now c.requires c.in-None.ensures
