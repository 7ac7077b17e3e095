use Rattle.std.proofs.Common.{◌≡◌, ◌∙◌, Err, Some, ap, subst}
use Rattle.serial_run.specs.Script.{IsBad}
use Rattle.serial_run.proofs.ScriptLemmas.{IsBad-read, IsScript-few, IsScript-read, nothing_left}
use Rattle.serial_run.proofs.script.read_statements.Goals as goal

pub returns-in-Ok-read_whole-clause-spelled : goal.returns-in-Ok-read_whole-clause-spelled
returns-in-Ok-read_whole-clause-spelled g c = λ bytes told.
    IsScript-read bytes c.deref.result.now c.in-Ok-read_whole.placed.items (c.deref.ensures.value ∙ c.in-Ok.ensures.text bytes told) c.in-Ok-read_whole.ensures.script

pub returns-in-Ok-read_whole-clause-few : goal.returns-in-Ok-read_whole-clause-few
returns-in-Ok-read_whole-clause-few g c = IsScript-few c.deref.result.now c.in-Ok-read_whole.placed.items c.in-Ok-read_whole.ensures.script

pub returns-in-Ok-read_whole-clause-left : goal.returns-in-Ok-read_whole-clause-left
returns-in-Ok-read_whole-clause-left g c = λ bytes told.
    let script = IsScript-read bytes c.deref.result.now c.in-Ok-read_whole.placed.items (c.deref.ensures.value ∙ c.in-Ok.ensures.text bytes told) c.in-Ok-read_whole.ensures.script in
    c.in-Ok.ensures.left bytes told ∙ ap Some (nothing_left bytes script.0)

pub returns-in-Err-BadLine-clause-bad_line : goal.returns-in-Err-BadLine-clause-bad_line
returns-in-Err-BadLine-clause-bad_line g c = λ bytes told k is.
    let bad = IsBad-read bytes c.deref.result.now c.in-Err-BadLine.line (c.deref.ensures.value ∙ c.in-Ok.ensures.text bytes told) (c.in-Err-BadLine.ensures.bad_line c.in-Err-BadLine.line (ap Err c.in-Err-BadLine.field-0-is)) in
    let same : c.in-Err-BadLine.line ≡ k = cc in
    subst (IsBad bytes) same bad
