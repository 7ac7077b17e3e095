use Rattle.std.proofs.Common.{◌∙◌}
use Rattle.query_script.specs.Texts.{retire_text}
use Rattle.session_core.proofs.AnswerTexts.{IsRetiredBy-none, IsRetiredBy-retired}
use Rattle.session_core.proofs.boxes.retire_box.Goals as goal

pub returns-in-Ok-clause-ok : goal.returns-in-Ok-clause-ok
returns-in-Ok-clause-ok g c =
    IsRetiredBy-retired c.args.line c.args.name.now _ _ c.args.out.now.items c.print_retire.new.out.items c.in-Ok.ensures.told c.in_ok-print_retire.ensures.ok

pub returns-in-Err-clause-ok : goal.returns-in-Err-clause-ok
returns-in-Err-clause-ok g c =
    IsRetiredBy-none c.print_no_retire.result (λ b. g.C.Collector.tally b) c.args.line c.args.name.now c.args.boxes.now.items c.retire.new.boards.items
    c.args.out.now.items (retire_text c.args.line c.args.name.now) c.truncate.new.self.items c.print_no_retire.new.out.items c.len-len.result
    c.in-Err.ensures.none c.in-Err.ensures.same (c.len-len.ensures ∙ c.args.out.now.ok.0) (rw c.in_ok-print_retire.ensures.ok at c.truncate.ensures.items) c.print_no_retire.ensures.ok
