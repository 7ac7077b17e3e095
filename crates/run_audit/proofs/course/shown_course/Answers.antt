use Rattle.run_audit.proofs.CourseEnds.{whole-lines, whole-shows}
use Rattle.run_audit.proofs.course.shown_course.Goals as goal

pub returns-clause-lines : goal.returns-clause-lines
returns-clause-lines c =
    whole-lines c.in_ok-shown.shown.len c.in_ok-shown.shown.items c.deref_mut.result.now c.see_lines.new.shown c.deref_mut-2.result.now c.sort_names.new.shown c.in_ok-shown.shown.ok.0 c.deref_mut.ensures.value c.see_lines.ensures.counted c.see_lines.ensures.lines
    c.deref_mut-2.ensures.value c.sort_names.ensures.counted c.sort_names.ensures.sorted c.args.placed.now c.in_ok-shown.ensures.lines

pub returns-clause-each : goal.returns-clause-each
returns-clause-each c =
    whole-shows c.in_ok-shown.shown.len c.in_ok-shown.shown.items c.deref_mut.result.now c.see_lines.new.shown c.deref_mut-2.result.now c.sort_names.new.shown c.in_ok-shown.shown.ok.0 c.deref_mut.ensures.value c.see_lines.ensures.counted c.see_lines.ensures.lines
    c.deref_mut-2.ensures.value c.sort_names.ensures.counted c.sort_names.ensures.sorted c.args.recorded.now c.in_ok-shown.ensures.numbered c.in_ok-shown.ensures.nothing c.in_ok-see_lines.ensures.seen
