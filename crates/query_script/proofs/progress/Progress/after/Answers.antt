use Rattle.query_script.proofs.progress.Progress.after.Goals as goal

pub returns-in-Outside-clause-bad_line : goal.returns-in-Outside-clause-bad_line
returns-in-Outside-clause-bad_line c = λ k is lines h at. c.read_outside.ensures.bad_line k is lines (rw c.in-Outside.is at h) at

pub returns-in-Inside-clause-bad_line : goal.returns-in-Inside-clause-bad_line
returns-in-Inside-clause-bad_line c = λ k is lines h at. c.read_inside.ensures.bad_line k is lines (rw c.in-Inside.is at h) at

pub returns-in-Broken-clause-bad_line : goal.returns-in-Broken-clause-bad_line
returns-in-Broken-clause-bad_line c = λ k is lines h at. c.read_broken.ensures.bad_line k is lines c.args.placed.now.items c.args.number (rw c.in-Broken.is at h) at
