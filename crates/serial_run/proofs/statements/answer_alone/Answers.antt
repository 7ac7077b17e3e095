use Rattle.std.proofs.Common.{Some, [], ◌∙◌, ap, inl, inr, refl, subst, sym}
use Rattle.std.proofs.lemmas.List.{append-nil}
use Rattle.session_core.specs.Lawful.{Rules}
use Rattle.session_core.specs.Watches.{WatchesFit}
use Rattle.serial_run.specs.Steps.{StopsInStatement}
use Rattle.serial_run.proofs.RunLemmas.{after_error}
use Rattle.serial_run.proofs.statements.answer_alone.Goals as goal

pub returns-clause-passed : goal.returns-clause-passed
returns-clause-passed g c = λ before written. record {
  text = c.in_ok-text.text.items;
  text_is = c.in_ok-text.ensures.text;
  written_is = rw c.deref.ensures.value at (c.in_ok-write_all.ensures.whole before written);
  leads = λ rules files faults. c.leave.ensures.leads rules files c.args.placed.now.line c.in_ok-text.text.items faults;
}

pub returns-in_err-text-clause-stopped : goal.returns-in_err-text-clause-stopped
returns-in_err-text-clause-stopped g c = λ before written.
    let stops : (rules : Rules) → StopsInStatement rules c.args.state c.args.session.now c.args.placed.now before (g.K.Sink.written c.args.out.now) = λ rules. record { more = []; prefix = inl refl; written_is = written ∙ ap Some (sym (append-nil before)) } in
    after_error _ _ stops

pub returns-in_err-write_all-clause-stopped : goal.returns-in_err-write_all-clause-stopped
returns-in_err-write_all-clause-stopped g c = λ before written.
    let part = rw c.deref.ensures.value at (c.in_err-write_all.ensures.part before written) in
    let stops : (rules : Rules) → StopsInStatement rules c.args.state c.args.session.now c.args.placed.now before (g.K.Sink.written c.write_all.new.out) = λ rules. record { more = part.0; prefix = inr (c.in_ok-text.text.items, c.text_of.new.session, c.in_ok-text.ensures.text rules, part.1); written_is = part.2 } in
    after_error _ _ stops

pub returns-clause-fit : goal.returns-clause-fit
returns-clause-fit g c = subst (λ games. WatchesFit games c.text_of.new.session) (sym c.leave.ensures.games) c.in_ok-text.ensures.fit
