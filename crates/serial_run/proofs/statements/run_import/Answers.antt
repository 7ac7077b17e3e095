use Rattle.std.proofs.Common.{Some, [], ◌∙◌, ap, inl, inr, refl, sym}
use Rattle.std.proofs.lemmas.List.{append-nil}
use Rattle.kb_geometry.proofs.Prefixes.{prefix_same}
use Rattle.session_core.specs.SessionState.{SessionState}
use Rattle.serial_run.specs.Run.{serial_rules}
use Rattle.serial_run.specs.Steps.{StopsInStatement, import_at}
use Rattle.serial_run.proofs.RunLemmas.{after_error}
use Rattle.serial_run.proofs.StatementLemmas.{text-import}
use Rattle.serial_run.proofs.statements.run_import.Goals as goal

pub returns-clause-passed : goal.returns-clause-passed
returns-clause-passed g c = λ files told before written. λ session. record {
  text = c.in_ok-text.text.items;
  text_is = λ files s kept. text-import (serial_rules c.args.batch) files s c.args.state session session kept c.args.line c.in_ok-text.text.items c.args.source.now c.in_ok-text.ensures refl;
  written_is = rw c.deref.ensures.value at (c.in_ok-write_all.ensures.whole before written);
  leads = c.in_ok-pass_import.ensures.passed files told c.in_ok-text.text.items;
}

pub returns-in_err-text-clause-stopped : goal.returns-in_err-text-clause-stopped
returns-in_err-text-clause-stopped g c = λ before written.
    let stops : (session : SessionState) → StopsInStatement (serial_rules c.args.batch) c.args.state session (import_at c.args.line c.args.source.now) before (g.K.Sink.written c.args.out.now) =
    λ session. record { more = []; prefix = inl refl; written_is = written ∙ ap Some (sym (append-nil before)) } in
    after_error _ _ stops

pub returns-in_err-write_all-clause-stopped : goal.returns-in_err-write_all-clause-stopped
returns-in_err-write_all-clause-stopped g c = λ before written.
    let part = rw c.deref.ensures.value at (c.in_err-write_all.ensures.part before written) in
    let text = c.in_ok-text.text.items in
    let stops : (session : SessionState) → StopsInStatement (serial_rules c.args.batch) c.args.state session (import_at c.args.line c.args.source.now) before (g.K.Sink.written c.write_all.new.out) =
    λ session. record {
      more = part.0;
      prefix = inr (text, session, (λ files s kept. text-import (serial_rules c.args.batch) files s c.args.state session session kept c.args.line text c.args.source.now c.in_ok-text.ensures refl), part.1);
      written_is = part.2;
    } in
    after_error _ _ stops

pub returns-in_err-pass_import-clause-stopped : goal.returns-in_err-pass_import-clause-stopped
returns-in_err-pass_import-clause-stopped g c = λ before written.
    let text = c.in_ok-text.text.items in
    let stops : (session : SessionState) → StopsInStatement (serial_rules c.args.batch) c.args.state session (import_at c.args.line c.args.source.now) before (g.K.Sink.written c.write_all.new.out) =
    λ session. record {
      more = text;
      prefix = inr (text, session, (λ files s kept. text-import (serial_rules c.args.batch) files s c.args.state session session kept c.args.line text c.args.source.now c.in_ok-text.ensures refl), prefix_same text);
      written_is = rw c.deref.ensures.value at (c.in_ok-write_all.ensures.whole before written);
    } in
    after_error _ _ stops
