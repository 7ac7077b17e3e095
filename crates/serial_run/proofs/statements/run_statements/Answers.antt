use Rattle.std.proofs.Common.{◌≡◌, ◌++◌, ◌∙◌, ◌∷◌, [], append-nil, arith, drop, map, refl, suc, sym, take}
use Rattle.std.proofs.lemmas.List.{take_all}
use Rattle.std.proofs.lemmas.List.Elements.{All-nil}
use Rattle.session_core.specs.Watches.{IsWatchOf}
use Rattle.serial_run.specs.Run.{serial_rules}
use Rattle.serial_run.proofs.RunLemmas.{HasRun-more, HasRun-start, WritesPrefix-stopped, WritesLawful-end, after_error, next_prefix, split_here, taken_more}
use Rattle.serial_run.proofs.StatementLemmas.{waiting_is}
use Rattle.serial_run.proofs.statements.run_statements.Goals as goal

pub returns-in_err-state-clause-prefix : goal.returns-in_err-state-clause-prefix
returns-in_err-state-clause-prefix g c = λ files told before written.
    let i = c.loop-statement.statement-index in
    let placed = c.args.placed.now in
    let p = c.statement-item.result in
    let h = c.loop-statement.invariant.run files told before written in
    let stop = c.in_err-state.ensures.stopped (before ++ h.text) h.written_is in
    after_error _ _ (WritesPrefix-stopped (serial_rules c.args.batch) files (map (λ b. g.C.Collector.tally b) c.args.boxes.items) c.loop-statement.session placed (take i placed) (p ∷ drop (suc i) placed) c.loop-statement.state before stop.more _ _ _ _ _ h (split_here placed i p c.loop-statement-test.true c.statement-item.is) (next_prefix (serial_rules c.args.batch) files h.state c.loop-statement.state c.loop-statement.session p (drop (suc i) placed) stop.more h.is_kept stop.prefix) stop.written_is c.in_err-state.ensures.later)

pub loop-statement-init : goal.loop-statement-init
loop-statement-init g c = record {
  same = refl;
  later = omega arith;
  sink_later = omega arith;
  fit = rw (c.new-state.ensures, c.new-session.ensures) (All-nil (IsWatchOf []));
  version = rw c.new-state.ensures (omega arith);
  run = λ files told before written. rw c.new-state.ensures (HasRun-start (serial_rules c.args.batch) files (map (λ b. g.C.Collector.tally b) c.args.boxes.items) _ before (g.K.Sink.written c.args.out.now) (g.F.Folder.faults c.args.folder.now) c.new-session.ensures written);
}

pub loop-statement-preserved : goal.loop-statement-preserved
loop-statement-preserved g c = record {
  same = c.in_ok-state.ensures.same ∙ c.loop-statement.invariant.same;
  later = omega (arith, c.loop-statement.invariant.later, c.in_ok-state.ensures.later);
  sink_later = omega (arith, c.loop-statement.invariant.sink_later, c.in_ok-state.ensures.sink_later);
  fit = c.in_ok-state.ensures.fit;
  version = omega (arith, c.loop-statement.invariant.version, c.in_ok-state.ensures.version);
  run = λ files told before written.
      let i = c.loop-statement.statement-index in
      let placed = c.args.placed.now in
      let p = c.statement-item.result in
      let h = c.loop-statement.invariant.run files told before written in
      rw (taken_more placed i p c.loop-statement-test.true c.statement-item.is)
      (HasRun-more (serial_rules c.args.batch) files (map (λ b. g.C.Collector.tally b) c.args.boxes.items) c.loop-statement.session _ (take i placed) p c.loop-statement.state c.in_ok-state.state before _ _ _ _ _ h (c.in_ok-state.ensures.passed files (c.loop-statement.invariant.same ∙ told) (before ++ h.text) h.written_is));
}

pub returns-in_err-write_all-clause-prefix : goal.returns-in_err-write_all-clause-prefix
returns-in_err-write_all-clause-prefix g c = λ files told before written.
    let i = c.loop-statement.statement-index in
    let placed = c.args.placed.now in
    let h = c.loop-statement.invariant.run files told before written in
    let part = c.in_err-write_all.ensures.part (before ++ h.text) h.written_is in
    let all : take i placed ≡ placed = take_all i placed (omega arith) in
    after_error _ _ (WritesPrefix-stopped (serial_rules c.args.batch) files (map (λ b. g.C.Collector.tally b) c.args.boxes.items) c.loop-statement.session placed (take i placed) [] c.loop-statement.state before part.0 _ _ _ _ _ h (sym (append-nil (take i placed) ∙ all)) (rw (c.report.ensures, waiting_is h.state c.loop-statement.state c.loop-statement.session h.is_kept) at part.1) part.2 (omega arith))

pub returns-clause-lawful : goal.returns-clause-lawful
returns-clause-lawful g c = λ files told before written.
    let i = c.loop-statement.statement-index in
    let placed = c.args.placed.now in
    let h = c.loop-statement.invariant.run files told before written in
    let all : take i placed ≡ placed = take_all i placed (omega arith) in
    let whole = c.in_ok-write_all.ensures.whole (before ++ h.text) h.written_is in
    rw (← all) (WritesLawful-end (serial_rules c.args.batch) files (map (λ b. g.C.Collector.tally b) c.args.boxes.items) c.loop-statement.session (take i placed) c.loop-statement.state before _ _ _ _ h (rw c.report.ensures at whole))
