use Rattle.std.proofs.Common.{◌+◌, ◌∙◌, [], All, arith, refl, subst, sym, take}
use Rattle.std.proofs.lemmas.List.{length-drop, take_all}
use Rattle.std.proofs.lemmas.List.Elements.{All-nil}
use Rattle.session_core.specs.Watches.{IsWatchOf}
use Rattle.search_run.specs.Run.{beside_rules}
use Rattle.search_run.specs.Stopped.{WritesPublishedPrefix}
use Rattle.search_run.proofs.StoppedRuns.{taken_apart}
use Rattle.search_run.proofs.JoinedRuns.{rose_since, stands-first, starts-run, taken_with}
use Rattle.search_run.proofs.run_beside.run_all.Goals as goal

pub loop-next-init : goal.loop-next-init
loop-next-init g c = record {
  inside = omega arith;
  few = rw c.requires.empty (omega arith);
  stands = rw c.new-state.ensures (stands-first _ c.args.importer.owned.publisher c.args.searchers.own c.requires.opening c.requires.idle c.requires.merged c.requires.empty c.requires.seen);
  fit = rw c.new-state.ensures (subst (All (IsWatchOf [])) (sym c.requires.unwatched) (All-nil (IsWatchOf [])));
  same = refl;
  later = omega arith;
  sink_later = omega arith;
  ran = λ files told before written. rw c.new-state.ensures (starts-run (beside_rules c.args.batch) files c.args.session.now c.args.importer.owned.publisher.log before (g.K.Sink.written c.args.out.now) (g.F.Folder.faults c.args.importer.folder) c.requires.unwatched c.requires.empty written);
}

pub loop-next-preserved : goal.loop-next-preserved
loop-next-preserved g c =
    let h = c.loop-next.invariant in
    let run = c.run_next-passed.ensures in
    let placed = c.args.placed.now in
    let i = c.loop-next.next in
    let p = c.index-placed-next.result in
    let count = rw c.in-Ok.is at run.count in record {
      inside = omega (arith, count, length-drop (i + 1) placed, c.loop-next-test.true);
      few = omega (arith, h.few, run.few);
      stands = rw c.in-Ok.is at run.stands;
      fit = rw c.in-Ok.is at run.fit;
      same = run.same ∙ h.same;
      later = omega (arith, h.later, run.later);
      sink_later = omega (arith, h.sink_later, run.sink_later);
      ran = λ files told before written.
          let on = rw c.in-Ok.is at (run.ran files (h.same ∙ told)) in
          rw (taken_with placed i c.in-Ok.count p c.loop-next-test.true c.index-placed-next.is)
          (on c.args.session.now.boxes (take i placed) before (g.F.Folder.faults c.args.importer.folder) (h.ran files told before written));
    }

pub returns-in-Err-clause-sink_fault : goal.returns-in-Err-clause-sink_fault
returns-in-Err-clause-sink_fault g c = λ is.
    rose_since _ _ _ c.loop-next.invariant.sink_later (c.run_next-passed.ensures.sink_fault (rw c.in-Err.is is))

pub returns-clause-ran : goal.returns-clause-ran
returns-clause-ran g c = λ files told before written. rw (← take_all c.loop-next.next c.args.placed.now (omega (arith, c.loop-next-test.false))) (c.loop-next.invariant.ran files told before written)

pub returns-in-Err-clause-stopped : goal.returns-in-Err-clause-stopped
returns-in-Err-clause-stopped g c = λ files told before written.
    let h = c.loop-next.invariant in
    let placed = c.args.placed.now in
    let i = c.loop-next.next in
    let p = c.index-placed-next.result in
    let back = c.run_next-passed.result.importer in
    let stop = rw c.in-Err.is at (c.run_next-passed.ensures.stopped files (h.same ∙ told)) in
    subst (λ ps. WritesPublishedPrefix (beside_rules c.args.batch) files c.args.session.now.boxes ps before (g.K.Sink.written c.run_next-passed.new.out) (g.F.Folder.faults c.args.importer.folder) (g.F.Folder.faults back.folder) back.owned.publisher.log)
    (taken_apart placed i p c.loop-next-test.true c.index-placed-next.is)
    (stop c.args.session.now.boxes (take i placed) before (g.F.Folder.faults c.args.importer.folder) (h.ran files told before written))
