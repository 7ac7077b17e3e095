use Rattle.std.proofs.Common.{ℕ, ◌++◌, arith, drop, suc, take}
use Rattle.search_run.specs.Beside.{StopsBeside}
use Rattle.search_run.specs.Seen.{HaveSeen}
use Rattle.search_run.proofs.BesideLemmas.{answered-all, answers-more, answers-none}
use Rattle.serial_run.proofs.RunLemmas.{after_error, split_here, taken_more}
use Rattle.search_run.proofs.StoppedRuns.{stops-more}
use Rattle.search_run.proofs.SeenLemmas.{prefix_length}
use Rattle.search_run.proofs.beside.answer_beside.Goals as goal

pub loop-count-init : goal.loop-count-init
loop-count-init g c = record {
  few = omega arith;
  held = c.requires.held;
  fit = c.requires.fit;
  later = omega arith;
  seen = λ log h. h;
  answered = λ before written. λ batch. answers-none batch (HaveSeen c.args.searchers.now.own c.args.searchers.now.block.items) c.args.held.number c.args.session.now before _ written;
}

pub returns-in_err-version-clause-seen : goal.returns-in_err-version-clause-seen
returns-in_err-version-clause-seen g c = λ log h. c.loop-count.invariant.seen log (c.answer_one.ensures.seen log h)

pub returns-in-None-clause-seen : goal.returns-in-None-clause-seen
returns-in-None-clause-seen g c = λ log h. c.loop-count.invariant.seen log (c.answer_one.ensures.seen log h)

pub returns-in-None-clause-answered : goal.returns-in-None-clause-answered
returns-in-None-clause-answered g c = λ before written.
    let h = c.loop-count.invariant in
    let at = c.loop-count.searchers in
    let now = c.answer_one.new.searchers in
    let waits = c.in_ok-version.ensures.waits c.in-None.is in
    rw (waits.0, waits.1)
    (answered-all (HaveSeen c.args.searchers.now.own c.args.searchers.now.block.items) (HaveSeen at.own at.block.items) (HaveSeen now.own now.block.items) c.args.held.number c.loop-count.held.number c.args.session.now c.loop-count.session (take c.loop-count.count c.args.placed.now) before _
    (h.answered before written) c.answer_one.ensures.seen (λ log seen. omega (arith, h.held.number, prefix_length at.own.seen log (c.answer_one.ensures.seen log seen).own_seen)))

pub loop-count-preserved : goal.loop-count-preserved
loop-count-preserved g c =
    let h = c.loop-count.invariant in
    let at = c.loop-count.searchers in
    let now = c.answer_one.new.searchers in
    let p = c.index-placed-count.result in record {
      few = omega (arith, c.loop-count-test.true);
      held = rw c.in-Some.is at c.in_ok-version.ensures.version;
      fit = c.in_ok-version.ensures.fit;
      later = omega (arith, h.later, c.answer_one.ensures.sink_later);
      seen = λ log seen. h.seen log (c.answer_one.ensures.seen log seen);
      answered = λ before written. λ batch.
          let so_far = h.answered before written batch in
          let one = rw c.in-Some.is at (c.in_ok-version.ensures.answered (before ++ so_far.text) so_far.written_is) in
          rw (taken_more c.args.placed.now c.loop-count.count p c.loop-count-test.true c.index-placed-count.is)
          (answers-more batch (HaveSeen c.args.searchers.now.own c.args.searchers.now.block.items) (HaveSeen at.own at.block.items) (HaveSeen now.own now.block.items) c.args.held.number c.loop-count.held.number _ c.args.session.now c.loop-count.session c.answer_one.new.session (take c.loop-count.count c.args.placed.now) p before _ _ so_far (one batch));
    }

pub returns-clause-answered : goal.returns-clause-answered
returns-clause-answered g c = λ before written.
    let h = c.loop-count.invariant in
    let at = c.loop-count.searchers in
    answered-all (HaveSeen c.args.searchers.now.own c.args.searchers.now.block.items) (HaveSeen at.own at.block.items) (HaveSeen at.own at.block.items) c.args.held.number c.loop-count.held.number c.args.session.now c.loop-count.session (take c.loop-count.count c.args.placed.now) before _
    (h.answered before written) (λ log seen. seen) (λ log seen. omega (arith, h.held.number, prefix_length at.own.seen log seen.own_seen))

pub returns-in_err-version-clause-stopped : goal.returns-in_err-version-clause-stopped
returns-in_err-version-clause-stopped g c = λ before written.
    let first = c.args.searchers.now in
    let at = c.loop-count.searchers in
    let now = c.answer_one.new.searchers in
    let placed = c.args.placed.now in
    let i = c.loop-count.count in
    let p = c.index-placed-count.result in
    let stops : (batch : ℕ) → StopsBeside batch (HaveSeen first.own first.block.items) c.args.held.number c.args.session.now placed (HaveSeen now.own now.block.items) before (g.K.Sink.written c.answer_one.new.out) = λ batch.
    let so_far = c.loop-count.invariant.answered before written batch in
    let one = c.in_err-version.ensures.stopped (before ++ so_far.text) so_far.written_is in
    stops-more batch (HaveSeen first.own first.block.items) (HaveSeen at.own at.block.items) (HaveSeen now.own now.block.items) c.args.held.number c.loop-count.held.number c.args.session.now c.loop-count.session (take i placed) p (drop (suc i) placed) placed before _ _ so_far
    (split_here placed i p c.loop-count-test.true c.index-placed-count.is) (one batch) in
    after_error _ _ stops
