use Rattle.std.proofs.Common.{◌≤◌, ◌-◌, ℕ, List, length, take}
use Rattle.kb_edges.specs.Told.{IfTold}
use Rattle.version_publisher.specs.Contents.{items_in}
use Rattle.import_work.specs.Log.{Segment}
use Rattle.session_core.specs.Watches.{WatchesFit}
use Rattle.search_run.specs.Beside.{HasAnswered}
use Rattle.search_run.specs.Seen.{HaveSeen, IsVersionOf}
use Rattle.search_run.proofs.beside.answer_beside.Given as goal

abbrev pub invariant-loop-count : goal.invariant-loop-count
invariant-loop-count g l = record {
  few : l.count ≤ length l.placed;
  held : IsVersionOf l.held l.searchers.own.seen;
  fit : WatchesFit (items_in l.searchers.own.seen) l.session;
  later : g.K.Sink.faults l.fn.out ≤ g.K.Sink.faults l.out;
  seen : (log : List Segment) → HaveSeen l.searchers.own l.searchers.block.items log → HaveSeen l.fn.searchers.own l.fn.searchers.block.items log;
  answered : IfTold (g.K.Sink.written l.fn.out) (λ before. (batch : ℕ) → HasAnswered batch (HaveSeen l.fn.searchers.own l.fn.searchers.block.items) l.fn.held.number l.fn.session (take l.count l.placed) (HaveSeen l.searchers.own l.searchers.block.items) l.held.number l.session before (g.K.Sink.written l.out));
}

abbrev pub decreases-loop-count : goal.decreases-loop-count
decreases-loop-count g l = length l.placed - l.count
