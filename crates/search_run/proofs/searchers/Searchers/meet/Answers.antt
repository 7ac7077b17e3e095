use Rattle.std.proofs.Common.{subst}
use mathlib.Core.List.{IsPrefix}
use Rattle.search_run.proofs.searchers.Searchers.meet.Goals as goal

pub returns-clause-seen : goal.returns-clause-seen
returns-clause-seen g c = record {
  own_seen = subst (IsPrefix c.args.self.now.own.seen) c.meet.ensures.seen.0 c.meet.ensures.seen.1;
  block_seen = rw c.deref_mut.ensures.value at c.meet_each.ensures.seen;
}
