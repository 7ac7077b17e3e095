use Rattle.std.proofs.Common.{◌≡◌, ℕ, ◌<◌, ◌≤◌, length}
use Rattle.final_index.specs.Spans.{IsBackAt, below_at}
use Rattle.final_index.proofs.spans.Spans.go_back.Given as goal

-- the first so many points are gone back with
abbrev pub invariant-loop-p : goal.invariant-loop-p
invariant-loop-p l = record {
  from : l.self.stone_from.items ≡ l.fn.self.stone_from.items;
  count : length l.self.empty_below.items ≡ length l.fn.self.empty_below.items;
  back : (q : ℕ) → q < l.p → IsBackAt l.fn.parent l.n l.end (below_at l.fn.self q) (below_at l.self q);
  rest : (q : ℕ) → l.p ≤ q → below_at l.self q ≡ below_at l.fn.self q;
}
