use Rattle.std.proofs.Common.{ℕ, [], arith}
use Rattle.std.specs.Prelude.{Contains}
use Rattle.capture_board.proofs.Neighbours.{around_neighbour, some_entry}
use Rattle.capture_board.proofs.Captures.{IsTaken-none, IsTaken-skip, IsTaken-more, IsTaken-all}
use Rattle.capture_board.proofs.board.captures.find_captured.Goals as goal
use Rattle.capture_board.proofs.board.captures.find_captured.Goals.{in-Some, in_default}

pub add_surrounded-requires-clause-on_board : goal.add_surrounded-requires-clause-on_board
add_surrounded-requires-clause-on_board c = c.requires.on_board _ (some_entry c.args.around.now c.loop-next.next-index _ c.in-Some.is)

no_member : (p : ℕ) → Contains [] p → ⊥
no_member p h = omega (arith, h.1)

pub loop-next-init : goal.loop-next-init
loop-next-init c = record {
  no_group = c.requires.no_group;
  whole_groups = λ p q h. absurd (no_member p (rw c.requires.none_captured at h));
  taken = λ point are. rw c.requires.none_captured (IsTaken-none c.args.shape c.args.cells.now c.args.side point c.args.around.now);
}

pub loop-next-preserved : goal.loop-next-preserved
loop-next-preserved c =
    elim c.match-next.branch [
      | in-Some w ↦ rw w.sets-is record {
        no_group = w.add_surrounded.ensures.no_group;
        whole_groups = w.add_surrounded.ensures.whole_groups;
        taken = λ point are.
            let near = around_neighbour c.args.shape point c.args.around.now are c.loop-next.next-index w.in-Some.touching w.in-Some.is in
            IsTaken-more c.args.shape c.args.cells.now c.args.side point c.args.around.now c.loop-next.sets.captured c.loop-next.next-index (c.loop-next.invariant.taken point are) w.in-Some.touching w.in-Some.is near w.add_surrounded.new.sets.captured (λ q. rw c.stone_of-stone.ensures at (w.add_surrounded.ensures.captured q));
      }
      | in_default w ↦ rw w.sets-is record {
        no_group = c.loop-next.invariant.no_group;
        whole_groups = c.loop-next.invariant.whole_groups;
        taken = λ point are. IsTaken-skip c.args.shape c.args.cells.now c.args.side point c.args.around.now c.loop-next.sets.captured c.loop-next.next-index (c.loop-next.invariant.taken point are) w.in_default.is;
      }
    ]

pub returns-clause-captured : goal.returns-clause-captured
returns-clause-captured c = λ point on are. IsTaken-all c.args.shape c.args.cells.now c.args.side point c.args.around.now c.loop-next.sets.captured c.loop-next.next-index (c.loop-next.invariant.taken point are) (omega arith) are
