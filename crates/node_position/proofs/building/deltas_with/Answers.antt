use Rattle.std.proofs.Common.{◌≡◌, ◌<◌, refl, ◌∙◌, add-one, arith}
use Rattle.game_tree.specs.Tree.{node_count, parent_of}
use Rattle.capture_board.specs.Changes.{LeadFrom}
use Rattle.capture_board.proofs.NetChanges.{LeadFrom-none}
use Rattle.node_position.proofs.Following.{Followed-end, Followed-more, Followed-start, changes_of_next, may_go_back, next_parent}
use Rattle.node_position.proofs.building.deltas_with.Goals as goal

pub loop-n-init : goal.loop-n-init
loop-n-init c = record {
  followed = rw (c.in_ok-deltas.ensures, c.shape-shape.ensures.value) (Followed-start c.args.tree.now c.reset.new.self (rw c.shape-shape.ensures.value at c.reset.ensures.shape) (rw c.shape-shape.ensures.value at c.reset.ensures.position));
  here = refl;
}

pub go_back-requires-clause-above : goal.go_back-requires-clause-above
go_back-requires-clause-above c =
    let tree = c.args.tree.now in
    let h = c.loop-n.invariant.followed in
    let below : c.loop-n.n < node_count tree = rw c.node_count-n-end.ensures.value at c.loop-n-test.true in
    rw (c.loop-n.invariant.here, c.parent-parent.ensures.value) (may_go_back c.loop-n.deltas c.loop-n.n (parent_of tree c.loop-n.n) h.counted (next_parent tree c.node_count-n-end.ensures.tree c.loop-n.deltas c.loop-n.n h.parents below h.counted))

pub go_back-requires-clause-shows : goal.go_back-requires-clause-shows
go_back-requires-clause-shows c = rw c.loop-n.invariant.here c.loop-n.invariant.followed.shows

pub set_up-requires-clause-on_board : goal.set_up-requires-clause-on_board
set_up-requires-clause-on_board c =
    let shape = c.go_back.ensures.same_shape ∙ c.loop-n.invariant.followed.same_shape in
    rw shape c.setups.ensures.on_board

pub set_up-requires-clause-leads : goal.set_up-requires-clause-leads
set_up-requires-clause-leads c = (c.go_back.new.board.position, rw c.clear.ensures (LeadFrom-none c.go_back.new.board.position))

pub play-requires-clause-on_board : goal.play-requires-clause-on_board
play-requires-clause-on_board c =
    let shape = c.set_up.ensures.shape ∙ c.go_back.ensures.same_shape ∙ c.loop-n.invariant.followed.same_shape in
    rw shape c.played.ensures.on_board

pub push-requires-clause-room : goal.push-requires-clause-room
push-requires-clause-room c = omega (arith, c.loop-n.invariant.followed.counted, c.node_count-n-end.ensures.most)

pub push-requires-clause-parent : goal.push-requires-clause-parent
push-requires-clause-parent c =
    let tree = c.args.tree.now in
    let h = c.loop-n.invariant.followed in
    let below : c.loop-n.n < node_count tree = rw c.node_count-n-end.ensures.value at c.loop-n-test.true in
    rw c.parent-parent.ensures.value (next_parent tree c.node_count-n-end.ensures.tree c.loop-n.deltas c.loop-n.n h.parents below h.counted)

pub push-requires-clause-changes : goal.push-requires-clause-changes
push-requires-clause-changes c =
    let tree = c.args.tree.now in
    let h = c.loop-n.invariant.followed in
    let below : c.loop-n.n < node_count tree = rw c.node_count-n-end.ensures.value at c.loop-n-test.true in
    let start : LeadFrom c.go_back.new.board.position c.clear.new.self c.go_back.new.board.position = rw c.clear.ensures (LeadFrom-none c.go_back.new.board.position) in
    let lead = c.play.ensures.changes c.go_back.new.board.position (c.set_up.ensures.changes c.go_back.new.board.position start) in
    let back = rw c.parent-parent.ensures.value at c.go_back.ensures in
    rw (c.as_slice.ensures, c.parent-parent.ensures.value) (changes_of_next tree c.node_count-n-end.ensures.tree c.loop-n.deltas c.loop-n.board c.loop-n.n h below c.play.new.changes c.go_back.new.board c.play.new.board back lead)

pub loop-n-preserved : goal.loop-n-preserved
loop-n-preserved c =
    let tree = c.args.tree.now in
    let h = c.loop-n.invariant.followed in
    let below : c.loop-n.n < node_count tree = rw c.node_count-n-end.ensures.value at c.loop-n-test.true in
    let start : LeadFrom c.go_back.new.board.position c.clear.new.self c.go_back.new.board.position = rw c.clear.ensures (LeadFrom-none c.go_back.new.board.position) in
    let lead = c.play.ensures.changes c.go_back.new.board.position (c.set_up.ensures.changes c.go_back.new.board.position start) in
    let back = rw c.parent-parent.ensures.value at c.go_back.ensures in
    let before = c.go_back.ensures.same_shape ∙ h.same_shape in
    let moved = rw (c.set_up.ensures.shape, c.set_up.ensures.position, before, c.setups.ensures.value, c.played.ensures.value) at c.play.ensures.moved in
    let grown = rw (c.parent-parent.ensures.value, c.as_slice.ensures) at c.in_ok-push.ensures.ok in
    record {
      followed = rw grown (Followed-more tree c.node_count-n-end.ensures.tree c.loop-n.deltas c.loop-n.board c.loop-n.n h below c.play.new.changes c.go_back.new.board c.play.new.board back lead (c.play.ensures.shape ∙ c.set_up.ensures.shape ∙ before) moved);
      here = rw add-one refl;
    }

pub returns : goal.returns
returns c =
    let tree = c.args.tree.now in
    let all : c.loop-n.n ≡ node_count tree = omega (arith, c.node_count-n-end.ensures.value) in
    let end = Followed-end tree c.node_count-n-end.ensures.tree c.loop-n.deltas c.loop-n.board (rw all at c.loop-n.invariant.followed) in
    record { positions = end.0; are_positions = end.1; net = c.node_count-count.ensures.deltas; lead = rw c.shrink_to_fit.ensures end.2 }
