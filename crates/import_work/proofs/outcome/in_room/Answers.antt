use Rattle.std.proofs.Common.{◌≡◌, ◌+◌, arith, inl, inr, length}
use Rattle.import_work.specs.Outcome.{games_after, nodes_after}
use Rattle.import_work.proofs.RoomLemmas.{accepted_is, full_is}
use Rattle.import_work.proofs.outcome.in_room.Goals as goal
use Rattle.import_work.proofs.outcome.in_room.Goals.{then-games-from-via-then-games-from, then-games-from-via-else-games-from+then-nodes-from}

pub returns-then-games-from : goal.returns-then-games-from
returns-then-games-from c =
    let before = c.args.before in
    let trees = c.args.trees.items in
    let games : c.from.result + c.len.result ≡ games_after before trees = omega (arith, c.from.ensures, c.len.ensures) in
    let nodes : c.from-2.result + c.nodes_of_trees.result ≡ nodes_after before trees = omega (arith, c.from-2.ensures, (rw c.deref.ensures.value at c.nodes_of_trees.ensures.value)) in
    full_is before trees c.new.result.items (c.from.result + c.len.result) (c.from-2.result + c.nodes_of_trees.result) games nodes
    (elim c.then-games-from.branch [
      | then-games-from-via-then-games-from w ↦ inl (let past = w.if-games-from.true in omega (arith, past, c.from-3.ensures))
      | then-games-from-via-else-games-from+then-nodes-from w ↦ inr (let past = w.if-nodes-from.true in omega (arith, past, w.from-else-games-from.ensures))
    ]) c.new.ensures.items

pub returns : goal.returns
returns c =
    let before = c.args.before in
    let trees = c.args.trees.items in
    let games : c.from.result + c.len.result ≡ games_after before trees = omega (arith, c.from.ensures, c.len.ensures) in
    let nodes : c.from-2.result + c.nodes_of_trees.result ≡ nodes_after before trees = omega (arith, c.from-2.ensures, (rw c.deref.ensures.value at c.nodes_of_trees.ensures.value)) in
    let counted : c.len-games.result ≡ length trees = omega (arith, c.len-games.ensures) in
    accepted_is before trees c.len-games.result (c.from.result + c.len.result) (c.from-2.result + c.nodes_of_trees.result) counted games nodes
    (let within = c.if-games-from.false in omega (arith, within, c.from-3.ensures))
    (let within = c.if-nodes-from.false in omega (arith, within, c.from-else-games-from.ensures))
