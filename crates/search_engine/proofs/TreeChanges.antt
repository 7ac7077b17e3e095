-- Each tree has changes at its nodes.
use Rattle.game_tree.specs.Tree.{IsTree, Tree}
use Rattle.node_position.proofs.EachTree.{changes-found, positions-found}
use Rattle.segment_store.specs.Finished.{HasChanges}

pub has_changes : (tree : Tree) → IsTree tree → HasChanges tree
has_changes tree is_tree =
    let positions = positions-found tree is_tree in
    let changes = changes-found tree is_tree positions.0 positions.1 in
    (changes.0, record { positions = positions.0; are_positions = positions.1; net = changes.1; lead = changes.2 })
