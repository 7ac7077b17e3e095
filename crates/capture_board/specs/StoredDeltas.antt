-- How the changes at the nodes are stored: definitions for the private functions of `NodeDeltas`.
use Rattle.std.specs.Prelude.{◌≡◌, ℕ, ◌+◌, ◌*◌, ◌≤◌, List, length, map, slice_index_or}
use Rattle.std.specs.List.{range_with_len, between}
use Rattle.node_paths.specs.StoredNodes.{AreParts, part_start, stored_parent}
use Rattle.kb_geometry.specs.declared.shape.Shape.{Shape}
use Rattle.kb_geometry.specs.declared.shape.TheConstants.{MAX_POINTS}
use Rattle.kb_geometry.specs.declared.stone.Change.{Change}
use Rattle.capture_board.specs.declared.deltas.StoredNode.{StoredNode}
use Rattle.capture_board.specs.Deltas.{Deltas, NodeChanges, AreDeltas}

-- where the changes of a stored node end, by the two halves of this number
abbrev pub changes_end : StoredNode → ℕ
changes_end t = t.end_high * 65536 + t.end_low

-- the stored node with this number
abbrev pub stored_node : List StoredNode → ℕ → StoredNode
stored_node ts n = slice_index_or ts n (record { parent = 0; end_high = 0; end_low = 0 })

-- where the changes of a node end
abbrev pub end_of_changes : List StoredNode → ℕ → ℕ
end_of_changes ts n = changes_end (stored_node ts n)

-- where the changes of a node begin: where those of the node before it end
abbrev pub changes_start : List StoredNode → ℕ → ℕ
changes_start ts n = part_start (end_of_changes ts) n

-- the node with this number
abbrev pub shown_node : List StoredNode → List Change → ℕ → NodeChanges
shown_node ts changes n = record {
  parent = stored_parent (λ (k : ℕ). (stored_node ts k).parent) n;
  changes = between (changes_start ts n) (end_of_changes ts n) changes;
}

-- the nodes
abbrev pub shown_nodes : List StoredNode → List Change → List NodeChanges
shown_nodes ts changes = map (shown_node ts changes) (range_with_len 0 (length ts))

-- the changes at the nodes of a game
abbrev pub shown_deltas : Shape → List StoredNode → List Change → Deltas
shown_deltas shape ts changes = record { shape = shape; nodes = shown_nodes ts changes }

-- The nodes' changes are parts of the list, and those of the last node end where the list ends. A
-- node changes each point of its board at most once.
pub record AreChangeEnds (ts : List StoredNode) (changes : List Change) : Type 0 where
  pub parts : AreParts (end_of_changes ts) (length ts) (length changes)
  pub whole : changes_start ts (length ts) ≡ length changes
  pub most : length changes ≤ MAX_POINTS * length ts

-- the changes at the nodes of a game are stored
pub record IsStored (shape : Shape) (ts : List StoredNode) (changes : List Change) : Type 0 where
  pub deltas : AreDeltas (shown_deltas shape ts changes)
  pub ends : AreChangeEnds ts changes
