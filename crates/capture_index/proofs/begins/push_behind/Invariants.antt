use Rattle.std.proofs.Common.{◌↔◌, ◌⊎◌, ℕ}
use mathlib.Core.List.{IsPrefix}
use Rattle.std.specs.Prelude.{Contains}
use Rattle.capture_index.specs.Begins.{IsBehindTo}
use Rattle.capture_index.proofs.begins.push_behind.Given as goal

-- the branches so far
abbrev pub invariant-loop-at : goal.invariant-loop-at
invariant-loop-at l = record {
  begun : (x : ℕ) → Contains l.nodes.items x ↔ (Contains l.fn.nodes.items x ⊎ IsBehindTo l.branches l.stretches l.stretch l.at x);
  kept : IsPrefix l.fn.nodes.items l.nodes.items;
}
