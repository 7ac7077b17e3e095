use Rattle.std.proofs.Common.{◌↔◌, ◌⊎◌, ℕ}
use mathlib.Core.List.{IsPrefix}
use Rattle.std.specs.Prelude.{Contains}
use Rattle.capture_index.proofs.BegunNodes.{BeginsInFirst}
use Rattle.capture_index.proofs.begins.push_begins.Given as goal

-- the stretches so far
abbrev pub invariant-loop-stretch : goal.invariant-loop-stretch
invariant-loop-stretch l = record {
  begun : (x : ℕ) → Contains l.nodes.items x ↔ (Contains l.fn.nodes.items x ⊎ BeginsInFirst l.branches l.stretches x (Contains l.fn.nodes.items x) l.stretch-index);
  kept : IsPrefix l.fn.nodes.items l.nodes.items;
}
