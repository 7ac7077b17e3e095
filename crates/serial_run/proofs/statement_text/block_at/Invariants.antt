use Rattle.std.proofs.Common.{◌≡◌, map, replicate}
use Rattle.session_core.specs.Stores.{view_of}
use Rattle.serial_run.proofs.statement_text.block_at.Given as goal

abbrev pub invariant-loop : goal.invariant-loop
invariant-loop g l = map (λ v. view_of v.now) l.versions.items ≡ replicate l.index (view_of l.version)
