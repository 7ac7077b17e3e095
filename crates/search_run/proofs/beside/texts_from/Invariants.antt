use Rattle.std.proofs.Common.{◌≡◌, map, take}
use Rattle.session_core.specs.Stores.{view_of}
use Rattle.search_run.proofs.beside.texts_from.Given as goal

abbrev pub invariant-loop-version : goal.invariant-loop-version
invariant-loop-version g l = map (λ v. view_of v.now) l.each.items ≡ map view_of (take l.version-index l.versions)
