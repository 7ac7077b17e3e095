use Rattle.std.specs.Prelude.{All, map, string_bytes}
use Rattle.kb_edges.specs.Files.{IsSgfName}
use Rattle.kb_edges.proofs.real_folder.names_in.Given as goal

abbrev pub invariant-loop-entry : goal.invariant-loop-entry
invariant-loop-entry g l = All IsSgfName (map string_bytes l.names.items)
