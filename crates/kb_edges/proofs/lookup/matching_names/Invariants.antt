use Rattle.std.proofs.Common.{◌≡◌, take}
use Rattle.std.specs.Prelude.{map, string_bytes}
use Rattle.kb_edges.specs.Entries.{files_of}
use Rattle.kb_edges.specs.Files.{sgf_names_of}
use Rattle.kb_edges.proofs.lookup.matching_names.Given as goal

abbrev pub invariant-loop-file : goal.invariant-loop-file
invariant-loop-file l = map string_bytes l.names.items ≡ sgf_names_of (files_of (take l.file-index l.files)) l.path
