-- An entry of a folder in memory as a file.
use Rattle.std.specs.Prelude.{List, map, string_bytes}
use Rattle.kb_edges.specs.Files.{File}
use Rattle.kb_edges.specs.declared.file_entry.FileEntry.{FileEntry}

abbrev pub file_of : FileEntry → File
file_of entry = record {
  path = string_bytes entry.path;
  name = string_bytes entry.name;
  bytes = entry.bytes.items;
}

abbrev pub files_of : List FileEntry → List File
files_of entries = map file_of entries
