-- What the implementations in memory show of themselves.
use Rattle.std.specs.Prelude.{ℕ, List, drop}
use Rattle.kb_edges.specs.Entries.{files_of}
use Rattle.kb_edges.specs.Files.{File}
use Rattle.kb_edges.specs.declared.memory_folder.MemoryFolder.{MemoryFolder}
use Rattle.kb_edges.specs.declared.memory_sink.MemorySink.{MemorySink}
use Rattle.kb_edges.specs.declared.memory_source.MemorySource.{MemorySource}

-- the bytes left
abbrev pub source_left : MemorySource → List ℕ
source_left source = drop source.taken source.bytes.items

-- the bytes written
abbrev pub sink_written : MemorySink → List ℕ
sink_written sink = sink.bytes.items

-- the files
abbrev pub folder_files : MemoryFolder → List File
folder_files folder = files_of folder.entries.items

-- the numbers of the calls that fail, from 0
abbrev pub source_fails : MemorySource → List ℕ
source_fails source = source.plan.fails.items

abbrev pub sink_fails : MemorySink → List ℕ
sink_fails sink = sink.plan.fails.items

abbrev pub folder_fails : MemoryFolder → List ℕ
folder_fails folder = folder.plan.fails.items

-- the number of the next call
abbrev pub source_calls : MemorySource → ℕ
source_calls source = source.plan.calls

abbrev pub sink_calls : MemorySink → ℕ
sink_calls sink = sink.plan.calls

abbrev pub folder_calls : MemoryFolder → ℕ
folder_calls folder = folder.plan.calls

-- how many calls have failed
abbrev pub source_faults : MemorySource → ℕ
source_faults source = source.plan.faults

abbrev pub sink_faults : MemorySink → ℕ
sink_faults sink = sink.plan.faults

abbrev pub folder_faults : MemoryFolder → ℕ
folder_faults folder = folder.plan.faults
