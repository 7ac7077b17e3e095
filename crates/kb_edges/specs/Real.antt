-- What the implementations over the system show of themselves.
use Rattle.std.specs.Prelude.{ℕ}
use Rattle.kb_edges.specs.declared.real_folder.RealFolder.{RealFolder}
use Rattle.kb_edges.specs.declared.real_sink.RealSink.{RealSink}
use Rattle.kb_edges.specs.declared.real_source.RealSource.{RealSource}

-- the reader of a source
abbrev pub reader_of : {R : Type 0} → RealSource R → R
reader_of source = source.reader

-- the writer of a sink
abbrev pub writer_of : {W : Type 0} → RealSink W → W
writer_of sink = sink.writer

-- how many calls have failed
abbrev pub real_source_faults : {R : Type 0} → RealSource R → ℕ
real_source_faults source = source.faults

abbrev pub real_sink_faults : {W : Type 0} → RealSink W → ℕ
real_sink_faults sink = sink.faults

abbrev pub real_folder_faults : {R File Dir : Type 0} → RealFolder R File Dir → ℕ
real_folder_faults folder = folder.faults
