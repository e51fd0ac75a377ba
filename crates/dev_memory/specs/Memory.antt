-- What the forms in memory were made with, beside what they show.
use Rattle.std.specs.Prelude.{ℕ, ◌-◌, List, [], ◌∷◌, nat_eq, if◌then◌else◌, Option, Some, None, vec_len, vec_capacity}
use Rattle.std.specs.Cmp.Lexicographic.{pointwise}
use Rattle.dev_memory.specs.declared.mem_files.Entry.{Entry}
use Rattle.dev_memory.specs.declared.mem_files.MemFiles.{MemFiles}
use Rattle.dev_memory.specs.declared.mem_link.MemLink.{MemLink}
use Rattle.dev_memory.specs.declared.mem_sink.MemSink.{MemSink}

-- the numbers from 1 of the calls of these files that are to fail
abbrev pub files_failing : MemFiles → List ℕ
files_failing files = files.calls.failing

-- the numbers from 1 of the calls of a link that are to fail
abbrev pub link_failing : MemLink → List ℕ
link_failing link = link.calls.failing

-- how many bytes can still be put
abbrev pub link_room : MemLink → ℕ
link_room link = vec_capacity link.output.bytes - vec_len link.output.bytes

-- the numbers from 1 of the calls of a sink that are to fail
abbrev pub sink_failing : MemSink → List ℕ
sink_failing sink = sink.calls.failing

-- how many bytes can still be appended
abbrev pub sink_room : MemSink → ℕ
sink_room sink = vec_capacity sink.all.bytes - vec_len sink.all.bytes

-- what a path holds: the content of the first entry with that path
abbrev pub held : List Entry → List ℕ → Option (List ℕ)
held [] path = None
held (entry ∷ more) path = if pointwise nat_eq entry.path path then Some entry.content else held more path
