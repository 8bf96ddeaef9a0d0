use Rattle.std.proofs.Common.{◌≡◌, drop}
use Rattle.rela_io.specs.MemoryFiles.{held_in, entries_of}
use Rattle.rela_io.proofs.memory_files.find.Given as goal

-- No file before this one has the name.
abbrev pub invariant-loop-index : goal.invariant-loop-index
invariant-loop-index l = held_in (entries_of l.files) l.name ≡ held_in (entries_of (drop l.index l.files)) l.name
