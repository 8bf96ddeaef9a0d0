-- How the fields of a `MemoryFiles` give its state.
use Rattle.std.specs.Prelude.{◌<◌, ◌≤◌, length, drop, option_map}
use Rattle.std.specs.Option.{ForSome}
use Rattle.rela_io.specs.declared.memory_files.MemoryFiles.TheInside.{Inside}
use Rattle.rela_io.specs.MemoryFiles.{FilesState, bytes_at, entries_of}

abbrev pub state_of : Inside → FilesState
state_of s = record {
  files = entries_of s.files.items;
  piece = s.piece;
  calls = s.calls;
  left = option_map (λ i. drop s.given (bytes_at (entries_of s.files.items) i)) s.current;
  given = s.given;
}

-- the index is that of a file, and no more was given than it has
pub record IsWhole (s : Inside) : Type 0 where
  pub piece : 0 < s.piece
  pub current : ForSome s.current (λ i. (i < length s.files.items)
      × (s.given ≤ length (bytes_at (entries_of s.files.items) i)))
