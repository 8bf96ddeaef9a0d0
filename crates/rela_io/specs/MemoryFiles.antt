-- Files that stand in memory: what they are, and what a call makes of them.
use Rattle.std.specs.Prelude.{ℕ, ◌+◌, min, List, [], ◌∷◌, drop, Option, None, Some, if◌then◌else◌, map, slice_index_or, string_bytes}
use Rattle.std.specs.Str.{bytes_eq}
use Rattle.rela_io.specs.declared.memory_files.MemoryFile.{MemoryFile}
use Rattle.rela_io.specs.Calls.{CallCount, one_more, one_more_failed}

-- the bytes of the first file of this name
abbrev pub held_in : List (List ℕ × List ℕ) → List ℕ → Option (List ℕ)
held_in [] name = None
held_in (file ∷ files) name = if bytes_eq file.0 name then Some file.1 else held_in files name

pub record FilesState : Type 0 where
  -- each file's name and bytes
  pub files : List (List ℕ × List ℕ)
  -- how many bytes a read gives at most
  pub piece : ℕ
  pub calls : CallCount
  -- what no read has given yet of the open file, if one is open
  pub left : Option (List ℕ)
  -- how many bytes were given since the last open that went well
  pub given : ℕ

-- each file's name and bytes
abbrev pub entries_of : List MemoryFile → List (List ℕ × List ℕ)
entries_of files = map (λ file. (string_bytes file.name, file.bytes.items)) files

-- the bytes of the file at an index
abbrev pub bytes_at : List (List ℕ × List ℕ) → ℕ → List ℕ
bytes_at files index = (slice_index_or files index ([], [])).1

-- how many bytes a read gives that has room for so many, of so many that are left
abbrev pub given_of : ℕ → ℕ → ℕ → ℕ
given_of piece room left = min (min piece room) left

-- after an open that went well
abbrev pub opened : FilesState → List ℕ → FilesState
opened s name = record s { calls = one_more s.calls; left = held_in s.files name; given = 0 }

-- after an open that failed
abbrev pub not_opened : FilesState → FilesState
not_opened s = record s { calls = one_more_failed s.calls; left = None }

-- after a read that gave the first n of the bytes that were left
abbrev pub after_read : FilesState → List ℕ → ℕ → FilesState
after_read s left n = record s {
  calls = one_more s.calls;
  left = Some (drop n left);
  given = s.given + n;
}

-- after a read that failed
abbrev pub not_read : FilesState → FilesState
not_read s = record s { calls = one_more_failed s.calls }
