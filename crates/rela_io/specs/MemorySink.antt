-- A sink that stands in memory: what it holds, and what a write makes of it.
use Rattle.std.specs.Prelude.{ℕ, ◌-◌, min, List, ◌++◌, length}
use Rattle.rela_io.specs.Calls.{CallCount, one_more, one_more_failed}

pub record SinkState : Type 0 where
  pub taken : List ℕ
  -- how many more bytes it has room for
  pub room : ℕ
  -- how many bytes a write takes at most
  pub piece : ℕ
  pub calls : CallCount

-- how many of so many bytes a write takes, where there is room for so many
abbrev pub taken_of : ℕ → ℕ → ℕ → ℕ
taken_of piece offered room = min (min piece offered) room

-- after a write that took these bytes
abbrev pub after_write : SinkState → List ℕ → SinkState
after_write s bytes = record s {
  taken = s.taken ++ bytes;
  room = s.room - length bytes;
  calls = one_more s.calls;
}

-- after a write that failed
abbrev pub not_written : SinkState → SinkState
not_written s = record s { calls = one_more_failed s.calls }
