-- What is known of files on a disk: no byte of them.
use Rattle.std.specs.Prelude.{ℕ, Bool}

pub record DiskState : Type 0 where
  -- whether a file is open
  pub is_open : Bool
  -- how many bytes were given since the last open that went well
  pub given : ℕ
  -- how many calls have failed
  pub faults : ℕ
