-- Calls that are numbered from 1, of which some are to fail.
use Rattle.std.specs.Prelude.{ℕ, List, Contains}
use Rattle.rela_io.specs.Count.{counted}

pub record CallCount : Type 0 where
  -- the numbers of the calls that are to fail
  pub failing : List ℕ
  -- how many calls were made
  pub made : ℕ
  -- how many of them failed
  pub faults : ℕ

-- none was made yet
abbrev pub no_calls : List ℕ → CallCount
no_calls failing = record { failing = failing; made = 0; faults = 0 }

-- the next call is to fail
abbrev pub NextFails : CallCount → Type 0
NextFails calls = Contains calls.failing (counted calls.made)

-- after one more call, that went well
abbrev pub one_more : CallCount → CallCount
one_more calls = record calls { made = counted calls.made }

-- after one more call, that failed
abbrev pub one_more_failed : CallCount → CallCount
one_more_failed calls = record {
  failing = calls.failing;
  made = counted calls.made;
  faults = counted calls.faults;
}
