use Rattle.std.proofs.Common.{◌≡◌, ◌+◌, ◌-◌, ◌≤◌, vec_len}
use Rattle.rela_io.specs.Bytes.{before_told}
use Rattle.rela_io.proofs.reading.read_rest.Given as goal

-- The bytes so far are what the file gave, and no read has failed.
abbrev pub invariant-loop-bytes : goal.invariant-loop-bytes
invariant-loop-bytes g l = record {
  within : vec_len l.bytes ≤ l.limit;
  taken : g.F.Files.left l.initial.files ≡ before_told l.bytes.items (g.F.Files.left l.files);
  given : g.F.Files.given l.files ≡ vec_len l.bytes;
  no_fault : g.F.Files.faults l.files ≡ g.F.Files.faults l.initial.files;
  same_open : g.F.Files.is_open l.files ≡ g.F.Files.is_open l.initial.files;
  same_holds : g.F.Files.holds l.files ≡ g.F.Files.holds l.initial.files;
  same_steady : g.F.Files.steady l.files ≡ g.F.Files.steady l.initial.files;
}

abbrev pub decreases-loop-bytes : goal.decreases-loop-bytes
decreases-loop-bytes g l = l.limit + 1 - vec_len l.bytes
