use Rattle.std.proofs.Common.{◌≡◌, ◌<◌, ℕ, true, length}
use Rattle.rela_labels.specs.Letters.{has}
use Rattle.rela_cert.proofs.row_audit.all_letters.Given as goal

abbrev pub invariant-loop-k : goal.invariant-loop-k
invariant-loop-k l = record {
  size : length l.set ≡ l.count;
  all : (j : ℕ) → j < l.k → has l.set j ≡ true;
}
