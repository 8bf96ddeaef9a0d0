use Rattle.std.proofs.Common.{◌≡◌, ◌≤◌, drop, fold, length, map}
use Rattle.rela_claims.specs.Classes.{each_once, with_class}
use Rattle.rela_claims.specs.Written.{class_of, classes_of}
use Rattle.rela_claims.proofs.numbers.table.Given as goal

abbrev pub invariant-loop-mention : goal.invariant-loop-mention
invariant-loop-mention l = record {
  rest : fold with_class (map class_of l.table.keys) (classes_of (drop l.mention-index l.mentions)) ≡ each_once (classes_of l.mentions);
  few : length l.table.keys ≤ l.mention-index;
}
