use Rattle.std.proofs.Common.{◌≡◌, length, nat_eq}
use Rattle.std.specs.List.{IsDistinct}
use Rattle.rela_shape.proofs.Numbers.{AreBegun}
use Rattle.rela_shape.proofs.shape.numbers_of.Given as goal

abbrev pub invariant-loop-place : goal.invariant-loop-place
invariant-loop-place l = record {
  len : length l.numbers.items ≡ l.place-index;
  begun : AreBegun l.places l.seen.keys l.numbers.items;
  distinct : IsDistinct nat_eq l.seen.keys;
}
