use Rattle.std.proofs.Common.{◌≡◌, ℕ, ◌<◌, length, get_or, take}
use Rattle.std.specs.List.{All, Contains}
use Rattle.rela_minimise.proofs.largest.own.Given as goal

abbrev pub invariant-loop-q : goal.invariant-loop-q
invariant-loop-q l = record {
  all : (q : ℕ) → Contains (take l.q-index l.list) q → get_or l.classes q 0 ≡ l.class → Contains l.own.items q;
  states : All (λ q. q < length l.classes) l.own.items;
  only : (q : ℕ) → Contains l.own.items q → get_or l.classes q 0 ≡ l.class;
}
