use Rattle.std.proofs.Common.{◌≡◌, take}
use Rattle.std.specs.List.{All}
use Rattle.rela_prefixes.specs.declared.leaf.Numbered.{Numbered}
use Rattle.rela_prefixes.proofs.split.count_here.Given as goal

abbrev pub invariant-loop-numbered : goal.invariant-loop-numbered
invariant-loop-numbered l = record {
  counted : l.count ≡ l.numbered-index;
  same : All (λ (n : Numbered). n.prefix.length ≡ l.length) (take l.count l.inside);
}
