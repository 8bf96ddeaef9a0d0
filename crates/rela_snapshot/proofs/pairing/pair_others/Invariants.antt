use Rattle.std.proofs.Common.{◌≡◌, ◌++◌, ℕ, List, map, reverse, vec_len}
use Rattle.rela_names.specs.declared.level.Level.{Level}
use Rattle.rela_snapshot.specs.Located.{AreLocated}
use Rattle.rela_snapshot.specs.Pair.{pair_after}
use Rattle.rela_snapshot.specs.PairsLocated.{ArePairsLocated}
use Rattle.rela_snapshot.proofs.pairing.pair_others.Given as goal

abbrev pub invariant-loop-flow : goal.invariant-loop-flow
invariant-loop-flow l = record {
  pairs : l.pairs.items ++ map pair_after (reverse l.others.items) ≡ l.initial.pairs.items ++ map pair_after l.fn.others.items;
  located : (names : List (List ℕ)) (level : Level) → AreLocated names level l.fn.others.items → ArePairsLocated names level l.initial.pairs.items →
      AreLocated names level l.others.items × ArePairsLocated names level l.pairs.items;
}

abbrev pub decreases-loop-flow : goal.decreases-loop-flow
decreases-loop-flow l = vec_len l.others
