use Rattle.std.proofs.Common.{◌≡◌, ℕ, ◌+◌, ◌≤◌, List, map, vec_len}
use Rattle.rela_names.specs.declared.level.Level.{Level}
use Rattle.rela_snapshot.specs.declared.snapshot.Flow.{Flow}
use Rattle.rela_snapshot.specs.Located.{AreLocated}
use Rattle.rela_snapshot.specs.PairsLocated.{AreFoundLocated, ArePairsLocated}
use Rattle.rela_snapshot.proofs.PairLoops.{ArePaired, partner_in}
use Rattle.rela_snapshot.proofs.pairing.pair_found.Given as goal

abbrev pub invariant-loop-flow : goal.invariant-loop-flow
invariant-loop-flow l = record {
  few : vec_len l.pairs + vec_len l.before ≤ 10000;
  paired : (after : List Flow) → l.fn.found.items ≡ map (partner_in after) l.fn.before.items → ArePaired after l.fn.before.items l.before.items l.found.items l.pairs.items;
  located : (names : List (List ℕ)) (level : Level) → AreLocated names level l.fn.before.items → AreFoundLocated names level l.fn.found.items →
      AreLocated names level l.before.items × AreFoundLocated names level l.found.items × ArePairsLocated names level l.pairs.items;
}

abbrev pub decreases-loop-flow : goal.decreases-loop-flow
decreases-loop-flow l = vec_len l.before
