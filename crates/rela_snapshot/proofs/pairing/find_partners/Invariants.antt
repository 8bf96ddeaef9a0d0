use Rattle.std.proofs.Common.{◌≡◌, ℕ, List, reverse, vec_len}
use Rattle.rela_names.specs.declared.level.Level.{Level}
use Rattle.rela_snapshot.specs.Located.{AreLocated}
use Rattle.rela_snapshot.specs.PairsLocated.{AreFoundLocated}
use Rattle.rela_snapshot.specs.SnapshotFlows.{names_of}
use Rattle.rela_snapshot.proofs.PartnerLaws.{ArePut}
use Rattle.rela_snapshot.proofs.pairing.find_partners.Given as goal

abbrev pub invariant-loop-flow : goal.invariant-loop-flow
invariant-loop-flow l = record {
  len : vec_len l.partners.found ≡ vec_len l.before;
  put : ArePut (names_of l.before.items) l.fn.after.items (reverse l.after.items) l.partners.found.items l.partners.others.items;
  located : (names : List (List ℕ)) (level : Level) → AreLocated names level l.fn.after.items →
      AreLocated names level l.after.items × AreFoundLocated names level l.partners.found.items × AreLocated names level l.partners.others.items;
}

abbrev pub decreases-loop-flow : goal.decreases-loop-flow
decreases-loop-flow l = vec_len l.after
