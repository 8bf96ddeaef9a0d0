-- Checks that can be compiled.
use Rattle.std.proofs.Common.{◌≡◌, ℕ, List, subst, sym}
use Rattle.std.specs.List.{All}
use Rattle.std.proofs.lemmas.List.Elements.{All-weaker}
use Rattle.rela_expand.specs.Listed.{ListsPathSymbols}
use Rattle.rela_names.specs.declared.level.Level.{Level}
use Rattle.rela_rows.specs.Rows.{AreChecksAt}
use Rattle.rela_snapshot.specs.PairsLocated.{ArePairsLocated}
use Rattle.rela_snapshot.specs.declared.pairing.FlowPair.{FlowPair}
use Rattle.rela_translate.specs.Checked.{Checked as Check}

-- the checks can be compiled, and their flows be looked at
pub are_checks : (names : List (List ℕ)) (pairs : List FlowPair) (level : Level) (checks : List Check)
    → ArePairsLocated names level pairs → All (λ check. check.level ≡ level) checks → All (ListsPathSymbols names) checks → AreChecksAt names pairs checks
are_checks names pairs level checks located levels listed = record {
  listed = listed;
  located = All-weaker (λ (check : Check). check.level ≡ level) (λ check. ArePairsLocated names check.level pairs)
      (λ check is. subst (λ (l : Level). ArePairsLocated names l pairs) (sym is) located) checks levels;
}
