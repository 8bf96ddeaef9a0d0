-- What decides flows under checks. `names` are the locations of the checks' level.
use Rattle.std.specs.Prelude.{◌≡◌, ℕ, All, List, length, map}
use Rattle.rela_engine.specs.Compilation.{Compilation}
use Rattle.rela_flows.specs.Plan.{Plan}
use Rattle.rela_plan.specs.Alike.{AreAlike}
use Rattle.rela_plan.specs.Within.{IsWithin}
use Rattle.rela_same_checks.specs.SameChecks.{AreAskedAt}
use Rattle.rela_snapshot.specs.PairsLocated.{ArePairsLocated}
use Rattle.rela_snapshot.specs.declared.pairing.FlowPair.{FlowPair}
use Rattle.rela_translate.specs.Checked.{Checked}
use Rattle.rela_rows.specs.declared.rows.Judges.{Judges}
use Rattle.rela_rows.specs.declared.rows.Work.{Work}

-- each check asks for what the compiled one of its place does, these are compiled for the locations, at which the nodes
-- of the flows stand, and at their levels each flow looks like the other one that is named for it
pub record AreJudges (names : List (List ℕ)) (pairs : List FlowPair) (checks : List Checked)
    (compiled : List Compilation) (places others : List ℕ) : Type 0 where
  pub asked : AreAskedAt (map (λ c. c.check) compiled) checks places
  pub locations : All (λ c. c.locations ≡ length names) compiled
  pub located : All (λ c. ArePairsLocated names c.check.level pairs) compiled
  pub alike : All (λ c. AreAlike c.check.level pairs others) compiled

abbrev pub CanJudge : List (List ℕ) → List FlowPair → Judges → Type 0
CanJudge names pairs judges =
    AreJudges names pairs judges.checks.now judges.compiled.now judges.places.now judges.others.now

-- the rows are those of the plan, and the checks are compiled under the state limit
pub record IsWorkOn (names : List (List ℕ)) (states : ℕ) (checks : List Checked)
    (pairs : List FlowPair) (work : Work) : Type 0 where
  pub plan : Plan (map (λ pair. pair.class) pairs) (map (λ check. check.when) checks) work.planned.items
  pub within : All (IsWithin (length pairs) (length checks)) work.planned.items
  pub judges : AreJudges names pairs checks work.compiled.items work.places.items work.others.items
  pub limit : All (λ c. c.states ≡ states) work.compiled.items
