use Rattle.std.proofs.Common.{All, get_or}
use Rattle.rela_names.specs.declared.level.Level.{Level}
use Rattle.rela_plan.proofs.PlanLaws.{if_ok}
use Rattle.rela_plan.specs.Alike.{AreAlike}
use Rattle.rela_plan.proofs.alike.alike_flows.Goals as goal

pub returns-in-None : goal.returns-in-None
returns-in-None c =
    if_ok (λ own. (level : Level) → AreAlike level c.args.pairs.now own.items) (λ own. All (λ check. AreAlike check.level c.args.pairs.now own.items) c.args.checks.now)
    c.own_numbers.result (λ own each k one within. each (get_or c.args.checks.now k one).level) c.own_numbers.ensures
