-- What is known of the rows that are planned.
use Rattle.std.specs.Prelude.{◌≡◌, All, length, map}
use Rattle.rela_plan.specs.Alike.{AreAlike}
use Rattle.rela_plan.specs.Within.{IsWithin}
use Rattle.rela_cert.specs.Subject.{IsPlan, Subject, shape_of}
use Rattle.rela_cert.specs.declared.planning.Planning.{Planning}

-- the rows of the plan, the names of the flows, what the checks ask, and for each flow one that looks the same
pub record IsPlanned (s : Subject) (planning : Planning) : Type 0 where
  pub plan : IsPlan s planning.rows.items
  pub within : All (IsWithin (length s.pairs) (length s.checks)) planning.rows.items
  pub flows : map (λ name. name.now) planning.flows.items ≡ map (λ pair. pair.class.name) s.pairs
  pub shapes : planning.shapes.items ≡ map (shape_of (length s.names)) s.checks
  pub alike : All (λ check. AreAlike check.level s.pairs planning.alike.items) s.checks
