-- What is known of the flows that have been decided.
use Rattle.std.specs.Prelude.{ℕ, List}
use Rattle.rela_engine.specs.Compilation.{Compilation}
use Rattle.rela_snapshot.specs.declared.pairing.FlowPair.{FlowPair}
use Rattle.rela_rows.specs.Deciding.{IsDecider}
use Rattle.rela_rows.specs.Shapes.{AreMetShapes}
use Rattle.rela_rows.specs.Sharing.{AreVerdicts}
use Rattle.rela_rows.specs.declared.shapes.ByShape.{ByShape}
use Rattle.rela_rows.specs.declared.sharing.Kept.{Kept}

-- the shapes are kept by the numbers of the checks that they meet, and the automata are of the flow that was decided last
pub record AreByShape (names : List (List ℕ)) (compiled : List Compilation) (pairs : List FlowPair)
    (kept : ByShape) : Type 0 where
  pub met : AreMetShapes names compiled kept.met
  pub decider : IsDecider names pairs kept.decider

-- the verdicts are kept by the numbers of their flows and checks, and so is what else is known of flows
pub record AreKept (names : List (List ℕ)) (compiled : List Compilation) (pairs : List FlowPair)
    (kept : Kept) : Type 0 where
  pub verdicts : AreVerdicts names compiled pairs kept.verdicts
  pub by_shape : AreByShape names compiled pairs kept.by_shape
