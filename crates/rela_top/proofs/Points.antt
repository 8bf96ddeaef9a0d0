-- The one step of `demo`: its report is the answer.
use Rattle.std.proofs.Common.{◌≡◌, ℕ, Ok}
use Rattle.rela_change_report.specs.Reports.{SameReports}
use Rattle.rela_demonstrate.specs.Demos.{Demos}
use Rattle.rela_inputs.specs.Answer.{Answer}
use Rattle.rela_inputs.specs.Chained.{Chain}

pub data Point : Type 0 where
  at_demo : (layers : ℕ) → Point

abbrev pub chain : Point → Chain
chain (at_demo layers) = record {
  Value = Answer;
  Made = Answer;
  Same = SameReports;
  Alike = SameReports;
  Step = Demos layers;
  Next = λ answer result. result ≡ Ok answer;
}
