-- Where in `demo` one step comes after another.
use Rattle.std.proofs.Common.{ℕ}
use Rattle.rela_words.specs.Words.{default_states}
use Rattle.rela_change_report.specs.Reports.{Reports, SameReports}
use Rattle.rela_inputs.specs.Answer.{Answer}
use Rattle.rela_inputs.specs.Chained.{Chain}
use Rattle.rela_inputs.specs.Loaded.{Loaded, SameLoaded}
use Rattle.rela_demonstrate.specs.Demos.{LoadsLayered}

pub data Point : Type 0 where
  at_report : (layers : ℕ) → Point

abbrev pub chain : Point → Chain
chain (at_report layers) = record {
  Value = Loaded;
  Made = Answer;
  Same = SameLoaded;
  Alike = SameReports;
  Step = LoadsLayered layers;
  Next = Reports default_states;
}
