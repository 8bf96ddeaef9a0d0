-- Where in `fmt` one step comes after another.
use Rattle.std.proofs.Common.{ℕ, List, Option, Ok}
use Rattle.rela_io.specs.Held.{FilesByName}
use Rattle.rela_print.specs.Print.{print_of}
use Rattle.rela_snapshot.specs.Steps.{Is}
use Rattle.rela_spec.specs.declared.tree.SpecFile.{SpecFile}
use Rattle.rela_inputs.specs.Answer.{Answer}
use Rattle.rela_inputs.specs.Chained.{Chain}
use Rattle.rela_inputs.specs.Given.{Equals}
use Rattle.rela_inputs.specs.Inputs.{BytesOf, Gives}
use Rattle.rela_inputs.specs.Specifications.{ReadsTree}
use Rattle.rela_inputs.specs.declared.refusal.Input.TheVariants.{Spec}

pub data Point : Type 0 where
  at_spec : Option FilesByName → List ℕ → Point

abbrev pub chain : Point → Chain
chain (at_spec holds spec) = record {
  Value = SpecFile;
  Made = Answer;
  Same = Equals;
  Alike = Equals;
  Step = Gives (BytesOf holds spec Spec) ReadsTree;
  Next = λ tree. Is (Ok (record { text = print_of tree; status = 0 }));
}
