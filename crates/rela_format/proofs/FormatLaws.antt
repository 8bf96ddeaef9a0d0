-- The text of a tree is what `fmt` gives of it.
use Rattle.std.proofs.Common.{◌≡◌, ℕ, Bool, List, Result, Ok, sym, ap, subst}
use Rattle.rela_print.specs.Print.{print_of}
use Rattle.rela_snapshot.specs.Steps.{Is}
use Rattle.rela_spec.specs.declared.tree.SpecFile.{SpecFile}
use Rattle.rela_inputs.specs.Answer.{Answer}
use Rattle.rela_inputs.specs.Given.{Agrees, Equals, IsGiven}
use Rattle.rela_inputs.specs.declared.refusal.Refusal.{Refusal}

abbrev pub answer : List ℕ → Answer
answer text = record { text = text; status = 0 }

pub printed : (told steady : Bool) (tree : SpecFile) (text : List ℕ) → text ≡ print_of tree → IsGiven told steady Equals (Is (Ok (answer (print_of tree)))) (Ok (answer text))
printed told steady tree text is = record {
  told_by = ap (λ (t : List ℕ). Ok (answer t)) is;
  alone = λ t x same. subst (λ (r : Result Answer Refusal). Agrees steady Equals (Ok (answer text)) r) (sym same) (ap answer is);
}
