-- What the input of `fmt` gives: the canonical text of its tree, or its refusal.
use Rattle.std.specs.Prelude.{ℕ, List, Option, Result, Ok}
use Rattle.rela_io.specs.Held.{FilesByName}
use Rattle.rela_print.specs.Print.{print_of}
use Rattle.rela_snapshot.specs.Steps.{Is, ◌>>=◌}
use Rattle.rela_inputs.specs.Answer.{Answer}
use Rattle.rela_inputs.specs.Inputs.{BytesOf, Gives}
use Rattle.rela_inputs.specs.Specifications.{ReadsTree}
use Rattle.rela_inputs.specs.declared.refusal.Input.TheVariants.{Spec}
use Rattle.rela_inputs.specs.declared.refusal.Refusal.{Refusal}

unfoldable pub Formats : Option FilesByName → (spec : List ℕ) → Result Answer Refusal → Type 0
Formats holds spec = do
  tree ← Gives (BytesOf holds spec Spec) ReadsTree
  Is (Ok (record { text = print_of tree; status = 0 }))
