-- Forms of rows that are met.
use Rattle.std.specs.Prelude.{ℕ, ◌&&◌, Bool, IsTrue, List, length, nat_eq}
use Rattle.std.specs.Cmp.Lexicographic.{pointwise}
use Rattle.std.specs.HashSet.{HashSet, contains}
use Rattle.std.specs.Option.{option_eq}
use Rattle.rela_blocks.specs.Scenes.{paths_of}
use Rattle.rela_shape.specs.Shape.{IsShape, same_shape}
use Rattle.rela_shape.specs.declared.shape.Shape.{Shape}
use Rattle.rela_snapshot.specs.PairsLocated.{IsPairLocated}
use Rattle.rela_snapshot.specs.declared.pairing.FlowPair.{FlowPair}
use Rattle.rela_translate.specs.Checked.{Checked}
use Rattle.rela_cert.specs.Sharing.{IsMetBy}
use Rattle.rela_cert.specs.declared.renamed_blocks.RenamedStep.{RenamedStep}
use Rattle.rela_cert.specs.declared.row_forms.RowForm.{RowForm}

-- whether two steps are equal but for names
abbrev pub same_renamed : RenamedStep → RenamedStep → Bool
same_renamed x y = nat_eq x.parent y.parent
    && (nat_eq x.block y.block && option_eq nat_eq x.node y.node)

-- whether two forms are equal
abbrev pub same_form : RowForm → RowForm → Bool
same_form x y = same_shape x.shape y.shape && pointwise same_renamed x.block.items y.block.items

-- Some flow with an equal shape meets the check. `names` are the locations of the check's level, at which its nodes
-- stand, and the shape is by these blocks.
pub record IsMetShape (names : List (List ℕ)) (check : Checked) (blocks : List ℕ)
    (shape : Shape) : Type 0 where
  pub pair : FlowPair
  pub own : Shape
  pub located : IsPairLocated names check.level pair
  pub shaped : IsShape blocks check.level pair own
  pub same : IsTrue (same_shape own shape)
  pub met : IsMetBy (length names) check (paths_of check.level names pair.before pair.after)

-- the shape of each form is that of a flow that meets the check
abbrev pub AreMetForms : {S : Type 0} → List (List ℕ) → Checked → List ℕ → HashSet RowForm S →
    Type 0
AreMetForms names check blocks met = (form : RowForm) → IsTrue (contains same_form met form) →
    IsMetShape names check blocks form.shape
