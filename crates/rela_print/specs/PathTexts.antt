-- How path expressions are written.
use Rattle.std.specs.Prelude.{ℕ, List, ◌++◌, codes}
use Rattle.std.specs.Fmt.{decimal}
use Rattle.rela_print.specs.Joined.{joined}
use Rattle.rela_print.specs.Members.{member_text, class_text}
use Rattle.rela_print.specs.Names.{reference_text}
use Rattle.rela_print.specs.Printed.{Printed, within}
use Rattle.rela_spec.specs.declared.tree.PathExpr.{PathExpr}
use Rattle.rela_spec.specs.declared.tree.PathExpr.TheOpen.{PathExpr-F, Any, Empty, One, Class, Reference, Seq, Alt, And, Not, Star, Plus, Maybe, Times}
use Rattle.rela_spec.specs.declared.tree.PathExpr.TheFolds.{fold-PathExpr}

abbrev pub atom : List ℕ → Printed
atom text = record { binding = 6; text = text }

abbrev pub postfixed : Printed → List ℕ → Printed
postfixed part mark = record { binding = 5; text = within 5 part ++ mark }

abbrev pub chain : ℕ → List ℕ → List Printed → Printed
chain binding between parts = record {
  binding = binding;
  text = joined between (within binding) parts;
}

-- one layer of a path expression, with each part printed
abbrev pub path_layer : PathExpr-F Printed → Printed
path_layer Any = atom (codes ".")
path_layer Empty = atom (codes "()")
path_layer (One m) = atom (member_text m)
path_layer (Class negated members) = atom (class_text negated members)
path_layer (Reference name at) = atom (reference_text name)
path_layer (Seq parts) = chain 3 (codes " ") parts
path_layer (Alt parts) = chain 1 (codes " | ") parts
path_layer (And parts) = chain 2 (codes " & ") parts
path_layer (Not part) = record { binding = 4; text = codes "!" ++ within 4 part }
path_layer (Star part) = postfixed part (codes "*")
path_layer (Plus part) = postfixed part (codes "+")
path_layer (Maybe part) = postfixed part (codes "?")
path_layer (Times part n) = postfixed part (codes "{" ++ (decimal n ++ codes "}"))

unfoldable pub printed_path : PathExpr → Printed
printed_path = fold-PathExpr Printed path_layer
