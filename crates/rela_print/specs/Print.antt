-- The canonical text of a specification.
use Rattle.std.specs.Prelude.{ℕ, Bool, true, false, List, [], ◌∷◌, ◌++◌, codes}
use Rattle.rela_names.specs.declared.level.Level.{Level}
use Rattle.rela_names.specs.declared.level.Level.TheVariants as level
use Rattle.rela_print.specs.Names.{name_text}
use Rattle.rela_print.specs.PredicateTexts.{condition_text}
use Rattle.rela_print.specs.SpecTexts.{path_text, printed_spec}
use Rattle.rela_spec.specs.declared.tree.Item.{Item}
use Rattle.rela_spec.specs.declared.tree.Item.TheVariants as item
use Rattle.rela_spec.specs.declared.tree.SpecExpr.{SpecExpr}
use Rattle.rela_spec.specs.declared.tree.SpecFile.{SpecFile}

abbrev pub level_line : Level → List ℕ
level_line level.Interface = codes "level interface;\n"
level_line level.Device = codes "level device;\n"
level_line level.Group = codes "level group;\n"

abbrev pub spec_text : SpecExpr → List ℕ
spec_text s = (printed_spec s).text

abbrev pub check_words : Bool → List ℕ
check_words true = codes "check atmost "
check_words false = codes "check "

unfoldable pub item_line : Item → List ℕ
item_line (item.Path name at body) = codes "path "
    ++ (name_text name ++ (codes " = " ++ (path_text body ++ codes ";\n")))
item_line (item.Spec name at body) = codes "spec "
    ++ (name_text name ++ (codes " = " ++ (spec_text body ++ codes ";\n")))
item_line (item.Check at_most name at when body) =
    check_words at_most ++ (name_text name
    ++ (condition_text when ++ (codes " : " ++ (spec_text body ++ codes ";\n"))))

unfoldable pub lines : List Item → List ℕ
lines [] = []
lines (item ∷ items) = item_line item ++ lines items

-- a line with the level, then a line for each item
unfoldable pub print_of : SpecFile → List ℕ
print_of file = level_line file.level ++ lines file.items
