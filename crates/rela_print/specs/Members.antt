-- How members and classes are written.
use Rattle.std.specs.Prelude.{ℕ, Bool, true, false, List, ◌++◌, codes}
use Rattle.rela_locations.specs.declared.members.By.{By}
use Rattle.rela_locations.specs.declared.members.By.TheVariants as by
use Rattle.rela_print.specs.Joined.{joined}
use Rattle.rela_print.specs.Names.{name_text}
use Rattle.rela_spec.specs.declared.tree.Member.{Member}
use Rattle.rela_spec.specs.declared.tree.Member.TheVariants as member

abbrev pub by_opening : By → List ℕ
by_opening by.Interface = codes "interface("
by_opening by.Device = codes "device("
by_opening by.Group = codes "group("
by_opening by.Tag = codes "tag("

unfoldable pub member_text : Member → List ℕ
member_text (member.Here name at) = name_text name
member_text (member.Within b name at) = by_opening b ++ (name_text name ++ codes ")")
member_text member.Drop = codes "drop"
member_text member.Loop = codes "loop"

abbrev pub class_opening : Bool → List ℕ
class_opening true = codes "[^"
class_opening false = codes "["

unfoldable pub class_text : Bool → List Member → List ℕ
class_text negated members = class_opening negated
    ++ (joined (codes " ") member_text members ++ codes "]")
