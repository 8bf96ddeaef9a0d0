-- The specification of an input, and what it is to be the text of a specification.
use Rattle.std.specs.Prelude.{ℕ, false, List, [], ◌∷◌, ◌++◌, codes}
use Rattle.rela_names.specs.declared.level.Level.TheVariants as level
use Rattle.rela_flows.specs.declared.predicate.Predicate.{Predicate}
use Rattle.rela_flows.specs.declared.predicate.Predicate.TheVariants as flows
use Rattle.rela_lex.specs.declared.token.Token.{Token}
use Rattle.rela_lex.specs.Spells.{Spells as Lexes}
use Rattle.rela_spec.specs.Grammar.{Spells}
use Rattle.rela_spec.specs.declared.tree.Item.{Item}
use Rattle.rela_spec.specs.declared.tree.Item.TheVariants as item
use Rattle.rela_spec.specs.declared.tree.Member.TheVariants as member
use Rattle.rela_spec.specs.declared.tree.Modifier.TheVariants as modifier
use Rattle.rela_spec.specs.declared.tree.PathExpr.{PathExpr}
use Rattle.rela_spec.specs.declared.tree.PathExpr.TheVariants as path
use Rattle.rela_spec.specs.declared.tree.SpecExpr.{SpecExpr}
use Rattle.rela_spec.specs.declared.tree.SpecExpr.TheVariants as spec
use Rattle.rela_spec.specs.declared.tree.SpecFile.{SpecFile}
use Rattle.rela_demo.specs.Names.{label_b, device_name}

-- the text of the specification of the input up to n
abbrev pub specification_text : ℕ → List ℕ
specification_text n = codes "level device;\ncheck c1 for not flow f7 : { .* : preserve };\n"
    ++ (codes "check c2 for flow f7 : { .* : preserve } then { "
    ++ (device_name (label_b n) ++ codes " : drop } else { .* : preserve };\n"))

-- `{ .* : preserve }`: all paths stay
abbrev pub all_stay : SpecExpr
all_stay = spec.Unit (path.Star path.Any) modifier.Preserve

-- `flow f7`
abbrev pub flow_seven : Predicate
flow_seven = flows.Flow (codes "f7")

-- `check c1 for not flow f7 : { .* : preserve };`
abbrev pub first_check : Item
first_check = item.Check false (codes "c1") 20 (flows.Not flow_seven) all_stay

-- `b200`, for n = 200
abbrev pub last_b : ℕ → PathExpr
last_b n = path.One (member.Here (device_name (label_b n)) 108)

-- `{ .* : preserve } then { b200 : drop } else { .* : preserve }`
abbrev pub cut_body : ℕ → SpecExpr
cut_body n = spec.Else (spec.Then (all_stay ∷ spec.Unit (last_b n) modifier.Drop ∷ [])
    ∷ all_stay ∷ [])

-- `check c2 for flow f7`, with that body
abbrev pub second_check : ℕ → Item
second_check n = item.Check false (codes "c2") 66 flow_seven (cut_body n)

-- `level device;` and the two checks, each with the offset of its name in the text
abbrev pub specification : ℕ → SpecFile
specification n = record { level = level.Device; items = first_check ∷ second_check n ∷ [] }

-- the text is cut into tokens that spell the tree
pub record IsTextOf (tree : SpecFile) (text : List ℕ) : Type 0 where
  pub tokens : List Token
  pub lexed : Lexes text tokens
  pub spelled : Spells tokens tree
