-- The alternatives of a body as it is written, and where they stand in the text.
use Rattle.std.specs.Prelude.{◌≡◌, ℕ, ◌+◌, List, [], ◌∷◌, ◌++◌, take, Some, slice_get, if◌then◌else◌}
use Rattle.std.specs.Str.{bytes_eq}
use Rattle.rela_lex.specs.declared.token.Token.{Token}
use Rattle.rela_spec.specs.declared.tree.Item.{Item}
use Rattle.rela_spec.specs.declared.tree.Item.TheVariants.{Path, Spec, Check}
use Rattle.rela_spec.specs.declared.tree.SpecExpr.{SpecExpr}
use Rattle.rela_spec.specs.declared.tree.SpecExpr.TheOpen.{SpecExpr-F, Unit as Unit', Reference, Then, Else}
use Rattle.rela_spec.specs.declared.tree.SpecExpr.TheFolds.{fold-SpecExpr}
use Rattle.rela_spec.specs.declared.tree.SpecFile.{SpecFile}
use Rattle.rela_blame.specs.Units.{unit_offsets}

-- the offset of the leftmost unit of each alternative of a body, from left to right, and those of
-- the units that are written behind the body
pub record Leads : Type 0 where
  pub at : List ℕ
  pub left : List ℕ

-- parts one after another, each of which takes its units from those that are left
abbrev pub in_turn : List (List ℕ → Leads) → List ℕ → Leads
in_turn [] units = record { at = []; left = units }
in_turn (part ∷ others) units = record {
  at = (part units).at ++ (in_turn others (part units).left).at;
  left = (in_turn others (part units).left).left;
}

-- all of it as one alternative
abbrev pub as_one : Leads → Leads
as_one leads = record { at = take 1 leads.at; left = leads.left }

-- a unit, which is the next one
abbrev pub unit_leads : List ℕ → Leads
unit_leads [] = record { at = []; left = [] }
unit_leads (at ∷ left) = record { at = at ∷ []; left = left }

-- A unit, or a `then`, is one alternative; an `else` has those of its parts, in order; and a
-- reference has those of what it names.
abbrev pub layer_leads : (List ℕ → List ℕ) → SpecExpr-F (List ℕ → Leads) → List ℕ → Leads
layer_leads named (Unit' zone m) units = unit_leads units
layer_leads named (Reference name at) units = record { at = named name; left = units }
layer_leads named (Then parts) units = as_one (in_turn parts units)
layer_leads named (Else parts) units = in_turn parts units

-- the alternatives of a body, where these units are written from its first one on
unfoldable pub leads_of : (List ℕ → List ℕ) → SpecExpr → List ℕ → Leads
leads_of named = fold-SpecExpr (List ℕ → Leads) (layer_leads named)

-- the function with these alternatives for the name
abbrev pub with_name : List ℕ → List ℕ → (List ℕ → List ℕ) → List ℕ → List ℕ
with_name name leads others other = if bytes_eq name other then leads else others other

-- the alternatives of the first check of this name among the items; each name stands for the
-- alternatives of the last specification before that has it
abbrev pub leads_from : (List ℕ → List ℕ) → List ℕ → List Item → List ℕ → List ℕ
leads_from named units [] check = []
leads_from named units (Path name at body ∷ others) check = leads_from named units others check
leads_from named units (Spec name at body ∷ others) check =
    leads_from (with_name name (leads_of named body units).at named)
    (leads_of named body units).left others check
leads_from named units (Check at_most name at when body ∷ others) check =
    if bytes_eq name check then (leads_of named body units).at
    else leads_from named (leads_of named body units).left others check

-- the offset of the `{` of the leftmost unit of each alternative of the check's body, from left to
-- right
abbrev pub check_leads : SpecFile → List Token → List ℕ → List ℕ
check_leads file tokens check = leads_from (λ _. []) (unit_offsets tokens) file.items check

-- the alternative with this number, counted from 1, of the check's body stands there
pub record StandsAt (file : SpecFile) (tokens : List Token) (check : List ℕ) (number at : ℕ)
    : Type 0 where
  pub before : ℕ
  pub counted : number ≡ before + 1
  pub is : slice_get (check_leads file tokens check) before ≡ Some at
