-- The definitions of a specification so far, with their alternatives.
use Rattle.std.specs.Prelude.{◌≡◌, ℕ, ◌+◌, ◌-◌, ◌^◌, ◌<◌, min, List, [], ◌∷◌, ◌++◌, length, slice_index_or, slice_get, Option, None, Some, All}
use Rattle.std.specs.List.{fold}
use Rattle.std.specs.Map.{lookup}
use Rattle.std.specs.Str.{bytes_eq}
use Rattle.rela_blame.specs.Alternatives.{Leads}
use Rattle.rela_blame.specs.Leads.{spread, value_at, IsBelow}
use Rattle.rela_blame.specs.declared.leads.Lead.{Lead}
use Rattle.rela_blame.specs.declared.definitions.Definition.{Definition}
use Rattle.rela_blame.specs.declared.definitions.Definitions.{Definitions}
use Rattle.rela_blame.specs.declared.definitions.Sought.{Sought}
use Rattle.rela_blame.specs.declared.definitions.Sought.TheVariants.{Unit as Unit', Within, Nowhere}

-- the alternatives of each definition
unfoldable pub values_of : List Definition → List (List ℕ)
values_of list = fold (λ values d. values ++ spread values d.leads.items ∷ []) [] list

-- a number as far as 64 bits tell
abbrev pub capped : ℕ → ℕ
capped n = min n (2 ^ 64 - 1)

-- the definition speaks of earlier ones, and its count is that of its alternatives
pub record IsDefinition (values : List (List ℕ)) (k : ℕ) (d : Definition) : Type 0 where
  pub below : All (IsBelow values k) d.leads.items
  pub is : value_at values k ≡ spread values d.leads.items
  pub count : d.count ≡ capped (length (value_at values k))

-- the number of the definition that the name stands for
abbrev pub place_of : Definitions → List ℕ → Option ℕ
place_of table name = lookup (λ key. bytes_eq name key.now) table.places.entries

abbrev pub value_of_place : List (List ℕ) → Option ℕ → List ℕ
value_of_place values None = []
value_of_place values (Some k) = value_at values k

-- the alternatives that names stand for
abbrev pub named_by : Definitions → List ℕ → List ℕ
named_by table name = value_of_place (values_of table.list.items) (place_of table name)

pub record IsTable (table : Definitions) : Type 0 where
  pub each : (k : ℕ) (d : Definition) → k < length table.list.items →
      IsDefinition (values_of table.list.items) k (slice_index_or table.list.items k d)
  pub known : (name : List ℕ) (k : ℕ) → place_of table name ≡ Some k → k < length table.list.items

-- leads of definitions of the table
abbrev pub AreLeads : Definitions → List Lead → Type 0
AreLeads table leads =
    All (IsBelow (values_of table.list.items) (length table.list.items)) leads

-- what a search in some alternatives has found: the offset at a place among them, or the same as at
-- a place among those of an earlier definition, or no such place
abbrev pub IsFound : List (List ℕ) → ℕ → Option ℕ → Sought → Type 0
IsFound values bound there (Unit' at) = there ≡ Some at
IsFound values bound there (Within k before) = (k < bound)
    × (there ≡ slice_get (value_at values k) before) × (before < 2 ^ 64 - 1)
IsFound values bound there Nowhere = there ≡ None

-- how far down among the definitions the search goes on
abbrev pub rank : Sought → ℕ
rank (Unit' at) = 0
rank (Within k before) = k + 1
rank Nowhere = 0

-- the leads that were pushed are those of a body, and these units are left behind it
pub record AreRead (table : Definitions) (found : Leads) (old new : List Lead) (units : List ℕ)
    : Type 0 where
  pub leads : spread (values_of table.list.items) new
      ≡ spread (values_of table.list.items) old ++ found.at
  pub left : units ≡ found.left
  pub known : AreLeads table old → AreLeads table new
