-- The alternatives that leads stand for.
use Rattle.std.specs.Prelude.{ℕ, ◌<◌, ◌≤◌, List, [], ◌∷◌, length, take, slice_index_or, ⊤}
use Rattle.std.specs.List.{flat_map}
use Rattle.rela_blame.specs.declared.leads.Lead.{Lead}
use Rattle.rela_blame.specs.declared.leads.Lead.TheVariants.{Unit as Unit', Every, First}

-- the alternatives of the definition with this number
abbrev pub value_at : List (List ℕ) → ℕ → List ℕ
value_at values k = slice_index_or values k []

-- the alternatives of a lead, where these are those of the definitions
abbrev pub alternatives : List (List ℕ) → Lead → List ℕ
alternatives values (Unit' at) = at ∷ []
alternatives values (Every k) = value_at values k
alternatives values (First k) = take 1 (value_at values k)

abbrev pub spread : List (List ℕ) → List Lead → List ℕ
spread values leads = flat_map (alternatives values) leads

-- the definition has a number below the bound, and has an alternative
abbrev pub IsBelow : List (List ℕ) → ℕ → Lead → Type 0
IsBelow values bound (Unit' at) = ⊤
IsBelow values bound (Every k) = (k < bound) × (1 ≤ length (value_at values k))
IsBelow values bound (First k) = (k < bound) × (1 ≤ length (value_at values k))
