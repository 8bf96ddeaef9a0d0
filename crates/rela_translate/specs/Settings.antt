-- What the terms of a check are read in.
use Rattle.std.specs.Prelude.{ℕ, ◌≤◌, List}
use Rattle.rela_rir.specs.Meaning.{Setting}
use Rattle.rela_rir.specs.declared.set.SymbolSet.{SymbolSet}
use Rattle.rela_translate.specs.Zones.{path_symbols}

-- a class table, a number of locations, and the paths before and after the change
abbrev pub setting : List SymbolSet → ℕ → (List ℕ → Type 0) → (List ℕ → Type 0) → Setting
setting classes locations pre post = record {
  classes = classes;
  path_symbols = path_symbols locations;
  pre = pre;
  post = post;
}

-- the same with no paths
abbrev pub bare : List SymbolSet → ℕ → Setting
bare classes locations = setting classes locations (λ w. ⊥) (λ w. ⊥)

-- a marker's number
abbrev pub IsMarker : ℕ → Type 0
IsMarker k = (1 ≤ k) × (k ≤ 20000)
