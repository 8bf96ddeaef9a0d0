-- Which files there are outside the program, where that is told.
use Rattle.std.specs.Prelude.{◌≡◌, ℕ, List, Option, Some, None, IsSome}

-- the bytes under each name, and `None` under a name that isn't there
abbrev pub FilesByName : Type 0
FilesByName = List ℕ → Option (List ℕ)

-- it is told that something stands under the name
abbrev pub HoldsName : Option FilesByName → List ℕ → Type 0
HoldsName None name = ⊥
HoldsName (Some files) name = IsSome (files name)

-- it is told that nothing stands under the name
abbrev pub Lacks : Option FilesByName → List ℕ → Type 0
Lacks None name = ⊥
Lacks (Some files) name = files name ≡ None
