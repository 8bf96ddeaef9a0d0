-- What is known of bytes outside the program: `Some` where they are told, `None` where they aren't.
use Rattle.std.specs.Prelude.{◌≡◌, ℕ, ◌<◌, List, ◌++◌, length, take, Option, option_map}

-- the bytes in front of what is told
abbrev pub before_told : List ℕ → Option (List ℕ) → Option (List ℕ)
before_told bytes told = option_map (λ rest. bytes ++ rest) told

-- the bytes behind what is told
abbrev pub after_told : Option (List ℕ) → List ℕ → Option (List ℕ)
after_told told bytes = option_map (λ front. front ++ bytes) told

-- what is told grew by some first bytes of these, and not by all of them
abbrev pub GrewByPart : Option (List ℕ) → Option (List ℕ) → List ℕ → Type 0
GrewByPart old new bytes = (n : ℕ) × (n < length bytes) × (new ≡ after_told old (take n bytes))
