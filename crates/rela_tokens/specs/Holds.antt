-- Which values stand at the front of the tokens that a reader has still to hand out.
use Rattle.std.specs.Prelude.{◌≡◌, ℕ, ◌<◌, ◌≤◌, List, [], ◌∷◌, length, Some}
use Rattle.json.specs.Token.{Token, key}
use Rattle.json.specs.Json.{value}
use Rattle.serde_json.specs.Data.{Data}
use Rattle.serde_json.specs.Read.{of_json, converted}

-- `old` begins with the value d, and `new` follows it, wherever values may nest k deep
pub record Holds (k : ℕ) (old : List Token) (d : Data) (new : List Token) : Type 0 where
  pub reads : (n : ℕ) → k ≤ n → converted of_json (value n old) ≡ Some (d, new)
  pub shorter : length new < length old

-- `old` begins with these values, one behind another, and `new` follows them
abbrev pub HoldsAll : ℕ → List Token → List Data → List Token → Type 0
HoldsAll k old [] new = old ≡ new
HoldsAll k old (d ∷ ds) new = (mid : List Token) × Holds k old d mid × HoldsAll k mid ds new

-- `old` begins with these members, each a key and its value, and `new` follows them
abbrev pub HoldsMembers : ℕ → List Token → List (List ℕ × Data) → List Token → Type 0
HoldsMembers k old [] new = old ≡ new
HoldsMembers k old (m ∷ ms) new = (first : List Token) × (mid : List Token)
    × (old ≡ key m.0 ∷ first) × Holds k first m.1 mid × HoldsMembers k mid ms new
