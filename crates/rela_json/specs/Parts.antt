-- The parts of a JSON value. Each is `None` where the value is of another kind.
use Rattle.std.specs.Prelude.{ℕ, List, [], ◌∷◌, Option, Some, None, option_map, option_and_then}
use Rattle.serde_json.specs.Data.{Data, null, boolean, number, string, array, object, Items, no_items, item}
use Rattle.serde_json.specs.Find.{get_member, as_number, as_str, as_array, as_u64}

-- of an object, its member of that name, if there is one
abbrev pub member_of : List ℕ → Data → Option (Option Data)
member_of name null = None
member_of name (boolean b) = None
member_of name (number n) = None
member_of name (string s) = None
member_of name (array ds) = None
member_of name (object ms) = Some (get_member name ms)

-- of a string, its bytes
abbrev pub text_of : Data → Option (List ℕ)
text_of d = as_str d

-- of a number that is written as a whole one, without a sign, and is below 2 ^ 64, its value
abbrev pub number_of : Data → Option ℕ
number_of d = option_and_then as_u64 (as_number d)

abbrev pub list_of : Items → List Data
list_of no_items = []
list_of (item d ds) = d ∷ list_of ds

-- of an array, its entries in order
abbrev pub items_of : Data → Option (List Data)
items_of d = option_map list_of (as_array d)
