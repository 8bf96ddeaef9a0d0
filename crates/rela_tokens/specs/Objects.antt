-- The object that has these members, of which the last of a name counts.
use Rattle.std.specs.Prelude.{ℕ, List, [], ◌∷◌}
use Rattle.serde_json.specs.Data.{Data, Members, no_members, put}

-- the members that were there, with these put in one after another
abbrev pub puts : List (List ℕ × Data) → Members → Members
puts [] found = found
puts (m ∷ ms) found = puts ms (put m.0 m.1 found)

abbrev pub object_of : List (List ℕ × Data) → Data
object_of ms = Data.object (puts ms no_members)
