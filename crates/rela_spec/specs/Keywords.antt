-- The words of the language that are no names.
use Rattle.std.specs.Prelude.{ℕ, Bool, ◌||◌, List, codes}
use Rattle.std.specs.Str.{bytes_eq}

-- what begins an item or marks a check
unfoldable pub is_item_word : List ℕ → Bool
is_item_word w = bytes_eq w (codes "level") || bytes_eq w (codes "path")
    || bytes_eq w (codes "spec") || bytes_eq w (codes "check") || bytes_eq w (codes "for")
    || bytes_eq w (codes "atmost")

-- the words of members
unfoldable pub is_member_word : List ℕ → Bool
is_member_word w = bytes_eq w (codes "interface") || bytes_eq w (codes "device")
    || bytes_eq w (codes "group") || bytes_eq w (codes "tag") || bytes_eq w (codes "drop")
    || bytes_eq w (codes "loop")

-- the words of modifiers, `drop` apart
unfoldable pub is_modifier_word : List ℕ → Bool
is_modifier_word w = bytes_eq w (codes "preserve") || bytes_eq w (codes "add")
    || bytes_eq w (codes "remove") || bytes_eq w (codes "replace") || bytes_eq w (codes "any")
    || bytes_eq w (codes "ignore")

-- what joins the parts of specifications and predicates
unfoldable pub is_joining_word : List ℕ → Bool
is_joining_word w = bytes_eq w (codes "then") || bytes_eq w (codes "else")
    || bytes_eq w (codes "not") || bytes_eq w (codes "and") || bytes_eq w (codes "or")

-- the words of single predicates
unfoldable pub is_predicate_word : List ℕ → Bool
is_predicate_word w = bytes_eq w (codes "all") || bytes_eq w (codes "dst")
    || bytes_eq w (codes "src") || bytes_eq w (codes "in") || bytes_eq w (codes "overlaps")
    || bytes_eq w (codes "flow") || bytes_eq w (codes "class")

unfoldable pub is_keyword : List ℕ → Bool
is_keyword w = is_item_word w || is_member_word w || is_modifier_word w || is_joining_word w
    || is_predicate_word w
