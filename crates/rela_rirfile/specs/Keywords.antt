-- The words of assertion files that are no names.
use Rattle.std.specs.Prelude.{ℕ, Bool, ◌||◌, List, codes}
use Rattle.std.specs.Str.{bytes_eq}
use Rattle.rela_spec.specs.Keywords.{is_keyword}

-- what begins an assertion, and what is asserted of two sets
unfoldable pub is_assertion_word : List ℕ → Bool
is_assertion_word w = bytes_eq w (codes "assert") || bytes_eq w (codes "equal")
    || bytes_eq w (codes "included")

-- the words of sets
unfoldable pub is_set_word : List ℕ → Bool
is_set_word w = bytes_eq w (codes "none") || bytes_eq w (codes "eps")
    || bytes_eq w (codes "pre") || bytes_eq w (codes "post") || bytes_eq w (codes "union")
    || bytes_eq w (codes "concat") || bytes_eq w (codes "star") || bytes_eq w (codes "meet")
    || bytes_eq w (codes "complement") || bytes_eq w (codes "image")

-- the words of relations that are no words of sets
unfoldable pub is_relation_word : List ℕ → Bool
is_relation_word w = bytes_eq w (codes "identity") || bytes_eq w (codes "product")
    || bytes_eq w (codes "compose")

-- these, and the keywords of specifications
unfoldable pub is_reserved : List ℕ → Bool
is_reserved w = is_keyword w || is_assertion_word w || is_set_word w || is_relation_word w
