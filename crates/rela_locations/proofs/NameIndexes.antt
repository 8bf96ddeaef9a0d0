-- The place that a table of places tells for a name.
use Rattle.std.proofs.Common.{◌≡◌, ◌↔◌, ℕ, List, Option, Some, slice_get, ap, ◌∙◌}
use Rattle.rela_locations.specs.Tables.{IsOnce}

-- where names come once each, the one place at which a name stands is its place
pub found_where_it_stands : (names : List (List ℕ)) (name : List ℕ) (k : ℕ) (r : Option ℕ) → IsOnce names → slice_get names k ≡ Some name → r ≡ Some k
    → (s : ℕ) → (r ≡ Some s) ↔ (slice_get names s ≡ Some name)
found_where_it_stands names name k r once at is s = (
  λ found. let same : k ≡ s = cc in rw (← same) at,
  λ there. is ∙ ap Some (once k s name at there),
)
