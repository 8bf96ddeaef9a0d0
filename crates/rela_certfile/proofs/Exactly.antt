-- An option that holds exactly the value of a relation.
use Rattle.std.proofs.Common.{◌≡◌, ◌↔◌, Option, None, Some, subst}

-- where nothing is related, nothing is held
pub refused : {V : Type 0} (R : V → Type 0) (r : Option V) → r ≡ None → ((v : V) → R v → ⊥) → (v : V) → (r ≡ Some v) ↔ R v
refused R r none never v = ((λ some. cc), λ holds. absurd (never v holds))

-- where one value is related, and no other, that one is held
pub given : {V : Type 0} (R : V → Type 0) (r : Option V) (w : V) → r ≡ Some w → R w → ((v : V) → R v → v ≡ w) → (v : V) → (r ≡ Some v) ↔ R v
given R r w some holds only v = (
  (λ other. let same : w ≡ v = cc in subst R same holds),
  λ also. let same : v ≡ w = only v also in cc,
)
