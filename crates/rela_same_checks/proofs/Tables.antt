-- Class tables that `==` finds equal are equal, and the other way round.
use Rattle.std.proofs.Common.{◌≡◌, ◌&&◌, Bool, nat_eq, List, ℕ, IsTrue, ◌↔◌, refl, ap, subst}
use Rattle.std.specs.Bool.{Decides, beq}
use Rattle.std.specs.Cmp.{booleans_Decides, unsigned_Decides}
use Rattle.std.specs.Cmp.Lexicographic.{pointwise}
use Rattle.std.specs.List.Sorted.{IsStrictlyIncreasing}
use Rattle.std.proofs.Props.{props}
use Rattle.std.proofs.lemmas.Bool.Decides.{Decides-and}
use Rattle.std.proofs.lemmas.Slice.Eq.{slice_eq-Decides}
use Rattle.rela_rir.specs.declared.set.SymbolSet.{SymbolSet}

ascending_prop : (members : List ℕ) → IsProp (IsStrictlyIncreasing members)
ascending_prop members = hlevel props

abbrev set_of : (negated : Bool) (members : List ℕ) → IsStrictlyIncreasing members → SymbolSet
set_of negated members ascending = record { negated = negated; members = members; ascending = ascending }

set_is : (negated : Bool) (members others : List ℕ) (same : members ≡ others) (x : IsStrictlyIncreasing members) (y : IsStrictlyIncreasing others)
    → set_of negated members x ≡ set_of negated others y
set_is negated members others same x y =
    (subst (λ (ms : List ℕ). (z : IsStrictlyIncreasing ms) → set_of negated members x ≡ set_of negated ms z) same
    (λ z. ap (set_of negated members) (ascending_prop members x z))) y

-- two sets with the same sign and the same members are the same
set_same : (s t : SymbolSet) → s.negated ≡ t.negated → s.members ≡ t.members → s ≡ t
set_same s t sign members =
    subst (λ (b : Bool). s ≡ set_of b t.members t.ascending) sign (set_is s.negated s.members t.members members s.ascending t.ascending)

same_set : (s t : SymbolSet) → Decides (beq s.negated t.negated && pointwise nat_eq s.members t.members) (s ≡ t)
same_set s t =
    let parts = Decides-and (beq s.negated t.negated) (pointwise nat_eq s.members t.members) (booleans_Decides s.negated t.negated)
    (slice_eq-Decides unsigned_Decides s.members t.members (pointwise nat_eq s.members t.members) refl) in (
      λ equal. let told = parts.0 equal in set_same s t told.0 told.1,
      λ same. parts.1 (ap (λ (set : SymbolSet). set.negated) same, ap (λ (set : SymbolSet). set.members) same),
    )

pub same_table : (classes others : List SymbolSet) (r : Bool) → r ≡ pointwise (λ (s t : SymbolSet). beq s.negated t.negated && pointwise nat_eq s.members t.members) classes others
    → IsTrue r ↔ (classes ≡ others)
same_table classes others r is = slice_eq-Decides same_set classes others r is
