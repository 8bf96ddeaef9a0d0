-- The first word that is in two sets.
use Rattle.std.proofs.Common.{ℕ, ◌↔◌, List, Option, None, Some, IfSome, IfNone}
use Rattle.std.proofs.lemmas.Option.{IfSome_then}
use Rattle.rela_names.specs.Shortlex.{First}

-- X has the words of A that are in S, which is Y
module _ (X A S Y : List ℕ → Type 0) (both : (w : List ℕ) → X w ↔ (A w × S w)) (same : (w : List ℕ) → S w ↔ Y w) where
  in_both : (w : List ℕ) → X w → A w × Y w
  in_both w among = let parts = (both w).0 among in (parts.0, (same w).0 parts.1)

  from_both : (w : List ℕ) → A w × Y w → X w
  from_both w parts = (both w).1 (parts.0, (same w).1 parts.1)

  pub first_of_both : (found : Option (List ℕ)) → IfSome found (First X) → IfSome found (First (λ w. A w × Y w))
  first_of_both found first =
      IfSome_then found first (λ w is. record { member = in_both w is.member; least = λ u parts. is.least u (from_both u parts) })

  pub none_of_both : (found : Option (List ℕ)) → IfNone found ((w : List ℕ) → ¬ X w) → IfNone found ((w : List ℕ) → ¬ (A w × Y w))
  none_of_both None none = λ w parts. none w (from_both w parts)
  none_of_both (Some w) none = tt
