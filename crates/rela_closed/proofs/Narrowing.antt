-- Letters that labels don't tell apart.
use Rattle.std.proofs.Common.{◌≡◌, ℕ, ◌+◌, ◌<◌, ◌≤◌, ◌↔◌, ◌&&◌, not, Bool, true, false, List, [], ◌∷◌, ◌++◌, length, get_or, map, take, Some, refl, sym, ap, ◌∙◌, subst}
use Rattle.std.specs.List.{All}
use Rattle.std.proofs.lemmas.Bool.{false≢true}
use Rattle.std.proofs.lemmas.List.{map_more, take_all}
use Rattle.std.proofs.lemmas.List.Elements.{All-nil, All-pop, All-push}
use Rattle.rela_labels.specs.Letters.{has}
use Rattle.rela_closed.specs.Splitting.{AreTogether}

-- what holds of each and of one more
All-more_iff : {X : Type 0} (P : X → Type 0) (xs : List X) (x : X) → All P (xs ++ x ∷ []) ↔ (All P xs × P x)
All-more_iff P xs x = (λ all. All-pop P (xs ++ x ∷ []) xs (Some x) refl all, λ (front, last). All-push P xs x front last)

module _ {X : Type 0} (letters : X → List Bool) (labels : List X) (j : ℕ) (old : List Bool) where
  -- the letters that the labels so far don't tell from j
  abbrev pub IsNarrowed : ℕ → List Bool → Type 0
  IsNarrowed i narrow = (k : ℕ) → (has narrow k ≡ true) ↔ ((has old k ≡ true) × AreTogether (map letters (take i labels)) j k)

  pub narrowed_none : (narrow : List Bool) → narrow ≡ old → IsNarrowed 0 narrow
  narrowed_none narrow same k = (λ h. (ap (λ l. has l k) (sym same) ∙ h, All-nil (λ label. has label k ≡ has label j)), λ h. ap (λ l. has l k) same ∙ h.0)

  pub narrowed_more : (i : ℕ) (label : X) (narrow narrow' : List Bool) → i < length labels → label ≡ get_or labels i label → IsNarrowed i narrow
      → ((k : ℕ) → (has narrow' k ≡ true) ↔ ((has narrow k ≡ true) × (has (letters label) k ≡ has (letters label) j))) → IsNarrowed (i + 1) narrow'
  narrowed_more i label narrow narrow' below at before last k =
      let grown : map letters (take (i + 1) labels) ≡ map letters (take i labels) ++ letters label ∷ [] =
      map_more letters labels i label below ∙ ap (λ x. map letters (take i labels) ++ letters x ∷ []) (sym at) in
      let both = All-more_iff (λ label. has label k ≡ has label j) (map letters (take i labels)) (letters label) in (
        λ h. let (was, here) = (last k).0 h in let (first, together) = (before k).0 was in
            (first, subst (λ ls. AreTogether ls j k) (sym grown) (both.1 (together, here))),
        λ (first, all). let (together, here) = both.0 (subst (λ ls. AreTogether ls j k) grown all) in (last k).1 ((before k).1 (first, together), here),
      )

  pub narrowed_all : (i : ℕ) (narrow : List Bool) → length labels ≤ i → IsNarrowed i narrow → (k : ℕ) → (has narrow k ≡ true) ↔ ((has old k ≡ true) × AreTogether (map letters labels) j k)
  narrowed_all i narrow all are = subst (λ (ls : List X). (k : ℕ) → (has narrow k ≡ true) ↔ ((has old k ≡ true) × AreTogether (map letters ls) j k)) (take_all i labels all) are

-- what is in both is in the block, and in the label as a letter of it
pub met_together : (part block label letter : Bool) → part ≡ (block && label) → letter ≡ true → (part ≡ true) ↔ ((block ≡ true) × (label ≡ letter))
met_together part true true letter is on = (λ _. (refl, sym on), λ _. is)
met_together part true false letter is on = (λ p. absurd (false≢true (sym is ∙ p)), λ both. absurd (false≢true (both.1 ∙ on)))
met_together part false label letter is on = (λ p. absurd (false≢true (sym is ∙ p)), λ both. absurd (false≢true both.0))

-- what is in the block alone is not in the label, as a letter that isn't
pub less_together : (part block label letter : Bool) → part ≡ (block && not label) → letter ≡ false → (part ≡ true) ↔ ((block ≡ true) × (label ≡ letter))
less_together part true true letter is off = (λ p. absurd (false≢true (sym is ∙ p)), λ both. absurd (false≢true (sym off ∙ sym both.1)))
less_together part true false letter is off = (λ _. (refl, sym off), λ _. is)
less_together part false label letter is off = (λ p. absurd (false≢true (sym is ∙ p)), λ both. absurd (false≢true both.0))
