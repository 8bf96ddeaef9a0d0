-- A set of letters that has one alone.
use Rattle.std.proofs.Common.{◌≡◌, ◌≢◌, ◌==◌, ℕ, zero, suc, Bool, true, false, if◌then◌else◌, List, [], ◌∷◌, Option, None, Some, IfNone, IfSome, inl, inr, refl, sym, ap, ◌∙◌, subst, arith}
use Rattle.std.specs.List.{list_any}
use Rattle.std.specs.Option.{option_map}
use Rattle.std.proofs.lemmas.Bool.{cases_Bool, cases_eq, eq-eqb, ne_eqb, false≢true, false_from_ne_true}
use Rattle.std.proofs.lemmas.Option.{same_Some}
use Rattle.rela_labels.specs.Letters.{has}
use Rattle.rela_trans.specs.Reached.{only_letter}
use Rattle.rela_trans.proofs.SharedLetters.{any_letter, none_in}

-- k is the one letter of the set
pub record IsOnly (set : List Bool) (k : ℕ) : Type 0 where
  pub among : has set k ≡ true
  pub others : (j : ℕ) → j ≢ k → has set j ≡ false

after_none : (o : Option ℕ) (m : ℕ) → option_map suc o ≡ Some m → (k : ℕ) × (o ≡ Some k) × (suc k ≡ m)
after_none None m e = absurd (cc)
after_none (Some k) m e = (k, refl, same_Some (suc k) m e)

pub only_is : (set : List Bool) (m : ℕ) → only_letter set ≡ Some m → IsOnly set m
only_is [] m e = absurd (cc)
only_is (true ∷ rest) m e = elim (cases_Bool (list_any (λ b. b) rest)) [
  | inl some ↦ let bad : None ≡ Some m = ap (λ b. if b then None else Some 0) (sym some) ∙ e in absurd (cc)
  | inr none ↦
      let first : 0 ≡ m = same_Some 0 m (ap (λ b. if b then None else Some 0) (sym none) ∙ e) in
      subst (IsOnly (true ∷ rest)) first (record { among = refl; others = λ j other. later j other none })
]
  where
    later : (j : ℕ) → j ≢ 0 → list_any (λ b. b) rest ≡ false → has (true ∷ rest) j ≡ false
    later zero other none = absurd (other refl)
    later (suc j) other none = false_from_ne_true (has rest j) (λ among. false≢true (sym none ∙ any_letter rest j among))
only_is (false ∷ rest) m e =
    let found = after_none (only_letter rest) m e in
    let one = only_is rest found.0 found.1 in
    subst (IsOnly (false ∷ rest)) found.2 (record { among = one.among; others = λ j other. later j found.0 one other })
  where
    later : (j k : ℕ) → IsOnly rest k → j ≢ suc k → has (false ∷ rest) j ≡ false
    later zero k one other = refl
    later (suc j) k one other = one.others j (λ same. other (ap suc same))

pub is_only : (set : List Bool) (k : ℕ) → IsOnly set k → only_letter set ≡ Some k
is_only [] k one = absurd (false≢true one.among)
is_only (true ∷ rest) zero one = ap (λ b. if b then None else Some 0) (none_in rest (λ j. one.others (suc j) (λ same. absurd (omega (arith, same)))))
is_only (true ∷ rest) (suc k) one = absurd (false≢true (sym (one.others 0 (λ same. absurd (omega (arith, same))))))
is_only (false ∷ rest) zero one = absurd (false≢true one.among)
is_only (false ∷ rest) (suc k) one = ap (option_map suc) (is_only rest k (record { among = one.among; others = λ j other. one.others (suc j) (λ same. other (omega (arith, same))) }))

none_or : (o : Option ℕ) → ((m : ℕ) → o ≡ Some m → ⊥) → o ≡ None
none_or None never = refl
none_or (Some m) never = absurd (never m refl)

-- what a set tells of its only letter
pub only_told : (set : List Bool) (answer : Option ℕ) → IfSome answer (λ only. (k : ℕ) → has set k ≡ (only == k))
    → IfNone answer ((only : ℕ) → ((k : ℕ) → has set k ≡ (only == k)) → ⊥) → answer ≡ only_letter set
only_told set (Some k) one none =
    sym (is_only set k (record { among = one k ∙ eq-eqb k k refl; others = λ j other. one j ∙ ne_eqb k j (λ e. other (sym e)) }))
only_told set None one none =
    sym (none_or (only_letter set) (λ m e.
    let is = only_is set m e in
    none m (λ k. elim (cases_eq k m) [
      | inl here ↦ ap (has set) here ∙ is.among ∙ sym (eq-eqb m k (sym here))
      | inr other ↦ is.others k other ∙ sym (ne_eqb m k (λ e. other (sym e)))
    ])))
