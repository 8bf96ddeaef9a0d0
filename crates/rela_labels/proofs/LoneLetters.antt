-- Letters that are alone, and letters that two sets share, whatever tells which letters are there.
use Rattle.std.proofs.Common.{◌≡◌, ℕ, ◌<◌, ◌↔◌, ◌==◌, ◌&&◌, Bool, true, false, not, IsTrue, Option, None, Some, IfNone, IfSome, inl, inr, refl, sym, ap, ◌∙◌}
use Rattle.std.proofs.lemmas.Bool.{cases_eq, eq-eqb, eqb-true, ne_eqb, false≢true}

-- the letter is there, and no other
abbrev pub IsAlone : (ℕ → Bool) → ℕ → Type 0
IsAlone there only = (k : ℕ) → there k ≡ (only == k)

-- where no letter is there, none is alone
pub none_alone : (there : ℕ → Bool) → ((k : ℕ) → there k ≡ false) → (only : ℕ) → ¬ IsAlone there only
none_alone there none only is = false≢true (sym (none only) ∙ is only ∙ eq-eqb only only refl)

-- where a letter is there and isn't alone, no other is alone
pub no_other_alone : (there : ℕ → Bool) (least : ℕ) → there least ≡ true → ¬ IsAlone there least → (only : ℕ) → ¬ IsAlone there only
no_other_alone there least is_there not_alone only is =
    not_alone (λ k. is k ∙ ap (λ j. j == k) (eqb-true only least (sym (is least) ∙ is_there)))

-- what is told of letters holds of the same letters in another form
pub alone_as : (there other : ℕ → Bool) (only : ℕ) → ((k : ℕ) → there k ≡ other k) → IsAlone other only → IsAlone there only
alone_as there other only same is = λ k. same k ∙ is k

pub none_alone_as : (there other : ℕ → Bool) (answer : Option ℕ) → ((k : ℕ) → there k ≡ other k)
    → IfNone answer ((only : ℕ) → ¬ IsAlone other only) → IfNone answer ((only : ℕ) → ¬ IsAlone there only)
none_alone_as there other None same none = λ only is. none only (λ k. sym (same k) ∙ is k)
none_alone_as there other (Some letter) same none = tt

pub only_as : (there other : ℕ → Bool) (answer : Option ℕ) → ((k : ℕ) → there k ≡ other k) → IfSome answer (IsAlone other)
    → IfSome answer (IsAlone there)
only_as there other None same is = tt
only_as there other (Some letter) same is = λ k. same k ∙ is k

-- a letter that is alone is below where no letter is from there on
pub alone_below : (size : ℕ) (there : ℕ → Bool) (answer : Option ℕ) → ((k : ℕ) → there k ≡ true → k < size) → IfSome answer (IsAlone there)
    → IfSome answer (λ only. only < size)
alone_below size there None below is = tt
alone_below size there (Some only) below is = below only (is only ∙ eq-eqb only only refl)

-- whether two sets have no letter in both
abbrev pub TellsDisjoint : (ℕ → Bool) → (ℕ → Bool) → Bool → Type 0
TellsDisjoint left right answer = IsTrue answer ↔ ((k : ℕ) → (left k && right k) ≡ false)

pub disjoint_as : (left right one other : ℕ → Bool) (answer : Bool) → ((k : ℕ) → left k ≡ one k) → ((k : ℕ) → right k ≡ other k)
    → TellsDisjoint one other answer → TellsDisjoint left right answer
disjoint_as left right one other answer left_is right_is tells = (
  λ h k. ap (λ v. v && right k) (left_is k) ∙ ap (λ v. one k && v) (right_is k) ∙ tells.0 h k,
  λ none. tells.1 (λ k. ap (λ v. v && other k) (sym (left_is k)) ∙ ap (λ v. left k && v) (sym (right_is k)) ∙ none k),
)

-- a letter alone, and a set that has it or not
pub disjoint_from_one : (there : ℕ → Bool) (letter : ℕ) (answer : Bool) → answer ≡ there letter
    → TellsDisjoint there (λ k. letter == k) (not answer)
disjoint_from_one there letter answer is = (
  λ h k. elim (cases_eq letter k) [
    | inl e ↦ ap (λ v. v && (letter == k)) (ap there (sym e) ∙ sym is ∙ not_true answer h)
    | inr n ↦ ap (λ v. there k && v) (ne_eqb letter k n) ∙ and_false (there k)
  ],
  λ none. ap not (is ∙ and_true (there letter) (ap (λ v. there letter && v) (sym (eq-eqb letter letter refl)) ∙ none letter)),
)
  where
    not_true : (b : Bool) → IsTrue (not b) → b ≡ false
    not_true false h = refl
    not_true true h = absurd (false≢true h)

    and_false : (b : Bool) → (b && false) ≡ false
    and_false true = refl
    and_false false = refl

    and_true : (b : Bool) → (b && true) ≡ false → b ≡ false
    and_true false h = refl
    and_true true h = h
