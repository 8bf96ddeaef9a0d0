-- What is kept of checks, by their numbers.
use Rattle.std.proofs.Common.{◌≡◌, ◌∙◌, ℕ, cond, Option, None, Some, List, inl, inr, sym, subst}
use Rattle.std.specs.Prelude.{IfSome}
use Rattle.std.specs.HashMap.{HashMap, get}
use Rattle.std.specs.List.{slice_get}
use Rattle.std.proofs.lemmas.Bool.{cases_Bool, cond-false, cond-true, eqb-true}
use Rattle.rela_blocks.specs.RowBlocks.{AreCheckBlocks}
use Rattle.rela_translate.specs.Checked.{Checked}
use Rattle.rela_cert.specs.KeptChecks.{AreKept, IsKept, IsKeptWithForms, same_number}
use Rattle.rela_cert.specs.Subject.{Subject}
use Rattle.rela_cert.specs.declared.kept_checks.KeptCheck.{KeptCheck}
use Rattle.rela_cert.proofs.ListedRows.{same_some}

module _ {S : Type 0} (s : Subject) (count : ℕ) (old new : HashMap ℕ KeptCheck S) (number : ℕ) where
  -- one more is put in, which is of the check of its number
  pub kept_more : (one : KeptCheck) → ((q : ℕ) → get same_number new q ≡ cond (same_number number q) (Some one) (get same_number old q))
      → AreKept s count old → ((check : Checked) → slice_get s.checks number ≡ Some check → IsKeptWithForms count s.names check one) → AreKept s count new
  kept_more one updates kept holds q v check has at = elim (cases_Bool (same_number number q)) [
    | inl same ↦
        let is : Some one ≡ Some v = sym (updates q ∙ cond-true (same_number number q) (Some one) (get same_number old q) same) ∙ has in
        let equal : one ≡ v = cc in
        let key : number ≡ q = eqb-true number q same in
        subst (IsKeptWithForms count s.names check) equal (holds check (subst (λ (k : ℕ). slice_get s.checks k ≡ Some check) (sym key) at))
    | inr other ↦ kept q v check (sym (updates q ∙ cond-false (same_number number q) (Some one) (get same_number old q) other) ∙ has) at
  ]

  -- the others are kept where one is taken out
  pub kept_less : ((q : ℕ) → get same_number new q ≡ cond (same_number number q) None (get same_number old q)) → AreKept s count old → AreKept s count new
  kept_less updates kept q v check has at = elim (cases_Bool (same_number number q)) [
    | inl same ↦
        let e : None ≡ Some v = sym (updates q ∙ cond-true (same_number number q) None (get same_number old q) same) ∙ has in
        absurd (cc)
    | inr other ↦ kept q v check (sym (updates q ∙ cond-false (same_number number q) None (get same_number old q) other) ∙ has) at
  ]

-- what is taken out is of the check of its number
pub kept_found : {S : Type 0} (s : Subject) (count : ℕ) (old : HashMap ℕ KeptCheck S) (number : ℕ) (check : Checked) (found : Option KeptCheck) → found ≡ get same_number old number
    → AreKept s count old → slice_get s.checks number ≡ Some check → IfSome found (IsKeptWithForms count s.names check)
kept_found s count old number check None is kept at = tt
kept_found s count old number check (Some one) is kept at = kept number one check (sym is) at

-- a check's number has one check
pub of_check : (s : Subject) (count number : ℕ) (check : Checked) (one : KeptCheck) (names : List (List ℕ)) → names ≡ s.names → slice_get s.checks number ≡ Some check
    → IsKeptWithForms count names check one → (other : Checked) → slice_get s.checks number ≡ Some other → IsKeptWithForms count s.names other one
of_check s count number check one names same at is other other_at =
    subst (λ (c : Checked). IsKeptWithForms count s.names c one) (same_some (slice_get s.checks number) check other at other_at)
    (subst (λ (ns : List (List ℕ)). IsKeptWithForms count ns check one) same is)

-- the blocks that are kept
pub kept_blocks : (count locations : ℕ) (check : Checked) (one : KeptCheck) → IsKept count locations check one → AreCheckBlocks check locations one.parts.blocks
kept_blocks count locations check one is = is.parts.blocks
