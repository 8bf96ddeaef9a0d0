-- What tests of symbols and places tell.
use Rattle.std.proofs.Common.{◌≡◌, ℕ, ◌<◌, ◌≤◌, ◌↔◌, Bool, true, false, not, ◌||◌, List, [], ◌∷◌, length, get_or, Result, Ok, Err, inl, inr, arith, refl, sym, ap, subst, ◌∙◌, eqb, eq-eqb, eqb→eq}
use Rattle.std.specs.Bool.{beq, passes}
use Rattle.std.specs.Prelude.{MatchBool, IsTrue}
use Rattle.std.specs.List.{Contains, list_any}
use Rattle.std.specs.List.Sorted.{IsBinarySearchResult, IsStrictlyIncreasing}
use Rattle.std.specs.Ordering.{nat_cmp}
use Rattle.std.specs.Result.{is_ok}
use Rattle.std.proofs.lemmas.Bool.{cases_Bool, cases_lt}
use Rattle.std.proofs.lemmas.List.{get_or_default}
use Rattle.std.proofs.lemmas.List.Sorted.{searched}
use Rattle.std.proofs.lemmas.Map.Keys.{non_decreasing_from_sorted, sorted_from_strictly_increasing}
use Rattle.std.proofs.lemmas.Option.{get_or_from_slice_get, slice_get_read, slice_get_within}
use Rattle.rela_rir.specs.Meaning.{HasSymbol}
use Rattle.rela_rir.specs.declared.set.SymbolSet.{SymbolSet}
use Rattle.rela_branches.specs.Places.{Has}
use Rattle.rela_branches.specs.Walks.{IsLetter}
use Rattle.rela_branches.specs.declared.letters.Letter.{Letter}
use Rattle.rela_branches.specs.declared.letters.Letter.TheVariants.{Class}
use Rattle.rela_branches.proofs.Members.{not_both}

-- a place that is looked for
pub any_has : (xs : List ℕ) (x : ℕ) (b : Bool) → b ≡ list_any (λ y. eqb y x) xs → IsTrue b ↔ Has xs x
any_has [] x b is = (λ t. absurd (not_both b t is), λ none. absurd none)
any_has (y ∷ xs) x b is =
    elim (cases_Bool (eqb y x)) [
      | inl same ↦ (
        λ t. inl (sym (eqb→eq y x (passes (eqb y x) same))),
        λ h. is ∙ ap (λ (c : Bool). c || list_any (λ z. eqb z x) xs) same,
      )
      | inr differ ↦
          let rest : b ≡ list_any (λ z. eqb z x) xs = is ∙ ap (λ (c : Bool). c || list_any (λ z. eqb z x) xs) differ in
          let told = any_has xs x b rest in (
            λ t. inr (told.0 t),
            λ h. elim h [ inl e ↦ absurd (not_both (eqb y x) (eq-eqb y x (sym e)) differ) | inr later ↦ told.1 later ],
          )
    ]

-- a member that is looked for
there_or_not : (ms : List ℕ) (x : ℕ) (r : Result ℕ ℕ) → IsStrictlyIncreasing ms → IsBinarySearchResult (λ y. nat_cmp y x) ms r
    → (is_ok r ≡ true) ↔ Contains ms x
there_or_not ms x (Ok i) increasing found =
    let at = searched ms x (Ok i) found (λ i j before inside. non_decreasing_from_sorted ms (sorted_from_strictly_increasing ms increasing) i j 0 before inside) in
    (λ t. (i, at.0, get_or_default ms i x 0 at.0 ∙ at.1), λ there. refl)
there_or_not ms x (Err i) increasing found =
    let at = searched ms x (Err i) found (λ i j before inside. non_decreasing_from_sorted ms (sorted_from_strictly_increasing ms increasing) i j 0 before inside) in (
      λ t. absurd (not_both false t refl),
      λ there.
          let k = there.0 in
          let same : get_or ms k 0 ≡ x = get_or_default ms k 0 x there.1 ∙ there.2 in
          absurd (elim (cases_lt k i) [
            | inl less ↦ let below = at.1 k less in omega arith
            | inr more ↦ let above = at.2 k more there.1 in omega arith
          ]),
    )

chosen : (H : Type 0) (found negated : Bool) → (found ≡ true) ↔ H → IsTrue (not (beq found negated)) ↔ MatchBool negated (¬ H) H
chosen H true true told = (λ t. absurd (not_both false t refl), λ none. absurd (none (told.0 refl)))
chosen H true false told = (λ t. told.0 refl, λ h. refl)
chosen H false true told = (λ t h. not_both false (told.1 h) refl, λ none. refl)
chosen H false false told = (λ t. absurd (not_both false t refl), λ h. absurd (not_both false (told.1 h) refl))

pub member_told : (ms shown : List ℕ) (x : ℕ) (r : Result ℕ ℕ) (found negated : Bool) → shown ≡ ms → IsStrictlyIncreasing ms
    → IsBinarySearchResult (λ y. nat_cmp y x) shown r → found ≡ is_ok r → IsTrue (not (beq found negated)) ↔ MatchBool negated (¬ Contains ms x) (Contains ms x)
member_told ms shown x r found negated same increasing search is =
    chosen (Contains ms x) found negated
    (subst (λ (b : Bool). (b ≡ true) ↔ Contains ms x) (sym is)
    (there_or_not ms x r increasing (subst (λ (ys : List ℕ). IsBinarySearchResult (λ y. nat_cmp y x) ys r) same search)))

-- a symbol of an entry of the class table, and one of no entry
module _ (classes : List SymbolSet) (path_symbols : ℕ) (letter : Letter) (entry s : ℕ) (is : letter ≡ Class entry) where
  pub of_class : (set : SymbolSet) (b : Bool) → entry < length classes → set ≡ get_or classes entry set → s < path_symbols
      → IsTrue b ↔ MatchBool set.negated (¬ Contains set.members s) (Contains set.members s) → IsTrue b ↔ IsLetter classes path_symbols letter s
  of_class set b inside at path told =
      subst (λ (l : Letter). IsTrue b ↔ IsLetter classes path_symbols l s) (sym is) (
        λ t. (set, slice_get_read classes (length classes) entry set refl inside at, record { path = path; chosen = told.0 t }),
        λ m.
            let same : m.0 ≡ set = sym (get_or_from_slice_get classes entry m.0 set m.1) ∙ sym at in
            told.1 (subst (λ (c : SymbolSet). HasSymbol path_symbols c s) same m.2).chosen,
      )

  pub of_no_class : length classes ≤ entry → IsTrue false ↔ IsLetter classes path_symbols letter s
  of_no_class past =
      subst (λ (l : Letter). IsTrue false ↔ IsLetter classes path_symbols l s) (sym is)
      (λ t. absurd (not_both false t refl), λ m. let inside = slice_get_within classes entry m.0 m.1 in absurd (omega arith))
