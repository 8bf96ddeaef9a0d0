-- Flags that are set for the members of a list.
use Rattle.std.proofs.Common.{◌≡◌, ℕ, ◌+◌, ◌<◌, Bool, true, false, not, cond, add-zero, List, [], ◌∷◌, ◌++◌, length, get_or, set, count_by, inl, inr, sym, ◌∙◌, arith}
use Rattle.std.specs.List.{All}
use Rattle.std.proofs.lemmas.Bool.{both_ways, cases_eq, cases_lt}
use Rattle.std.proofs.lemmas.List.{get_or_past, get_or-set_other, get_or-set_same, length_push, length-set}
use Rattle.std.proofs.lemmas.List.Elements.{Contains-append_left, Contains-get_or, Contains-push, Contains-push_cases}
use Rattle.std.proofs.lemmas.List.Sums.{sum_by-set}
use Rattle.rela_nfa.specs.StateSet.{AreFlagged, HasFlag}

-- no flag is set past the last
pub flag_within : (flags : List Bool) (n : ℕ) → HasFlag flags n → n < length flags
flag_within flags n h = elim (cases_lt n (length flags)) [
  | inl below ↦ below
  | inr past ↦ absurd (both_ways _ (get_or_past flags n false past) h)
]

pub members_within : (flags : List Bool) (members : List ℕ) → AreFlagged flags members → All (λ n. n < length flags) members
members_within flags members flagged k d within = flag_within flags (get_or members k d) ((flagged.set (get_or members k d)).1 (Contains-get_or members k d within))

-- a state that was lacking is put in
pub flagged_more : (flags : List Bool) (members : List ℕ) (n : ℕ) → n < length flags → get_or flags n false ≡ false → AreFlagged flags members
    → AreFlagged (set flags n true) (members ++ n ∷ [])
flagged_more flags members n within lacking flagged = record {
  set = λ m. elim (cases_eq m n) [
    | inl same ↦ (
      λ h. rw same (Contains-push members n),
      λ h. rw same (get_or-set_same flags n true false within),
    )
    | inr apart ↦ (
      λ h. Contains-append_left members (n ∷ []) m ((flagged.set m).0 (sym (get_or-set_other flags n m true false apart) ∙ h)),
      λ h. get_or-set_other flags n m true false apart ∙ (flagged.set m).1 (elim (Contains-push_cases members n m h) [ inl old ↦ old | inr e ↦ absurd (apart (sym e)) ]),
    )
  ];
  once =
      let one_less : count_by not (set flags n true) + 1 ≡ count_by not flags =
      rw lacking at (sum_by-set (λ b. cond (not b) 1 0) flags n true false within) ∙ add-zero (count_by not flags) in
      let l = length_push members n in let m = length-set flags n true in let e = flagged.once in
      omega arith;
}
