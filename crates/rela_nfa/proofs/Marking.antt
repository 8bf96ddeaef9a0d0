-- States that are marked, and stand in a list.
use Rattle.std.proofs.Common.{◌≡◌, ℕ, ◌<◌, inl, inr, false, true, Bool, List, [], ◌∷◌, ◌++◌, length, get_or, set, replicate, eqb, sym, ◌∙◌, arith}
use Rattle.std.specs.List.{Contains, IsDistinct, list_any}
use Rattle.std.specs.List.Sorted.{IsNonDecreasing, IsPermutation}
use Rattle.std.proofs.lemmas.Bool.{cases_Bool, eqb-true, false≢true}
use Rattle.std.proofs.lemmas.Cmp.{nat_eq_equiv}
use Rattle.std.proofs.lemmas.List.Sorted.{Contains-permutation, IsPermutation-sym, length_permutation}
use Rattle.std.proofs.lemmas.Map.Keys.{IsDistinct-IsPermutation, IsDistinct-push, IsStrictlyIncreasing-from_distinct, sorted_from_strictly_increasing}
use Rattle.std.proofs.lemmas.Map.Views.{Contains-from_any}
use Rattle.rela_nfa.specs.StateSet.{AreMarked, Lists}
use Rattle.rela_nfa.proofs.Flagged.{flagged_more, no_members}

no_two : IsDistinct eqb []
unfolding IsDistinct
no_two = tt

pub none_marked : (flags : List Bool) (count : ℕ) → flags ≡ replicate count false → AreMarked flags []
none_marked flags count none = record { flagged = no_members flags count none; distinct = no_two }

-- a state that was lacking is put in
pub marked_more : (flags : List Bool) (states : List ℕ) (q : ℕ) → q < length flags → get_or flags q false ≡ false → AreMarked flags states → AreMarked (set flags q true) (states ++ q ∷ [])
marked_more flags states q within lacking marked = record {
  flagged = flagged_more flags states q within lacking marked.flagged;
  distinct = IsDistinct-push nat_eq_equiv states q marked.distinct (elim (cases_Bool (list_any (eqb q) states)) [
    | inl there ↦ absurd (false≢true (sym lacking ∙ (marked.flagged.set q).1 (Contains-from_any eqb-true q states there)))
    | inr none ↦ none
  ]);
}

-- the states in another order, in which they do not fall
pub lists_marked : (flags : List Bool) (states set : List ℕ) → AreMarked flags states → IsPermutation states set → IsNonDecreasing set → Lists (Contains states) set
lists_marked flags states set marked moved rising = record {
  ordered = sorted_from_strictly_increasing set (IsStrictlyIncreasing-from_distinct set rising (IsDistinct-IsPermutation eqb nat_eq_equiv.symm states set moved marked.distinct));
  members = λ q. (Contains-permutation set states q (IsPermutation-sym states set moved), Contains-permutation states set q moved);
}

-- the same states in another order
pub marked_moved : (flags : List Bool) (states moved : List ℕ) → AreMarked flags states → IsPermutation states moved → AreMarked flags moved
marked_moved flags states moved marked is = record {
  flagged = record {
    set = λ n. (
      λ flag. Contains-permutation states moved n is ((marked.flagged.set n).0 flag),
      λ there. (marked.flagged.set n).1 (Contains-permutation moved states n (IsPermutation-sym states moved is) there),
    );
    once = let same = length_permutation states moved is in omega (arith, marked.flagged.once, same);
  };
  distinct = IsDistinct-IsPermutation eqb nat_eq_equiv.symm states moved is marked.distinct;
}
