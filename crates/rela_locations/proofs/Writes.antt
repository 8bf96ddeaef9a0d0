-- A table of numbers that is filled entry by entry.
use Rattle.std.proofs.Common.{zero, suc, ◌≡◌, ◌≢◌, ℕ, ◌<◌, List, [], ◌∷◌, length, Some, slice_get, refl, sym, ◌∙◌, arith}
use Rattle.std.specs.Prelude.{slice_index}
use Rattle.rela_locations.specs.Tables.{with_entry, with_entries}
use Rattle.std.proofs.lemmas.List.{get_or-set_same, get_or-set_other, length-set}

pub length-with_entries : (table : List ℕ) (entries : List (ℕ × ℕ)) → length (with_entries table entries) ≡ length table
length-with_entries table [] = refl
length-with_entries table (e ∷ entries) = length-with_entries (with_entry table e) entries ∙ length-set table e.0 e.1

some_is : {A : Type 0} (x y : A) → Some x ≡ Some y → x ≡ y
some_is x y e = cc

-- no entry is written at a place
abbrev pub LeavesAlone : List (ℕ × ℕ) → ℕ → Type 0
LeavesAlone entries s = (k : ℕ) (e : ℕ × ℕ) → slice_get entries k ≡ Some e → e.0 ≢ s

left_alone : (table : List ℕ) (entries : List (ℕ × ℕ)) (s : ℕ) → LeavesAlone entries s → slice_index (with_entries table entries) s ≡ slice_index table s
left_alone table [] s alone = refl
left_alone table (e ∷ entries) s alone =
    left_alone (with_entry table e) entries s (λ k x at. alone (suc k) x at)
    ∙ get_or-set_other table e.0 s e.1 0 (λ same. alone 0 e refl (sym same))

-- what is written at a place where nothing else is
pub written : (table : List ℕ) (entries : List (ℕ × ℕ)) (k : ℕ) (e : ℕ × ℕ) → slice_get entries k ≡ Some e → e.0 < length table
    → ((l : ℕ) (x : ℕ × ℕ) → slice_get entries l ≡ Some x → x.0 ≡ e.0 → l ≡ k) → slice_index (with_entries table entries) e.0 ≡ e.1
written table [] k e at within once = cc
written table (x ∷ entries) zero e at within once =
    let same : x ≡ e = some_is x e at in
    let alone : LeavesAlone entries e.0 = λ l y at_l clash. let far : suc l ≡ 0 = once (suc l) y at_l clash in absurd (omega arith) in
    rw same (left_alone (with_entry table e) entries e.0 alone ∙ get_or-set_same table e.0 e.1 0 within)
written table (x ∷ entries) (suc k) e at within once =
    written (with_entry table x) entries k e at (rw length-set within)
    (λ l y at_l clash. let far : suc l ≡ suc k = once (suc l) y at_l clash in omega arith)
