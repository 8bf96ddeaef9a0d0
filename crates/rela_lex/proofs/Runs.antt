-- The longest run of bytes that pass, at the front of a text.
use Rattle.std.proofs.Common.{◌≡◌, ℕ, ◌+◌, Bool, true, List, [], ◌∷◌, ◌++◌, length, take, drop, refl, inl, inr, arith, one-add}
use Rattle.std.specs.List.{list_all, prefix_len}
use Rattle.std.proofs.lemmas.Bool.{cases_Bool, and_parts, cond-true, cond-false}
use Rattle.rela_lex.specs.Spells.{StopsBefore}

-- bytes that pass are the longest run where none that passes follows
pub run_is : (passes : ℕ → Bool) (run rest : List ℕ) → list_all passes run ≡ true → StopsBefore passes rest
    → prefix_len passes (run ++ rest) ≡ length run
run_is passes [] [] all stops = refl
run_is passes [] (byte ∷ rest) all stops = cond-false (passes byte) (1 + prefix_len passes rest) 0 stops
run_is passes (byte ∷ run) rest all stops =
    let both = and_parts (passes byte) (list_all passes run) all in
    let more : prefix_len passes (byte ∷ (run ++ rest)) ≡ 1 + prefix_len passes (run ++ rest) =
    cond-true (passes byte) (1 + prefix_len passes (run ++ rest)) 0 both.0 in
    omega (arith, more, run_is passes run rest both.1 stops)

pub run_passes : (passes : ℕ → Bool) (text : List ℕ) → list_all passes (take (prefix_len passes text) text) ≡ true
run_passes passes [] = refl
run_passes passes (byte ∷ text) =
    elim (cases_Bool (passes byte)) [
      | inl holds ↦ rw (holds, one-add, holds) (run_passes passes text)
      | inr fails ↦ rw fails refl
    ]

pub run_stops : (passes : ℕ → Bool) (text : List ℕ) → StopsBefore passes (drop (prefix_len passes text) text)
run_stops passes [] = tt
run_stops passes (byte ∷ text) =
    elim (cases_Bool (passes byte)) [
      | inl holds ↦ rw (holds, one-add) (run_stops passes text)
      | inr fails ↦ rw fails fails
    ]
