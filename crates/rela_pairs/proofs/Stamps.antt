-- Flags that stand for stamps: a flag is set where the stamp is that of now.
use Rattle.std.proofs.Common.{◌≡◌, ℕ, zero, suc, ◌<◌, ◌≤◌, Bool, true, false, List, [], ◌∷◌, length, map, set, replicate, nat_eq, refl, sym, ap, ◌∙◌, subst, arith}
use Rattle.std.specs.List.{All}
use Rattle.std.proofs.lemmas.List.{length-map, length-replicate}
use Rattle.std.proofs.lemmas.List.Elements.{All-replicate}
use Rattle.std.proofs.lemmas.Bool.Decides.{nat_tests}

abbrev flags_of : ℕ → List ℕ → List Bool
flags_of stamp stamps = map (λ given. nat_eq given stamp) stamps

none_flagged : (stamp : ℕ) (stamps : List ℕ) → All (λ given. given < stamp) stamps → flags_of stamp stamps ≡ replicate (length stamps) false
none_flagged stamp [] below = refl
none_flagged stamp (x ∷ xs) below =
    let here : x < stamp = below 0 0 (omega arith) in
    let first : nat_eq x stamp ≡ false = grind (arith, nat_tests) in
    let rest : flags_of stamp xs ≡ replicate (length xs) false = none_flagged stamp xs (λ k d within. below (suc k) d (omega (arith, within))) in
    ap (λ b. b ∷ flags_of stamp xs) first ∙ ap (λ l. false ∷ l) rest

-- no stamp is that of now
pub zero_stamps : (stamps : List ℕ) (count : ℕ) → stamps ≡ replicate count 0 → flags_of 1 stamps ≡ replicate count false
zero_stamps stamps count zeros =
    let below : All (λ given. given < 1) (replicate count 0) = All-replicate (λ given. given < 1) count 0 (omega arith) in
    none_flagged 1 stamps (subst (All (λ given. given < 1)) (sym zeros) below) ∙ ap (λ n. replicate n false) (ap length zeros ∙ length-replicate count 0)

-- a stamp that was never given
pub next_stamp : (stamps : List ℕ) (old new : ℕ) → All (λ given. given ≤ old) stamps → old < new → flags_of new stamps ≡ replicate (length (flags_of old stamps)) false
next_stamp stamps old new upto above =
    none_flagged new stamps (λ k d within. omega (arith, upto k d within)) ∙ ap (λ n. replicate n false) (sym (length-map stamps (λ given. nat_eq given old)))

-- stamps that begin anew
pub first_stamp : (stamps stamps' : List ℕ) (old count : ℕ) → stamps' ≡ replicate count 0 → count ≡ length stamps → flags_of 1 stamps' ≡ replicate (length (flags_of old stamps)) false
first_stamp stamps stamps' old count zeros long = zero_stamps stamps' count zeros ∙ ap (λ n. replicate n false) (long ∙ sym (length-map stamps (λ given. nat_eq given old)))

-- the stamp of now is given
pub stamped : (stamps : List ℕ) (i stamp : ℕ) → flags_of stamp (set stamps i stamp) ≡ set (flags_of stamp stamps) i true
stamped [] i stamp = refl
stamped (x ∷ xs) zero stamp = let here : nat_eq stamp stamp ≡ true = grind (arith, nat_tests) in ap (λ b. b ∷ flags_of stamp xs) here
stamped (x ∷ xs) (suc i) stamp = ap (λ l. nat_eq x stamp ∷ l) (stamped xs i stamp)
