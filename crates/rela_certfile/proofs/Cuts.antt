-- Texts cut at a byte, and lines.
use Rattle.std.proofs.Common.{◌≡◌, ◌≢◌, ℕ, ◌<◌, zero, suc, length, get_or, take, drop, arith, List, [], ◌∷◌, ◌++◌, refl, ap}
use Rattle.rela_certfile.specs.Cut.{IsCutAt, Lacks}

-- the first byte of a value cuts a text in one way
pub cut_once : (s : ℕ) (a b x y : List ℕ) → Lacks s a → Lacks s b → a ++ s ∷ x ≡ b ++ s ∷ y → (a ≡ b) × (x ≡ y)
cut_once s [] [] x y free other same = (refl, cc)
cut_once s [] (c ∷ b) x y free other same = absurd (other.0 (cc))
cut_once s (c ∷ a) [] x y free other same = absurd (free.0 (cc))
cut_once s (c ∷ a) (d ∷ b) x y free other same =
    let tails : a ++ s ∷ x ≡ b ++ s ∷ y = cc in
    let rest : (a ≡ b) × (x ≡ y) = cut_once s a b x y free.1 other.1 tails in
    let first : a ≡ b = rest.0 in
    (cc, rest.1)

pub lacks_both : (s : ℕ) (a b : List ℕ) → Lacks s a → Lacks s b → Lacks s (a ++ b)
lacks_both s [] b free other = other
lacks_both s (c ∷ a) b free other = (free.0, lacks_both s a b free.1 other)

-- a text without the byte isn't cut by it
pub never_cut : (s : ℕ) (text front rest : List ℕ) → Lacks s text → text ≡ front ++ s ∷ rest → ⊥
never_cut s [] [] rest free same = cc
never_cut s [] (c ∷ front) rest free same = cc
never_cut s (d ∷ text) [] rest free same = free.0 (cc)
never_cut s (d ∷ text) (c ∷ front) rest free same =
    never_cut s text front rest free.1 (let tails : text ≡ front ++ s ∷ rest = cc in tails)

pub cut_is : (s : ℕ) (text : List ℕ) (i : ℕ) → i < length text → get_or text i 0 ≡ s → ((k : ℕ) → k < i → get_or text k 0 ≢ s) → IsCutAt s text (take i text) (drop (suc i) text)
cut_is s [] i inside here before = absurd (omega arith)
cut_is s (c ∷ text) zero inside here before = record { joined = ap (λ d. d ∷ text) here; first = tt }
cut_is s (c ∷ text) (suc i) inside here before =
    let rest : IsCutAt s text (take i text) (drop (suc i) text) = cut_is s text i (omega arith) here (λ k under. before (suc k) (omega arith)) in
    record { joined = ap (λ more. c ∷ more) rest.joined; first = (before 0 (omega arith), rest.first) }
