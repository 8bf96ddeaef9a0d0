-- How prefixes lie to one another.
use Rattle.std.proofs.Common.{◌≡◌, ◌∙◌, sym, ap, ℕ, ◌+◌, ◌-◌, ◌/◌, ◌^◌, ◌<◌, ◌≤◌, arith, ⊎_elim}
use Rattle.std.proofs.lemmas.Bool.{cases_lt}
use Rattle.std.proofs.lemmas.Nat.{shr-shr}
use Rattle.rela_flows.specs.Address.{Overlap}
use Rattle.rela_flows.specs.Address.Address.{Ipv4}
use Rattle.rela_flows.specs.declared.prefix.Ipv4Prefix.{Ipv4Prefix}
use Rattle.rela_flows.specs.declared.prefix.Prefix.TheVariants.{V4}
use Rattle.rela_prefixes.specs.Holding.{Holds, HoldsAllOrNone, IsStrictlyWithin}
use Rattle.rela_prefixes.proofs.Cells.{size, from_first, holds_own}

-- numbers that agree in their first n bits agree in their first m
fewer_bits : (n m a b : ℕ) → m ≤ n → n ≤ 32 → a / size n ≡ b / size n → a / size m ≡ b / size m
fewer_bits n m a b fewer fits same =
    let widths : 32 - m ≡ (32 - n) + (n - m) = omega arith in
    ap (λ k. a / 2 ^ k) widths ∙ sym (shr-shr a (32 - n) (n - m)) ∙ ap (λ q. q / 2 ^ (n - m)) same ∙ shr-shr b (32 - n) (n - m) ∙ ap (λ k. b / 2 ^ k) (sym widths)

-- a prefix that holds the first address of a longer one holds all of it
pub all_held : (p q : Ipv4Prefix) → q.length ≤ p.length → Holds q p.address → (a : ℕ) → Holds p a → Holds q a
all_held p q shorter first a h = record { fits = h.fits; first_bits = fewer_bits p.length q.length a p.address shorter p.length_fits h.first_bits ∙ first.first_bits }

-- of two prefixes that hold an address the shorter one holds the first address of the longer one
pub first_held : (p q : Ipv4Prefix) (a : ℕ) → q.length ≤ p.length → Holds p a → Holds q a → Holds q p.address
first_held p q a shorter one two =
    record { fits = p.address_fits; first_bits = sym (fewer_bits p.length q.length a p.address shorter p.length_fits one.first_bits) ∙ two.first_bits }

pub within_from_first : (p q : Ipv4Prefix) → q.length < p.length → Holds q p.address → IsStrictlyWithin p q
within_from_first p q shorter first = record { within = all_held p q (omega arith) first; longer = shorter }

pub first_of_within : (p q : Ipv4Prefix) → IsStrictlyWithin p q → Holds q p.address
first_of_within p q w = w.within p.address (holds_own p)

-- prefixes of one length that share an address have one address
pub same_address : (p q : Ipv4Prefix) (a : ℕ) → p.length ≡ q.length → Holds p a → Holds q a → p.address ≡ q.address
same_address p q a e one two =
    let pq : Holds q p.address = first_held p q a (omega arith) one two in
    let qp : Holds p q.address = first_held q p a (omega arith) two one in
    omega (arith, from_first q p.address pq, from_first p q.address qp)

-- prefixes of one length that share an address are equal
abbrev pub AreApart : Type 0
AreApart = (p q : Ipv4Prefix) → p.length ≡ q.length → Overlap (V4 p) (V4 q) → p ≡ q

pub same_prefix : AreApart → (p q : Ipv4Prefix) (a : ℕ) → p.length ≡ q.length → Holds p a → Holds q a → p ≡ q
same_prefix apart p q a e one two = apart p q e (Ipv4 a, one, two)

-- a prefix that isn't a proper part of another one holds all of it or nothing of it
pub all_or_none : (p c : Ipv4Prefix) → ¬ IsStrictlyWithin p c → HoldsAllOrNone p c
all_or_none p c uncut a b in_a in_b holds = ⊎_elim
    (λ longer. absurd (uncut (within_from_first p c longer (first_held p c a (omega (arith, longer)) holds in_a))))
    (λ short. all_held c p short (first_held c p a short in_a holds) b in_b)
    (cases_lt c.length p.length)
