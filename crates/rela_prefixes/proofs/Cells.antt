-- A prefix as a range of addresses, and its two halves.
use Rattle.std.proofs.Common.{◌≡◌, ◌∙◌, sym, ap, ℕ, ◌+◌, ◌-◌, ◌*◌, ◌/◌, ◌%◌, ◌^◌, ◌<◌, ◌≤◌, refl, arith}
use Rattle.std.proofs.lemmas.Nat.{pow-add, pow_pos, div-add-mod', div_below, div-mul-add, mod-mul-add, mod_below, mul-add-lt}
use Rattle.rela_flows.specs.declared.prefix.Ipv4Prefix.{Ipv4Prefix}
use Rattle.rela_prefixes.specs.Holding.{Holds}

-- how many addresses a prefix of this length has
abbrev pub size : ℕ → ℕ
size n = 2 ^ (32 - n)

-- a prefix ends among the addresses
pub ends : (p : Ipv4Prefix) → p.address + size p.length ≤ 2 ^ 32
ends p =
    let k : ℕ = size p.length in
    let q : ℕ = p.address / k in
    let whole : 2 ^ 32 ≡ 2 ^ p.length * k = ap (λ j. 2 ^ j) (let e : 32 ≡ p.length + (32 - p.length) = omega (arith, p.length_fits) in e) ∙ pow-add 2 p.length (32 - p.length) in
    let some : 0 < k = pow_pos (32 - p.length) in
    let below : q < 2 ^ p.length = div_below p.address k (2 ^ p.length) some (rw (← whole) p.address_fits) in
    let last : q * k + (k - 1) < k * 2 ^ p.length = mul-add-lt q k (k - 1) (2 ^ p.length) below (omega (arith, some)) in
    omega (arith, last, whole, some, div-add-mod' p.address k, p.host_bits_zero)

-- the addresses of a prefix are those from its first on, as many as its size says
pub from_first : (p : Ipv4Prefix) (a : ℕ) → Holds p a → p.address ≤ a
from_first p a h =
    omega (arith, div-add-mod' a (size p.length), div-add-mod' p.address (size p.length), p.host_bits_zero, ap (λ q. q * size p.length) h.first_bits)

pub before_end : (p : Ipv4Prefix) (a : ℕ) → Holds p a → a < p.address + size p.length
before_end p a h =
    omega (arith, div-add-mod' a (size p.length), div-add-mod' p.address (size p.length), p.host_bits_zero, ap (λ q. q * size p.length) h.first_bits, mod_below a (size p.length) (pow_pos (32 - p.length)))

pub holds_from : (p : Ipv4Prefix) (a : ℕ) → p.address ≤ a → a < p.address + size p.length → Holds p a
holds_from p a above below =
    let k : ℕ = size p.length in
    let q : ℕ = p.address / k in
    let whole : p.address ≡ q * k = omega (arith, div-add-mod' p.address k, p.host_bits_zero) in
    let parts : a ≡ q * k + (a - p.address) = omega arith in
    record {
      fits = omega (arith, ends p);
      first_bits = ap (λ b. b / k) parts ∙ div-mul-add q k (a - p.address) (omega arith);
    }

pub holds_own : (p : Ipv4Prefix) → Holds p p.address
holds_own p = record { fits = p.address_fits; first_bits = refl }

-- ---- halves

-- a half has as many addresses as a prefix that is one bit longer
pub half_is_size : (n : ℕ) → n < 32 → 2 ^ (31 - n) ≡ size (n + 1)
half_is_size n short = ap (λ k. 2 ^ k) (let e : 31 - n ≡ 32 - (n + 1) = omega arith in e)

pub two_halves : (n : ℕ) → n < 32 → size n ≡ 2 ^ (31 - n) + 2 ^ (31 - n)
two_halves n short =
    let e : 32 - n ≡ 1 + (31 - n) = omega arith in
    omega (arith, ap (λ k. 2 ^ k) e, pow-add 2 1 (31 - n))

-- what begins a prefix begins its half, and so does the middle
doubled : (q h : ℕ) → q * (h + h) ≡ q * 2 * h + 0
doubled q h = omega arith

pub first_zeros : (p : Ipv4Prefix) → p.length < 32 → p.address % size (p.length + 1) ≡ 0
first_zeros p short =
    let k : ℕ = 2 ^ (31 - p.length) in
    let q : ℕ = p.address / size p.length in
    let whole : p.address ≡ q * size p.length = omega (arith, div-add-mod' p.address (size p.length), p.host_bits_zero) in
    let parts : p.address ≡ q * 2 * k + 0 = whole ∙ ap (λ s. q * s) (two_halves p.length short) ∙ doubled q k in
    ap (λ s. p.address % s) (sym (half_is_size p.length short)) ∙ ap (λ b. b % k) parts ∙ mod-mul-add (q * 2) k 0 (pow_pos (31 - p.length))

one_more : (q h : ℕ) → q * (h + h) + h ≡ (q * 2 + 1) * h + 0
one_more q h = omega arith

pub middle_zeros : (p : Ipv4Prefix) → p.length < 32 → (p.address + 2 ^ (31 - p.length)) % size (p.length + 1) ≡ 0
middle_zeros p short =
    let k : ℕ = 2 ^ (31 - p.length) in
    let q : ℕ = p.address / size p.length in
    let whole : p.address ≡ q * size p.length = omega (arith, div-add-mod' p.address (size p.length), p.host_bits_zero) in
    let parts : p.address + k ≡ (q * 2 + 1) * k + 0 = ap (λ b. b + k) (whole ∙ ap (λ s. q * s) (two_halves p.length short)) ∙ one_more q k in
    ap (λ s. (p.address + k) % s) (sym (half_is_size p.length short)) ∙ ap (λ b. b % k) parts ∙ mod-mul-add (q * 2 + 1) k 0 (pow_pos (31 - p.length))

pub middle_fits : (p : Ipv4Prefix) → p.length < 32 → p.address + 2 ^ (31 - p.length) < 2 ^ 32
middle_fits p short = omega (arith, ends p, two_halves p.length short, pow_pos (31 - p.length))
