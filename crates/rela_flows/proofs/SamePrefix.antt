-- Prefixes are the same where their numbers are.
use Rattle.std.proofs.Common.{◌≡◌, ℕ, ◌<◌, ◌≤◌, ◌-◌, ◌%◌, ◌^◌, ◌↔◌, Some, sym, ◌∙◌, ap, subst}
use Rattle.rela_flows.specs.Network.{network}
use Rattle.std.specs.Coded.{Coded-set, coded_ℕ, le_prop}
use Rattle.rela_flows.specs.declared.prefix.Ipv4Prefix.{Ipv4Prefix}
use Rattle.rela_flows.specs.declared.prefix.Ipv6Prefix.{Ipv6Prefix}

make4 : (a n : ℕ) → a < 2 ^ 32 → n ≤ 32 → a % 2 ^ (32 - n) ≡ 0 → Ipv4Prefix
make4 a n fits short zeros = record { address = a; length = n; address_fits = fits; length_fits = short; host_bits_zero = zeros }

-- the facts beside the numbers make no difference
alike4 : (a n : ℕ) (f g : a < 2 ^ 32) (s t : n ≤ 32) (y z : a % 2 ^ (32 - n) ≡ 0) → make4 a n f s y ≡ make4 a n g t z
unfolding make4
alike4 a n f g s t y z =
    ap (λ h. make4 a n h s y) (le_prop f g) ∙ ap (λ h. make4 a n g h y) (le_prop s t)
    ∙ ap (λ h. make4 a n g t h) (Coded-set coded_ℕ (a % 2 ^ (32 - n)) 0 y z)

pub same4 : (p q : Ipv4Prefix) → p.length ≡ q.length → p.address ≡ q.address → p ≡ q
unfolding make4
same4 p q length address =
    let Q : ℕ → ℕ → Type 0 = λ b m. (fits : b < 2 ^ 32) (short : m ≤ 32) (zeros : b % 2 ^ (32 - m) ≡ 0) → p ≡ make4 b m fits short zeros in
    let start : Q p.address p.length = λ fits short zeros. alike4 p.address p.length p.address_fits fits p.length_fits short p.host_bits_zero zeros in
    subst (λ m. Q q.address m) length (subst (λ b. Q b p.length) address start) q.address_fits q.length_fits q.host_bits_zero

make6 : (a n : ℕ) → a < 2 ^ 128 → n ≤ 128 → a % 2 ^ (128 - n) ≡ 0 → Ipv6Prefix
make6 a n fits short zeros = record { address = a; length = n; address_fits = fits; length_fits = short; host_bits_zero = zeros }

-- the facts beside the numbers make no difference
alike6 : (a n : ℕ) (f g : a < 2 ^ 128) (s t : n ≤ 128) (y z : a % 2 ^ (128 - n) ≡ 0) → make6 a n f s y ≡ make6 a n g t z
unfolding make6
alike6 a n f g s t y z =
    ap (λ h. make6 a n h s y) (le_prop f g) ∙ ap (λ h. make6 a n g h y) (le_prop s t)
    ∙ ap (λ h. make6 a n g t h) (Coded-set coded_ℕ (a % 2 ^ (128 - n)) 0 y z)

pub same6 : (p q : Ipv6Prefix) → p.length ≡ q.length → p.address ≡ q.address → p ≡ q
unfolding make6
same6 p q length address =
    let Q : ℕ → ℕ → Type 0 = λ b m. (fits : b < 2 ^ 128) (short : m ≤ 128) (zeros : b % 2 ^ (128 - m) ≡ 0) → p ≡ make6 b m fits short zeros in
    let start : Q p.address p.length = λ fits short zeros. alike6 p.address p.length p.address_fits fits p.length_fits short p.host_bits_zero zeros in
    subst (λ m. Q q.address m) length (subst (λ b. Q b p.length) address start) q.address_fits q.length_fits q.host_bits_zero

-- the one prefix of its numbers
pub only4 : (made : Ipv4Prefix) (a n : ℕ) → made.length ≡ n → made.address ≡ network 32 n a → (p : Ipv4Prefix) → (Some made ≡ Some p) ↔ ((p.length ≡ n) × (p.address ≡ network 32 n a))
only4 made a n length address p = (
  (λ some. let is : made ≡ p = cc in (ap (λ q. q.length) (sym is) ∙ length, ap (λ q. q.address) (sym is) ∙ address)),
  λ numbers. ap Some (same4 made p (length ∙ sym numbers.0) (address ∙ sym numbers.1)),
)

-- the one prefix of its numbers
pub only6 : (made : Ipv6Prefix) (a n : ℕ) → made.length ≡ n → made.address ≡ network 128 n a → (p : Ipv6Prefix) → (Some made ≡ Some p) ↔ ((p.length ≡ n) × (p.address ≡ network 128 n a))
only6 made a n length address p = (
  (λ some. let is : made ≡ p = cc in (ap (λ q. q.length) (sym is) ∙ length, ap (λ q. q.address) (sym is) ∙ address)),
  λ numbers. ap Some (same6 made p (length ∙ sym numbers.0) (address ∙ sym numbers.1)),
)
