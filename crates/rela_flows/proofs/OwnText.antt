-- The canonical text of a prefix is one of its texts.
use Rattle.std.proofs.Common.{◌≡◌, ◌≢◌, ℕ, ◌+◌, ◌-◌, ◌*◌, ◌/◌, ◌%◌, ◌^◌, ◌<◌, ◌≤◌, zero, suc, Bool, false, List, [], ◌∷◌, length, IfOk, Result, Ok, Err, refl, sym, ◌∙◌, ap, subst, inl, lit≤, lit<, arith, ⊎_elim, eq-eqb}
use Rattle.std.specs.List.{join_with_byte}
use Rattle.std.specs.Fmt.{decimal, digits, digits_onto, digit_glyph}
use Rattle.std.specs.Int.Digits.{number_from_digits}
use Rattle.std.proofs.lemmas.Bool.{cases_lt, ne_eqb}
use Rattle.std.proofs.lemmas.Fmt.{digits_is_IsNumeral}
use Rattle.std.proofs.lemmas.Nat.{shr-shr, shr_split, div_below, mod_below, shr_below}
use Rattle.std.proofs.Math.Nat.{pow-suc}
use Rattle.rela_flows.specs.Network.{network}
use Rattle.rela_flows.specs.Notation.{IsOctet, IsGroup, AreOctets, AreGroups, IsTextOf, text_of}
use Rattle.rela_flows.specs.declared.prefix.Prefix.{Prefix}
use Rattle.rela_flows.specs.declared.prefix.Prefix.TheVariants.{V4, V6}

-- a number below 16 ^ j has at most j hexadecimal digits
length_onto : (k j n : ℕ) (upper : Bool) (acc : List ℕ) → 0 < j → n < 16 ^ j → length (digits_onto k 16 upper n acc) ≤ j + length acc
length_onto zero j n upper acc some small = omega arith
length_onto (suc k) zero n upper acc some small = absurd (omega arith)
length_onto (suc k) (suc j) n upper acc some small = ⊎_elim
    (λ (last : n < 16). let none : n / 16 ≡ 0 = omega arith in rw (eq-eqb (n / 16) 0 none) (omega arith))
    (λ (more : 16 ≤ n).
    let another : n / 16 ≢ 0 = omega arith in
    let below : n / 16 < 16 ^ j = div_below n 16 (16 ^ j) (lit< tt) (subst (λ p. n < p) (pow-suc 16 j) small) in
    let left : 0 < j = ⊎_elim (λ yes. yes)
    (λ none. let one : j ≡ 0 = omega arith in let under : n / 16 < 1 = subst (λ i. n / 16 < 16 ^ i) one below in absurd (omega arith))
    (cases_lt 0 j) in
    let rest : length (digits_onto k 16 upper (n / 16) (digit_glyph upper (n % 16) ∷ acc)) ≤ j + length (digit_glyph upper (n % 16) ∷ acc) =
    length_onto k j (n / 16) upper (digit_glyph upper (n % 16) ∷ acc) left below in
    rw (ne_eqb (n / 16) 0 another) (omega (arith, rest)))
    (cases_lt n 16)

group_short : (n : ℕ) → n < 2 ^ 16 → length (digits 16 false n) ≤ 4
unfolding digits
group_short n small = length_onto 64 4 n false [] (lit< tt) small

own_octet : (n : ℕ) → n < 2 ^ 8 → IsOctet (decimal n) n
own_octet n small = record { fits = small; written = refl }

own_group : (n : ℕ) → n < 2 ^ 16 → IsGroup (digits 16 false n) n
own_group n small =
    let is = digits_is_IsNumeral 16 false (lit≤ tt) (lit≤ tt) n (omega arith) in
    record { numeral = is.0; short = group_short n small; value = sym is.1 }

-- one more digit of b bits
digit_more : (a k b : ℕ) → a / 2 ^ (k + b) * 2 ^ b + a / 2 ^ k % 2 ^ b ≡ a / 2 ^ k
digit_more a k b = ap (λ x. x * 2 ^ b + a / 2 ^ k % 2 ^ b) (sym (shr-shr a k b)) ∙ shr_split (a / 2 ^ k) b

-- an address below 2 ^ 32 is what its octets write
octets_number : (a : ℕ) → a < 2 ^ 32 → a ≡ number_from_digits (2 ^ 8) (a / 2 ^ 24 % 2 ^ 8 ∷ a / 2 ^ 16 % 2 ^ 8 ∷ a / 2 ^ 8 % 2 ^ 8 ∷ a / 2 ^ 0 % 2 ^ 8 ∷ [])
octets_number a small = omega (arith, digit_more a 0 8, digit_more a 8 8, digit_more a 16 8, shr_below a 8 24 small)

groups_number : (a : ℕ) → a < 2 ^ 128 → a ≡ number_from_digits (2 ^ 16) (a / 2 ^ 112 % 2 ^ 16 ∷ a / 2 ^ 96 % 2 ^ 16 ∷ a / 2 ^ 80 % 2 ^ 16 ∷ a / 2 ^ 64 % 2 ^ 16 ∷ a / 2 ^ 48 % 2 ^ 16 ∷ a / 2 ^ 32 % 2 ^ 16 ∷ a / 2 ^ 16 % 2 ^ 16 ∷ a / 2 ^ 0 % 2 ^ 16 ∷ [])
groups_number a small =
    omega (arith, digit_more a 0 16, digit_more a 16 16, digit_more a 32 16, digit_more a 48 16, digit_more a 64 16, digit_more a 80 16, digit_more a 96 16, shr_below a 16 112 small)

-- an address with no bits past the first ones is its own network
own_network : (w n a : ℕ) → a % 2 ^ (w - n) ≡ 0 → a ≡ network w n a
own_network w n a zeros = omega (arith, shr_split a (w - n))

octets_written : (a b c d : ℕ) → a < 2 ^ 8 → b < 2 ^ 8 → c < 2 ^ 8 → d < 2 ^ 8 → AreOctets (join_with_byte 46 (decimal a ∷ decimal b ∷ decimal c ∷ decimal d ∷ [])) (a ∷ b ∷ c ∷ d ∷ [])
octets_written a b c d fits_a fits_b fits_c fits_d = record { fields = decimal a ∷ decimal b ∷ decimal c ∷ decimal d ∷ []; joined = refl; each = (own_octet a fits_a, (own_octet b fits_b, (own_octet c fits_c, (own_octet d fits_d, tt)))) }

groups_written : (a b c d e f g h : ℕ) → a < 2 ^ 16 → b < 2 ^ 16 → c < 2 ^ 16 → d < 2 ^ 16 → e < 2 ^ 16 → f < 2 ^ 16 → g < 2 ^ 16 → h < 2 ^ 16 → AreGroups (join_with_byte 58 (digits 16 false a ∷ digits 16 false b ∷ digits 16 false c ∷ digits 16 false d ∷ digits 16 false e ∷ digits 16 false f ∷ digits 16 false g ∷ digits 16 false h ∷ [])) (a ∷ b ∷ c ∷ d ∷ e ∷ f ∷ g ∷ h ∷ [])
groups_written a b c d e f g h fits_a fits_b fits_c fits_d fits_e fits_f fits_g fits_h = record { fields = digits 16 false a ∷ digits 16 false b ∷ digits 16 false c ∷ digits 16 false d ∷ digits 16 false e ∷ digits 16 false f ∷ digits 16 false g ∷ digits 16 false h ∷ []; joined = refl; each = (own_group a fits_a, (own_group b fits_b, (own_group c fits_c, (own_group d fits_d, (own_group e fits_e, (own_group f fits_f, (own_group g fits_g, (own_group h fits_h, tt)))))))) }

pub text_of_is_text : (p : Prefix) → IsTextOf (text_of p) p
text_of_is_text (V4 p) = record {
  host = p.address;
  address_text = join_with_byte 46 (decimal (p.address / 2 ^ 24 % 2 ^ 8) ∷ decimal (p.address / 2 ^ 16 % 2 ^ 8) ∷ decimal (p.address / 2 ^ 8 % 2 ^ 8) ∷ decimal (p.address / 2 ^ 0 % 2 ^ 8) ∷ []);
  written = record {
    octets = p.address / 2 ^ 24 % 2 ^ 8 ∷ p.address / 2 ^ 16 % 2 ^ 8 ∷ p.address / 2 ^ 8 % 2 ^ 8 ∷ p.address / 2 ^ 0 % 2 ^ 8 ∷ [];
    written = octets_written (p.address / 2 ^ 24 % 2 ^ 8) (p.address / 2 ^ 16 % 2 ^ 8) (p.address / 2 ^ 8 % 2 ^ 8) (p.address / 2 ^ 0 % 2 ^ 8) (mod_below (p.address / 2 ^ 24) (2 ^ 8) (lit< tt)) (mod_below (p.address / 2 ^ 16) (2 ^ 8) (lit< tt)) (mod_below (p.address / 2 ^ 8) (2 ^ 8) (lit< tt)) (mod_below (p.address / 2 ^ 0) (2 ^ 8) (lit< tt));
    four = refl;
    value = octets_number p.address p.address_fits;
  };
  joined = refl;
  value = own_network 32 p.length p.address p.host_bits_zero;
}
text_of_is_text (V6 p) = record {
  host = p.address;
  address_text = join_with_byte 58 (digits 16 false (p.address / 2 ^ 112 % 2 ^ 16) ∷ digits 16 false (p.address / 2 ^ 96 % 2 ^ 16) ∷ digits 16 false (p.address / 2 ^ 80 % 2 ^ 16) ∷ digits 16 false (p.address / 2 ^ 64 % 2 ^ 16) ∷ digits 16 false (p.address / 2 ^ 48 % 2 ^ 16) ∷ digits 16 false (p.address / 2 ^ 32 % 2 ^ 16) ∷ digits 16 false (p.address / 2 ^ 16 % 2 ^ 16) ∷ digits 16 false (p.address / 2 ^ 0 % 2 ^ 16) ∷ []);
  written = inl (record {
    groups = p.address / 2 ^ 112 % 2 ^ 16 ∷ p.address / 2 ^ 96 % 2 ^ 16 ∷ p.address / 2 ^ 80 % 2 ^ 16 ∷ p.address / 2 ^ 64 % 2 ^ 16 ∷ p.address / 2 ^ 48 % 2 ^ 16 ∷ p.address / 2 ^ 32 % 2 ^ 16 ∷ p.address / 2 ^ 16 % 2 ^ 16 ∷ p.address / 2 ^ 0 % 2 ^ 16 ∷ [];
    written = groups_written (p.address / 2 ^ 112 % 2 ^ 16) (p.address / 2 ^ 96 % 2 ^ 16) (p.address / 2 ^ 80 % 2 ^ 16) (p.address / 2 ^ 64 % 2 ^ 16) (p.address / 2 ^ 48 % 2 ^ 16) (p.address / 2 ^ 32 % 2 ^ 16) (p.address / 2 ^ 16 % 2 ^ 16) (p.address / 2 ^ 0 % 2 ^ 16) (mod_below (p.address / 2 ^ 112) (2 ^ 16) (lit< tt)) (mod_below (p.address / 2 ^ 96) (2 ^ 16) (lit< tt)) (mod_below (p.address / 2 ^ 80) (2 ^ 16) (lit< tt)) (mod_below (p.address / 2 ^ 64) (2 ^ 16) (lit< tt)) (mod_below (p.address / 2 ^ 48) (2 ^ 16) (lit< tt)) (mod_below (p.address / 2 ^ 32) (2 ^ 16) (lit< tt)) (mod_below (p.address / 2 ^ 16) (2 ^ 16) (lit< tt)) (mod_below (p.address / 2 ^ 0) (2 ^ 16) (lit< tt));
    eight = refl;
    value = groups_number p.address p.address_fits;
  });
  joined = refl;
  value = own_network 128 p.length p.address p.host_bits_zero;
}

-- what holds of a text holds of the bytes that are it
pub is_text_when : (p : Prefix) (text : List ℕ) → text ≡ text_of p → IsTextOf text p
is_text_when p text same = subst (λ t. IsTextOf t p) (sym same) (text_of_is_text p)

-- what follows for the value of an `Ok`
pub if_ok_then : {T E : Type 0} (r : Result T E) (P Q : T → Type 0) → IfOk r P → ((v : T) → P v → Q v) → IfOk r Q
if_ok_then (Ok v) P Q holds follows = follows v holds
if_ok_then (Err e) P Q holds follows = tt
