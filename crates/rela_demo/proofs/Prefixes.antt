-- The texts of the prefixes that flows come from and go to.
use Rattle.std.proofs.Common.{◌≡◌, refl, sym, ap, ℕ, ◌%◌, ◌^◌, ◌<◌, List, [], ◌∷◌, ◌++◌, codes, arith}
use Rattle.std.specs.Fmt.{decimal, digits}
use Rattle.std.specs.Int.Digits.{number_from_digits}
use Rattle.std.specs.List.{join_with_byte}
use Rattle.std.proofs.lemmas.Fmt.{decimal_digit}
use Rattle.rela_flows.specs.Network.{network}
use Rattle.rela_flows.specs.Notation.{IsTextOf}
use Rattle.rela_flows.specs.declared.prefix.Ipv4Prefix.{Ipv4Prefix}
use Rattle.rela_flows.specs.declared.prefix.Prefix.TheVariants.{V4}
use Rattle.rela_demo.specs.Flows.{address_of, destination, everywhere}
use Rattle.rela_demo.specs.Text.{destination_text}

-- four octets and a length
octets_text : (a b c d : ℕ) (text : List ℕ) (p : Ipv4Prefix) → a < 256 → b < 256 → c < 256 → d < 256
    → text ≡ join_with_byte 46 (decimal a ∷ decimal b ∷ decimal c ∷ decimal d ∷ []) ++ 47 ∷ decimal p.length → p.address ≡ network 32 p.length (number_from_digits (2 ^ 8) (a ∷ b ∷ c ∷ d ∷ [])) → IsTextOf text (V4 p)
octets_text a b c d text p lt_a lt_b lt_c lt_d joined value = record {
  host = number_from_digits (2 ^ 8) (a ∷ b ∷ c ∷ d ∷ []);
  address_text = join_with_byte 46 (decimal a ∷ decimal b ∷ decimal c ∷ decimal d ∷ []);
  written = record {
    octets = a ∷ b ∷ c ∷ d ∷ [];
    written = record {
      fields = decimal a ∷ decimal b ∷ decimal c ∷ decimal d ∷ [];
      joined = refl;
      each = (record { fits = lt_a; written = refl }, (record { fits = lt_b; written = refl }, (record { fits = lt_c; written = refl }, (record { fits = lt_d; written = refl }, tt))));
    };
    four = refl;
    value = refl;
  };
  joined = joined;
  value = value;
}

pub everywhere_text : IsTextOf (codes "0.0.0.0/0") (V4 everywhere)
unfolding digits
everywhere_text = octets_text 0 0 0 0 (codes "0.0.0.0/0") everywhere (omega arith) (omega arith) (omega arith) (omega arith) refl refl

joined_digit : (k : ℕ) → k < 10 → destination_text k ≡ join_with_byte 46 (decimal 10 ∷ decimal 0 ∷ decimal k ∷ decimal 0 ∷ []) ++ 47 ∷ decimal 24
unfolding digits
joined_digit k lt = ap (λ (s : List ℕ). join_with_byte 46 (codes "10" ∷ codes "0" ∷ s ∷ codes "0" ∷ []) ++ 47 ∷ codes "24") (sym (decimal_digit k lt))

address_value : (k : ℕ) → address_of k ≡ network 32 24 (number_from_digits (2 ^ 8) (10 ∷ 0 ∷ k ∷ 0 ∷ []))
address_value k = omega arith

-- the number of a flow has one digit
pub destination_is : (k : ℕ) (fits : address_of k < 2 ^ 32) (zeros : address_of k % 2 ^ 8 ≡ 0) → k < 10 → IsTextOf (destination_text k) (V4 (destination k fits zeros))
destination_is k fits zeros lt = octets_text 10 0 k 0 (destination_text k) (destination k fits zeros) (omega arith) (omega arith) (omega (arith, lt)) (omega arith) (joined_digit k lt) (address_value k)
