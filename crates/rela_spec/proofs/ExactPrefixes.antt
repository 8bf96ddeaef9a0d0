-- Prefixes are read exactly.
use Rattle.std.proofs.Common.{◌≡◌, ◌↔◌, ℕ, Bool, Some, List, [], ◌∷◌, ◌++◌, refl, sym, ap, ◌∙◌, arith}
use Rattle.std.specs.Prelude.{codes}
use Rattle.std.specs.Fmt.{decimal}
use Rattle.std.proofs.lemmas.Fmt.{decimal_digit}
use Rattle.rela_flows.specs.Notation.{IsOctet, IsTextOf, slash}
use Rattle.rela_flows.specs.Written.{prefix_of}
use Rattle.rela_flows.specs.declared.prefix.Ipv4Prefix.{Ipv4Prefix}
use Rattle.rela_flows.specs.declared.prefix.Prefix.{Prefix}
use Rattle.rela_flows.specs.declared.prefix.Prefix.TheVariants.{V4}
use Rattle.rela_lex.specs.declared.token.TokenKind.{TokenKind}
use Rattle.rela_lex.specs.declared.token.TokenKind.TheVariants.{Mark, Bare, Quoted, Reference}
use Rattle.rela_spec.specs.Grammar.{room_after}
use Rattle.rela_spec.specs.GrammarWords.{prefix}
use Rattle.rela_spec.specs.ReadWords.{prefix_in, read_prefix}
use Rattle.rela_spec.proofs.Exact.{Exact}
use Rattle.rela_spec.proofs.Choose.{exact_token}

-- a word writes the prefix that is found of it, and no other
abbrev pub AreFound : Type 0
AreFound = (w : List ℕ) (p : Prefix) → (prefix_of w ≡ Some p) ↔ IsTextOf w p

-- a word that writes a prefix: all IPv4 addresses
all_addresses : Ipv4Prefix
all_addresses = record { address = 0; length = 0; address_fits = omega arith; length_fits = omega arith; host_bits_zero = refl }

written : IsTextOf (codes "0.0.0.0/0") (V4 all_addresses)
unfolding all_addresses
written = record {
  host = 0;
  address_text = codes "0.0.0.0";
  written = record {
    octets = 0 ∷ 0 ∷ 0 ∷ 0 ∷ [];
    written = record { fields = codes "0" ∷ codes "0" ∷ codes "0" ∷ codes "0" ∷ []; joined = refl; each = (no_bits, (no_bits, (no_bits, (no_bits, tt)))) };
    four = refl;
    value = refl;
  };
  joined = ap (λ t. codes "0.0.0.0" ++ slash ∷ t) zero_text;
  value = refl;
}
  where
    zero_text : codes "0" ≡ decimal 0
    zero_text = sym (decimal_digit 0 (omega arith))

    no_bits : IsOctet (codes "0") 0
    no_bits = record { fits = omega arith; written = zero_text }

prefix_sound : AreFound → (kind : TokenKind) (p : Prefix) → prefix_in kind ≡ Some p → (w : List ℕ) × (kind ≡ Bare w) × IsTextOf w p
prefix_sound exact (Bare w) p e = (w, refl, (exact w p).0 e)
prefix_sound exact (Mark byte) p e = absurd (let clash = e in cc)
prefix_sound exact (Quoted w) p e = absurd (let clash = e in cc)
prefix_sound exact (Reference w) p e = absurd (let clash = e in cc)

pub exact_prefix : AreFound → (goes_on : TokenKind → Bool) (least room level end : ℕ) → Exact (λ d. prefix) goes_on least room level level end (read_prefix end)
unfolding read_prefix
exact_prefix exact goes_on least room level end =
    exact_token (λ t p. (w : List ℕ) × (t.kind ≡ Bare w) × IsTextOf w p) (λ t. prefix_in t.kind) goes_on least room level level end (record {
      sound = λ t p e. prefix_sound exact t.kind p e;
      complete = λ t p has. ap prefix_in has.1 ∙ (exact has.0 p).1 has.2;
      level = λ t p has. ap (λ (k : TokenKind). room_after k level) has.1;
      sample = record { at = 0; kind = Bare (codes "0.0.0.0/0") };
      sampled = V4 all_addresses;
      has = (codes "0.0.0.0/0", refl, written);
    })
