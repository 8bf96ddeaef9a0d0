-- The prefix that a text writes, as a function.
use Rattle.std.specs.Prelude.{◌≡◌, ℕ, suc, ◌+◌, ◌-◌, ◌%◌, ◌/◌, ◌^◌, ◌<◌, ◌≤◌, ◌⊎◌, ◌&&◌, ◌==◌, Bool, if◌then◌else◌, nat_lt, nat_le, Option, None, Some, List, [], ◌∷◌, ◌++◌, length, take, drop, replicate, slice_index, option_map}
use Rattle.std.specs.Char.{digit_value}
use Rattle.std.specs.Fmt.{decimal}
use Rattle.std.specs.Int.Digits.{number_from_digits}
use Rattle.std.specs.List.{slice_split, before_first, after_first, list_all, position_or_len}
use Rattle.std.specs.Option.{option_and_then}
use Rattle.std.specs.Str.{bytes_eq}
use Rattle.std.specs.Str.Parse.{digits_value}
use Rattle.std.proofs.Common.{◌∙◌, add-zero, ap, inl, inr, sym}
use Rattle.std.proofs.lemmas.Bool.{cases_lt}
use Rattle.std.proofs.lemmas.Nat.{mod-mul-add, pow_pos}
use Rattle.rela_flows.specs.Fields.{bits_of, separator_of}
use Rattle.rela_flows.specs.Network.{network}
use Rattle.rela_flows.specs.Notation.{colon, slash}
use Rattle.rela_flows.specs.declared.prefix.Ipv4Prefix.{Ipv4Prefix}
use Rattle.rela_flows.specs.declared.prefix.Ipv6Prefix.{Ipv6Prefix}
use Rattle.rela_flows.specs.declared.prefix.Prefix.{Prefix}
use Rattle.rela_flows.specs.declared.prefix.Prefix.TheVariants.{V4, V6}
use Rattle.rela_flows.specs.declared.prefix.reading.Notation.{Notation}
use Rattle.rela_flows.specs.declared.prefix.reading.Notation.TheVariants.{Dotted, Colons}

abbrev pub if_so : {A : Type 0} → Bool → A → Option A
if_so b v = if b then Some v else None

-- the number that a field writes
abbrev pub is_octet : List ℕ → Bool
is_octet text = nat_lt (digits_value 10 text) 256 && bytes_eq text (decimal (digits_value 10 text))

abbrev pub is_group : List ℕ → Bool
is_group text = nat_lt 0 (length text) && (nat_le (length text) 4
    && list_all (λ c. nat_lt (digit_value c) 16) text)

abbrev pub field_of : Notation → List ℕ → Option ℕ
field_of Dotted text = if_so (is_octet text) (digits_value 10 text)
field_of Colons text = if_so (is_group text) (digits_value 16 text)

-- the numbers of the fields of a text; the empty text has no field
abbrev pub parts_in : ℕ → List ℕ → List (List ℕ)
parts_in separator [] = []
parts_in separator (c ∷ cs) = slice_split (λ b. b == separator) (c ∷ cs)

abbrev pub numbers_of : Notation → List (List ℕ) → Option (List ℕ)
numbers_of notation [] = Some []
numbers_of notation (part ∷ parts) =
    option_and_then (λ n. option_map (λ ns. n ∷ ns) (numbers_of notation parts))
    (field_of notation part)

abbrev pub numbers_in : Notation → List ℕ → Option (List ℕ)
numbers_in notation text = numbers_of notation (parts_in (separator_of notation) text)

-- the address that so many fields write
abbrev pub address_by : Notation → ℕ → List ℕ → Option ℕ
address_by notation many text =
    option_and_then (λ ns. if_so (length ns == many) (number_from_digits (2 ^ bits_of notation) ns))
    (numbers_in notation text)

abbrev pub ipv4_of : List ℕ → Option ℕ
ipv4_of = address_by Dotted 4

-- the place of the first two colons that stand side by side
abbrev pub gap_of : List ℕ → Option ℕ
gap_of [] = None
gap_of (c ∷ cs) = if c == colon && slice_index cs 0 == colon then Some 0
    else option_map suc (gap_of cs)

-- the address that fewer than eight groups write, with groups of zeros between
abbrev pub filled : List ℕ → List ℕ → Option ℕ
filled left right = if_so (nat_lt (length left + length right) 8) (number_from_digits (2 ^ 16)
    (left ++ replicate (8 - (length left + length right)) 0 ++ right))

abbrev pub address_round : List ℕ → List ℕ → Option ℕ
address_round before after = option_and_then (λ left. option_and_then (filled left)
    (numbers_in Colons after)) (numbers_in Colons before)

abbrev pub ipv6_by : List ℕ → Option ℕ → Option ℕ
ipv6_by text None = address_by Colons 8 text
ipv6_by text (Some gap) = address_round (take gap text) (drop (gap + 2) text)

abbrev pub ipv6_of : List ℕ → Option ℕ
ipv6_of text = ipv6_by text (gap_of text)

-- a network has no bits past its own
pub network_zeros : (width length address : ℕ) →
    network width length address % 2 ^ (width - length) ≡ 0
network_zeros width length address =
    let size : ℕ = 2 ^ (width - length) in
    let whole : ℕ = network width length address in
    ap (λ k. k % size) (sym (add-zero whole))
    ∙ mod-mul-add (address / size) size 0 (pow_pos (width - length))

-- the prefix of so many of an address's first bits, if it has so many
abbrev pub ipv4_made : (a n : ℕ) → (32 < n) ⊎ (n ≤ 32) → (network 32 n a < 2 ^ 32) ⊎ (2 ^ 32
    ≤ network 32 n a) → Option Ipv4Prefix
ipv4_made a n (inr short) (inl fits) = Some (record {
  address = network 32 n a;
  length = n;
  address_fits = fits;
  length_fits = short;
  host_bits_zero = network_zeros 32 n a;
})
ipv4_made a n short fits = None

abbrev pub ipv4_prefix : ℕ → ℕ → Option Ipv4Prefix
ipv4_prefix a n = ipv4_made a n (cases_lt 32 n) (cases_lt (network 32 n a) (2 ^ 32))

abbrev pub ipv6_made : (a n : ℕ) → (128 < n) ⊎ (n ≤ 128) → (network 128 n a < 2 ^ 128) ⊎ (2 ^ 128
    ≤ network 128 n a) → Option Ipv6Prefix
ipv6_made a n (inr short) (inl fits) = Some (record {
  address = network 128 n a;
  length = n;
  address_fits = fits;
  length_fits = short;
  host_bits_zero = network_zeros 128 n a;
})
ipv6_made a n short fits = None

abbrev pub ipv6_prefix : ℕ → ℕ → Option Ipv6Prefix
ipv6_prefix a n = ipv6_made a n (cases_lt 128 n) (cases_lt (network 128 n a) (2 ^ 128))

-- by the IPv4 address that is written, or else the IPv6 address
abbrev pub prefix_at : Option ℕ → Option ℕ → ℕ → Option Prefix
prefix_at (Some address) other length = option_map V4 (ipv4_prefix address length)
prefix_at None (Some address) length = option_map V6 (ipv6_prefix address length)
prefix_at None None length = None

-- the prefix of what stands before a slash and what stands behind it
abbrev pub prefix_by : List ℕ → List ℕ → Option Prefix
prefix_by before after =
    option_and_then (prefix_at (ipv4_of before) (ipv6_of before)) (field_of Dotted after)

-- the prefix that the text writes
unfoldable pub prefix_of : List ℕ → Option Prefix
prefix_of text = if nat_lt (position_or_len (λ b. b == slash) text) (length text)
    then prefix_by (before_first (λ b. b == slash) text) (after_first (λ b. b == slash) text)
    else None
