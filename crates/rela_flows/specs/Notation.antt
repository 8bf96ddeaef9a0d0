-- How an address is written as fields, and a prefix as an address and its length.
use Rattle.std.specs.Prelude.{◌≡◌, ℕ, ◌+◌, ◌/◌, ◌%◌, ◌^◌, ◌<◌, ◌≤◌, ◌⊎◌, false, List, [], ◌∷◌, ◌++◌, length, map, replicate}
use Rattle.std.specs.List.{AllZip, join_with_byte}
use Rattle.std.specs.Fmt.{decimal, digits}
use Rattle.std.specs.Int.Digits.{number_from_digits}
use Rattle.std.specs.Str.Parse.{IsNumeral, digits_value}
use Rattle.rela_flows.specs.Network.{network}
use Rattle.rela_flows.specs.declared.prefix.Prefix.{Prefix}
use Rattle.rela_flows.specs.declared.prefix.Prefix.TheVariants.{V4, V6}

abbrev pub dot : ℕ
dot = 46

abbrev pub slash : ℕ
slash = 47

abbrev pub colon : ℕ
colon = 58

-- A field of dotted decimal: a number of 8 bits, with no leading zero but in `0` itself.
pub record IsOctet (text : List ℕ) (n : ℕ) : Type 0 where
  pub fits : n < 256
  pub written : text ≡ decimal n

-- A field of colon hexadecimal: a number of 16 bits in one to four digits, in either case of letters.
pub record IsGroup (text : List ℕ) (n : ℕ) : Type 0 where
  pub numeral : IsNumeral 16 text
  pub short : length text ≤ 4
  pub value : n ≡ digits_value 16 text

-- The text is fields with a separator between two, each of which is the field of a number.
pub record IsFields (separator : ℕ) (IsField : List ℕ → ℕ → Type 0)
    (text numbers : List ℕ) : Type 0 where
  pub fields : List (List ℕ)
  pub joined : text ≡ join_with_byte separator fields
  pub each : AllZip IsField fields numbers

abbrev pub AreOctets : List ℕ → List ℕ → Type 0
AreOctets = IsFields dot IsOctet

abbrev pub AreGroups : List ℕ → List ℕ → Type 0
AreGroups = IsFields colon IsGroup

-- RFC 4632, section 3.1: four octets joined by dots.
pub record IsIpv4Address (text : List ℕ) (address : ℕ) : Type 0 where
  pub octets : List ℕ
  pub written : AreOctets text octets
  pub four : length octets ≡ 4
  pub value : address ≡ number_from_digits (2 ^ 8) octets

-- RFC 4291, section 2.2, form 1: eight groups joined by colons.
pub record IsWholeIpv6Address (text : List ℕ) (address : ℕ) : Type 0 where
  pub groups : List ℕ
  pub written : AreGroups text groups
  pub eight : length groups ≡ 8
  pub value : address ≡ number_from_digits (2 ^ 16) groups

-- RFC 4291, section 2.2, form 2: `::` stands for as many zero groups, one or more, as bring the others to eight.
pub record IsShortIpv6Address (text : List ℕ) (address : ℕ) : Type 0 where
  pub left : List ℕ
  pub right : List ℕ
  pub zeros : ℕ
  pub left_text : List ℕ
  pub right_text : List ℕ
  pub left_written : AreGroups left_text left
  pub right_written : AreGroups right_text right
  pub some : 0 < zeros
  pub eight : length left + zeros + length right ≡ 8
  pub joined : text ≡ left_text ++ colon ∷ colon ∷ right_text
  pub value : address ≡ number_from_digits (2 ^ 16) (left ++ replicate zeros 0 ++ right)

abbrev pub IsIpv6Address : List ℕ → ℕ → Type 0
IsIpv6Address text address = IsWholeIpv6Address text address ⊎ IsShortIpv6Address text address

-- An address, a slash, and the length in decimal. Host bits may be written, and are put to zero.
pub record IsPrefixText (IsAddress : List ℕ → ℕ → Type 0) (width : ℕ) (text : List ℕ)
    (address length : ℕ) : Type 0 where
  pub host : ℕ
  pub address_text : List ℕ
  pub written : IsAddress address_text host
  pub joined : text ≡ address_text ++ slash ∷ decimal length
  pub value : address ≡ network width length host

abbrev pub IsTextOf : List ℕ → Prefix → Type 0
IsTextOf text (V4 p) = IsPrefixText IsIpv4Address 32 text p.address p.length
IsTextOf text (V6 p) = IsPrefixText IsIpv6Address 128 text p.address p.length

-- The canonical text: of an IPv6 address all eight groups, in lower case with no leading zeros.
abbrev pub text_of : Prefix → List ℕ
text_of (V4 p) = join_with_byte dot (map (λ k. decimal (p.address / 2 ^ k % 2 ^ 8)) (24 ∷ 16 ∷ 8 ∷ 0
    ∷ [])) ++ slash ∷ decimal p.length
text_of (V6 p) = join_with_byte colon (map (λ k. digits 16 false (p.address / 2 ^ k % 2 ^ 16)) (112
    ∷ 96 ∷ 80 ∷ 64 ∷ 48 ∷ 32 ∷ 16 ∷ 0 ∷ [])) ++ slash ∷ decimal p.length
