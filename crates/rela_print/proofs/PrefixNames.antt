-- Each text of a prefix is a name of two bytes or more.
use Rattle.std.proofs.Common.{◌≡◌, ℕ, zero, suc, ◌+◌, ◌*◌, ◌≤◌, ◌<◌, Bool, true, false, ◌&&◌, ◌||◌, not, List, [], ◌∷◌, ◌++◌, length, refl, sym, ap, ◌∙◌, subst, inl, inr, arith, length-append}
use Rattle.std.specs.Prelude.{nat_lt, nat_le}
use Rattle.std.specs.Char.{digit_value}
use Rattle.std.specs.Fmt.{decimal}
use Rattle.std.specs.List.{list_all, AllZip, join_with_byte}
use Rattle.std.specs.Str.Parse.{AllDigits}
use Rattle.std.proofs.lemmas.Bool.{and_parts, cases_lt, lt-ltb, le-ltb, le-leb, false≢true}
use Rattle.std.proofs.lemmas.Fmt.{decimal_is_IsNumeral, length-decimal-le, decimal_nonempty}
use Rattle.rela_names.specs.Name.{is_name_byte, IsName}
use Rattle.rela_flows.specs.Notation.{IsOctet, IsGroup, IsFields, IsIpv4Address, IsIpv6Address, IsTextOf, text_of}
use Rattle.rela_flows.specs.declared.prefix.Prefix.{Prefix}
use Rattle.rela_flows.specs.declared.prefix.Prefix.TheVariants.{V4, V6}

both_hold : (a b : Bool) → a ≡ true → b ≡ true → (a && b) ≡ true
both_hold a b p q = rw (p, q) refl

all_joined : (xs ys : List ℕ) → list_all is_name_byte xs ≡ true → list_all is_name_byte ys ≡ true → list_all is_name_byte (xs ++ ys) ≡ true
all_joined [] ys first second = second
all_joined (x ∷ xs) ys first second =
    let both = and_parts (is_name_byte x) (list_all is_name_byte xs) first in
    both_hold (is_name_byte x) (list_all is_name_byte (xs ++ ys)) both.0 (all_joined xs ys both.1 second)

-- a hexadecimal digit is a name byte
abbrev holds_of : ℕ → Bool
holds_of c = not (nat_lt (digit_value c) 16) || is_name_byte c

abbrev holds_to : ℕ → Bool
holds_to zero = holds_of zero
holds_to (suc n) = holds_of (suc n) && holds_to n

all_hold : holds_to 122 ≡ true
all_hold = refl

holds_below : (k n : ℕ) → holds_to k ≡ true → n ≤ k → holds_of n ≡ true
holds_below zero n all le = let none : zero ≡ n = omega arith in subst (λ (x : ℕ). holds_of x ≡ true) none all
holds_below (suc k) n all le =
    let both = and_parts (holds_of (suc k)) (holds_to k) all in
    elim (cases_lt k n) [
      | inl lt ↦ let last : suc k ≡ n = omega arith in subst (λ (x : ℕ). holds_of x ≡ true) last both.0
      | inr earlier ↦ holds_below k n both.1 earlier
    ]

no_digit : (c : ℕ) → 123 ≤ c → digit_value c ≡ 36
no_digit c far = rw (le-ltb c 48 (omega arith), le-ltb c 58 (omega arith), le-ltb c 65 (omega arith), le-ltb c 91 (omega arith), le-ltb c 97 (omega arith), le-ltb c 123 far) refl

other_holds : (a b : Bool) → a ≡ true → (not a || b) ≡ true → b ≡ true
other_holds true b p h = h
other_holds false b p h = absurd (false≢true p)

digit_is_name_byte : (c : ℕ) → digit_value c < 16 → is_name_byte c ≡ true
digit_is_name_byte c lt = elim (cases_lt 122 c) [
  | inl far ↦ absurd (let is = no_digit c (omega arith) in omega (arith, is))
  | inr near ↦ other_holds (nat_lt (digit_value c) 16) (is_name_byte c) (lt-ltb (digit_value c) 16 lt) (holds_below 122 c all_hold near)
]

digits_are_name_bytes : (radix : ℕ) (ds : List ℕ) → radix ≤ 16 → AllDigits radix ds → list_all is_name_byte ds ≡ true
digits_are_name_bytes radix [] le all = refl
digits_are_name_bytes radix (c ∷ ds) le all =
    both_hold (is_name_byte c) (list_all is_name_byte ds) (digit_is_name_byte c (omega (arith, all.0))) (digits_are_name_bytes radix ds le all.1)

-- so many name bytes at most
record Short (n : ℕ) (text : List ℕ) : Type 0 where
  length_is : length text ≤ n
  bytes : list_all is_name_byte text ≡ true

short_joined : (m n : ℕ) (xs ys : List ℕ) → Short m xs → Short n ys → Short (m + n) (xs ++ ys)
short_joined m n xs ys first second = record {
  length_is = let a = first.length_is in let b = second.length_is in omega (arith, a, b, length-append xs ys);
  bytes = all_joined xs ys first.bytes second.bytes;
}

short_more : (m n : ℕ) (xs : List ℕ) → m ≤ n → Short m xs → Short n xs
short_more m n xs le short = record { length_is = let a = short.length_is in omega (arith, a); bytes = short.bytes }

short_behind : (m byte : ℕ) (xs : List ℕ) → is_name_byte byte ≡ true → Short m xs → Short (suc m) (byte ∷ xs)
short_behind m byte xs is short = record { length_is = let a = short.length_is in omega (arith, a); bytes = both_hold (is_name_byte byte) (list_all is_name_byte xs) is short.bytes }

short_decimal : (n : ℕ) → n < 256 → Short 4 (decimal n)
short_decimal n lt = record {
  length_is = let a = length-decimal-le 3 n (omega arith) (omega arith) (omega arith) in omega (arith, a);
  bytes = digits_are_name_bytes 10 (decimal n) (omega arith) (decimal_is_IsNumeral n (omega arith)).0.1;
}

short_octet : (text : List ℕ) (n : ℕ) → IsOctet text n → Short 4 text
short_octet text n is = subst (Short 4) (sym is.written) (short_decimal n is.fits)

short_group : (text : List ℕ) (n : ℕ) → IsGroup text n → Short 4 text
short_group text n is = record { length_is = is.short; bytes = digits_are_name_bytes 16 text (omega arith) is.numeral.1 }

short_row : (separator : ℕ) (IsField : List ℕ → ℕ → Type 0) (fields : List (List ℕ)) (numbers : List ℕ) → is_name_byte separator ≡ true
    → ((text : List ℕ) (n : ℕ) → IsField text n → Short 4 text) → AllZip IsField fields numbers → Short (5 * length numbers) (join_with_byte separator fields)
short_row separator IsField [] [] is short each = record { length_is = omega arith; bytes = refl }
short_row separator IsField [] (n ∷ numbers) is short each = absurd each
short_row separator IsField (f ∷ fields) [] is short each = absurd each
short_row separator IsField (f ∷ []) (n ∷ numbers) is short each = short_more 4 (5 * length (n ∷ numbers)) f (omega arith) (short f n each.0)
short_row separator IsField (f ∷ g ∷ fields) (n ∷ numbers) is short each =
    let others = short_row separator IsField (g ∷ fields) numbers is short each.1 in
    short_more (4 + suc (5 * length numbers)) (5 * length (n ∷ numbers)) (f ++ (separator ∷ join_with_byte separator (g ∷ fields))) (omega arith)
    (short_joined 4 (suc (5 * length numbers)) f (separator ∷ join_with_byte separator (g ∷ fields)) (short f n each.0)
    (short_behind (5 * length numbers) separator (join_with_byte separator (g ∷ fields)) is others))

short_fields : (separator : ℕ) (IsField : List ℕ → ℕ → Type 0) (text numbers : List ℕ) → is_name_byte separator ≡ true
    → ((text : List ℕ) (n : ℕ) → IsField text n → Short 4 text) → IsFields separator IsField text numbers → Short (5 * length numbers) text
short_fields separator IsField text numbers is short written = subst (Short (5 * length numbers)) (sym written.joined) (short_row separator IsField written.fields numbers is short written.each)

short_v4 : (text : List ℕ) (a : ℕ) → IsIpv4Address text a → Short 40 text
short_v4 text a is = short_more (5 * length is.octets) 40 text (let four = is.four in omega (arith, four)) (short_fields 46 IsOctet text is.octets refl short_octet is.written)

short_v6 : (text : List ℕ) (a : ℕ) → IsIpv6Address text a → Short 40 text
short_v6 text a (inl is) = short_more (5 * length is.groups) 40 text (let eight = is.eight in omega (arith, eight)) (short_fields 58 IsGroup text is.groups refl short_group is.written)
short_v6 text a (inr is) =
    let left = short_fields 58 IsGroup is.left_text is.left refl short_group is.left_written in
    let right = short_fields 58 IsGroup is.right_text is.right refl short_group is.right_written in
    let eight = is.eight in
    let some = is.some in
    subst (Short 40) (sym is.joined)
    (short_more (5 * length is.left + suc (suc (5 * length is.right))) 40 (is.left_text ++ 58 ∷ 58 ∷ is.right_text) (omega (arith, eight, some))
    (short_joined (5 * length is.left) (suc (suc (5 * length is.right))) is.left_text (58 ∷ 58 ∷ is.right_text) left
    (short_behind (suc (5 * length is.right)) 58 (58 ∷ is.right_text) refl (short_behind (5 * length is.right) 58 is.right_text refl right))))

name_from : (text : List ℕ) → Short 64 text → 1 ≤ length text → IsName text
name_from text short some =
    both_hold (nat_le 1 (length text) && nat_le (length text) 64) (list_all is_name_byte text)
    (both_hold (nat_le 1 (length text)) (nat_le (length text) 64) (le-leb 1 (length text) some) (le-leb (length text) 64 short.length_is)) short.bytes

slashed : (text address : List ℕ) (n : ℕ) → n < 256 → Short 40 address → text ≡ address ++ 47 ∷ decimal n → IsName text × (2 ≤ length text)
slashed text address n lt short is =
    let whole : Short (40 + suc 4) (address ++ 47 ∷ decimal n) = short_joined 40 (suc 4) address (47 ∷ decimal n) short (short_behind 4 47 (decimal n) refl (short_decimal n lt)) in
    let some : 0 < length (decimal n) = decimal_nonempty n (omega arith) in
    let long : length text ≡ length address + length (47 ∷ decimal n) = ap length is ∙ length-append address (47 ∷ decimal n) in
    let two : 2 ≤ length text = omega (arith, some, long) in
    (name_from text (subst (Short 64) (sym is) (short_more (40 + suc 4) 64 (address ++ 47 ∷ decimal n) (omega arith) whole)) (omega (arith, two)), two)

names : (q : Prefix) → IsTextOf (text_of q) q → IsName (text_of q) × (2 ≤ length (text_of q))
names (V4 p) is = let fits = p.length_fits in slashed (text_of (V4 p)) is.address_text p.length (omega (arith, fits)) (short_v4 is.address_text is.host is.written) is.joined
names (V6 p) is = let fits = p.length_fits in slashed (text_of (V6 p)) is.address_text p.length (omega (arith, fits)) (short_v6 is.address_text is.host is.written) is.joined

-- the canonical text of each prefix is one of its texts
abbrev pub HaveTexts : Type 0
HaveTexts = (p : Prefix) → IsTextOf (text_of p) p

-- it is a name too, and no single byte
pub own_text : HaveTexts → (q : Prefix) → IsTextOf (text_of q) q × IsName (text_of q) × (2 ≤ length (text_of q))
own_text texts q = let is = texts q in let name = names q is in (is, name.0, name.1)
