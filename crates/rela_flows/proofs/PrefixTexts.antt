-- The texts of prefixes, in parts.
use Rattle.std.proofs.Common.{◌≡◌, ◌≢◌, ◌↔◌, ℕ, ◌+◌, ◌<◌, ◌≤◌, List, [], ◌∷◌, ◌++◌, length, get_or, Option, Some, None, refl, sym, ◌∙◌, ap, subst, inl, inr, lit≤, arith, eq-eqb, nat_eq, Bor, option_copied}
use Rattle.std.specs.List.{AllZip, AllByRecursion, All, join_with_byte}
use Rattle.std.specs.Fmt.{decimal}
use Rattle.std.specs.Char.{digit_value}
use Rattle.std.proofs.lemmas.Fmt.{decimal_is_IsNumeral}
use Rattle.std.proofs.lemmas.Bool.{ne_eqb}
use Rattle.std.proofs.lemmas.List.{get_or-append-add, length-append}
use Rattle.std.proofs.lemmas.List.Elements.{All-append, All-cons, All-nil}
use Rattle.std.proofs.lemmas.List.Splits.{slice_split_at}
use Rattle.rela_flows.specs.Network.{network}
use Rattle.rela_flows.specs.Notation.{IsOctet, IsGroup, AreGroups, IsIpv4Address, IsIpv6Address, IsPrefixText, IsTextOf}
use Rattle.rela_flows.specs.Fields.{parts_of, IsField}
use Rattle.rela_flows.specs.declared.prefix.Prefix.{Prefix}
use Rattle.rela_flows.specs.declared.prefix.Prefix.TheVariants.{V4, V6}
use Rattle.rela_flows.specs.declared.prefix.Ipv4Prefix.{Ipv4Prefix}
use Rattle.rela_flows.specs.declared.prefix.Ipv6Prefix.{Ipv6Prefix}
use Rattle.rela_flows.specs.declared.prefix.reading.Notation.{Notation}
use Rattle.rela_flows.specs.declared.prefix.reading.Notation.TheVariants.{Dotted, Colons}
use Rattle.rela_flows.proofs.Parts.{IsNot, splits, splits_none, joined_splits}
use Rattle.rela_flows.proofs.Numerals.{numeral_of_octet, digits_avoid}
use Rattle.rela_flows.proofs.Exactly.{given}

-- ---- which bytes an address holds

joined_avoids : (s c : ℕ) (parts : List (List ℕ)) → s ≢ c → AllByRecursion (All (IsNot c)) parts → All (IsNot c) (join_with_byte s parts)
joined_avoids s c [] apart each = All-nil (IsNot c)
joined_avoids s c (part ∷ []) apart each = each.0
joined_avoids s c (part ∷ next ∷ more) apart each =
    All-append (IsNot c) part (s ∷ join_with_byte s (next ∷ more)) each.0
    (All-cons (IsNot c) s (join_with_byte s (next ∷ more)) apart (joined_avoids s c (next ∷ more) apart each.1))

-- no field holds a byte that is no digit of its radix
field_avoids_byte : (notation : Notation) (c : ℕ) (part : List ℕ) (n : ℕ) → 16 ≤ digit_value c → IsField notation part n → All (IsNot c) part
field_avoids_byte Dotted c part n none octet = digits_avoid 10 c part (omega arith) (numeral_of_octet part n octet).0.1
field_avoids_byte Colons c part n none group = digits_avoid 16 c part none group.numeral.1

fields_avoid_byte : (notation : Notation) (c : ℕ) (parts : List (List ℕ)) (numbers : List ℕ) → 16 ≤ digit_value c → AllZip (IsField notation) parts numbers → AllByRecursion (All (IsNot c)) parts
fields_avoid_byte notation c [] numbers none each = tt
fields_avoid_byte notation c (part ∷ parts) [] none each = absurd each
fields_avoid_byte notation c (part ∷ parts) (n ∷ ns) none each = (field_avoids_byte notation c part n none each.0, fields_avoid_byte notation c parts ns none each.1)

ipv4_avoids : (c : ℕ) (text : List ℕ) (a : ℕ) → 46 ≢ c → 16 ≤ digit_value c → IsIpv4Address text a → All (IsNot c) text
ipv4_avoids c text a apart none is =
    rw is.written.joined (joined_avoids 46 c is.written.fields apart (fields_avoid_byte Dotted c is.written.fields is.octets none is.written.each))

groups_avoid : (c : ℕ) (text numbers : List ℕ) → 58 ≢ c → 16 ≤ digit_value c → AreGroups text numbers → All (IsNot c) text
groups_avoid c text numbers apart none groups =
    rw groups.joined (joined_avoids 58 c groups.fields apart (fields_avoid_byte Colons c groups.fields numbers none groups.each))

ipv6_avoids : (c : ℕ) (text : List ℕ) (a : ℕ) → 58 ≢ c → 16 ≤ digit_value c → IsIpv6Address text a → All (IsNot c) text
ipv6_avoids c text a apart none (inl whole) = groups_avoid c text whole.groups apart none whole.written
ipv6_avoids c text a apart none (inr short) =
    rw short.joined
    (All-append (IsNot c) short.left_text (58 ∷ 58 ∷ short.right_text) (groups_avoid c short.left_text short.left apart none short.left_written)
    (All-cons (IsNot c) 58 (58 ∷ short.right_text) apart
    (All-cons (IsNot c) 58 short.right_text apart (groups_avoid c short.right_text short.right apart none short.right_written))))

-- a byte in the middle is there
not_avoided : (c : ℕ) (front back : List ℕ) → All (IsNot c) (front ++ c ∷ back) → ⊥
not_avoided c front back none =
    none (length front + 0) 0 (omega (arith, length-append front (c ∷ back))) (get_or-append-add front (c ∷ back) 0 0)

-- fields, two or more, hold a separator
two_fields : (s : ℕ) (IsField : List ℕ → ℕ → Type 0) (parts : List (List ℕ)) (numbers : List ℕ) → AllZip IsField parts numbers → 2 ≤ length numbers → All (IsNot s) (join_with_byte s parts) → ⊥
two_fields s IsField [] [] each two none = omega arith
two_fields s IsField [] (n ∷ ns) each two none = absurd each
two_fields s IsField (part ∷ parts) [] each two none = absurd each
two_fields s IsField (part ∷ []) (n ∷ []) each two none = omega arith
two_fields s IsField (part ∷ []) (n ∷ m ∷ ms) each two none = absurd each.1
two_fields s IsField (part ∷ next ∷ more) (n ∷ ns) each two none = not_avoided s part (join_with_byte s (next ∷ more)) none

ipv6_has_colon : (text : List ℕ) (a : ℕ) → IsIpv6Address text a → All (IsNot 58) text → ⊥
ipv6_has_colon text a (inl whole) none =
    two_fields 58 IsGroup whole.written.fields whole.groups whole.written.each (omega (arith, whole.eight)) (rw whole.written.joined at none)
ipv6_has_colon text a (inr short) none = not_avoided 58 short.left_text (58 ∷ short.right_text) (rw short.joined at none)

-- no text is an address of both families
pub one_family : (text : List ℕ) (a b : ℕ) → IsIpv4Address text a → IsIpv6Address text b → ⊥
one_family text a b v4 v6 = ipv6_has_colon text b v6 (ipv4_avoids 58 text a (λ same. cc) (lit≤ tt) v4)

-- ---- the parts of a prefix's text

-- before and after are what stands round the first slash
abbrev pub IsSlashed : List ℕ → List ℕ → List ℕ → Type 0
IsSlashed text before after = splits 47 text ≡ before ∷ splits 47 after

decimal_avoids : (n : ℕ) → n < 256 → All (IsNot 47) (decimal n)
decimal_avoids n small = digits_avoid 10 47 (decimal n) (lit≤ tt) (decimal_is_IsNumeral n (omega arith)).0.1

text_parts : (IsAddress : List ℕ → ℕ → Type 0) (avoids : (t : List ℕ) (a : ℕ) → IsAddress t a → All (IsNot 47) t) (width : ℕ) (text : List ℕ) (address n : ℕ) → n < 256 → (is : IsPrefixText IsAddress width text address n) → splits 47 text ≡ is.address_text ∷ decimal n ∷ []
text_parts IsAddress avoids width text address n small is =
    rw is.joined
    (slice_split_at (λ b. nat_eq b 47) is.address_text 47 (decimal n)
    (λ k d inside. ne_eqb (get_or is.address_text k d) 47 (avoids is.address_text is.host is.written k d inside)) (eq-eqb 47 47 refl)
    ∙ ap (λ parts. is.address_text ∷ parts) (splits_none 47 (decimal n) (decimal_avoids n small)))

head_same : (x y : List ℕ) (xs ys : List (List ℕ)) → x ∷ xs ≡ y ∷ ys → (x ≡ y) × (xs ≡ ys)
head_same x y xs ys e = (cc, cc)

-- what is read of a prefix's text
pub record IsRead (IsAddress : List ℕ → ℕ → Type 0) (width : ℕ) (before after : List ℕ) (address n : ℕ) : Type 0 where
  pub host : ℕ
  pub written : IsAddress before host
  pub length : IsOctet after n
  pub value : address ≡ network width n host

read_of_text : (IsAddress : List ℕ → ℕ → Type 0) (avoids : (t : List ℕ) (a : ℕ) → IsAddress t a → All (IsNot 47) t) (width : ℕ) (text before after : List ℕ) (address n : ℕ) → IsSlashed text before after → n < 256 → IsPrefixText IsAddress width text address n → IsRead IsAddress width before after address n
read_of_text IsAddress avoids width text before after address n slashed small is =
    let same : (before ≡ is.address_text) × (splits 47 after ≡ decimal n ∷ []) =
    head_same _ _ _ _ (sym slashed ∙ text_parts IsAddress avoids width text address n small is) in
    let behind : after ≡ decimal n = joined_splits 47 after ∙ ap (join_with_byte 47) same.1 in
    record {
      host = is.host;
      written = rw same.0 is.written;
      length = record { fits = small; written = behind };
      value = is.value;
    }

text_of_read : (IsAddress : List ℕ → ℕ → Type 0) (width : ℕ) (text before after : List ℕ) (address n : ℕ) → IsSlashed text before after → IsRead IsAddress width before after address n → IsPrefixText IsAddress width text address n
text_of_read IsAddress width text before after address n slashed is = record {
  host = is.host;
  address_text = before;
  written = is.written;
  joined = joined_splits 47 text ∙ ap (join_with_byte 47) slashed
      ∙ ap (λ t. join_with_byte 47 (before ∷ splits 47 t)) is.length.written
      ∙ ap (λ parts. join_with_byte 47 (before ∷ parts)) (splits_none 47 (decimal n) (decimal_avoids n is.length.fits));
  value = is.value;
}

avoids4 : (t : List ℕ) (a : ℕ) → IsIpv4Address t a → All (IsNot 47) t
avoids4 t a is = ipv4_avoids 47 t a (λ same. cc) (lit≤ tt) is

avoids6 : (t : List ℕ) (a : ℕ) → IsIpv6Address t a → All (IsNot 47) t
avoids6 t a is = ipv6_avoids 47 t a (λ same. cc) (lit≤ tt) is

-- what is read of the text of each prefix
abbrev pub ReadsAs : List ℕ → List ℕ → Prefix → Type 0
ReadsAs before after (V4 p) = IsRead IsIpv4Address 32 before after p.address p.length
ReadsAs before after (V6 p) = IsRead IsIpv6Address 128 before after p.address p.length

pub reads_text : (text before after : List ℕ) → IsSlashed text before after → (p : Prefix) → IsTextOf text p → ReadsAs before after p
reads_text text before after slashed (V4 p) is = read_of_text IsIpv4Address avoids4 32 text before after p.address p.length slashed (omega (arith, p.length_fits)) is
reads_text text before after slashed (V6 p) is = read_of_text IsIpv6Address avoids6 128 text before after p.address p.length slashed (omega (arith, p.length_fits)) is

-- ---- the answers of `parse`

-- a text with no slash
pub no_slash : (text before : List ℕ) (rest : Option (Bor (List ℕ))) → rest ≡ None → splits 47 text ≡ before ∷ parts_of 47 (option_copied rest) → (p : Prefix) → IsTextOf text p → ⊥
no_slash text before rest none cut (V4 p) is =
    let one : splits 47 text ≡ before ∷ [] = cut ∙ ap (λ r. before ∷ parts_of 47 (option_copied r)) none in
    let parts : splits 47 text ≡ is.address_text ∷ decimal p.length ∷ [] = text_parts IsIpv4Address avoids4 32 text p.address p.length (omega (arith, p.length_fits)) is in cc
no_slash text before rest none cut (V6 p) is =
    let one : splits 47 text ≡ before ∷ [] = cut ∙ ap (λ r. before ∷ parts_of 47 (option_copied r)) none in
    let parts : splits 47 text ≡ is.address_text ∷ decimal p.length ∷ [] = text_parts IsIpv6Address avoids6 128 text p.address p.length (omega (arith, p.length_fits)) is in cc

-- a text with a slash
pub slashed_at : (text before : List ℕ) (rest : Option (Bor (List ℕ))) (after : Bor (List ℕ)) → rest ≡ Some after → splits 47 text ≡ before ∷ parts_of 47 (option_copied rest) → IsSlashed text before after.now
slashed_at text before rest after is cut = cut ∙ ap (λ r. before ∷ parts_of 47 (option_copied r)) is

-- the length of what is read
read_length : (before after : List ℕ) (p : Prefix) → ReadsAs before after p → (n : ℕ) × IsOctet after n
read_length before after (V4 p) read = (p.length, read.length)
read_length before after (V6 p) read = (p.length, read.length)

pub no_length : (text before after : List ℕ) → IsSlashed text before after → ((n : ℕ) → (None ≡ Some n) ↔ IsOctet after n) → (p : Prefix) → IsTextOf text p → ⊥
no_length text before after slashed reads p is =
    let length : (n : ℕ) × IsOctet after n = read_length before after p (reads_text text before after slashed p is) in
    let none : None ≡ Some length.0 = (reads length.0).1 length.1 in cc

-- the slash and the length are read
pub record IsCut (text before after : List ℕ) (n : ℕ) : Type 0 where
  pub slashed : IsSlashed text before after
  pub length : IsOctet after n

octet_value : (text : List ℕ) (m n : ℕ) → IsOctet text m → IsOctet text n → m ≡ n
octet_value text m n one two = (numeral_of_octet text m one).2 ∙ sym (numeral_of_octet text n two).2

pub no_address : (text before after : List ℕ) (n : ℕ) → IsCut text before after n → ((a : ℕ) → (None ≡ Some a) ↔ IsIpv4Address before a) → ((a : ℕ) → (None ≡ Some a) ↔ IsIpv6Address before a) → (p : Prefix) → IsTextOf text p → ⊥
no_address text before after n cut none4 none6 (V4 p) is =
    let read : ReadsAs before after (V4 p) = reads_text text before after cut.slashed (V4 p) is in
    let none : None ≡ Some read.host = (none4 read.host).1 read.written in cc
no_address text before after n cut none4 none6 (V6 p) is =
    let read : ReadsAs before after (V6 p) = reads_text text before after cut.slashed (V6 p) is in
    let none : None ≡ Some read.host = (none6 read.host).1 read.written in cc

-- an IPv4 address is read: the text is of no other prefix than those of the address and the length
numbers4 : (text before after : List ℕ) (n a : ℕ) → IsCut text before after n → ((b : ℕ) → (Some a ≡ Some b) ↔ IsIpv4Address before b) → (p : Ipv4Prefix) → IsTextOf text (V4 p) → (p.length ≡ n) × (p.address ≡ network 32 n a)
numbers4 text before after n a cut reads p is =
    let read : ReadsAs before after (V4 p) = reads_text text before after cut.slashed (V4 p) is in
    let length : p.length ≡ n = octet_value after p.length n read.length cut.length in
    let some : Some a ≡ Some read.host = (reads read.host).1 read.written in
    let host : a ≡ read.host = cc in
    (length, read.value ∙ ap (λ k. network 32 k read.host) length ∙ ap (λ h. network 32 n h) (sym host))

other4 : (text before after : List ℕ) (n a : ℕ) → IsCut text before after n → ((b : ℕ) → (Some a ≡ Some b) ↔ IsIpv4Address before b) → (p : Ipv6Prefix) → IsTextOf text (V6 p) → ⊥
other4 text before after n a cut reads p is =
    let read : ReadsAs before after (V6 p) = reads_text text before after cut.slashed (V6 p) is in
    one_family before a read.host ((reads a).0 refl) read.written

pub too_long4 : (text before after : List ℕ) (n a : ℕ) → IsCut text before after n → ((b : ℕ) → (Some a ≡ Some b) ↔ IsIpv4Address before b) → ((p : Ipv4Prefix) → (None ≡ Some p) ↔ ((p.length ≡ n) × (p.address ≡ network 32 n a))) → (p : Prefix) → IsTextOf text p → ⊥
too_long4 text before after n a cut reads long (V4 p) is =
    let none : None ≡ Some p = (long p).1 (numbers4 text before after n a cut reads p is) in cc
too_long4 text before after n a cut reads long (V6 p) is = other4 text before after n a cut reads p is

made4 : (text before after : List ℕ) (n a : ℕ) (p : Ipv4Prefix) → IsCut text before after n → ((b : ℕ) → (Some a ≡ Some b) ↔ IsIpv4Address before b) → ((q : Ipv4Prefix) → (Some p ≡ Some q) ↔ ((q.length ≡ n) × (q.address ≡ network 32 n a))) → IsTextOf text (V4 p)
made4 text before after n a p cut reads made =
    let numbers : (p.length ≡ n) × (p.address ≡ network 32 n a) = (made p).0 refl in
    text_of_read IsIpv4Address 32 text before after p.address p.length cut.slashed (record {
      host = a;
      written = (reads a).0 refl;
      length = subst (IsOctet after) (sym numbers.0) cut.length;
      value = numbers.1 ∙ ap (λ k. network 32 k a) (sym numbers.0);
    })

sole4 : (text before after : List ℕ) (n a : ℕ) (p : Ipv4Prefix) → IsCut text before after n → ((b : ℕ) → (Some a ≡ Some b) ↔ IsIpv4Address before b) → ((q : Ipv4Prefix) → (Some p ≡ Some q) ↔ ((q.length ≡ n) × (q.address ≡ network 32 n a))) → (q : Prefix) → IsTextOf text q → q ≡ V4 p
sole4 text before after n a p cut reads made (V4 q) is =
    let some : Some p ≡ Some q = (made q).1 (numbers4 text before after n a cut reads q is) in cc
sole4 text before after n a p cut reads made (V6 q) is = absurd (other4 text before after n a cut reads q is)

pub read4 : (text before after : List ℕ) (n a : ℕ) (p : Ipv4Prefix) → IsCut text before after n → ((b : ℕ) → (Some a ≡ Some b) ↔ IsIpv4Address before b) → ((q : Ipv4Prefix) → (Some p ≡ Some q) ↔ ((q.length ≡ n) × (q.address ≡ network 32 n a))) → (q : Prefix) → (Some (V4 p) ≡ Some q) ↔ IsTextOf text q
read4 text before after n a p cut reads made =
    given (IsTextOf text) _ (V4 p) refl (made4 text before after n a p cut reads made) (sole4 text before after n a p cut reads made)

-- an IPv6 address is read: the text is of no other prefix than those of the address and the length
numbers6 : (text before after : List ℕ) (n a : ℕ) → IsCut text before after n → ((b : ℕ) → (Some a ≡ Some b) ↔ IsIpv6Address before b) → (p : Ipv6Prefix) → IsTextOf text (V6 p) → (p.length ≡ n) × (p.address ≡ network 128 n a)
numbers6 text before after n a cut reads p is =
    let read : ReadsAs before after (V6 p) = reads_text text before after cut.slashed (V6 p) is in
    let length : p.length ≡ n = octet_value after p.length n read.length cut.length in
    let some : Some a ≡ Some read.host = (reads read.host).1 read.written in
    let host : a ≡ read.host = cc in
    (length, read.value ∙ ap (λ k. network 128 k read.host) length ∙ ap (λ h. network 128 n h) (sym host))

other6 : (text before after : List ℕ) (n a : ℕ) → IsCut text before after n → ((b : ℕ) → (Some a ≡ Some b) ↔ IsIpv6Address before b) → (p : Ipv4Prefix) → IsTextOf text (V4 p) → ⊥
other6 text before after n a cut reads p is =
    let read : ReadsAs before after (V4 p) = reads_text text before after cut.slashed (V4 p) is in
    one_family before read.host a read.written ((reads a).0 refl)

pub too_long6 : (text before after : List ℕ) (n a : ℕ) → IsCut text before after n → ((b : ℕ) → (Some a ≡ Some b) ↔ IsIpv6Address before b) → ((p : Ipv6Prefix) → (None ≡ Some p) ↔ ((p.length ≡ n) × (p.address ≡ network 128 n a))) → (p : Prefix) → IsTextOf text p → ⊥
too_long6 text before after n a cut reads long (V6 p) is =
    let none : None ≡ Some p = (long p).1 (numbers6 text before after n a cut reads p is) in cc
too_long6 text before after n a cut reads long (V4 p) is = other6 text before after n a cut reads p is

made6 : (text before after : List ℕ) (n a : ℕ) (p : Ipv6Prefix) → IsCut text before after n → ((b : ℕ) → (Some a ≡ Some b) ↔ IsIpv6Address before b) → ((q : Ipv6Prefix) → (Some p ≡ Some q) ↔ ((q.length ≡ n) × (q.address ≡ network 128 n a))) → IsTextOf text (V6 p)
made6 text before after n a p cut reads made =
    let numbers : (p.length ≡ n) × (p.address ≡ network 128 n a) = (made p).0 refl in
    text_of_read IsIpv6Address 128 text before after p.address p.length cut.slashed (record {
      host = a;
      written = (reads a).0 refl;
      length = subst (IsOctet after) (sym numbers.0) cut.length;
      value = numbers.1 ∙ ap (λ k. network 128 k a) (sym numbers.0);
    })

sole6 : (text before after : List ℕ) (n a : ℕ) (p : Ipv6Prefix) → IsCut text before after n → ((b : ℕ) → (Some a ≡ Some b) ↔ IsIpv6Address before b) → ((q : Ipv6Prefix) → (Some p ≡ Some q) ↔ ((q.length ≡ n) × (q.address ≡ network 128 n a))) → (q : Prefix) → IsTextOf text q → q ≡ V6 p
sole6 text before after n a p cut reads made (V6 q) is =
    let some : Some p ≡ Some q = (made q).1 (numbers6 text before after n a cut reads q is) in cc
sole6 text before after n a p cut reads made (V4 q) is = absurd (other6 text before after n a cut reads q is)

pub read6 : (text before after : List ℕ) (n a : ℕ) (p : Ipv6Prefix) → IsCut text before after n → ((b : ℕ) → (Some a ≡ Some b) ↔ IsIpv6Address before b) → ((q : Ipv6Prefix) → (Some p ≡ Some q) ↔ ((q.length ≡ n) × (q.address ≡ network 128 n a))) → (q : Prefix) → (Some (V6 p) ≡ Some q) ↔ IsTextOf text q
read6 text before after n a p cut reads made =
    given (IsTextOf text) _ (V6 p) refl (made6 text before after n a p cut reads made) (sole6 text before after n a p cut reads made)
