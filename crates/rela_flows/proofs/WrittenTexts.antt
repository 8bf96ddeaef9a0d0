-- Texts write what their functions give.
use Rattle.std.proofs.Common.{◌≡◌, ◌↔◌, ℕ, zero, suc, ◌+◌, ◌-◌, ◌^◌, ◌<◌, ◌≤◌, ◌⊎◌, ◌&&◌, ◌==◌, Bool, true, false, nat_lt, nat_le, Option, None, Some, List, [], ◌∷◌, ◌++◌, length, get_or, take, drop, replicate, refl, sym, ap, ◌∙◌, subst, inl, inr, arith, eq-eqb}
use Rattle.std.specs.Prelude.{if◌then◌else◌, option_map, slice_index}
use Rattle.std.specs.Char.{digit_value}
use Rattle.std.specs.Fmt.{decimal}
use Rattle.std.specs.Int.Digits.{number_from_digits}
use Rattle.std.specs.List.{AllZip, after_first, before_first, list_all, position_or_len}
use Rattle.std.specs.Option.{option_and_then}
use Rattle.std.specs.Str.{bytes_eq}
use Rattle.std.specs.Str.Parse.{AllDigits, digits_value}
use Rattle.std.proofs.lemmas.Bool.{and_from, and_parts, cases_lt, eqb-true, leb-true, le-leb, lt-ltb, ltb-false, ltb-true}
use Rattle.std.proofs.lemmas.List.Splits.{slice_split_first, slice_split_none}
use Rattle.std.proofs.lemmas.List.Sums.{fails_before_first}
use Rattle.std.proofs.lemmas.Slice.Eq.{bytes_eq-Decides}
use Rattle.rela_flows.specs.Fields.{IsField, IsGap, bits_of, separator_of}
use Rattle.rela_flows.specs.Network.{network}
use Rattle.rela_flows.specs.Notation.{IsFields, IsGroup, IsIpv4Address, IsIpv6Address, IsOctet, IsTextOf}
use Rattle.rela_flows.specs.Written.{address_by, address_round, field_of, filled, gap_of, if_so, ipv4_made, ipv4_of, ipv4_prefix, ipv6_by, ipv6_made, ipv6_of, ipv6_prefix, is_group, is_octet, numbers_in, numbers_of, parts_in, prefix_at, prefix_by, prefix_of}
use Rattle.rela_flows.specs.declared.prefix.Ipv4Prefix.{Ipv4Prefix}
use Rattle.rela_flows.specs.declared.prefix.Ipv6Prefix.{Ipv6Prefix}
use Rattle.rela_flows.specs.declared.prefix.Prefix.TheVariants.{V4, V6}
use Rattle.rela_flows.specs.declared.prefix.reading.Notation.{Notation}
use Rattle.rela_flows.specs.declared.prefix.reading.Notation.TheVariants.{Dotted, Colons}
use Rattle.rela_flows.proofs.Exactly.{given, refused}
use Rattle.rela_flows.proofs.FieldRuns.{joined_parts, parts_of_joined}
use Rattle.rela_flows.proofs.Gaps.{around_gap, short_at, short_gap, short_left, short_right, whole_no_gap}
use Rattle.rela_flows.proofs.Ipv6Addresses.{IsFirstGap}
use Rattle.rela_flows.proofs.Numerals.{numeral_of_octet}
use Rattle.rela_flows.proofs.PrefixTexts.{IsCut, IsSlashed, no_address, no_length, no_slash, read4, read6, too_long4, too_long6}
use Rattle.rela_flows.proofs.SamePrefix.{only4, only6}

-- the option holds exactly the value of the relation
abbrev Exact : {V : Type 0} → Option V → (V → Type 0) → Type 0
Exact {V} o R = (v : V) → (o ≡ Some v) ↔ R v

not_none : {V : Type 0} (o : Option V) (v : V) → o ≡ None → o ≡ Some v → ⊥
not_none o v none some = absurd (cc)

clash : (b : Bool) → b ≡ true → b ≡ false → ⊥
clash b yes_it no_it = absurd (cc)

-- where a test decides, and a value is the only one
when : {V : Type 0} (b : Bool) (w : V) (R : V → Type 0) → (b ≡ true → R w) → ((v : V) → R v → (b ≡ true) × (v ≡ w)) → Exact (if_so b w) R
when true w R holds only = given R (Some w) w refl (holds refl) (λ v is. (only v is).1)
when false w R holds only = refused R None refl (λ v is. clash false (only v is).0 refl)

-- a function of what an option holds
exact_then : {A B : Type 0} (o : Option A) (f : A → Option B) (R : A → Type 0) → Exact o R → Exact (option_and_then f o) (λ v. (x : A) × R x × (f x ≡ Some v))
exact_then None f R exact v = ((λ e. absurd (cc)), λ (x, is, e). absurd (not_none None x refl ((exact x).1 is)))
exact_then {A} (Some w) f R exact v = (
  (λ e. (w, (exact w).0 refl, e)),
  λ (x, is, e). let held : Some w ≡ Some x = (exact x).1 is in let same : w ≡ x = cc in ap f same ∙ e,
)

exact_as : {V : Type 0} (o : Option V) (R S : V → Type 0) → Exact o R → ((v : V) → R v ↔ S v) → Exact o S
exact_as o R S exact same v = ((λ e. (same v).0 ((exact v).0 e)), λ is. (exact v).1 ((same v).1 is))

-- ---- fields

octet_is : (text : List ℕ) → Exact (field_of Dotted text) (IsOctet text)
octet_is text =
    let n : ℕ = digits_value 10 text in
    when (is_octet text) n (IsOctet text)
    (λ e. let both = and_parts (nat_lt n 256) (bytes_eq text (decimal n)) e in record { fits = ltb-true n 256 both.0; written = (bytes_eq-Decides text (decimal n)).0 both.1 })
    (λ v is.
    let same : v ≡ n = (numeral_of_octet text v is).2 in
    (and_from (nat_lt n 256) (bytes_eq text (decimal n)) (lt-ltb n 256 (omega (arith, is.fits, same))) ((bytes_eq-Decides text (decimal n)).1 (is.written ∙ ap decimal same)), same))

abbrev are_digits : List ℕ → Bool
are_digits text = list_all (λ c. nat_lt (digit_value c) 16) text

digits_are : (text : List ℕ) → are_digits text ≡ true → AllDigits 16 text
digits_are [] e = tt
digits_are (c ∷ cs) e = let both = and_parts (nat_lt (digit_value c) 16) (are_digits cs) e in (ltb-true (digit_value c) 16 both.0, digits_are cs both.1)

are_all_digits : (text : List ℕ) → AllDigits 16 text → are_digits text ≡ true
are_all_digits [] all = refl
are_all_digits (c ∷ cs) all = and_from (nat_lt (digit_value c) 16) (are_digits cs) (lt-ltb (digit_value c) 16 all.0) (are_all_digits cs all.1)

group_is : (text : List ℕ) → Exact (field_of Colons text) (IsGroup text)
group_is text =
    when (is_group text) (digits_value 16 text) (IsGroup text)
    (λ e.
    let one = and_parts (nat_lt 0 (length text)) (nat_le (length text) 4 && are_digits text) e in
    let two = and_parts (nat_le (length text) 4) (are_digits text) one.1 in
    record { numeral = (ltb-true 0 (length text) one.0, digits_are text two.1); short = leb-true (length text) 4 two.0; value = refl })
    (λ v is. (
      and_from (nat_lt 0 (length text)) (nat_le (length text) 4 && are_digits text) (lt-ltb 0 (length text) is.numeral.0)
          (and_from (nat_le (length text) 4) (are_digits text) (le-leb (length text) 4 is.short) (are_all_digits text is.numeral.1)),
      is.value,
    ))

field_is : (notation : Notation) (text : List ℕ) → Exact (field_of notation text) (IsField notation text)
field_is Dotted = octet_is
field_is Colons = group_is

numbers_are : (notation : Notation) (parts : List (List ℕ)) → Exact (numbers_of notation parts) (AllZip (IsField notation) parts)
numbers_are notation [] = none
  where
    none : Exact (numbers_of notation []) (AllZip (IsField notation) [])
    none [] = ((λ e. tt), λ each. refl)
    none (n ∷ ns) = ((λ e. absurd (cc)), λ each. absurd each)
numbers_are notation (part ∷ parts) = by (field_of notation part) (numbers_of notation parts) (field_is notation part) (numbers_are notation parts)
  where
    never : (ns : List ℕ) → AllZip (IsField notation) (part ∷ parts) ns → (n : ℕ) × IsField notation part n × (ms : List ℕ) × AllZip (IsField notation) parts ms × (ns ≡ n ∷ ms)
    never [] each = absurd each
    never (n ∷ ns) each = (n, each.0, ns, each.1, refl)

    by : (o : Option ℕ) (p : Option (List ℕ)) → Exact o (IsField notation part) → Exact p (AllZip (IsField notation) parts) → Exact (option_and_then (λ n. option_map (λ ns. n ∷ ns) p) o) (AllZip (IsField notation) (part ∷ parts))
    by None p first rest = refused (AllZip (IsField notation) (part ∷ parts)) None refl (λ ns each. let is = never ns each in not_none None is.0 refl ((first is.0).1 is.1))
    by (Some n) None first rest = refused (AllZip (IsField notation) (part ∷ parts)) None refl (λ ns each. let is = never ns each in not_none None is.2 refl ((rest is.2).1 is.3))
    by (Some n) (Some ms) first rest = given (AllZip (IsField notation) (part ∷ parts)) (Some (n ∷ ms)) (n ∷ ms) refl ((first n).0 refl, (rest ms).0 refl)
        (λ ns each.
        let is = never ns each in
        let one : Some n ≡ Some is.0 = (first is.0).1 is.1 in
        let two : Some ms ≡ Some is.2 = (rest is.2).1 is.3 in
        let head : is.0 ≡ n = cc in
        let tail : is.2 ≡ ms = cc in
        is.4 ∙ ap (λ x. x ∷ is.2) head ∙ ap (λ xs. n ∷ xs) tail)

numbers_in_are : (notation : Notation) (text : List ℕ) → Exact (numbers_in notation text) (IsFields (separator_of notation) (IsField notation) text)
numbers_in_are notation text = exact_as (numbers_in notation text) (AllZip (IsField notation) (parts_in (separator_of notation) text)) (IsFields (separator_of notation) (IsField notation) text) (numbers_are notation (parts_in (separator_of notation) text))
    (λ ns. (
      (λ each. record { fields = parts_in (separator_of notation) text; joined = joined_parts (separator_of notation) text; each = each }),
      λ is.
          let parts : parts_in (separator_of notation) text ≡ is.fields = ap (parts_in (separator_of notation)) is.joined ∙ parts_of_joined notation is.fields ns is.each in
          subst (λ ps. AllZip (IsField notation) ps ns) (sym parts) is.each,
    ))

-- ---- addresses

-- the text is so many fields, which write the address
record IsBy (notation : Notation) (many : ℕ) (text : List ℕ) (a : ℕ) : Type 0 where
  numbers : List ℕ
  written : IsFields (separator_of notation) (IsField notation) text numbers
  count : length numbers ≡ many
  value : a ≡ number_from_digits (2 ^ bits_of notation) numbers

so_many : (many base : ℕ) (ns : List ℕ) → Exact (if_so (length ns == many) (number_from_digits base ns)) (λ a. (length ns ≡ many) × (a ≡ number_from_digits base ns))
so_many many base ns = when (length ns == many) (number_from_digits base ns) (λ a. (length ns ≡ many) × (a ≡ number_from_digits base ns))
    (λ e. (eqb-true (length ns) many e, refl)) (λ a is. (eq-eqb (length ns) many is.0, is.1))

address_is : (notation : Notation) (many : ℕ) (text : List ℕ) → Exact (address_by notation many text) (IsBy notation many text)
address_is notation many text =
    let base : ℕ = 2 ^ bits_of notation in
    let made : List ℕ → Option ℕ = λ ns. if_so (length ns == many) (number_from_digits base ns) in
    let Fields : List ℕ → Type 0 = IsFields (separator_of notation) (IsField notation) text in
    exact_as (address_by notation many text) (λ a. (ns : List ℕ) × Fields ns × (made ns ≡ Some a)) (IsBy notation many text) (exact_then (numbers_in notation text) made Fields (numbers_in_are notation text))
    (λ a. (
      (λ (ns, written, e). let is = (so_many many base ns a).0 e in record { numbers = ns; written = written; count = is.0; value = is.1 }),
      λ is. (is.numbers, is.written, (so_many many base is.numbers a).1 (is.count, is.value)),
    ))

ipv4_is : (text : List ℕ) → Exact (ipv4_of text) (IsIpv4Address text)
ipv4_is text = exact_as (ipv4_of text) (IsBy Dotted 4 text) (IsIpv4Address text) (address_is Dotted 4 text)
    (λ a. (
      (λ is. record { octets = is.numbers; written = is.written; four = is.count; value = is.value }),
      λ is. record { numbers = is.octets; written = is.written; count = is.four; value = is.value },
    ))

-- ---- the first gap

abbrev IsGapOf : List ℕ → Option ℕ → Type 0
IsGapOf text None = (k : ℕ) → ¬ IsGap text k
IsGapOf text (Some gap) = IsFirstGap text gap

one_on : (k : ℕ) → suc k + 1 ≡ suc (k + 1)
one_on k = omega arith

gap_behind : (c : ℕ) (cs : List ℕ) (k : ℕ) → IsGap (c ∷ cs) (suc k) → IsGap cs k
gap_behind c cs k gap = record { first = gap.first; second = ap (λ j. get_or (c ∷ cs) j 0) (sym (one_on k)) ∙ gap.second }

gap_before : (c : ℕ) (cs : List ℕ) (k : ℕ) → IsGap cs k → IsGap (c ∷ cs) (suc k)
gap_before c cs k gap = record { first = gap.first; second = ap (λ j. get_or (c ∷ cs) j 0) (one_on k) ∙ gap.second }

gap_is : (text : List ℕ) → IsGapOf text (gap_of text)
gap_is [] = λ k gap. let colon = gap.first in omega (arith, colon)
gap_is (c ∷ cs) = by (c == 58 && slice_index cs 0 == 58) refl (gap_of cs) (gap_is cs)
  where
    not_here : (c == 58 && slice_index cs 0 == 58) ≡ false → IsGap (c ∷ cs) 0 → ⊥
    not_here e gap = clash (c == 58 && slice_index cs 0 == 58) (and_from (c == 58) (slice_index cs 0 == 58) (eq-eqb c 58 gap.first) (eq-eqb (slice_index cs 0) 58 gap.second)) e

    by : (b : Bool) → (c == 58 && slice_index cs 0 == 58) ≡ b → (o : Option ℕ) → IsGapOf cs o → IsGapOf (c ∷ cs) (if b then Some 0 else option_map suc o)
    by true e o told =
        let both = and_parts (c == 58) (slice_index cs 0 == 58) e in
        record { gap = record { first = eqb-true c 58 both.0; second = eqb-true (slice_index cs 0) 58 both.1 }; first = λ k lt gap. omega (arith, lt) }
    by false e None none = after
      where
        after : (k : ℕ) → ¬ IsGap (c ∷ cs) k
        after zero gap = not_here e gap
        after (suc k) gap = none k (gap_behind c cs k gap)
    by false e (Some i) is = record { gap = gap_before c cs i is.gap; first = earlier }
      where
        earlier : (k : ℕ) → k < suc i → ¬ IsGap (c ∷ cs) k
        earlier zero lt gap = not_here e gap
        earlier (suc k) lt gap = is.first k (omega (arith, lt)) (gap_behind c cs k gap)

-- ---- IPv6 addresses

filled_is : (left right : List ℕ) → Exact (filled left right) (λ a. (length left + length right < 8) × (a ≡ number_from_digits (2 ^ 16) (left ++ replicate (8 - (length left + length right)) 0 ++ right)))
filled_is left right =
    let count : ℕ = length left + length right in
    let n : ℕ = number_from_digits (2 ^ 16) (left ++ replicate (8 - count) 0 ++ right) in
    when (nat_lt count 8) n (λ a. (count < 8) × (a ≡ n)) (λ e. (ltb-true count 8 e, refl)) (λ a is. (lt-ltb count 8 is.0, is.1))

-- groups before and after the gap, and the address that they write
record IsRound (before after : List ℕ) (a : ℕ) : Type 0 where
  left : List ℕ
  right : List ℕ
  left_written : IsFields 58 IsGroup before left
  right_written : IsFields 58 IsGroup after right
  few : length left + length right < 8
  value : a ≡ number_from_digits (2 ^ 16) (left ++ replicate (8 - (length left + length right)) 0 ++ right)

round_is : (before after : List ℕ) → Exact (address_round before after) (IsRound before after)
round_is before after =
    let Left : List ℕ → Type 0 = IsFields 58 IsGroup before in
    let Right : List ℕ → Type 0 = IsFields 58 IsGroup after in
    let made : List ℕ → Option ℕ = λ left. option_and_then (filled left) (numbers_in Colons after) in
    exact_as (address_round before after) (λ a. (left : List ℕ) × Left left × (made left ≡ Some a)) (IsRound before after) (exact_then (numbers_in Colons before) made Left (numbers_in_are Colons before))
    (λ a. (
      (λ (left, written, e).
          let inner = (exact_then (numbers_in Colons after) (filled left) Right (numbers_in_are Colons after) a).0 e in
          let is = (filled_is left inner.0 a).0 inner.2 in
          record { left = left; right = inner.0; left_written = written; right_written = inner.1; few = is.0; value = is.1 }),
      λ is. (is.left, is.left_written, (exact_then (numbers_in Colons after) (filled is.left) Right (numbers_in_are Colons after) a).1 (is.right, is.right_written, (filled_is is.left is.right a).1 (is.few, is.value))),
    ))

whole_is : (text : List ℕ) → ((k : ℕ) → ¬ IsGap text k) → Exact (address_by Colons 8 text) (IsIpv6Address text)
whole_is text none = exact_as (address_by Colons 8 text) (IsBy Colons 8 text) (IsIpv6Address text) (address_is Colons 8 text) (λ a. ((λ is. inl (record { groups = is.numbers; written = is.written; eight = is.count; value = is.value })), back a))
  where
    back : (a : ℕ) → IsIpv6Address text a → IsBy Colons 8 text a
    back a (inl is) = record { numbers = is.groups; written = is.written; count = is.eight; value = is.value }
    back a (inr is) = absurd (none (length is.left_text) (short_gap text a is))

short_is : (text : List ℕ) (i : ℕ) → IsFirstGap text i → Exact (address_round (take i text) (drop (i + 2) text)) (IsIpv6Address text)
short_is text i gap = exact_as (address_round (take i text) (drop (i + 2) text)) (IsRound (take i text) (drop (i + 2) text)) (IsIpv6Address text) (round_is (take i text) (drop (i + 2) text))
    (λ a. (
      (λ is. inr (record {
        left = is.left;
        right = is.right;
        zeros = 8 - (length is.left + length is.right);
        left_text = take i text;
        right_text = drop (i + 2) text;
        left_written = is.left_written;
        right_written = is.right_written;
        some = omega (arith, is.few);
        eight = omega (arith, is.few);
        joined = around_gap text i gap.gap;
        value = is.value;
      })),
      back a,
    ))
  where
    back : (a : ℕ) → IsIpv6Address text a → IsRound (take i text) (drop (i + 2) text) a
    back a (inl is) = absurd (whole_no_gap text a i is gap.gap)
    back a (inr is) =
        let at : length is.left_text ≡ i = short_at text a i is gap.gap gap.first in
        let zeros : is.zeros ≡ 8 - (length is.left + length is.right) = omega (arith, is.eight) in
        record {
          left = is.left;
          right = is.right;
          left_written = subst (λ t. IsFields 58 IsGroup t is.left) (sym (short_left text a i is at)) is.left_written;
          right_written = subst (λ t. IsFields 58 IsGroup t is.right) (sym (short_right text a i is at)) is.right_written;
          few = omega (arith, is.eight, is.some);
          value = is.value ∙ ap (λ k. number_from_digits (2 ^ 16) (is.left ++ replicate k 0 ++ is.right)) zeros;
        }

ipv6_is : (text : List ℕ) → Exact (ipv6_of text) (IsIpv6Address text)
ipv6_is text = by (gap_of text) (gap_is text)
  where
    by : (o : Option ℕ) → IsGapOf text o → Exact (ipv6_by text o) (IsIpv6Address text)
    by None none = whole_is text none
    by (Some i) gap = short_is text i gap

-- ---- prefixes

ipv4_prefix_is : (a n : ℕ) → Exact (ipv4_prefix a n) (λ p. (p.length ≡ n) × (p.address ≡ network 32 n a))
ipv4_prefix_is a n = by (cases_lt 32 n) (cases_lt (network 32 n a) (2 ^ 32))
  where
    by : (s : (32 < n) ⊎ (n ≤ 32)) (t : (network 32 n a < 2 ^ 32) ⊎ (2 ^ 32 ≤ network 32 n a)) → Exact (ipv4_made a n s t) (λ p. (p.length ≡ n) × (p.address ≡ network 32 n a))
    by (inl long) t = refused (λ p. (p.length ≡ n) × (p.address ≡ network 32 n a)) None refl (λ p is. omega (arith, p.length_fits, is.0))
    by (inr short) (inl fits) = only4 _ a n refl refl
    by (inr short) (inr over) = refused (λ p. (p.length ≡ n) × (p.address ≡ network 32 n a)) None refl (λ p is. omega (arith, p.address_fits, is.1))

ipv6_prefix_is : (a n : ℕ) → Exact (ipv6_prefix a n) (λ p. (p.length ≡ n) × (p.address ≡ network 128 n a))
ipv6_prefix_is a n = by (cases_lt 128 n) (cases_lt (network 128 n a) (2 ^ 128))
  where
    by : (s : (128 < n) ⊎ (n ≤ 128)) (t : (network 128 n a < 2 ^ 128) ⊎ (2 ^ 128 ≤ network 128 n a)) → Exact (ipv6_made a n s t) (λ p. (p.length ≡ n) × (p.address ≡ network 128 n a))
    by (inl long) t = refused (λ p. (p.length ≡ n) × (p.address ≡ network 128 n a)) None refl (λ p is. omega (arith, p.length_fits, is.0))
    by (inr short) (inl fits) = only6 _ a n refl refl
    by (inr short) (inr over) = refused (λ p. (p.length ≡ n) × (p.address ≡ network 128 n a)) None refl (λ p is. omega (arith, p.address_fits, is.1))

-- the text of a prefix is cut at its first slash, and what stands behind it is the length
made4_is : (text before after : List ℕ) (n a : ℕ) → IsCut text before after n → ((b : ℕ) → (Some a ≡ Some b) ↔ IsIpv4Address before b) → (o : Option Ipv4Prefix) → Exact o (λ p. (p.length ≡ n) × (p.address ≡ network 32 n a)) → Exact (option_map V4 o) (IsTextOf text)
made4_is text before after n a cut law None made = refused (IsTextOf text) None refl (too_long4 text before after n a cut law made)
made4_is text before after n a cut law (Some p) made = read4 text before after n a p cut law made

made6_is : (text before after : List ℕ) (n a : ℕ) → IsCut text before after n → ((b : ℕ) → (Some a ≡ Some b) ↔ IsIpv6Address before b) → (o : Option Ipv6Prefix) → Exact o (λ p. (p.length ≡ n) × (p.address ≡ network 128 n a)) → Exact (option_map V6 o) (IsTextOf text)
made6_is text before after n a cut law None made = refused (IsTextOf text) None refl (too_long6 text before after n a cut law made)
made6_is text before after n a cut law (Some p) made = read6 text before after n a p cut law made

prefix_at_is : (text before after : List ℕ) (n : ℕ) → IsCut text before after n → (o other : Option ℕ) → Exact o (IsIpv4Address before) → Exact other (IsIpv6Address before) → Exact (prefix_at o other n) (IsTextOf text)
prefix_at_is text before after n cut (Some a) other four six = made4_is text before after n a cut four (ipv4_prefix a n) (ipv4_prefix_is a n)
prefix_at_is text before after n cut None (Some a) four six = made6_is text before after n a cut six (ipv6_prefix a n) (ipv6_prefix_is a n)
prefix_at_is text before after n cut None None four six = refused (IsTextOf text) None refl (no_address text before after n cut four six)

length_is : (text before after : List ℕ) → IsSlashed text before after → (o : Option ℕ) → Exact o (IsOctet after) → Exact (option_and_then (prefix_at (ipv4_of before) (ipv6_of before)) o) (IsTextOf text)
length_is text before after slashed None law = refused (IsTextOf text) None refl (no_length text before after slashed law)
length_is text before after slashed (Some n) law = prefix_at_is text before after n (record { slashed = slashed; length = (law n).0 refl }) (ipv4_of before) (ipv6_of before) (ipv4_is before) (ipv6_is before)

-- a text writes the prefix that the function gives, and no other
pub prefix_is : (text : List ℕ) → Exact (prefix_of text) (IsTextOf text)
unfolding prefix_of
prefix_is text = by (nat_lt slash_at (length text)) refl
  where
    slash_at : ℕ
    slash_at = position_or_len (λ b. b == 47) text

    by : (b : Bool) → nat_lt slash_at (length text) ≡ b → Exact (if b then prefix_by (before_first (λ b. b == 47) text) (after_first (λ b. b == 47) text) else None) (IsTextOf text)
    by true e =
        let before : List ℕ = before_first (λ b. b == 47) text in
        let after : List ℕ = after_first (λ b. b == 47) text in
        length_is text before after (slice_split_first (λ b. b == 47) text 0 (ltb-true slash_at (length text) e)) (field_of Dotted after) (octet_is after)
    by false e =
        let past : length text ≤ slash_at = ltb-false slash_at (length text) e in
        refused (IsTextOf text) None refl (no_slash text text None refl (slice_split_none (λ b. b == 47) text (λ k d lt. fails_before_first (λ b. b == 47) text k d (omega (arith, lt, past)))))
