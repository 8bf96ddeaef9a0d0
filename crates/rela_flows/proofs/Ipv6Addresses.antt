-- IPv6 addresses from their groups.
use Rattle.std.proofs.Common.{◌≡◌, ◌↔◌, ℕ, ◌+◌, ◌-◌, ◌*◌, ◌^◌, ◌<◌, ◌≤◌, List, ◌++◌, length, take, drop, replicate, Option, Some, None, refl, sym, ◌∙◌, ap, subst, inl, inr, lit<, bit_or, arith}
use Rattle.std.specs.Int.Digits.{number_from_digits}
use Rattle.std.proofs.lemmas.Nat.{or_shifted, shl_below}
use Rattle.std.proofs.Math.Nat.{pow-le-pow_right}
use Rattle.rela_flows.specs.declared.prefix.reading.Notation.TheVariants.{Colons}
use Rattle.rela_flows.specs.declared.prefix.reading.Fields.{Fields}
use Rattle.rela_flows.specs.Notation.{IsIpv6Address, IsWholeIpv6Address, IsShortIpv6Address}
use Rattle.rela_flows.specs.Fields.{Write, IsGap}
use Rattle.rela_flows.proofs.Addresses.{write_fits}
use Rattle.rela_flows.proofs.Gaps.{whole_no_gap, short_gap, short_at, short_left, short_right, around_gap}
use Rattle.rela_flows.proofs.Elided.{number_elided, power_of_power}

abbrev pub Reads : List ℕ → Option Fields → Type 0
Reads text r = (fields : Fields) → (r ≡ Some fields) ↔ Write Colons text fields

abbrev pub NoGap : List ℕ → Type 0
NoGap text = (k : ℕ) → ¬ IsGap text k

abbrev pub run_of : ℕ → ℕ → Fields
run_of n a = record { count = n; number = a }

-- ---- all eight groups

write_of_whole : (text : List ℕ) (a : ℕ) → IsWholeIpv6Address text a → Write Colons text (run_of 8 a)
write_of_whole text a whole = record {
  numbers = whole.groups;
  written = whole.written;
  few = omega (arith, whole.eight);
  count = sym whole.eight;
  number = whole.value;
}

whole_of_write : (text : List ℕ) (fields : Fields) → Write Colons text fields → fields.count ≡ 8 → IsWholeIpv6Address text fields.number
whole_of_write text fields write count = record {
  groups = write.numbers;
  written = write.written;
  eight = sym write.count ∙ count;
  value = write.number;
}

-- a text with no gap is whole
no_short : (text : List ℕ) (a : ℕ) → NoGap text → IsIpv6Address text a → IsWholeIpv6Address text a
no_short text a no_gap (inl whole) = whole
no_short text a no_gap (inr short) = absurd (no_gap (length short.left_text) (short_gap text a short))

pub whole_refused : (text : List ℕ) → NoGap text → Reads text None → (a : ℕ) → IsIpv6Address text a → ⊥
whole_refused text no_gap reads a is =
    let none : None ≡ Some (run_of 8 a) = (reads (run_of 8 a)).1 (write_of_whole text a (no_short text a no_gap is)) in cc

pub whole_only : (text : List ℕ) (fields : Fields) → NoGap text → Reads text (Some fields) → (a : ℕ) → IsIpv6Address text a → fields ≡ run_of 8 a
whole_only text fields no_gap reads a is =
    let some : Some fields ≡ Some (run_of 8 a) = (reads (run_of 8 a)).1 (write_of_whole text a (no_short text a no_gap is)) in cc

pub whole_read : (text : List ℕ) (fields : Fields) → Reads text (Some fields) → fields.count ≡ 8 → IsIpv6Address text fields.number
whole_read text fields reads count = inl (whole_of_write text fields ((reads fields).0 refl) count)

-- ---- fewer groups round a gap

-- the first gap of a text
pub record IsFirstGap (text : List ℕ) (i : ℕ) : Type 0 where
  pub gap : IsGap text i
  pub first : (k : ℕ) → k < i → ¬ IsGap text k

-- a text with a gap is short
only_short : (text : List ℕ) (a i : ℕ) → IsGap text i → IsIpv6Address text a → IsShortIpv6Address text a
only_short text a i gap (inl whole) = absurd (whole_no_gap text a i whole gap)
only_short text a i gap (inr short) = short

pub left_run : (text : List ℕ) (a i : ℕ) → IsFirstGap text i → IsIpv6Address text a → (short : IsShortIpv6Address text a) × Write Colons (take i text) (run_of (length short.left) (number_from_digits (2 ^ 16) short.left)) × Write Colons (drop (i + 2) text) (run_of (length short.right) (number_from_digits (2 ^ 16) short.right))
left_run text a i at is =
    let short : IsShortIpv6Address text a = only_short text a i at.gap is in
    let ends : length short.left_text ≡ i = short_at text a i short at.gap at.first in (
      short,
      rw (short_left text a i short ends) (record { numbers = short.left; written = short.left_written; few = omega (arith, short.eight); count = refl; number = refl }),
      rw (short_right text a i short ends) (record { numbers = short.right; written = short.right_written; few = omega (arith, short.eight); count = refl; number = refl }),
    )

pub left_refused : (text : List ℕ) (i : ℕ) → IsFirstGap text i → Reads (take i text) None → (a : ℕ) → IsIpv6Address text a → ⊥
left_refused text i at reads a is =
    let run = left_run text a i at is in
    let none : None ≡ Some (run_of (length run.0.left) (number_from_digits (2 ^ 16) run.0.left)) = (reads (run_of (length run.0.left) (number_from_digits (2 ^ 16) run.0.left))).1 run.1 in cc

pub right_refused : (text : List ℕ) (i : ℕ) → IsFirstGap text i → Reads (drop (i + 2) text) None → (a : ℕ) → IsIpv6Address text a → ⊥
right_refused text i at reads a is =
    let run = left_run text a i at is in
    let none : None ≡ Some (run_of (length run.0.right) (number_from_digits (2 ^ 16) run.0.right)) = (reads (run_of (length run.0.right) (number_from_digits (2 ^ 16) run.0.right))).1 run.2 in cc

-- what was read on the left and right are the groups of each short address that the text is
left_is : (text : List ℕ) (a i : ℕ) (left : Fields) (at : IsFirstGap text i) → Reads (take i text) (Some left) → (is : IsIpv6Address text a) → left ≡ run_of (length (left_run text a i at is).0.left) (number_from_digits (2 ^ 16) (left_run text a i at is).0.left)
left_is text a i left at reads is =
    let run = left_run text a i at is in
    let some : Some left ≡ Some (run_of (length run.0.left) (number_from_digits (2 ^ 16) run.0.left)) = (reads (run_of (length run.0.left) (number_from_digits (2 ^ 16) run.0.left))).1 run.1 in cc

right_is : (text : List ℕ) (a i : ℕ) (right : Fields) (at : IsFirstGap text i) → Reads (drop (i + 2) text) (Some right) → (is : IsIpv6Address text a) → right ≡ run_of (length (left_run text a i at is).0.right) (number_from_digits (2 ^ 16) (left_run text a i at is).0.right)
right_is text a i right at reads is =
    let run = left_run text a i at is in
    let some : Some right ≡ Some (run_of (length run.0.right) (number_from_digits (2 ^ 16) run.0.right)) = (reads (run_of (length run.0.right) (number_from_digits (2 ^ 16) run.0.right))).1 run.2 in cc

pub too_many : (text : List ℕ) (i : ℕ) (left right : Fields) → IsFirstGap text i → Reads (take i text) (Some left) → Reads (drop (i + 2) text) (Some right) → 7 < left.count + right.count → (a : ℕ) → IsIpv6Address text a → ⊥
too_many text i left right at reads_left reads_right many a is =
    let short : IsShortIpv6Address text a = (left_run text a i at is).0 in
    let l : left.count ≡ length short.left = ap (λ f. f.count) (left_is text a i left at reads_left is) in
    let r : right.count ≡ length short.right = ap (λ f. f.count) (right_is text a i right at reads_right is) in
    omega (arith, short.eight, short.some)

-- the number of eight groups, some of them zeros between
elided_number : (left right : List ℕ) (z : ℕ) → length left + z + length right ≡ 8 → number_from_digits (2 ^ 16) (left ++ replicate z 0 ++ right) ≡ number_from_digits (2 ^ 16) left * 2 ^ (16 * (8 - length left)) + number_from_digits (2 ^ 16) right
elided_number left right z eight =
    let n : ℕ = number_from_digits (2 ^ 16) left in
    let r : ℕ = number_from_digits (2 ^ 16) right in
    number_elided (2 ^ 16) z left right
    ∙ ap (λ k. n * k + r) (power_of_power 16 (z + length right) ∙ ap (λ k. 2 ^ (16 * k)) (let e : z + length right ≡ 8 - length left = omega arith in e))

-- the groups on the right lie below those on the left
pub joined_number : (right_text : List ℕ) (left right : Fields) → Reads right_text (Some right) → left.count + right.count ≤ 7 → bit_or (left.number * 2 ^ (16 * (8 - left.count))) right.number ≡ left.number * 2 ^ (16 * (8 - left.count)) + right.number
joined_number right_text left right reads few =
    let fits : right.number < (2 ^ 16) ^ right.count = write_fits Colons right_text right ((reads right).0 refl) in
    let power : (2 ^ 16) ^ right.count ≡ 2 ^ (16 * right.count) = power_of_power 16 right.count in
    let room : 2 ^ (16 * right.count) ≤ 2 ^ (16 * (8 - left.count)) = pow-le-pow_right {n = 2} (lit< tt) (let e : 16 * right.count ≤ 16 * (8 - left.count) = omega arith in e) in
    or_shifted left.number (16 * (8 - left.count)) right.number (omega arith)

short_of_writes : (text : List ℕ) (i : ℕ) (left right : Fields) → IsFirstGap text i → Write Colons (take i text) left → Write Colons (drop (i + 2) text) right → left.count + right.count ≤ 7 → IsIpv6Address text (left.number * 2 ^ (16 * (8 - left.count)) + right.number)
short_of_writes text i left right at one two few =
    let zeros : ℕ = 8 - (left.count + right.count) in
    let n : ℕ = number_from_digits (2 ^ 16) one.numbers in
    let eight : length one.numbers + zeros + length two.numbers ≡ 8 = omega (arith, one.count, two.count) in
    inr (record {
      left = one.numbers;
      right = two.numbers;
      zeros = zeros;
      left_text = take i text;
      right_text = drop (i + 2) text;
      left_written = one.written;
      right_written = two.written;
      some = omega arith;
      eight = eight;
      joined = around_gap text i at.gap;
      value = ap (λ m. m * 2 ^ (16 * (8 - left.count)) + right.number) one.number
          ∙ ap (λ k. n * 2 ^ (16 * (8 - k)) + right.number) one.count
          ∙ ap (λ m. n * 2 ^ (16 * (8 - length one.numbers)) + m) two.number
          ∙ sym (elided_number one.numbers two.numbers zeros eight);
    })

pub short_read : (text : List ℕ) (i : ℕ) (left right : Fields) → IsFirstGap text i → Reads (take i text) (Some left) → Reads (drop (i + 2) text) (Some right) → left.count + right.count ≤ 7 → IsIpv6Address text (left.number * 2 ^ (16 * (8 - left.count)) + right.number)
short_read text i left right at reads_left reads_right few =
    short_of_writes text i left right at ((reads_left left).0 refl) ((reads_right right).0 refl) few

pub short_only : (text : List ℕ) (i : ℕ) (left right : Fields) → IsFirstGap text i → Reads (take i text) (Some left) → Reads (drop (i + 2) text) (Some right) → (a : ℕ) → IsIpv6Address text a → a ≡ left.number * 2 ^ (16 * (8 - left.count)) + right.number
short_only text i left right at reads_left reads_right a is =
    let short : IsShortIpv6Address text a = (left_run text a i at is).0 in
    let l = left_is text a i left at reads_left is in
    let r = right_is text a i right at reads_right is in
    short.value ∙ elided_number short.left short.right short.zeros short.eight ∙ sym (ap (λ f. f.number * 2 ^ (16 * (8 - f.count)) + right.number) l ∙ ap (λ f. number_from_digits (2 ^ 16) short.left * 2 ^ (16 * (8 - length short.left)) + f.number) r)

-- the left groups, moved up, still fit
pub left_room : (left_text : List ℕ) (left : Fields) → Reads left_text (Some left) → left.number * 2 ^ (16 * (8 - left.count)) < 2 ^ 128
left_room left_text left reads =
    let one : Write Colons left_text left = (reads left).0 refl in
    let few : left.count ≤ 8 = omega (arith, one.few, one.count) in
    let fits : left.number < 2 ^ (16 * left.count) = subst (λ k. left.number < k) (power_of_power 16 left.count) (write_fits Colons left_text left one) in
    subst (λ k. left.number * 2 ^ (16 * (8 - left.count)) < 2 ^ k) (let e : 16 * left.count + 16 * (8 - left.count) ≡ 128 = omega arith in e) (shl_below left.number (16 * left.count) (16 * (8 - left.count)) fits)

pub few_read : (text : List ℕ) (fields : Fields) → Reads text (Some fields) → fields.count ≤ 8
few_read text fields reads = let write : Write Colons text fields = (reads fields).0 refl in omega (arith, write.few, write.count)
