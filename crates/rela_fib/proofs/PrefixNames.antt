-- The text of a prefix is a name, and prefixes of different addresses have different texts.
use Rattle.std.proofs.Common.{◌≡◌, ◌≢◌, ◌∙◌, refl, sym, ap, ap₂, ℕ, suc, ◌+◌, ◌*◌, ◌/◌, ◌%◌, ◌^◌, ◌<◌, ◌≤◌, true, List, [], ◌∷◌, ◌++◌, length, get_or, decimal, append_assoc, le-leb, shr-shr, arith}
use Rattle.std.specs.List.{All, list_all}
use Rattle.std.specs.Str.Parse.{digits_value}
use Rattle.std.proofs.lemmas.Bool.{and_parts}
use Rattle.std.proofs.lemmas.Fmt.{decimal_is_IsNumeral, length-decimal-le}
use Rattle.std.proofs.lemmas.List.{get_or_default, length-append}
use Rattle.std.proofs.lemmas.List.Elements.{All-head, All-tail}
use Rattle.std.proofs.lemmas.Nat.{shr_split, shr_below}
use Rattle.std.proofs.lemmas.Str.Parse.{digit_at}
use Rattle.rela_names.specs.Name.{is_name, is_name_byte}
use Rattle.rela_flows.specs.Notation.{text_of}
use Rattle.rela_flows.specs.declared.prefix.Ipv4Prefix.{Ipv4Prefix}
use Rattle.rela_flows.specs.declared.prefix.Prefix.TheVariants.{V4}

-- four octets and a length
abbrev written : ℕ → ℕ → ℕ → ℕ → ℕ → List ℕ
written a b c d n = (decimal a ++ 46 ∷ (decimal b ++ 46 ∷ (decimal c ++ 46 ∷ decimal d))) ++ 47 ∷ decimal n

digits_of : (n k : ℕ) → n < 256 → k < length (decimal n) → (48 ≤ get_or (decimal n) k 0) × (get_or (decimal n) k 0 ≤ 57)
digits_of n k lt within = digit_at (decimal n) k (decimal_is_IsNumeral n (omega (arith, lt))).0.1 within

-- ---- names

record IsShort (n : ℕ) (s : List ℕ) : Type 0 where
  few : length s ≤ n
  named : list_all is_name_byte s ≡ true

digit_named : (x : ℕ) → (48 ≤ x) × (x ≤ 57) → is_name_byte x ≡ true
digit_named x h = rw (le-leb 48 x h.0, le-leb x 57 h.1) refl

all_named : (s : List ℕ) → ((k : ℕ) → k < length s → (48 ≤ get_or s k 0) × (get_or s k 0 ≤ 57)) → list_all is_name_byte s ≡ true
all_named [] h = refl
all_named (x ∷ s) h = rw (digit_named x (h 0 (omega arith)), all_named s (λ k lt. h (suc k) (omega (arith, lt)))) refl

decimal_short : (n : ℕ) → n < 256 → IsShort 3 (decimal n)
decimal_short n lt = record { few = length-decimal-le 3 n (omega arith) (omega (arith, lt)) (omega (arith, lt)); named = all_named (decimal n) (λ k within. digits_of n k lt within) }

joined_named : (s t : List ℕ) → list_all is_name_byte s ≡ true → list_all is_name_byte t ≡ true → list_all is_name_byte (s ++ t) ≡ true
joined_named [] t first second = second
joined_named (x ∷ s) t first second = let both = and_parts (is_name_byte x) (list_all is_name_byte s) first in rw (both.0, joined_named s t both.1 second) refl

-- a name byte between two texts
short_join : (m n mark : ℕ) (s t : List ℕ) → is_name_byte mark ≡ true → IsShort m s → IsShort n t → IsShort (m + 1 + n) (s ++ mark ∷ t)
short_join m n mark s t is first second = record {
  few = omega (arith, first.few, second.few, length-append s (mark ∷ t));
  named = joined_named s (mark ∷ t) first.named (rw (is, second.named) refl);
}

named_when_short : (s : List ℕ) → IsShort 19 s → 1 ≤ length s → is_name s ≡ true
named_when_short s short some = rw (le-leb 1 (length s) some, le-leb (length s) 64 (omega (arith, short.few)), short.named) refl

written_named : (a b c d n : ℕ) → a < 256 → b < 256 → c < 256 → d < 256 → n < 256 → is_name (written a b c d n) ≡ true
written_named a b c d n lt_a lt_b lt_c lt_d lt_n =
    let third = short_join 3 3 46 (decimal c) (decimal d) refl (decimal_short c lt_c) (decimal_short d lt_d) in
    let second = short_join 3 7 46 (decimal b) (decimal c ++ 46 ∷ decimal d) refl (decimal_short b lt_b) third in
    let first = short_join 3 11 46 (decimal a) (decimal b ++ 46 ∷ (decimal c ++ 46 ∷ decimal d)) refl (decimal_short a lt_a) second in
    let all : IsShort 19 (written a b c d n) = short_join 15 3 47 (decimal a ++ 46 ∷ (decimal b ++ 46 ∷ (decimal c ++ 46 ∷ decimal d))) (decimal n) refl first (decimal_short n lt_n) in
    named_when_short (written a b c d n) all (omega (arith, length-append (decimal a ++ 46 ∷ (decimal b ++ 46 ∷ (decimal c ++ 46 ∷ decimal d))) (47 ∷ decimal n)))

pub prefix_named : (p : Ipv4Prefix) → is_name (text_of (V4 p)) ≡ true
prefix_named p = written_named (p.address / 2 ^ 24 % 2 ^ 8) (p.address / 2 ^ 16 % 2 ^ 8) (p.address / 2 ^ 8 % 2 ^ 8) (p.address / 2 ^ 0 % 2 ^ 8) p.length (omega arith) (omega arith) (omega arith) (omega arith) (omega (arith, p.length_fits))

-- ---- different texts

cons_same : (x y : ℕ) (xs ys : List ℕ) → x ∷ xs ≡ y ∷ ys → (x ≡ y) × (xs ≡ ys)
cons_same x y xs ys e = (cc, cc)

-- what stands before a mark for the first time, and what stands behind it
cut_same : (mark : ℕ) (s t more others : List ℕ) → All (λ (x : ℕ). x ≢ mark) s → All (λ (x : ℕ). x ≢ mark) t → s ++ mark ∷ more ≡ t ++ mark ∷ others → (s ≡ t) × (more ≡ others)
cut_same mark [] [] more others none_s none_t e = (refl, (cons_same mark mark more others e).1)
cut_same mark [] (y ∷ t) more others none_s none_t e = absurd (All-head (λ (x : ℕ). x ≢ mark) y t none_t (sym (cons_same mark y more (t ++ mark ∷ others) e).0))
cut_same mark (x ∷ s) [] more others none_s none_t e = absurd (All-head (λ (x : ℕ). x ≢ mark) x s none_s (cons_same x mark (s ++ mark ∷ more) others e).0)
cut_same mark (x ∷ s) (y ∷ t) more others none_s none_t e =
    let both = cons_same x y (s ++ mark ∷ more) (t ++ mark ∷ others) e in
    let rest = cut_same mark s t more others (All-tail (λ (x : ℕ). x ≢ mark) x s none_s) (All-tail (λ (x : ℕ). x ≢ mark) y t none_t) both.1 in
    (ap₂ (λ (z : ℕ) (zs : List ℕ). z ∷ zs) both.0 rest.0, rest.1)

decimal_without : (mark n : ℕ) → mark < 48 → n < 256 → All (λ (x : ℕ). x ≢ mark) (decimal n)
decimal_without mark n low lt = λ k d within e. let digits = digits_of n k lt within in omega (arith, digits.0, get_or_default (decimal n) k 0 d within, e, low)

decimal_same : (m n : ℕ) → m < 256 → n < 256 → decimal m ≡ decimal n → m ≡ n
decimal_same m n lt_m lt_n e = sym (decimal_is_IsNumeral m (omega (arith, lt_m))).1 ∙ ap (digits_value 10) e ∙ (decimal_is_IsNumeral n (omega (arith, lt_n))).1

-- the same octet stands before the first dot
octet_same : (m n : ℕ) (s t more others : List ℕ) → m < 256 → n < 256 → (decimal m ++ 46 ∷ s) ++ more ≡ (decimal n ++ 46 ∷ t) ++ others → (m ≡ n) × (s ++ more ≡ t ++ others)
octet_same m n s t more others lt_m lt_n e =
    let cut = cut_same 46 (decimal m) (decimal n) (s ++ more) (t ++ others) (decimal_without 46 m (omega arith) lt_m) (decimal_without 46 n (omega arith) lt_n)
    (sym (append_assoc (decimal m) (46 ∷ s) more) ∙ e ∙ append_assoc (decimal n) (46 ∷ t) others) in
    (decimal_same m n lt_m lt_n cut.0, cut.1)

octets_same : (a b c d n a' b' c' d' n' : ℕ) → a < 256 → b < 256 → c < 256 → d < 256 → a' < 256 → b' < 256 → c' < 256 → d' < 256 → written a b c d n ≡ written a' b' c' d' n' → (a ≡ a') × (b ≡ b') × (c ≡ c') × (d ≡ d')
octets_same a b c d n a' b' c' d' n' lt_a lt_b lt_c lt_d lt_a' lt_b' lt_c' lt_d' e =
    let first = octet_same a a' (decimal b ++ 46 ∷ (decimal c ++ 46 ∷ decimal d)) (decimal b' ++ 46 ∷ (decimal c' ++ 46 ∷ decimal d')) (47 ∷ decimal n) (47 ∷ decimal n') lt_a lt_a' e in
    let second = octet_same b b' (decimal c ++ 46 ∷ decimal d) (decimal c' ++ 46 ∷ decimal d') (47 ∷ decimal n) (47 ∷ decimal n') lt_b lt_b' first.1 in
    let third = octet_same c c' (decimal d) (decimal d') (47 ∷ decimal n) (47 ∷ decimal n') lt_c lt_c' second.1 in
    let fourth = cut_same 47 (decimal d) (decimal d') (decimal n) (decimal n') (decimal_without 47 d (omega arith) lt_d) (decimal_without 47 d' (omega arith) lt_d') third.1 in
    (first.0, second.0, third.0, decimal_same d d' lt_d lt_d' fourth.0)

one_more : (a k b : ℕ) → a / 2 ^ (k + b) * 2 ^ b + a / 2 ^ k % 2 ^ b ≡ a / 2 ^ k
one_more a k b = ap (λ x. x * 2 ^ b + a / 2 ^ k % 2 ^ b) (sym (shr-shr a k b)) ∙ shr_split (a / 2 ^ k) b

octets_number : (a : ℕ) → a < 2 ^ 32 → a ≡ a / 2 ^ 24 % 2 ^ 8 * 2 ^ 24 + a / 2 ^ 16 % 2 ^ 8 * 2 ^ 16 + a / 2 ^ 8 % 2 ^ 8 * 2 ^ 8 + a / 2 ^ 0 % 2 ^ 8
octets_number a small = omega (arith, one_more a 0 8, one_more a 8 8, one_more a 16 8, shr_below a 8 24 small)

pub same_address : (p q : Ipv4Prefix) → text_of (V4 p) ≡ text_of (V4 q) → p.address ≡ q.address
same_address p q e =
    let octets = octets_same
    (p.address / 2 ^ 24 % 2 ^ 8) (p.address / 2 ^ 16 % 2 ^ 8) (p.address / 2 ^ 8 % 2 ^ 8) (p.address / 2 ^ 0 % 2 ^ 8) p.length
    (q.address / 2 ^ 24 % 2 ^ 8) (q.address / 2 ^ 16 % 2 ^ 8) (q.address / 2 ^ 8 % 2 ^ 8) (q.address / 2 ^ 0 % 2 ^ 8) q.length
    (omega arith) (omega arith) (omega arith) (omega arith) (omega arith) (omega arith) (omega arith) (omega arith) e in
    omega (arith, octets_number p.address p.address_fits, octets_number q.address q.address_fits, octets.0, octets.1, octets.2, octets.3)
