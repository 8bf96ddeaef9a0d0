-- Strings that need no escapes.
use Rattle.std.proofs.Common.{◌≡◌, refl, sym, ap₂, subst, ℕ, ◌^◌, ◌<◌, ◌≤◌, ◌⊎◌, inl, inr, leb, Bool, true, ◌&&◌, ◌||◌, ◌==◌, List, [], ◌∷◌, ◌++◌, length, ⊎_elim, arith, decimal}
use Rattle.std.specs.Prelude.{nat_le}
use Rattle.std.specs.List.{All, list_all}
use Rattle.std.specs.Char.{is_ascii_alphanumeric}
use Rattle.std.specs.Int.{is_in_range}
use Rattle.std.proofs.lemmas.Bool.{and_parts, eqb-true, leb-true, or_cases}
use Rattle.std.proofs.lemmas.Fmt.{decimal_is_IsNumeral}
use Rattle.std.proofs.lemmas.Str.Parse.{digit_at}
use Rattle.std.proofs.lemmas.List.{get_or_default}
use Rattle.std.proofs.lemmas.List.Elements.{All-nil, All-cons, All-head, All-tail}
use Rattle.json.specs.Print.{escape}
use Rattle.json.proofs.Printed.Strings.{escape_byte_plain}
use Rattle.rela_names.specs.Name.{IsName, is_name_byte}

-- a byte of ASCII that needs no escape
abbrev pub IsPlain : ℕ → Type 0
IsPlain x = (35 ≤ x) × (x ≡ 92 → ⊥) × (x < 128)

pub plain_escape : (s : List ℕ) → All IsPlain s → escape s ≡ s
plain_escape [] h = refl
plain_escape (x ∷ s) h =
    let p : IsPlain x = All-head IsPlain x s h in
    ap₂ (λ (a b : List ℕ). a ++ b) (escape_byte_plain x (λ e. omega (arith, e, p.0)) p.1 (omega (arith, p.0))) (plain_escape s (All-tail IsPlain x s h))

-- ---- names

in_range_plain : (low high x : ℕ) → 35 ≤ low → high < 128 → (high < 92) ⊎ (92 < low) → is_in_range low high x ≡ true → IsPlain x
in_range_plain low high x from to apart h =
    let p = and_parts (leb low x) (leb x high) h in
    let a : low ≤ x = leb-true low x p.0 in
    let b : x ≤ high = leb-true x high p.1 in (omega (arith, a, from), λ e. ⊎_elim (λ below. omega (arith, b, below, e)) (λ above. omega (arith, a, above, e)) apart, omega (arith, b, to))

letter_plain : (x : ℕ) → is_ascii_alphanumeric x ≡ true → IsPlain x
letter_plain x h = ⊎_elim
    (λ first. ⊎_elim (in_range_plain 48 57 x (omega arith) (omega arith) (inl (omega arith))) (in_range_plain 65 90 x (omega arith) (omega arith) (inl (omega arith))) (or_cases (is_in_range 48 57 x) (is_in_range 65 90 x) first))
    (in_range_plain 97 122 x (omega arith) (omega arith) (inr (omega arith)))
    (or_cases (is_in_range 48 57 x || is_in_range 65 90 x) (is_in_range 97 122 x) h)

mark_plain : (x mark : ℕ) → IsPlain mark → (x == mark) ≡ true → IsPlain x
mark_plain x mark plain h = subst IsPlain (sym (eqb-true x mark h)) plain

name_byte_plain : (x : ℕ) → is_name_byte x ≡ true → IsPlain x
name_byte_plain x h =
    let l : Bool = is_ascii_alphanumeric x in
    let step : (b : Bool) (mark : ℕ) → IsPlain mark → (b ≡ true → IsPlain x) → (b || x == mark) ≡ true → IsPlain x = λ b mark plain rest h. ⊎_elim rest (mark_plain x mark plain) (or_cases b (x == mark) h) in
    step (l || x == 95 || x == 46 || x == 58 || x == 47) 45 (omega arith, λ e. omega (arith, e), omega arith)
    (step (l || x == 95 || x == 46 || x == 58) 47 (omega arith, λ e. omega (arith, e), omega arith)
    (step (l || x == 95 || x == 46) 58 (omega arith, λ e. omega (arith, e), omega arith)
    (step (l || x == 95) 46 (omega arith, λ e. omega (arith, e), omega arith)
    (step l 95 (omega arith, λ e. omega (arith, e), omega arith) (letter_plain x))))) h

bytes_plain : (s : List ℕ) → list_all is_name_byte s ≡ true → All IsPlain s
bytes_plain [] h = All-nil IsPlain
bytes_plain (x ∷ s) h = let p = and_parts (is_name_byte x) (list_all is_name_byte s) h in All-cons IsPlain x s (name_byte_plain x p.0) (bytes_plain s p.1)

pub name_plain : (s : List ℕ) → IsName s → All IsPlain s
name_plain s h = bytes_plain s (and_parts (nat_le 1 (length s) && nat_le (length s) 64) (list_all is_name_byte s) h).1

pub name_escape : (s : List ℕ) → IsName s → escape s ≡ s
name_escape s h = plain_escape s (name_plain s h)

-- ---- numbers

pub digits_plain : (n : ℕ) → n < 2 ^ 64 → All IsPlain (decimal n)
digits_plain n lt = λ k d within.
    let r = digit_at (decimal n) k (decimal_is_IsNumeral n lt).0.1 within in
    subst IsPlain (get_or_default (decimal n) k 0 d within) (omega (arith, r), λ e. omega (arith, r, e), omega (arith, r))
