-- The decimal text of a number of at most 64 is read as that number.
use Rattle.std.proofs.Common.{◌≡◌, ℕ, zero, suc, ◌≤◌, Bool, true, false, ◌&&◌, ◌==◌, not, List, refl, sym, ap, ◌∙◌, subst, inl, inr, arith}
use Rattle.std.specs.Fmt.{decimal, digits}
use Rattle.std.specs.Str.Parse.{digits_value}
use Rattle.std.proofs.lemmas.Bool.{cases_Bool, and_parts, cond-true, cond-false, eqb-true, leb-true, not-true, cases_lt}
use Rattle.rela_names.specs.Name.{is_name, IsName}
use Rattle.rela_lex.specs.declared.token.TokenKind.TheVariants.{Bare}
use Rattle.rela_lex.specs.Spells.{is_lone_mark}
use Rattle.rela_spec.specs.Grammar.{is_bad_number}
use Rattle.rela_spec.specs.GrammarWords.{number, is_number, is_good_number, number_of}
use Rattle.rela_print.proofs.Sources.{Sourced, sourced_token, same_room}
use Rattle.rela_print.proofs.TextPieces.{Reads, Stops, reads_token}
use Rattle.rela_print.proofs.Braces.{Inner, inner_token}

-- what has to hold of the text of a number
abbrev holds_of : ℕ → Bool
holds_of n = is_name (decimal n) && (not (is_lone_mark (decimal n)) && (is_number (decimal n) && (is_good_number (decimal n) && (digits_value 10 (decimal n) == n))))

abbrev holds_to : ℕ → Bool
holds_to zero = holds_of zero
holds_to (suc n) = holds_of (suc n) && holds_to n

all_hold : holds_to 64 ≡ true
unfolding digits
all_hold = refl

holds_below : (k n : ℕ) → holds_to k ≡ true → n ≤ k → holds_of n ≡ true
holds_below zero n all le = let none : zero ≡ n = omega arith in subst (λ (x : ℕ). holds_of x ≡ true) none all
holds_below (suc k) n all le =
    let both = and_parts (holds_of (suc k)) (holds_to k) all in
    elim (cases_lt k n) [
      | inl lt ↦ let last : suc k ≡ n = omega arith in subst (λ (x : ℕ). holds_of x ≡ true) last both.0
      | inr earlier ↦ holds_below k n both.1 earlier
    ]

record NumberText (n : ℕ) : Type 0 where
  is : IsName (decimal n)
  alone : is_lone_mark (decimal n) ≡ false
  digits_are : is_number (decimal n) ≡ true
  good : is_good_number (decimal n) ≡ true
  value : digits_value 10 (decimal n) ≡ n

number_text : (n : ℕ) → n ≤ 64 → NumberText n
number_text n le =
    let a = and_parts _ _ (holds_below 64 n all_hold le) in
    let b = and_parts _ _ a.1 in
    let c = and_parts _ _ b.1 in
    let d = and_parts _ _ c.1 in
    record { is = a.0; alone = not-true _ b.0; digits_are = c.0; good = d.0; value = eqb-true _ n d.1 }

pub reads_number : {k : ℕ} (n : ℕ) → n ≤ 64 → Reads Stops number (decimal n) (λ v. v ≡ n) (Inner k k)
reads_number {k} n le =
    let t = number_text n le in
    let value : n ≡ number_of (decimal n) = sym (cond-true (is_good_number (decimal n)) (digits_value 10 (decimal n)) 0 t.good ∙ t.value) in
    let none : is_bad_number (Bare (decimal n)) ≡ false = ap (λ (x : Bool). is_number (decimal n) && not x) t.good ∙ ap (λ (x : Bool). x && false) t.digits_are in
    reads_token (Bare (decimal n)) (λ at. n) (λ rest c. (t.is, t.alone, c)) (λ at. (decimal n, refl, t.digits_are, value)) (λ at. refl)
    (λ at. inner_token k (record { at = at; kind = Bare (decimal n) }) refl refl none)

number_small : (w : List ℕ) → number_of w ≤ 64
number_small w = elim (cases_Bool (is_good_number w)) [
  | inl good ↦
      let small = leb-true (digits_value 10 w) 64 (and_parts _ _ good).0 in
      let is : number_of w ≡ digits_value 10 w = cond-true (is_good_number w) (digits_value 10 w) 0 good in
      omega (arith, is, small)
  | inr bad ↦
      let is : number_of w ≡ 0 = cond-false (is_good_number w) (digits_value 10 w) 0 bad in
      omega (arith, is)
]

pub sourced_number : {m : ℕ} → Sourced m m number (λ n. n ≤ 64)
sourced_number {m} = sourced_token λ t n is named.
    let small = number_small is.0 in
    (same_room t.kind (Bare is.0) m m is.1 refl, omega (arith, small, is.3))
