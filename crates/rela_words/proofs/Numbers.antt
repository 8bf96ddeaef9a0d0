-- The number that a word gives.
use Rattle.std.proofs.Common.{◌≡◌, ℕ, zero, suc, ◌^◌, ◌<◌, ◌≤◌, ◌↔◌, List, [], ◌∷◌, length, get_or, Option, Some, None, Result, Ok, Err, sym, ap, subst, ◌∙◌, arith}
use Rattle.std.specs.Prelude.{slice_get, IsSomeAnd}
use Rattle.std.specs.Fmt.{decimal}
use Rattle.std.specs.Result.{OkIff, result_ok}
use Rattle.std.specs.Str.Parse.{AllDigits, digits_value, IsNumeral, ParsesUnsigned}
use Rattle.std.proofs.lemmas.Fmt.{decimal_digit, first_decimal, parse-decimal, decimal-digits_value}
use Rattle.std.proofs.lemmas.Str.Parse.{IsNumeralModel, numerals_by_value, tells_digits, parse_plain}
use Rattle.rela_words.specs.Parts.{IsNumber}

own : IsNumeralModel (AllDigits 10) (digits_value 10)
own = numerals_by_value (AllDigits 10) tells_digits

-- where a word gives a number, its first byte is a digit that isn't 0
first_digit : (most : ℕ) → most ≤ 4000000 → (word : List ℕ) (n : ℕ) → IsNumber most word n → 49 ≤ get_or word 0 0
first_digit most bound word n gives =
    let some : 1 ≤ n = gives.1.0 in
    let few : n ≤ most = gives.1.1 in
    let fits : n < 2 ^ 64 = omega arith in
    let first : 48 < get_or (decimal n) 0 0 = first_decimal n (omega arith) fits in
    let same : get_or word 0 0 ≡ get_or (decimal n) 0 0 = ap (λ (w : List ℕ). get_or w 0 0) gives.0 in
    omega (arith, first, same)

first_there : (word : List ℕ) → 49 ≤ get_or word 0 0 → IsSomeAnd (slice_get word 0) (λ x. 49 ≤ x)
first_there [] high = absurd (omega (arith, high))
first_there (c ∷ cs) high = high

first_back : (word : List ℕ) (x : ℕ) → slice_get word 0 ≡ Some x → get_or word 0 0 ≡ x
first_back [] x is = absurd (cc)
first_back (c ∷ cs) x is = cc

-- a word whose first byte is none of these gives no number
module _ (most : ℕ) (bound : most ≤ 4000000) (word text : List ℕ) (same : text ≡ word) (first : Option ℕ) (first_is : first ≡ slice_get text 0) where
  first_of : (n : ℕ) → IsNumber most word n → IsSomeAnd first (λ x. 49 ≤ x)
  first_of n gives =
      subst (λ (o : Option ℕ). IsSomeAnd o (λ x. 49 ≤ x)) (sym (first_is ∙ ap (λ (t : List ℕ). slice_get t 0) same)) (first_there word (first_digit most bound word n gives))

  pub none_first : first ≡ None → (n : ℕ) → ¬ IsNumber most word n
  none_first none n gives = subst (λ (o : Option ℕ). IsSomeAnd o (λ x. 49 ≤ x)) none (first_of n gives)

  pub low_first : (x : ℕ) → first ≡ Some x → x < 49 → (n : ℕ) → ¬ IsNumber most word n
  low_first x is low n gives =
      let high : 49 ≤ x = subst (λ (o : Option ℕ). IsSomeAnd o (λ x. 49 ≤ x)) is (first_of n gives) in
      absurd (omega arith)

  pub high_first : (x : ℕ) → first ≡ Some x → 49 ≤ x → 49 ≤ get_or word 0 0
  high_first x is high =
      let at : get_or word 0 0 ≡ x = first_back word x (sym (first_is ∙ ap (λ (t : List ℕ). slice_get t 0) same) ∙ is) in
      omega (arith, at, high)

-- an answer that is none, and one that is some
pub none_read : (most : ℕ) (word : List ℕ) (r : Option ℕ) → r ≡ None → ((n : ℕ) → ¬ IsNumber most word n) → (n : ℕ) → (r ≡ Some n) ↔ IsNumber most word n
none_read most word r none gives n = (λ is. absurd (let both = sym none ∙ is in cc), λ g. absurd (gives n g))

numeral_gives : (most : ℕ) → most ≤ 4000000 → (word : List ℕ) (n : ℕ) → 49 ≤ get_or word 0 0 → IsNumeral 10 word → n ≡ digits_value 10 word → n ≤ most → IsNumber most word n
numeral_gives most bound word n first numeral value few =
    let written : word ≡ decimal n =
    sym (ap decimal value ∙ decimal-digits_value own word numeral.1 numeral.0 (λ zero_first. absurd (omega arith)) (omega (arith, value))) in
    (written, (positive n written, few))
  where
    positive : (k : ℕ) → word ≡ decimal k → 1 ≤ k
    positive zero is = absurd (let zero_first = ap (λ (w : List ℕ). get_or w 0 0) (is ∙ decimal_digit 0 (omega arith)) in omega (arith, zero_first))
    positive (suc k) is = omega arith

parsed : {E : Type 0} (word : List ℕ) (n : ℕ) (r : Result ℕ E) (P : Type 0) (v : ℕ) → OkIff r P v → r ≡ Ok n → P × (n ≡ v)
parsed word n (Ok m) P v is same = (is.0, let both : m ≡ n = cc in sym both ∙ is.1)
parsed word n (Err e) P v is same = absurd (cc)

pub gives_parsed : {E : Type 0} (most : ℕ) → most ≤ 4000000 → (word : List ℕ) (n : ℕ) (r : Result ℕ E) → 49 ≤ get_or word 0 0 → ParsesUnsigned 64 10 word r → r ≡ Ok n → n ≤ most → IsNumber most word n
gives_parsed most bound word n r first parses is few =
    let read = parsed word n r (AllDigits 10 word × (0 < length word) × (digits_value 10 word < 2 ^ 64)) (digits_value 10 word)
    (parse_plain own 64 word r parses (λ plus. absurd (omega arith))) is in
    numeral_gives most bound word n first (read.0.1, read.0.0) read.1 few

pub parsed_gives : {E : Type 0} (most : ℕ) → most ≤ 4000000 → (word : List ℕ) (n : ℕ) (r : Result ℕ E) → IsNumber most word n → ParsesUnsigned 64 10 word r → r ≡ Ok n
parsed_gives most bound word n r gives parses =
    let some : 1 ≤ n = gives.1.0 in
    let few : n ≤ most = gives.1.1 in
    parse-decimal 64 n word r (omega arith) (omega arith) gives.0 parses

-- what the reading of a number says
module _ {E : Type 0} (most : ℕ) (bound : most ≤ 4000000) (word : List ℕ) (r : Result ℕ E) (parses : ParsesUnsigned 64 10 word r) where
  pub unparsed : None ≡ result_ok r → (n : ℕ) → ¬ IsNumber most word n
  unparsed none n gives = absurd (let some = none ∙ ap result_ok (parsed_gives most bound word n r gives parses) in cc)

  ok_is : (s : Result ℕ E) (n : ℕ) → Some n ≡ result_ok s → s ≡ Ok n
  ok_is (Ok m) n is = let same : m ≡ n = cc in ap Ok same
  ok_is (Err e) n is = absurd (cc)

  only_parsed : (s : ℕ) → Some s ≡ result_ok r → (n : ℕ) → IsNumber most word n → s ≡ n
  only_parsed s is n gives = let both : Some s ≡ Some n = is ∙ ap result_ok (parsed_gives most bound word n r gives parses) in cc

  pub few_read : (s : ℕ) → 49 ≤ get_or word 0 0 → Some s ≡ result_ok r → s ≤ most → (n : ℕ) → (Some s ≡ Some n) ↔ IsNumber most word n
  few_read s first is few n = (
    λ same. (let equal : s ≡ n = cc in subst (λ (k : ℕ). IsNumber most word k) equal (gives_parsed most bound word s r first parses (ok_is r s is) few)),
    λ gives. ap (λ (k : ℕ). Some k) (only_parsed s is n gives),
  )

  pub many_read : (s : ℕ) → Some s ≡ result_ok r → most < s → (n : ℕ) → ¬ IsNumber most word n
  many_read s is many n gives =
      let same : s ≡ n = only_parsed s is n gives in
      let few : n ≤ most = gives.1.1 in
      absurd (omega arith)
