-- What the lexer finds at the front of a text.
use Rattle.std.proofs.Common.{◌≡◌, ℕ, zero, suc, add-zero, ◌+◌, ◌-◌, ◌<◌, ◌≤◌, ◌==◌, ◌||◌, ◌++◌, ◌⊎◌, inl, inr, Bool, true, false, cond, List, [], ◌∷◌, length, take, drop, get_or, Option, Some, None, IfSome, option_and_then, lt_of_not-le, refl, sym, ap, ap₂, ◌∙◌, subst, arith}
use Rattle.std.proofs.lemmas.Bool.{and_from, eqb-true, le-leb, ne_eqb, not-true, or_cases, or_parts, true≢false}
use Rattle.std.proofs.lemmas.List.{append-nil, append_assoc, drop_all, drop_more, drop-drop, get_or-drop, get_or_past, length-drop, take-append-drop, take_all}
use Rattle.std.specs.Char.{is_ascii_digit}
use Rattle.std.specs.List.{prefix_len}
use Rattle.std.specs.Str.Parse.{AllDigits}
use Rattle.std.proofs.lemmas.Str.Parse.{digit_at}
use Rattle.json.specs.Text.{after_backslash, content, plain, prepend}
use Rattle.json.specs.Token as json
use Rattle.json.specs.Word.{after_exponent, after_fraction, after_number, after_whole, ends_word, head, is_operator, is_space}
use Rattle.json.specs.Lex.{Lexeme, Mode, Place, after_comma, after_key, after_value, backslash, begins_colon, between, class, colon, comma, fresh, if_allowed, in_string, lex, lex_byte, may_begin, operator, operator_lexeme, other, place_token, punctuate, quote, space, string_token, token}
use Rattle.json.specs.Print.{IsNumber}
use Rattle.json.specs.Run.{is_plain}
use Rattle.json.proofs.Printed.Numbers.{lex-number}
use Rattle.rela_tokens.specs.Reading.{BeginsWith, Takes, TakesNumber, WritesNumber, tokens_from}
use Rattle.rela_tokens.specs.declared.reader.Token.{Token}

-- ---- at a place

pub inside : (d : List ℕ) (i x : ℕ) → get_or d i 32 ≡ x → (x ≡ 32 → ⊥) → i < length d
inside d i x is other_byte = lt_of_not-le (λ past. other_byte (sym is ∙ get_or_past d i 32 past))

pub at_place : (d : List ℕ) (i x : ℕ) → i < length d → get_or d i 32 ≡ x → drop i d ≡ x ∷ drop (i + 1) d
at_place d i x lt is = drop_more d i 32 lt ∙ ap (λ y. y ∷ drop (i + 1) d) is

-- ---- blanks and marks

or_last : (P : ℕ → Type 0) (x c : ℕ) (b : Bool) → P c → (b ≡ true → P x) → (b ≡ true) ⊎ ((x == c) ≡ true) → P x
or_last P x c b p f (inl e) = f e
or_last P x c b p f (inr e) = subst P (sym (eqb-true x c e)) p

spaced : (x : ℕ) → is_space x ≡ true → class x ≡ space
spaced x is =
    let P = λ (y : ℕ). class y ≡ space in
    or_last P x 13 _ refl (λ a. or_last P x 10 _ refl (λ b. or_last P x 9 _ refl (λ c. subst P (sym (eqb-true x 32 c)) refl) (or_cases _ _ b)) (or_cases _ _ a)) (or_cases _ _ is)

lex_space : (x : ℕ) (xs : List ℕ) → class x ≡ space → lex between (x ∷ xs) ≡ lex between xs
unfolding lex
lex_space x xs is = ap (λ c. lex_byte between c x xs (λ m. lex m xs)) is

lex_operator : (x : ℕ) (xs : List ℕ) → class x ≡ operator → lex between (x ∷ xs) ≡ operator_lexeme x ∷ lex between xs
unfolding lex
lex_operator x xs is = ap (λ c. lex_byte between c x xs (λ m. lex m xs)) is

pub blank : (d : List ℕ) (i : ℕ) → i < length d → is_space (get_or d i 32) ≡ true → lex between (drop i d) ≡ lex between (drop (i + 1) d)
blank d i lt is = ap (lex between) (at_place d i (get_or d i 32) lt refl) ∙ lex_space (get_or d i 32) (drop (i + 1) d) (spaced (get_or d i 32) is)

pub mark : (d : List ℕ) (i x : ℕ) → i < length d → get_or d i 32 ≡ x → class x ≡ operator → lex between (drop i d) ≡ operator_lexeme x ∷ lex between (drop (i + 1) d)
mark d i x lt is kind = ap (lex between) (at_place d i x lt is) ∙ lex_operator x _ kind

-- ---- strings

prepend-prepend : (a b : List ℕ) (r : Option (List ℕ)) → prepend a (prepend b r) ≡ prepend (a ++ b) r
prepend-prepend a b None = refl
prepend-prepend a b (Some s) = ap Some (sym (append_assoc a b s))

prepend-nil : (r : Option (List ℕ)) → prepend [] r ≡ r
prepend-nil None = refl
prepend-nil (Some s) = refl

passed_in_string : (q b o s : Bool) (x : ℕ) (xs : List ℕ) (k : Mode → List Lexeme) → q ≡ false → b ≡ false
    → lex_byte in_string (cond q quote (cond b backslash (cond o operator (cond s space other)))) x xs k ≡ k in_string
passed_in_string true b o s x xs k no_q no_b = absurd (true≢false no_q)
passed_in_string false true o s x xs k no_q no_b = absurd (true≢false no_b)
passed_in_string false false true s x xs k no_q no_b = refl
passed_in_string false false false true x xs k no_q no_b = refl
passed_in_string false false false false x xs k no_q no_b = refl

-- plain bytes stand for themselves, and the lexer passes over them
record IsRun (xs : List ℕ) (n : ℕ) : Type 0 where
  stands : content plain xs ≡ prepend (take n xs) (content plain (drop n xs))
  passed : lex in_string xs ≡ lex in_string (drop n xs)

run_byte : (p : Bool) (x n : ℕ) (xs : List ℕ) → p ≡ is_plain x → IsRun xs n → IsRun (x ∷ xs) (cond p (1 + n) 0)
unfolding content lex
run_byte false x n xs is run = record { stands = sym (prepend-nil _); passed = refl }
run_byte true x n xs is run =
    let next : suc n ≡ 1 + n = omega arith in
    let none = or_parts ((x == 34) || (x == 92)) _ (not-true _ (sym is)) in
    let tests = or_parts (x == 34) _ none.0 in
    subst (IsRun (x ∷ xs)) next (record {
      stands = (λ i. cond (tests.0 i) (Some []) (cond (tests.1 i) (content after_backslash xs) (cond (none.1 i) None (prepend (x ∷ []) (run.stands i)))))
          ∙ prepend-prepend (x ∷ []) (take n xs) _;
      passed = passed_in_string (x == 34) (x == 92) (is_operator x) (is_space x) x xs (λ m. lex m xs) tests.0 tests.1 ∙ run.passed;
    })

run : (xs : List ℕ) → IsRun xs (prefix_len is_plain xs)
run [] = record { stands = sym (prepend-nil _); passed = refl }
run (x ∷ xs) = run_byte (is_plain x) x (prefix_len is_plain xs) xs refl (run xs)

quoted : (xs rest : List ℕ) (n : ℕ) → IsRun xs n → drop n xs ≡ 34 ∷ rest → lex between (34 ∷ xs) ≡ token (json.string (take n xs)) ∷ lex between rest
unfolding content lex
quoted xs rest n run is =
    let found : content plain xs ≡ Some (take n xs) = run.stands ∙ ap (λ t. prepend (take n xs) (content plain t)) is ∙ ap Some (append-nil _) in
    ap₂ (λ o ls. token (string_token o) ∷ ls) found (run.passed ∙ ap (lex in_string) is)

pub string_lexeme : (d : List ℕ) (i end : ℕ) → get_or d i 32 ≡ 34 → end ≡ i + 1 + prefix_len is_plain (drop (i + 1) d) → get_or d end 32 ≡ 34
    → lex between (drop i d) ≡ token (json.string (take (end - (i + 1)) (drop (i + 1) d))) ∷ lex between (drop (end + 1) d)
string_lexeme d i end opens is closes =
    let xs = drop (i + 1) d in
    let n = prefix_len is_plain xs in
    let long : n ≡ end - (i + 1) = omega arith in
    let left : drop n xs ≡ 34 ∷ drop (end + 1) d = drop-drop n (i + 1) d ∙ ap (λ k. drop k d) (sym is) ∙ at_place d end 34 (inside d end 34 closes (λ e. omega arith)) closes in
    ap (lex between) (at_place d i 34 (inside d i 34 opens (λ e. omega arith)) opens) ∙ quoted xs _ n (run xs) left
    ∙ ap (λ k. token (json.string (take k xs)) ∷ lex between (drop (end + 1) d)) long

-- ---- numbers

all_digits : (ds : List ℕ) → ((i : ℕ) → i < length ds → (48 ≤ get_or ds i 0) × (get_or ds i 0 ≤ 57)) → prefix_len is_ascii_digit ds ≡ length ds
all_digits [] h = refl
all_digits (d ∷ ds) h =
    let first = h 0 (omega arith) in
    let rest = all_digits ds (λ i l. h (suc i) (omega arith)) in
    ap (λ b. cond b (1 + prefix_len is_ascii_digit ds) 0) (and_from _ _ (le-leb 48 d first.0) (le-leb d 57 first.1)) ∙ omega arith

whole_text : (z : Bool) (s : List ℕ) → 0 < length s → prefix_len is_ascii_digit s ≡ length s → (z ≡ true → length s ≡ 1)
    → cond z (Some (drop 1 s)) (cond (prefix_len is_ascii_digit s == 0) None (Some (drop (prefix_len is_ascii_digit s) s))) ≡ Some []
whole_text true s some all one = ap Some (drop_all 1 s (omega (arith, one refl)))
whole_text false s some all one =
    ap (λ b. cond b None (Some (drop (prefix_len is_ascii_digit s) s))) (ne_eqb (prefix_len is_ascii_digit s) 0 (λ e. omega arith))
    ∙ ap Some (drop_all (prefix_len is_ascii_digit s) s (omega arith))

-- digits write a number, unless one follows a zero that is the first
pub digits_are_number : (s : List ℕ) → 0 < length s → AllDigits 10 s → (get_or s 0 32 ≡ 48 → length s ≡ 1) → IsNumber s
unfolding after_number
digits_are_number s some digits one =
    let each = λ (i : ℕ) (lt : i < length s). digit_at s i digits lt in
    let all = all_digits s each in
    let unsigned : (head s == 45) ≡ false = ne_eqb (head s) 45 (λ e. omega (arith, each 0 some, first_same s some)) in
    ap (λ b. option_and_then after_exponent (option_and_then after_fraction (after_whole (cond b (drop 1 s) s)))) unsigned
    ∙ ap (λ o. option_and_then after_exponent (option_and_then after_fraction o)) (whole_text (head s == 48) s some all (λ e. one (eqb-true (head s) 48 e)))
  where
    first_same : (s : List ℕ) → 0 < length s → get_or s 0 32 ≡ get_or s 0 0
    first_same [] lt = absurd (omega arith)
    first_same (x ∷ xs) lt = refl

pub first_taken : (i : ℕ) (s : List ℕ) → 0 < i → get_or (take i s) 0 32 ≡ get_or s 0 32
first_taken zero s some = absurd (omega arith)
first_taken (suc i) [] some = refl
first_taken (suc i) (x ∷ xs) some = refl

pub number_lexeme : (d : List ℕ) (n : ℕ) → IsNumber (take n d) → ends_word (drop n d) ≡ true → lex between d ≡ token (json.number (take n d)) ∷ lex between (drop n d)
number_lexeme d n is ended = ap (lex between) (sym (take-append-drop n d)) ∙ lex-number (take n d) (drop n d) is ended

-- ---- what stands between values

passed_colon : (q b o s : Bool) (x : ℕ) (xs : List ℕ) (k : Mode → List Lexeme) → s ≡ false → (o ≡ true → begins_colon (operator_lexeme x ∷ k between) ≡ false)
    → begins_colon (lex_byte between (cond q quote (cond b backslash (cond o operator (cond s space other)))) x xs k) ≡ false
passed_colon true b o s x xs k no_s f = refl
passed_colon false true o s x xs k no_s f = refl
passed_colon false false true s x xs k no_s f = f refl
passed_colon false false false true x xs k no_s f = absurd (true≢false no_s)
passed_colon false false false false x xs k no_s f = refl

other_operator : (x : ℕ) (ls : List Lexeme) → (x ≡ 58 → ⊥) → is_operator x ≡ true → begins_colon (operator_lexeme x ∷ ls) ≡ false
other_operator x ls other_byte is =
    let P = λ (y : ℕ). (y ≡ 58 → ⊥) → begins_colon (operator_lexeme y ∷ ls) ≡ false in
    or_last P x 44 _ (λ ne. refl) (λ a. or_last P x 58 _ (λ ne. absurd (ne refl)) (λ b. or_last P x 93 _ (λ ne. refl) (λ e. or_last P x 91 _ (λ ne. refl)
    (λ f. or_last P x 125 _ (λ ne. refl) (λ g. subst P (sym (eqb-true x 123 g)) (λ ne. refl)) (or_cases _ _ f)) (or_cases _ _ e)) (or_cases _ _ b)) (or_cases _ _ a)) (or_cases _ _ is) other_byte

no_colon : (t : List ℕ) → (get_or t 0 32 ≡ 58 → ⊥) → (0 < length t → is_space (get_or t 0 32) ≡ false) → begins_colon (lex between t) ≡ false
unfolding lex
no_colon [] other_byte solid = refl
no_colon (x ∷ xs) other_byte solid =
    passed_colon (x == 34) (x == 92) (is_operator x) (is_space x) x xs (λ m. lex m xs) (solid (omega arith)) (other_operator x (lex between xs) other_byte)

pub rest_of : (d : List ℕ) (i : ℕ) → take (length d - i) (drop i d) ≡ drop i d
rest_of d i = take_all (length d - i) (drop i d) (omega (arith, length-drop i d))

pub head_at : (d : List ℕ) (i : ℕ) → head (drop i d) ≡ get_or d i 32
head_at d i = get_or-drop i d 0 32 ∙ ap (λ j. get_or d j 32) (add-zero i)

allowed : (b : Bool) (t : json.Token) (k : Place → List json.Token) (next : Place) → b ≡ true → if_allowed b t k next ≡ t ∷ k next
allowed b t k next is = ap (λ x. if_allowed x t k next) is

module _ (d : List ℕ) where
  pub same_tokens : (after : Bool) (i j : ℕ) → lex between (drop i d) ≡ lex between (drop j d) → tokens_from after (drop i d) ≡ tokens_from after (drop j d)
  same_tokens true i j same = ap (punctuate after_value) same
  same_tokens false i j same = ap (punctuate fresh) same

  pub at_once : (after : Bool) (i : ℕ) → after ≡ false → BeginsWith (tokens_from after (drop i d)) (drop i d)
  at_once after i is = (fresh, refl, ap (λ b. tokens_from b (drop i d)) is)

  pub behind_comma : (after : Bool) (i from : ℕ) → after ≡ true → get_or d i 32 ≡ 44 → lex between (drop from d) ≡ lex between (drop (i + 1) d) → BeginsWith (tokens_from after (drop i d)) (drop from d)
  unfolding punctuate
  behind_comma after i from is comma_there same = (
    after_comma,
    refl,
    ap (λ b. tokens_from b (drop i d)) is ∙ ap (punctuate after_value) (mark d i 44 (inside d i 44 comma_there (λ e. omega arith)) comma_there refl ∙ ap (λ ls. comma ∷ ls) (sym same)),
  )

  pub closes_object : (after : Bool) (i at : ℕ) → lex between (drop at d) ≡ lex between (drop i d) → get_or d at 32 ≡ 125 → tokens_from after (drop i d) ≡ json.end_object ∷ tokens_from true (drop (at + 1) d)
  unfolding punctuate
  closes_object true i at same brace = ap (punctuate after_value) (sym same ∙ mark d at 125 (inside d at 125 brace (λ e. omega arith)) brace refl)
  closes_object false i at same brace = ap (punctuate fresh) (sym same ∙ mark d at 125 (inside d at 125 brace (λ e. omega arith)) brace refl)

  pub closes_array : (after : Bool) (i at : ℕ) → lex between (drop at d) ≡ lex between (drop i d) → get_or d at 32 ≡ 93 → tokens_from after (drop i d) ≡ json.end_array ∷ tokens_from true (drop (at + 1) d)
  unfolding punctuate
  closes_array true i at same bracket = ap (punctuate after_value) (sym same ∙ mark d at 93 (inside d at 93 bracket (λ e. omega arith)) bracket refl)
  closes_array false i at same bracket = ap (punctuate fresh) (sym same ∙ mark d at 93 (inside d at 93 bracket (λ e. omega arith)) bracket refl)

  pub over : (after : Bool) (i at : ℕ) → lex between (drop at d) ≡ lex between (drop i d) → length d ≤ at → tokens_from after (drop i d) ≡ []
  unfolding punctuate lex
  over true i at same past = ap (punctuate after_value) (sym same ∙ ap (lex between) (drop_all at d past))
  over false i at same past = ap (punctuate fresh) (sym same ∙ ap (lex between) (drop_all at d past))

  module _ (p : Place) (may : may_begin p ≡ true) where
    pub opens_object : (i : ℕ) → get_or d i 32 ≡ 123 → punctuate p (lex between (drop i d)) ≡ json.begin_object ∷ tokens_from false (drop (i + 1) d)
    unfolding punctuate
    opens_object i brace =
        ap (punctuate p) (mark d i 123 (inside d i 123 brace (λ e. omega arith)) brace refl)
        ∙ allowed (may_begin p) json.begin_object (λ n. punctuate n (lex between (drop (i + 1) d))) fresh may

    pub opens_array : (i : ℕ) → get_or d i 32 ≡ 91 → punctuate p (lex between (drop i d)) ≡ json.begin_array ∷ tokens_from false (drop (i + 1) d)
    unfolding punctuate
    opens_array i bracket =
        ap (punctuate p) (mark d i 91 (inside d i 91 bracket (λ e. omega arith)) bracket refl)
        ∙ allowed (may_begin p) json.begin_array (λ n. punctuate n (lex between (drop (i + 1) d))) fresh may

    pub writes : (i count n : ℕ) → WritesNumber (drop i d) n (drop count (drop i d)) → TakesNumber (punctuate p (lex between (drop i d))) n (tokens_from true (drop (i + count) d))
    unfolding punctuate
    writes i count n w = (
      w.0,
      ap (punctuate p) (w.1 ∙ ap (λ t. token (json.number w.0) ∷ lex between t) (drop-drop count i d))
          ∙ allowed (may_begin p) (json.number w.0) (λ m. punctuate m (lex between (drop (i + count) d))) after_value may,
      w.2,
    )

    module _ (i end at : ℕ) (s : List ℕ) (opens : get_or d i 32 ≡ 34) (is : end ≡ i + 1 + prefix_len is_plain (drop (i + 1) d)) (closes : get_or d end 32 ≡ 34) (text : s ≡ take (end - (i + 1)) (drop (i + 1) d))
        (same : lex between (drop at d) ≡ lex between (drop (end + 1) d)) where
      lexed : lex between (drop i d) ≡ token (json.string s) ∷ lex between (drop at d)
      lexed = string_lexeme d i end opens is closes ∙ ap₂ (λ x ls. token (json.string x) ∷ ls) (sym text) (sym same)

      pub is_key : get_or d at 32 ≡ 58 → punctuate p (lex between (drop i d)) ≡ json.key s ∷ tokens_from false (drop (at + 1) d)
      unfolding punctuate
      is_key colon_there =
          ap (punctuate p) (lexed ∙ ap (λ ls. token (json.string s) ∷ ls) (mark d at 58 (inside d at 58 colon_there (λ e. omega arith)) colon_there refl))
          ∙ allowed (may_begin p) (json.key s) (λ n. punctuate n (colon ∷ lex between (drop (at + 1) d))) after_key may

      pub is_string : (get_or d at 32 ≡ 58 → ⊥) → (at < length d → is_space (get_or d at 32) ≡ false) → punctuate p (lex between (drop i d)) ≡ json.string s ∷ tokens_from true (drop at d)
      unfolding punctuate
      is_string other_byte solid =
          let none : begins_colon (lex between (drop at d)) ≡ false =
          no_colon (drop at d) (λ e. other_byte (sym (head_at d at) ∙ e)) (λ some. ap is_space (head_at d at) ∙ solid (omega (arith, length-drop at d))) in
          ap (punctuate p) lexed ∙ ap (λ b. place_token p (json.string s) b (λ n. punctuate n (lex between (drop at d)))) none
          ∙ allowed (may_begin p) (json.string s) (λ n. punctuate n (lex between (drop at d))) after_value may

pub begun : (old : List json.Token) (d t : List ℕ) (r : Option (Token × ℕ × Bool)) → BeginsWith old t → IfSome r (λ f. (p : Place) → may_begin p ≡ true → Takes (punctuate p (lex between t)) f.0 (tokens_from f.2 (drop f.1 d)))
    → IfSome r (λ f. Takes old f.0 (tokens_from f.2 (drop f.1 d)))
begun old d t None b h = tt
begun old d t (Some f) b h = subst (λ (ts : List json.Token). Takes ts f.0 (tokens_from f.2 (drop f.1 d))) (sym b.2) (h b.0 b.1)

pub number_begun : (old : List json.Token) (d : List ℕ) (after : Bool) (i front from count n : ℕ) → tokens_from after (drop i d) ≡ old → lex between (drop front d) ≡ lex between (drop i d)
    → BeginsWith (tokens_from after (drop front d)) (drop from d) → WritesNumber (drop from d) n (drop count (drop from d)) → TakesNumber old n (tokens_from true (drop (from + count) d))
number_begun old d after i front from count n view same b w =
    let taken = writes d b.0 b.1 from count n w in
    (taken.0, sym view ∙ same_tokens d after i front (sym same) ∙ b.2 ∙ taken.1, taken.2)
