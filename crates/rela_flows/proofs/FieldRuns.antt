-- A run of fields, read from the left.
use Rattle.std.proofs.Common.{◌≡◌, ◌↔◌, ℕ, ◌+◌, ◌*◌, ◌^◌, ◌<◌, ◌≤◌, List, [], ◌∷◌, length, length-append, lit≤, lit<, option_copied, Bor, bit_or, ◌%◌, Option, Some, None, refl, sym, ◌∙◌, ap, subst, arith}
use Rattle.std.specs.List.{AllZip, AllByRecursion, All, join_with_byte}
use Rattle.std.specs.Int.Digits.{number_from_digits_after}
use Rattle.std.specs.Str.Parse.{digits_value}
use Rattle.std.proofs.lemmas.Int.Digits.{digits_value-lt}
use Rattle.std.proofs.lemmas.Nat.{pow-add, mul-add-lt, shl_whole, or_shifted}
use Rattle.std.proofs.Math.Nat.{pow-le-pow_right}
use Rattle.rela_flows.specs.declared.prefix.reading.Notation.{Notation}
use Rattle.rela_flows.specs.declared.prefix.reading.Notation.TheVariants.{Dotted, Colons}
use Rattle.rela_flows.specs.declared.prefix.reading.Fields.{Fields}
use Rattle.rela_flows.specs.Fields.{separator_of, bits_of, IsField, parts_of, Write}
use Rattle.rela_flows.specs.Written.{parts_in}
use Rattle.rela_flows.proofs.Parts.{IsNot, splits, splits_joined, joined_splits}
use Rattle.rela_flows.proofs.Numerals.{numeral_of_octet, digits_avoid}

-- after so many fields, which write a number, the parts are the rest of the fields
pub record Continues (notation : Notation) (count number : ℕ) (parts : List (List ℕ)) (fields : Fields) : Type 0 where
  pub numbers : List ℕ
  pub each : AllZip (IsField notation) parts numbers
  pub few : count + length numbers ≤ 8
  pub total : fields.count ≡ count + length numbers
  pub value : fields.number ≡ number_from_digits_after (2 ^ bits_of notation) number numbers

-- a field holds no separator, and is not empty
pub field_avoids : (notation : Notation) (part : List ℕ) (n : ℕ) → IsField notation part n → All (IsNot (separator_of notation)) part
field_avoids Dotted part n octet = digits_avoid 10 46 part (lit≤ tt) (numeral_of_octet part n octet).0.1
field_avoids Colons part n group = digits_avoid 16 58 part (lit≤ tt) group.numeral.1

pub field_some : (notation : Notation) (part : List ℕ) (n : ℕ) → IsField notation part n → 0 < length part
field_some Dotted part n octet = (numeral_of_octet part n octet).0.0
field_some Colons part n group = group.numeral.0

fields_avoid : (notation : Notation) (parts : List (List ℕ)) (numbers : List ℕ) → AllZip (IsField notation) parts numbers → AllByRecursion (All (IsNot (separator_of notation))) parts
fields_avoid notation [] numbers each = tt
fields_avoid notation (part ∷ parts) [] each = absurd each
fields_avoid notation (part ∷ parts) (n ∷ ns) each = (field_avoids notation part n each.0, fields_avoid notation parts ns each.1)

parts_in_some : (s : ℕ) (text : List ℕ) → 0 < length text → parts_in s text ≡ splits s text
parts_in_some s [] some = absurd (omega arith)
parts_in_some s (c ∷ cs) some = refl

joined_some : (s : ℕ) (part : List ℕ) (parts : List (List ℕ)) → 0 < length part → 0 < length (join_with_byte s (part ∷ parts))
joined_some s part [] some = some
joined_some s part (next ∷ more) some = omega (arith, length-append part (s ∷ join_with_byte s (next ∷ more)))

pub parts_of_joined : (notation : Notation) (parts : List (List ℕ)) (numbers : List ℕ) → AllZip (IsField notation) parts numbers → parts_in (separator_of notation) (join_with_byte (separator_of notation) parts) ≡ parts
parts_of_joined notation [] numbers each = refl
parts_of_joined notation (part ∷ parts) [] each = absurd each
parts_of_joined notation (part ∷ parts) (n ∷ ns) each =
    parts_in_some (separator_of notation) (join_with_byte (separator_of notation) (part ∷ parts))
    (joined_some (separator_of notation) part parts (field_some notation part n each.0))
    ∙ splits_joined (separator_of notation) part parts (fields_avoid notation (part ∷ parts) (n ∷ ns) each)

pub joined_parts : (s : ℕ) (text : List ℕ) → text ≡ join_with_byte s (parts_in s text)
joined_parts s [] = refl
joined_parts s (c ∷ cs) = joined_splits s (c ∷ cs)

-- no fields are read yet
pub run_start : (notation : Notation) (text : List ℕ) (fields : Fields) → Write notation text fields ↔ Continues notation 0 0 (parts_in (separator_of notation) text) fields
run_start notation text fields = (
  (λ write. record {
    numbers = write.numbers;
    each = let parts : parts_in (separator_of notation) text ≡ write.written.fields =
        ap (parts_in (separator_of notation)) write.written.joined ∙ parts_of_joined notation write.written.fields write.numbers write.written.each in
        rw parts write.written.each;
    few = omega (arith, write.few);
    total = omega (arith, write.count);
    value = write.number;
  }),
  λ run. record {
    numbers = run.numbers;
    written = record { fields = parts_in (separator_of notation) text; joined = joined_parts (separator_of notation) text; each = run.each };
    few = omega (arith, run.few);
    count = omega (arith, run.total);
    number = run.value;
  },
)

field_value : (notation : Notation) (part : List ℕ) (m n : ℕ) → IsField notation part m → IsField notation part n → m ≡ n
field_value Dotted part m n one two = (numeral_of_octet part m one).2 ∙ sym (numeral_of_octet part n two).2
field_value Colons part m n one two = one.value ∙ sym two.value

-- one field is read
tail_of : (notation : Notation) (count number n : ℕ) (part : List ℕ) (parts : List (List ℕ)) (fields : Fields) → IsField notation part n → (numbers : List ℕ) → AllZip (IsField notation) (part ∷ parts) numbers → count + length numbers ≤ 8 → fields.count ≡ count + length numbers → fields.number ≡ number_from_digits_after (2 ^ bits_of notation) number numbers → Continues notation (count + 1) (number * 2 ^ bits_of notation + n) parts fields
tail_of notation count number n part parts fields field [] each few total value = absurd each
tail_of notation count number n part parts fields field (m ∷ ms) each few total value = record {
  numbers = ms;
  each = each.1;
  few = omega arith;
  total = omega arith;
  value = rw (field_value notation part n m field each.0) value;
}

run_tail : (notation : Notation) (count number n : ℕ) (part : List ℕ) (parts : List (List ℕ)) (fields : Fields) → IsField notation part n → Continues notation count number (part ∷ parts) fields → Continues notation (count + 1) (number * 2 ^ bits_of notation + n) parts fields
run_tail notation count number n part parts fields field run =
    tail_of notation count number n part parts fields field run.numbers run.each run.few run.total run.value

run_cons : (notation : Notation) (count number n : ℕ) (part : List ℕ) (parts : List (List ℕ)) (fields : Fields) → IsField notation part n → Continues notation (count + 1) (number * 2 ^ bits_of notation + n) parts fields → Continues notation count number (part ∷ parts) fields
run_cons notation count number n part parts fields field run = record {
  numbers = n ∷ run.numbers;
  each = (field, run.each);
  few = omega (arith, run.few);
  total = omega (arith, run.total);
  value = run.value;
}

room_of : (notation : Notation) (count : ℕ) (part : List ℕ) (parts : List (List ℕ)) (numbers : List ℕ) → AllZip (IsField notation) (part ∷ parts) numbers → count + length numbers ≤ 8 → (n : ℕ) × IsField notation part n × (count < 8)
room_of notation count part parts [] each few = absurd each
room_of notation count part parts (n ∷ ns) each few = (n, each.0, omega arith)

-- a run that goes on has room for a field, and begins with one
pub run_room : (notation : Notation) (count number : ℕ) (part : List ℕ) (parts : List (List ℕ)) (fields : Fields) → Continues notation count number (part ∷ parts) fields → (n : ℕ) × IsField notation part n × (count < 8)
run_room notation count number part parts fields run =
    room_of notation count part parts run.numbers run.each run.few

pub run_step : (notation : Notation) (count number n : ℕ) (part : List ℕ) (parts : List (List ℕ)) (fields : Fields) → IsField notation part n → Continues notation count number (part ∷ parts) fields ↔ Continues notation (count + 1) (number * 2 ^ bits_of notation + n) parts fields
run_step notation count number n part parts fields field =
    (run_tail notation count number n part parts fields field, run_cons notation count number n part parts fields field)

same_fields : (one two : Fields) → one.count ≡ two.count → one.number ≡ two.number → one ≡ two
same_fields one two count number =
    let make : ℕ → ℕ → Fields = λ a b. record { count = a; number = b } in
    ap (λ a. make a one.number) count ∙ ap (λ b. make two.count b) number

ended : (notation : Notation) (fields other : Fields) (numbers : List ℕ) → AllZip (IsField notation) [] numbers → other.count ≡ fields.count + length numbers → other.number ≡ number_from_digits_after (2 ^ bits_of notation) fields.number numbers → fields ≡ other
ended notation fields other [] each total value = same_fields fields other (omega arith) (sym value)
ended notation fields other (n ∷ ns) each total value = absurd each

-- no part is left
pub run_end : (notation : Notation) (fields other : Fields) → fields.count ≤ 8 → (fields ≡ other) ↔ Continues notation fields.count fields.number [] other
run_end notation fields other few = (
  (λ same. subst (Continues notation fields.count fields.number []) same
      (record { numbers = []; each = tt; few = omega arith; total = omega arith; value = refl })),
  λ run. ended notation fields other run.numbers run.each run.total run.value,
)

-- the first part, and the others, of a rest that is cut
pub cut_parts : (s t : ℕ) (rest : Option (Bor (List ℕ))) (more : Bor (List ℕ)) (part : List ℕ) (after : Option (Bor (List ℕ))) → rest ≡ Some more → s ≡ t → splits s more.now ≡ part ∷ parts_of s (option_copied after) → parts_of t (option_copied rest) ≡ part ∷ parts_of t (option_copied after)
cut_parts s t rest more part after is same cut = rw (is, ← same) cut

-- what is known of a text after some of its fields
abbrev pub Runs : Notation → List ℕ → ℕ → ℕ → List (List ℕ) → Type 0
Runs notation text count number parts = (fields : Fields) → Write notation text fields ↔ Continues notation count number parts fields

pub none_past_eight : (notation : Notation) (text : List ℕ) (count number : ℕ) (left : List (List ℕ)) (part : List ℕ) (parts : List (List ℕ)) → Runs notation text count number left → left ≡ part ∷ parts → count ≡ 8 → (fields : Fields) → Write notation text fields → ⊥
none_past_eight notation text count number left part parts runs cut eight fields write =
    let run : Continues notation count number (part ∷ parts) fields = rw cut at ((runs fields).0 write) in
    let room : count < 8 = (run_room notation count number part parts fields run).2 in
    omega arith

pub none_at_no_field : (notation : Notation) (text : List ℕ) (count number : ℕ) (left : List (List ℕ)) (part : List ℕ) (parts : List (List ℕ)) → Runs notation text count number left → left ≡ part ∷ parts → ((n : ℕ) → (None ≡ Some n) ↔ IsField notation part n) → (fields : Fields) → Write notation text fields → ⊥
none_at_no_field notation text count number left part parts runs cut refused fields write =
    let run : Continues notation count number (part ∷ parts) fields = rw cut at ((runs fields).0 write) in
    let room : (n : ℕ) × IsField notation part n × (count < 8) = run_room notation count number part parts fields run in
    let none : None ≡ Some room.0 = (refused room.0).1 room.1 in
    cc

pub runs_on : (notation : Notation) (text : List ℕ) (count number : ℕ) (left : List (List ℕ)) (part : List ℕ) (parts : List (List ℕ)) (n m : ℕ) → Runs notation text count number left → left ≡ part ∷ parts → IsField notation part n → m ≡ number * 2 ^ bits_of notation + n → Runs notation text (count + 1) m parts
runs_on notation text count number left part parts n m runs cut field is fields =
    let step : Continues notation count number (part ∷ parts) fields ↔ Continues notation (count + 1) (number * 2 ^ bits_of notation + n) parts fields = run_step notation count number n part parts fields field in
    rw is (
      (λ write. step.0 (rw cut at ((runs fields).0 write))),
      λ run. (runs fields).1 (rw cut (step.1 run)),
    )

pub runs_out : (notation : Notation) (text : List ℕ) (left : List (List ℕ)) (fields : Fields) → Runs notation text fields.count fields.number left → left ≡ [] → fields.count ≤ 8 → (other : Fields) → (Some fields ≡ Some other) ↔ Write notation text other
runs_out notation text left fields runs none few other =
    let end : (fields ≡ other) ↔ Continues notation fields.count fields.number [] other = run_end notation fields other few in (
      (λ some. let same : fields ≡ other = cc in (runs other).1 (rw none (end.0 same))),
      λ write. ap Some (end.1 (rw none at ((runs other).0 write))),
    )

-- a field fits its bits
pub field_fits : (notation : Notation) (part : List ℕ) (n : ℕ) → IsField notation part n → n < 2 ^ bits_of notation
field_fits Dotted part n octet = octet.fits
field_fits Colons part n group =
    let below : digits_value 16 part < 16 ^ length part = digits_value-lt 16 part group.numeral.1 in
    let power : 16 ^ length part ≤ 16 ^ 4 = pow-le-pow_right {n = 16} (lit< tt) group.short in
    omega (arith, group.value)

bits_fit : (notation : Notation) (count : ℕ) → count < 8 → bits_of notation * count + bits_of notation ≤ 128
bits_fit Dotted count few = omega arith
bits_fit Colons count few = omega arith

-- a field is put behind the number of those before it
pub shifted_in : (notation : Notation) (count number bits n : ℕ) (part : List ℕ) → count < 8 → number < 2 ^ (bits_of notation * count) → bits ≡ bits_of notation → IsField notation part n → bit_or (number * 2 ^ bits % 2 ^ 128) n ≡ number * 2 ^ bits_of notation + n
shifted_in notation count number bits n part few small same field =
    rw same
    (ap (λ a. bit_or a n) (shl_whole number (bits_of notation * count) (bits_of notation) 128 small (bits_fit notation count few))
    ∙ or_shifted number (bits_of notation) n (field_fits notation part n field))

pub shifted_fits : (notation : Notation) (count number n : ℕ) (part : List ℕ) → number < 2 ^ (bits_of notation * count) → IsField notation part n → number * 2 ^ bits_of notation + n < 2 ^ (bits_of notation * (count + 1))
shifted_fits notation count number n part small field =
    let below : number * 2 ^ bits_of notation + n < 2 ^ bits_of notation * 2 ^ (bits_of notation * count) =
    mul-add-lt number (2 ^ bits_of notation) n (2 ^ (bits_of notation * count)) small (field_fits notation part n field) in
    let power : 2 ^ (bits_of notation * (count + 1)) ≡ 2 ^ bits_of notation * 2 ^ (bits_of notation * count) =
    ap (λ k. 2 ^ k) (let e : bits_of notation * (count + 1) ≡ bits_of notation + bits_of notation * count = omega arith in e)
    ∙ pow-add 2 (bits_of notation) (bits_of notation * count) in
    rw power below

pub all_of_empty : (s : ℕ) (text : List ℕ) (rest : Option (Bor (List ℕ))) → length text ≡ 0 → rest ≡ None → parts_of s (option_copied rest) ≡ parts_in s text
all_of_empty s [] rest empty none = rw none refl
all_of_empty s (c ∷ cs) rest empty none = absurd (omega arith)

pub all_of_some : (s : ℕ) (text : List ℕ) (rest : Option (Bor (List ℕ))) (whole : Bor (List ℕ)) → 0 < length text → rest ≡ Some whole → whole.now ≡ text → parts_of s (option_copied rest) ≡ parts_in s text
all_of_some s text rest whole some is same = rw (is, same) (sym (parts_in_some s text some))

pub none_left : (s : ℕ) (rest : Option (Bor (List ℕ))) → ((more : Bor (List ℕ)) → rest ≡ Some more → ⊥) → parts_of s (option_copied rest) ≡ []
none_left s None none = refl
none_left s (Some more) none = absurd (none more refl)
