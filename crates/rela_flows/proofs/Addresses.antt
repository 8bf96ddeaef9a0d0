-- Addresses from their fields.
use Rattle.std.proofs.Common.{◌≡◌, ◌↔◌, ℕ, ◌^◌, ◌<◌, List, [], ◌∷◌, Some, None, sym, ◌∙◌, arith}
use Rattle.std.specs.List.{AllZip}
use Rattle.std.specs.Int.Digits.{AllBelowBase}
use Rattle.std.proofs.lemmas.Int.Digits.{number_lt}
use Rattle.rela_flows.specs.declared.prefix.reading.Notation.{Notation}
use Rattle.rela_flows.specs.declared.prefix.reading.Notation.TheVariants.{Dotted}
use Rattle.rela_flows.specs.declared.prefix.reading.Fields.{Fields}
use Rattle.rela_flows.specs.Notation.{IsIpv4Address}
use Rattle.rela_flows.specs.Fields.{bits_of, IsField, Write}
use Rattle.rela_flows.proofs.FieldRuns.{field_fits}

numbers_fit : (notation : Notation) (parts : List (List ℕ)) (numbers : List ℕ) → AllZip (IsField notation) parts numbers → AllBelowBase (2 ^ bits_of notation) numbers
numbers_fit notation [] [] each = tt
numbers_fit notation [] (n ∷ ns) each = absurd each
numbers_fit notation (part ∷ parts) [] each = absurd each
numbers_fit notation (part ∷ parts) (n ∷ ns) each = (field_fits notation part n each.0, numbers_fit notation parts ns each.1)

-- the number that fields write is below the power that has as many digits
pub write_fits : (notation : Notation) (text : List ℕ) (fields : Fields) → Write notation text fields → fields.number < (2 ^ bits_of notation) ^ fields.count
write_fits notation text fields write =
    rw (write.number, write.count) (number_lt (2 ^ bits_of notation) write.numbers (numbers_fit notation write.written.fields write.numbers write.written.each))

abbrev pub four : ℕ → Fields
four a = record { count = 4; number = a }

pub write_of_ipv4 : (text : List ℕ) (a : ℕ) → IsIpv4Address text a → Write Dotted text (four a)
write_of_ipv4 text a is = record {
  numbers = is.octets;
  written = is.written;
  few = omega (arith, is.four);
  count = sym is.four;
  number = is.value;
}

pub ipv4_of_write : (text : List ℕ) (fields : Fields) → Write Dotted text fields → fields.count ≡ 4 → IsIpv4Address text fields.number
ipv4_of_write text fields write count = record {
  octets = write.numbers;
  written = write.written;
  four = sym write.count ∙ count;
  value = write.number;
}

pub ipv4_refused : (text : List ℕ) → ((fields : Fields) → (None ≡ Some fields) ↔ Write Dotted text fields) → (a : ℕ) → IsIpv4Address text a → ⊥
ipv4_refused text refused a is =
    let none : None ≡ Some (four a) = (refused (four a)).1 (write_of_ipv4 text a is) in cc

pub ipv4_only : (text : List ℕ) (fields : Fields) → ((other : Fields) → (Some fields ≡ Some other) ↔ Write Dotted text other) → (a : ℕ) → IsIpv4Address text a → fields ≡ four a
ipv4_only text fields given a is =
    let some : Some fields ≡ Some (four a) = (given (four a)).1 (write_of_ipv4 text a is) in cc
