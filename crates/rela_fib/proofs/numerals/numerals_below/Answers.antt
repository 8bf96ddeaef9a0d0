use Rattle.std.proofs.Common.{List, [], ◌∷◌, ap, arith, length, subst, sym}
use Rattle.std.proofs.lemmas.List.{length-append}
use Rattle.rela_fib.specs.Writing.{AreNumerals, IsNumeral}
use Rattle.rela_fib.specs.declared.numerals.Numeral.{Numeral}
use Rattle.rela_fib.proofs.Steps.{at_push}
use Rattle.rela_fib.proofs.numerals.numerals_below.Goals as goal

pub loop-number-preserved : goal.loop-number-preserved
loop-number-preserved c =
    let numerals = c.loop-number.numerals.items in
    let numeral = c.in_ok-numeral_of.field-0 in
    let pushed = c.in_ok-push.ensures.items in
    let one = subst (λ k. IsNumeral k numeral) (sym c.loop-number.invariant.count) c.in_ok-numeral_of.ensures in
    record {
      ready = subst AreNumerals (sym {A = List Numeral} pushed) (at_push IsNumeral numerals numeral c.loop-number.invariant.ready one);
      count = omega (arith, ap length pushed, length-append numerals (numeral ∷ []), c.loop-number.invariant.count);
    }
