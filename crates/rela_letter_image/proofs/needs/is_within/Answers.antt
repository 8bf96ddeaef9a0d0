use Rattle.std.proofs.Common.{bit_and}
use Rattle.std.proofs.lemmas.Bool.{eq-eqb, eqb-true}
use Rattle.rela_letter_image.proofs.Needing.{same_within, within_same}
use Rattle.rela_letter_image.proofs.needs.is_within.Goals as goal

pub returns : goal.returns
returns c =
    let word = c.args.word in
    let other = c.args.other in (
      λ yes. within_same word other (eqb-true (bit_and word other) word yes),
      λ within. eq-eqb (bit_and word other) word (same_within word other c.ranges.word.fits within),
    )
