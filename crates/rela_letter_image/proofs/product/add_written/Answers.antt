use Rattle.std.proofs.Common.{◌<◌, Bool, List, Some, map, refl, subst, sym}
use Rattle.std.specs.Result.{OnOk}
use Rattle.rela_letter_image.specs.Coarse.{fine_letters}
use Rattle.rela_letter_image.specs.Growth.{Grows}
use Rattle.rela_letter_image.specs.LetterMoves.{only_letter}
use Rattle.rela_letter_image.specs.Steps.{step_to}
use Rattle.rela_letter_image.proofs.product.add_written.Goals as goal

pub returns-in-Some : goal.returns-in-Some
returns-in-Some c =
    let only = c.in-Some.only in
    subst (λ (l : List Bool). OnOk c.add_letter_written.result (Grows (map (λ k. step_to (Some k) c.args.to) (fine_letters c.args.coarse.now l)) c.args.growing.now c.add_letter_written.new.growing))
    (c.in-Some.ensures.alone only refl)
    (subst (λ n. OnOk c.add_letter_written.result (Grows (map (λ k. step_to (Some k) c.args.to) (fine_letters c.args.coarse.now (only_letter n only))) c.args.growing.now c.add_letter_written.new.growing)) c.size.ensures.size
    c.add_letter_written.ensures)

pub add_letter_written-requires-clause-only : goal.add_letter_written-requires-clause-only
add_letter_written-requires-clause-only c = subst (λ n. c.in-Some.only < n) (sym c.size.ensures.size) (c.in-Some.ensures.below c.in-Some.only refl)
