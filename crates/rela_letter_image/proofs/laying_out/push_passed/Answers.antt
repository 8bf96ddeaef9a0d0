use Rattle.std.proofs.Common.{map, subst, sym}
use Rattle.std.proofs.lemmas.Result.{on_ok_weaker}
use Rattle.rela_trans.specs.Stored.{move_of}
use Rattle.rela_letter_image.specs.Branches.{led_to}
use Rattle.rela_letter_image.specs.LetterMoves.{GainsAll}
use Rattle.rela_letter_image.proofs.Laying.{gains_one}
use Rattle.rela_letter_image.proofs.laying_out.push_passed.Goals as goal

pub returns-in-Some : goal.returns-in-Some
returns-in-Some g c =
    let move = move_of g.M.LabelSet.letters c.args.step.now in
    on_ok_weaker c.push_each.result (λ gains. subst (λ l. GainsAll c.args.letters (map (led_to move) l) c.args.lists.now c.push_each.new.lists) (sym c.in-Some.ensures.kept) gains) c.push_each.ensures

pub returns-in-None : goal.returns-in-None
returns-in-None g c =
    let move = move_of g.M.LabelSet.letters c.args.step.now in
    on_ok_weaker c.push_move.result
    (λ gains. subst (λ l. GainsAll c.args.letters (map (led_to move) l) c.args.lists.now c.push_move.new.lists) (sym c.in-None.ensures.alone)
    (gains_one c.args.letters (led_to move c.args.step.now.to) c.args.lists.now c.push_move.new.lists gains)) c.push_move.ensures
