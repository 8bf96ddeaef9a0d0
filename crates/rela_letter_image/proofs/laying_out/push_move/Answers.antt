use Rattle.std.proofs.Common.{Bool, List, None, Some, ap, ◌∙◌}
use Rattle.std.proofs.lemmas.Result.{on_ok_weaker}
use Rattle.rela_trans.specs.Stored.{move_of}
use Rattle.rela_trans.specs.declared.moves.Move.{Move}
use Rattle.rela_trans.specs.declared.moves.MoveKind.TheVariants.{Silent, Out}
use Rattle.rela_letter_image.specs.Branches.{led_to}
use Rattle.rela_letter_image.specs.declared.letter_moves.AloneMove.{AloneMove}
use Rattle.rela_letter_image.proofs.Laying.{gains_alone, move_is}
use Rattle.rela_letter_image.proofs.laying_out.push_move.Goals as goal

pub returns-in-Silent : goal.returns-in-Silent
returns-in-Silent g c =
    let old = c.args.lists.now in
    let new = c.push_alone.new.self in
    let step = c.args.step.now in
    let x : AloneMove = record { written = None; to = c.args.to } in
    on_ok_weaker c.push_alone.result
    (λ is. gains_alone c.args.letters old new x (led_to (move_of g.M.LabelSet.letters step) c.args.to) (move_is g.M.LabelSet.letters step Silent c.args.to c.in-Silent.is) is) c.push_alone.ensures

pub returns-in_ok-wide_copy-in-Out : goal.returns-in_ok-wide_copy-in-Out
returns-in_ok-wide_copy-in-Out g c =
    let old = c.args.lists.now in
    let new = c.push_alone-in-Out.new.self in
    let step = c.args.step.now in
    let x : AloneMove = record { written = Some c.in_ok-wide_copy-in-Out.field-0; to = c.args.to } in
    let move : List Bool → Move (List Bool) = λ set. record { kind = Out set; to = c.args.to } in
    on_ok_weaker c.push_alone-in-Out.result
    (λ is. gains_alone c.args.letters old new x (led_to (move_of g.M.LabelSet.letters step) c.args.to) (ap move c.in_ok-wide_copy-in-Out.ensures ∙ move_is g.M.LabelSet.letters step (Out c.in-Out.set) c.args.to c.in-Out.is) is)
    c.push_alone-in-Out.ensures
