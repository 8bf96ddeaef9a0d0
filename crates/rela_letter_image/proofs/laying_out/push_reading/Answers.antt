use Rattle.std.proofs.Common.{Bool, List, ap, arith, refl, sym, ◌∙◌}
use Rattle.std.proofs.lemmas.Result.{on_ok_weaker}
use Rattle.rela_trans.specs.declared.moves.Move.{Move}
use Rattle.rela_letter_image.specs.LetterMoves.{only_letter, reading}
use Rattle.rela_letter_image.specs.declared.letter_moves.LetterMove.{LetterMove}
use Rattle.rela_letter_image.specs.declared.letter_moves.SetMove.{SetMove}
use Rattle.rela_letter_image.proofs.Laying.{gains_letter, gains_set}
use Rattle.rela_letter_image.proofs.laying_out.push_reading.Goals as goal

pub returns-in-Some : goal.returns-in-Some
returns-in-Some g c =
    let letter = c.in-Some.letter in
    let writes = c.args.writes in
    let to = c.args.to in
    let move : List Bool → Move (List Bool) = λ set. record { kind = reading set writes; to = to } in
    let x : LetterMove = record { to = to; letter = letter; writes = writes } in
    let is = ap move (ap (λ n. only_letter n letter) (sym c.requires) ∙ c.in-Some.ensures.alone letter refl) in
    on_ok_weaker c.push_by_letter.result
    (λ new. gains_letter c.args.letters c.args.lists.now c.push_by_letter.new.self x (move (g.M.LabelSet.letters c.args.set.now)) is (omega (arith, c.in-Some.ensures.below letter refl, c.requires)) new) c.push_by_letter.ensures

pub returns-in_ok-set-in-None : goal.returns-in_ok-set-in-None
returns-in_ok-set-in-None g c =
    let writes = c.args.writes in
    let to = c.args.to in
    let move : List Bool → Move (List Bool) = λ set. record { kind = reading set writes; to = to } in
    let x : SetMove = record { set = c.in_ok-set-in-None.set; writes = writes; to = to } in
    on_ok_weaker c.push_by_set.result
    (λ new. gains_set c.args.letters c.args.lists.now c.push_by_set.new.self x (move (g.M.LabelSet.letters c.args.set.now)) (ap move c.in_ok-set-in-None.ensures) new) c.push_by_set.ensures
