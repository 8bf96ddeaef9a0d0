use Rattle.std.proofs.Common.{◌≡◌, ◌<◌, List, ℕ, None, Some, length, set, arith, sym, subst, ◌∙◌}
use Rattle.std.proofs.lemmas.List.{get_or_default, get_or-set_same}
use Rattle.rela_witness.specs.Numbered.{number_of, Grows}
use Rattle.rela_witness.proofs.Members.{none_from, some_from}
use Rattle.rela_witness.proofs.Growing.{grows_one}
use Rattle.rela_witness.proofs.numbers.enter.Goals as goal

pub returns-in_ok-push-clause-grows : goal.returns-in_ok-push-clause-grows
returns-in_ok-push-clause-grows c =
    let numbers = c.args.numbers.now.items in
    let within : c.args.q < length numbers = omega (arith, c.requires, c.args.numbers.now.ok.0) in
    let lacks : number_of numbers c.args.q ≡ None = get_or_default numbers c.args.q None c.index.result.now within ∙ sym c.index.ensures ∙ none_from c.index.result.now c.if-is_none.ensures in
    subst (λ (l : List ℕ). Grows (λ p. c.args.q ≡ p) c.args.number numbers (set numbers c.args.q (Some c.args.number)) c.args.layer.now.items l)
    (sym c.in_ok-push.ensures.items) (grows_one c.args.number numbers c.args.layer.now.items c.args.q within lacks)

pub returns-in_ok-push-clause-entered : goal.returns-in_ok-push-clause-entered
returns-in_ok-push-clause-entered c =
    (c.args.number, get_or-set_same c.args.numbers.now.items c.args.q (Some c.args.number) None (omega (arith, c.requires, c.args.numbers.now.ok.0)))

pub returns-else-is_none-clause-entered : goal.returns-else-is_none-clause-entered
returns-else-is_none-clause-entered c =
    let numbers = c.args.numbers.now.items in
    let within : c.args.q < length numbers = omega (arith, c.requires, c.args.numbers.now.ok.0) in
    let has = some_from c.index.result.now c.if-is_none.ensures in
    (has.0, get_or_default numbers c.args.q None c.index.result.now within ∙ sym c.index.ensures ∙ has.1)
