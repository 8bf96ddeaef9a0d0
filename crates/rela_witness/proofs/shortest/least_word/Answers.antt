use Rattle.std.proofs.Common.{◌≡◌, ◌<◌, None, length, arith, sym, ap, ◌∙◌}
use Rattle.std.proofs.lemmas.List.{get_or_default}
use Rattle.rela_witness.specs.Numbered.{number_of}
use Rattle.rela_witness.proofs.Spelling.{none_accepted}
use Rattle.rela_witness.proofs.shortest.least_word.Goals as goal

pub returns-clause-none : goal.returns-clause-none
returns-clause-none g c =
    let numbers = c.in_ok-distances.distances.items in
    let within : c.start.result < length numbers = omega (arith, c.start.ensures.state, c.in_ok-distances.ensures.count, c.in_ok-distances.distances.ok.0) in
    let none : number_of numbers c.args.a.now.start ≡ None =
    ap (number_of numbers) (sym c.start.ensures.start) ∙ get_or_default numbers c.start.result None c.index.result.now within ∙ sym c.index.ensures ∙ c.in-None.is in
    none_accepted c.args.a.now numbers c.in_ok-distances.ensures.distances none
