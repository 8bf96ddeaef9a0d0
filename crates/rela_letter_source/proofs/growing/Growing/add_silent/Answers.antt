use Rattle.std.proofs.Common.{[], ◌∷◌, None, sym, subst}
use Rattle.std.proofs.lemmas.Result.{on_ok_weaker}
use Rattle.rela_letter_source.specs.Growth.{Growth, Grows}
use Rattle.rela_letter_source.specs.Steps.{step_to}
use Rattle.rela_letter_source.proofs.GrownSteps.{grows_both, grows_found, grows_silent}
use Rattle.rela_letter_source.proofs.growing.Growing.add_silent.Goals as goal

pub returns : goal.returns
returns c =
    let old = c.args.self.now in
    let found = c.number.new.self in
    let steps = step_to None c.args.to ∷ [] in
    on_ok_weaker c.add_silent_to.result
    (λ same. subst (λ (v : Growth). Grows steps old v) (sym same)
    (grows_both [] steps old found _ (grows_found old found c.args.to c.number.ensures.shape c.number.ensures.parts c.number.ensures.found) (grows_silent found c.in_ok-number.number c.args.to c.in_ok-number.ensures.numbered))) c.add_silent_to.ensures
