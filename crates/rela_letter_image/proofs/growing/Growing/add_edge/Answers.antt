use Rattle.std.proofs.Common.{[], ◌∷◌, ◌∙◌, Some, sym, subst}
use Rattle.std.proofs.lemmas.Bool.{false≢true}
use Rattle.std.proofs.lemmas.Result.{on_ok_weaker}
use Rattle.rela_letter_image.specs.Growth.{Growth, Grows}
use Rattle.rela_letter_image.specs.Steps.{step_to}
use Rattle.rela_letter_image.proofs.GrownSteps.{grows_both, grows_dead, grows_found, grows_edge}
use Rattle.rela_letter_image.proofs.growing.Growing.add_edge.Goals as goal

pub returns-then-not-is_live : goal.returns-then-not-is_live
returns-then-not-is_live c = grows_dead c.args.self.now (Some c.args.letter) c.args.to (λ live. false≢true (sym c.if-not-is_live.true ∙ c.is_live.ensures.1 live))

pub returns : goal.returns
returns c =
    let old = c.args.self.now in
    let found = c.number.new.self in
    let steps = step_to (Some c.args.letter) c.args.to ∷ [] in
    on_ok_weaker c.add_edge_to.result
    (λ same. subst (λ (v : Growth). Grows steps old v) (sym same)
    (grows_both [] steps old found _ (grows_found old found c.args.to c.number.ensures.shape c.number.ensures.told c.number.ensures.parts c.number.ensures.found) (grows_edge found c.args.letter c.in_ok-number.number c.args.to c.in_ok-number.ensures.numbered))) c.add_edge_to.ensures
