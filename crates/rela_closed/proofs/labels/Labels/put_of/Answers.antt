use Rattle.std.proofs.Common.{◌∙◌, ap, subst, sym}
use Rattle.std.specs.Option.{option_map}
use Rattle.std.proofs.lemmas.Option.{same_Some}
use Rattle.std.proofs.lemmas.Result.{IfOk-weaker}
use Rattle.rela_closed.specs.Splitting.{IsSorted}
use Rattle.rela_closed.proofs.labels.Labels.put_of.Goals as goal

pub returns-in-Some-clause-sorted : goal.returns-in-Some-clause-sorted
returns-in-Some-clause-sorted g c =
    let letters = g.L.LabelSet.letters in
    IfOk-weaker c.put.result _ _ (λ _ sorted over set e.
    subst (IsSorted over c.put.new.self) (same_Some (letters c.in-Some.label) set (sym (ap (option_map letters) c.in-Some.is) ∙ e)) (sorted over)) c.put.ensures.sorted
