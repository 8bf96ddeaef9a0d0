use Rattle.std.proofs.Common.{◌↔◌, IsTrue, Bool, List, Option, not, sym, ap, subst}
use Rattle.std.specs.Option.{option_map}
use Rattle.rela_witness.specs.Labels.{IsOfKind}
use Rattle.rela_witness.specs.declared.sources.Kind.{Kind}
use Rattle.rela_witness.specs.declared.sources.Kind.TheVariants.{Lettered}
use Rattle.rela_witness.proofs.Steps.{lettered_unless_empty}
use Rattle.rela_witness.proofs.sources.is_of_kind.Goals as goal

pub returns-in-Some-Lettered : goal.returns-in-Some-Lettered
returns-in-Some-Lettered g c =
    let letters = g.L.LabelSet.letters in
    let empty = c.is_empty.result in
    subst (λ (kind : Kind). IsTrue (not empty) ↔ IsOfKind kind (option_map letters c.args.edge.now.label)) (sym c.in-Some-Lettered.is-1)
    (subst (λ (label : Option (List Bool)). IsTrue (not empty) ↔ IsOfKind Lettered label) (sym (ap (option_map letters) c.in-Some-Lettered.is-0))
    (lettered_unless_empty (letters c.in-Some-Lettered.set) empty c.is_empty.ensures))
