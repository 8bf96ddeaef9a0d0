use Rattle.std.proofs.Common.{◌∙◌, ap, sym}
use Rattle.rela_rir.proofs.ComplementForms as forms
use Rattle.rela_rir.proofs.inside_laws.complemented_parts_of_rel_terms.Goals as goal
use Rattle.rela_rir.specs.Complements.{complemented_parts_r}
use Rattle.rela_rir.specs.declared.term.PathTerm.TheOpen as F
use Rattle.rela_rir.specs.declared.term.RelTerm.TheVariants as R

pub returns-clause-identity : goal.returns-clause-identity
returns-clause-identity c x = ap complemented_parts_r (sym (R.rolls-Identity x)) ∙ forms.parts_roll_r (F.Identity x)

pub returns-clause-product : goal.returns-clause-product
returns-clause-product c x y = ap complemented_parts_r (sym (R.rolls-Product x y)) ∙ forms.parts_roll_r (F.Product x y)

pub returns-clause-union : goal.returns-clause-union
returns-clause-union c r s = ap complemented_parts_r (sym (R.rolls-Union r s)) ∙ forms.parts_roll_r (F.RelTerm::Union r s)

pub returns-clause-concat : goal.returns-clause-concat
returns-clause-concat c r s = ap complemented_parts_r (sym (R.rolls-Concat r s)) ∙ forms.parts_roll_r (F.RelTerm::Concat r s)

pub returns-clause-star : goal.returns-clause-star
returns-clause-star c r = ap complemented_parts_r (sym (R.rolls-Star r)) ∙ forms.parts_roll_r (F.RelTerm::Star r)

pub returns-clause-compose : goal.returns-clause-compose
returns-clause-compose c r s = ap complemented_parts_r (sym (R.rolls-Compose r s)) ∙ forms.parts_roll_r (F.Compose r s)
