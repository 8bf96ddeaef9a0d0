use Rattle.std.proofs.Common.{◌∙◌, ap, sym}
use Rattle.rela_rir.proofs.ComplementForms as forms
use Rattle.rela_rir.proofs.inside_laws.complemented_parts_of_path_terms.Goals as goal
use Rattle.rela_rir.specs.Complements.{complemented_parts}
use Rattle.rela_rir.specs.declared.term.PathTerm.TheOpen as F
use Rattle.rela_rir.specs.declared.term.PathTerm.TheVariants as P

pub returns-clause-none : goal.returns-clause-none
returns-clause-none c = ap complemented_parts (sym P.rolls-None) ∙ forms.parts_roll F.None

pub returns-clause-empty : goal.returns-clause-empty
returns-clause-empty c = ap complemented_parts (sym P.rolls-Empty) ∙ forms.parts_roll F.Empty

pub returns-clause-class : goal.returns-clause-class
returns-clause-class c entry = ap complemented_parts (sym (P.rolls-Class entry)) ∙ forms.parts_roll (F.Class entry)

pub returns-clause-one : goal.returns-clause-one
returns-clause-one c s = ap complemented_parts (sym (P.rolls-One s)) ∙ forms.parts_roll (F.One s)

pub returns-clause-union : goal.returns-clause-union
returns-clause-union c x y = ap complemented_parts (sym (P.rolls-Union x y)) ∙ forms.parts_roll (F.PathTerm::Union x y)

pub returns-clause-concat : goal.returns-clause-concat
returns-clause-concat c x y = ap complemented_parts (sym (P.rolls-Concat x y)) ∙ forms.parts_roll (F.PathTerm::Concat x y)

pub returns-clause-star : goal.returns-clause-star
returns-clause-star c x = ap complemented_parts (sym (P.rolls-Star x)) ∙ forms.parts_roll (F.PathTerm::Star x)

pub returns-clause-meet : goal.returns-clause-meet
returns-clause-meet c x y = ap complemented_parts (sym (P.rolls-Meet x y)) ∙ forms.parts_roll (F.Meet x y)

pub returns-clause-complement : goal.returns-clause-complement
returns-clause-complement c x = ap complemented_parts (sym (P.rolls-Complement x)) ∙ forms.parts_roll (F.Complement x)

pub returns-clause-before : goal.returns-clause-before
returns-clause-before c = ap complemented_parts (sym P.rolls-Pre) ∙ forms.parts_roll F.Pre

pub returns-clause-after : goal.returns-clause-after
returns-clause-after c = ap complemented_parts (sym P.rolls-Post) ∙ forms.parts_roll F.Post

pub returns-clause-image : goal.returns-clause-image
returns-clause-image c x r = ap complemented_parts (sym (P.rolls-Image x r)) ∙ forms.parts_roll (F.Image x r)
