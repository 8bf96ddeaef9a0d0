use Rattle.std.proofs.Common.{subst, sym}
use Rattle.rela_expand.specs.Forms.{AreForms}
use Rattle.rela_expand.proofs.FormLaws.{no_forms}
use Rattle.rela_expand.proofs.forms.Forms.new.Goals as goal

pub invariant_of-result : goal.invariant_of-result
invariant_of-result c = record { sound = subst AreForms (sym c.new.ensures.items) no_forms }
