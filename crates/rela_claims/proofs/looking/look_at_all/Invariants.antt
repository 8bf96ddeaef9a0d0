use Rattle.rela_claims.specs.Classes.{resolved_class}
use Rattle.rela_claims.specs.Written.{class_of, mentioned}
use Rattle.rela_claims.proofs.Steps.{IsTried}
use Rattle.rela_claims.proofs.looking.look_at_all.Given as goal

abbrev pub invariant-loop-mention : goal.invariant-loop-mention
invariant-loop-mention l =
    IsTried (λ m. resolved_class (record { network = l.locations; level = l.level }) (mentioned m)) (λ m. class_of m.class) l.mentions l.mention-index
