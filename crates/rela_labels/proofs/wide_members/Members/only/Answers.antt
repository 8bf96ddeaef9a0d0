use Rattle.std.proofs.Common.{sym, ap, ◌∙◌}
use Rattle.rela_labels.specs.WideSets.{holds}
use Rattle.rela_labels.specs.Words.{bit_of}
use Rattle.rela_labels.proofs.LoneLetters.{none_alone, none_alone_as}
use Rattle.rela_labels.proofs.wide_members.Members.only.Goals as goal

pub returns-in-Nothing-clause-other : goal.returns-in-Nothing-clause-other
returns-in-Nothing-clause-other c = none_alone (holds c.args.self.now) (λ k. ap (λ m. holds m k) c.in-Nothing.is)

pub returns-in-Many-clause-other : goal.returns-in-Many-clause-other
returns-in-Many-clause-other c =
    none_alone_as (holds c.args.self.now) (bit_of c.as_slice.result.now) c.only_bit.result
    (λ k. ap (λ m. holds m k) c.in-Many.is ∙ ap (λ words. bit_of words k) (sym c.as_slice.ensures)) c.only_bit.ensures.other
