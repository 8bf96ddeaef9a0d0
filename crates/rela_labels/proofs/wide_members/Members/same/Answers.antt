use Rattle.std.proofs.Common.{ap}
use Rattle.rela_labels.specs.WideSets.{holds}
use Rattle.rela_labels.proofs.WideLetters.{same_words_of}
use Rattle.rela_labels.proofs.wide_members.Members.same.Goals as goal

pub returns-in-Many-other : goal.returns-in-Many-other
returns-in-Many-other c =
    same_words_of c.args.self.now c.args.other.now c.in-Many.words c.in-Many-other.others _ _ c.same_words.result
    (λ k. ap (λ m. holds m k) c.in-Many.is) (λ k. ap (λ m. holds m k) c.in-Many-other.is) c.as_slice.ensures c.as_slice-in-Many-other.ensures
    c.same_words.ensures
