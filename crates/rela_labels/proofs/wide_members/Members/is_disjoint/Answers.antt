use Rattle.std.proofs.Common.{◌==◌, refl, sym, ap, ◌∙◌}
use Rattle.rela_labels.specs.WideSets.{holds}
use Rattle.rela_labels.specs.Words.{bit_of}
use Rattle.rela_labels.proofs.LoneLetters.{disjoint_as, disjoint_from_one}
use Rattle.rela_labels.proofs.wide_members.Members.is_disjoint.Goals as goal

pub returns-in-One-other : goal.returns-in-One-other
returns-in-One-other c =
    disjoint_as (holds c.args.self.now) (holds c.args.other.now) (holds c.args.self.now) (λ k. c.in-One-other.letter == k) _ (λ k. refl)
    (λ k. ap (λ m. holds m k) c.in-One-other.is)
    (disjoint_from_one (holds c.args.self.now) c.in-One-other.letter c.contains-in-One-other.result c.contains-in-One-other.ensures)

pub returns-in-Many-other : goal.returns-in-Many-other
returns-in-Many-other c =
    disjoint_as (holds c.args.self.now) (holds c.args.other.now) (bit_of c.as_slice.result.now) (bit_of c.as_slice-in-Many-other.result.now) _
    (λ k. ap (λ m. holds m k) c.in-Many.is ∙ ap (λ words. bit_of words k) (sym c.as_slice.ensures))
    (λ k. ap (λ m. holds m k) c.in-Many-other.is ∙ ap (λ words. bit_of words k) (sym c.as_slice-in-Many-other.ensures)) c.disjoint_words.ensures
