use Rattle.std.proofs.Common.{refl, inl, inr}
use Rattle.rela_compare.proofs.comparison.equal.Goals as goal

pub returns-in-None-clause-same : goal.returns-in-None-clause-same
returns-in-None-clause-same g c = (λ _. rw c.in-None.is at c.in_ok-first_difference.ensures.none, λ _. refl)

pub returns-in_ok-side-in-Some-clause-same : goal.returns-in_ok-side-in-Some-clause-same
returns-in_ok-side-in-Some-clause-same g c =
    let first = rw c.in-Some.is at c.in_ok-first_difference.ensures.first in (
      λ same. absurd (cc),
      λ all. absurd (elim first.member [
        | inl one ↦ one.1 ((all c.in-Some.word).0 one.0)
        | inr other ↦ other.1 ((all c.in-Some.word).1 other.0)
      ]),
    )
