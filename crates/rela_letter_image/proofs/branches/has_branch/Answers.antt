use Rattle.std.proofs.Common.{◌≡◌, arith, inl, inr, refl, subst, sym, ◌∙◌}
use Rattle.std.proofs.lemmas.Bool.{cases_lt, false≢true}
use Rattle.rela_letter_image.specs.Branches.{IsBranch}
use Rattle.rela_letter_image.proofs.branches.has_branch.Goals as goal

pub loop-q-init : goal.loop-q-init
loop-q-init g c = λ p below. absurd (omega (arith, below))

pub loop-q-preserved : goal.loop-q-preserved
loop-q-preserved g c = λ p below branch. elim (cases_lt p c.loop-q.q) [
  | inl less ↦ c.loop-q.invariant p less branch
  | inr past ↦
      let here : p ≡ c.loop-q.q = omega (arith, past, below) in
      false≢true (sym c.if-is_branch.false ∙ c.is_branch.ensures.1 (subst (IsBranch c.args.relation.now) here branch))
]

pub returns-then-is_branch : goal.returns-then-is_branch
returns-then-is_branch g c = (λ yes. (c.loop-q.q, omega (arith, c.loop-q-test.true, c.states-q-end.ensures.states, c.loop-q.auto.q-end), c.is_branch.ensures.0 c.if-is_branch.true), λ some. refl)

pub returns : goal.returns
returns g c = (
  λ yes. absurd (false≢true yes),
  λ (p, below, branch). absurd (c.loop-q.invariant p (omega (arith, below, c.loop-q-test.false, c.states-q-end.ensures.states, c.loop-q.auto.q-end)) branch),
)
