use Rattle.std.proofs.Common.{ℕ, ◌∙◌, ap, sym, subst, arith}
use Rattle.rela_restriction.specs.Automata.{act_count}
use Rattle.rela_restriction.proofs.Covering.{covers}
use Rattle.rela_restriction.proofs.excess.Excess.of.Goals as goal

pub invariant_of-result : goal.invariant_of-result
invariant_of-result g c = (
  subst (λ (n : ℕ). g.L.LabelSet.fits (act_count n)) (sym c.letters-letters.ensures.letters) c.requires.fits,
  omega (arith, c.letters-letters.ensures.letters, c.requires.few),
  c.in_ok-acts.ensures.letters ∙ c.in_ok-beyond.ensures.letters ∙ ap act_count (sym c.letters-letters.ensures.letters),
)

pub returns-clause-covers : goal.returns-clause-covers
returns-clause-covers g c read =
    covers c.args.first.now c.args.second.now c.letters-letters.ensures.machine c.start-2.ensures.machine c.requires.letters c.in_ok-beyond.beyond c.in_ok-acts.acts
    c.in_ok-beyond.ensures.letters c.in_ok-beyond.ensures.beyond c.in_ok-acts.ensures.language read c.letters-letters.result c.letters-letters.ensures.letters
