use Rattle.std.proofs.Common.{List, ℕ, sym, ◌∙◌, subst, arith}
use Rattle.std.proofs.lemmas.Bool.{false≢true}
use Rattle.std.proofs.lemmas.List.{get_or_default}
use Rattle.std.specs.List.{Contains}
use Rattle.rela_nfa.specs.Automaton.{IsFinal}
use Rattle.rela_nfa.proofs.nfa.Nfa.any_final.Goals as goal

pub returns : goal.returns
returns g c = (
  λ never. absurd (false≢true never),
  λ (q, among, final).
      let items = c.states-q-items.result.now in
      let at : Contains items q = subst (λ (l : List ℕ). Contains l q) (sym c.states-q-items.ensures.states) among in
      absurd (c.loop-q.invariant at.0 (omega (arith, at.1, c.loop-q-test.false)) (subst (λ n. IsFinal c.args.self.now n) (sym (get_or_default items at.0 0 q at.1 ∙ at.2)) final)),
)
