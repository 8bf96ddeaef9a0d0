use Rattle.std.proofs.Common.{ℕ, length, ◌∙◌, ◌⊎◌, ap, sym, subst, ◌<◌}
use Rattle.std.specs.List.{All}
use Rattle.rela_nfa.specs.Automaton.{Automaton}
use Rattle.rela_nfa.specs.Runs.{Accepts}
use Rattle.rela_restriction.proofs.Covering.{either_way}
use Rattle.rela_restriction.proofs.excess.other_acts.Goals as goal

pub returns-clause-letters : goal.returns-clause-letters
returns-clause-letters g c =
    ap (λ (a : Automaton). a.letters) c.in_ok-nfa.ensures.automaton ∙ ap length (c.in_ok-others.ensures.over ∙ c.in_ok-dfa.ensures.over)
    ∙ c.in_ok-over.ensures.size ∙ c.letters-size.ensures.letters ∙ ap (λ (a : Automaton). a.letters) c.in_ok-acts.ensures

pub returns-clause-others : goal.returns-clause-others
returns-clause-others g c w below =
    subst (λ (a : Automaton). Accepts a w ⊎ Accepts c.in_ok-nfa.nfa w) c.in_ok-acts.ensures
    (either_way c.in_ok-acts.acts c.in_ok-nfa.nfa c.in_ok-dfa.dfa c.in_ok-others.others (g.L.LabelSet.letters c.in_ok-over.over) c.letters-size.result
    c.in_ok-over.ensures.all c.in_ok-dfa.ensures.over c.in_ok-dfa.ensures.language c.in_ok-others.ensures.language c.in_ok-nfa.ensures.language w
    (subst (λ (n : ℕ). All (λ k. k < n) w) (sym (c.letters-size.ensures.letters ∙ ap (λ (a : Automaton). a.letters) c.in_ok-acts.ensures)) below))
