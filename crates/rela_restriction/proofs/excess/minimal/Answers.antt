use Rattle.std.proofs.Common.{ℕ, ◌<◌, length, ◌∙◌, ap, sym, subst}
use Rattle.std.specs.List.{All}
use Rattle.rela_nfa.specs.Automaton.{Automaton}
use Rattle.rela_restriction.proofs.Covering.{still_accepted}
use Rattle.rela_restriction.proofs.excess.minimal.Goals as goal

pub returns-clause-letters : goal.returns-clause-letters
returns-clause-letters g c =
    ap (λ (a : Automaton). a.letters) c.in_ok-made.ensures.automaton ∙ ap length (c.in_ok-least.ensures.over ∙ c.in_ok-dfa.ensures.over)
    ∙ c.in_ok-over.ensures.size ∙ c.letters-size.ensures.letters

pub returns-clause-language : goal.returns-clause-language
returns-clause-language g c w below =
    still_accepted c.args.nfa.now c.in_ok-made.made c.in_ok-dfa.dfa c.in_ok-least.least (g.L.LabelSet.letters c.in_ok-over.over) c.letters-size.result
    c.in_ok-over.ensures.all c.in_ok-dfa.ensures.language c.in_ok-least.ensures.language c.in_ok-made.ensures.language w
    (subst (λ (n : ℕ). All (λ k. k < n) w) (sym c.letters-size.ensures.letters) below)
