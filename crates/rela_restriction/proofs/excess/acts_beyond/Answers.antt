use Rattle.std.proofs.Common.{◌≡◌, ℕ, ◌<◌, ◌⊎◌, ◌↔◌, List, ◌∙◌, ap, sym, subst}
use Rattle.std.specs.List.{All}
use Rattle.std.proofs.lemmas.Result.{IfOk-weaker}
use Rattle.rela_nfa.specs.Automaton.{Automaton}
use Rattle.rela_nfa.specs.Runs.{Accepts}
use Rattle.rela_restriction.specs.Automata.{act_automaton, act_count}
use Rattle.rela_restriction.proofs.Covering.{beyond}
use Rattle.rela_restriction.proofs.excess.acts_beyond.Goals as goal

pub other_acts-requires-clause-fits : goal.other_acts-requires-clause-fits
other_acts-requires-clause-fits g c = subst (λ (n : ℕ). g.L.LabelSet.fits (act_count n)) c.requires.letters c.requires.fits

pub meet-requires-clause-letters : goal.meet-requires-clause-letters
meet-requires-clause-letters g c =
    ap (λ (a : Automaton). a.letters) c.in_ok-acts.ensures ∙ ap act_count c.requires.letters ∙ sym c.in_ok-others.ensures.letters

pub returns-clause-letters : goal.returns-clause-letters
returns-clause-letters g c =
    IfOk-weaker c.meet.result (λ nfa. nfa.letters ≡ c.in_ok-acts.acts.letters) (λ nfa. nfa.letters ≡ act_count c.args.first.now.letters)
    (λ nfa same. same ∙ ap (λ (a : Automaton). a.letters) c.in_ok-acts.ensures) c.meet.ensures.letters

pub returns-clause-beyond : goal.returns-clause-beyond
returns-clause-beyond g c =
    let first = act_automaton c.args.first.now in
    let second = act_automaton c.args.second.now in
    let acts = c.in_ok-acts.acts in
    let others = c.in_ok-others.others in
    IfOk-weaker c.meet.result (λ nfa. (w : List ℕ) → Accepts nfa w ↔ (Accepts acts w × Accepts others w))
    (λ nfa. (w : List ℕ) → All (λ k. k < act_count c.args.second.now.letters) w → Accepts first w → Accepts second w ⊎ Accepts nfa w)
    (λ nfa meets w below. beyond first second acts others nfa c.in_ok-acts.ensures meets w (c.in_ok-others.ensures.others w below)) c.meet.ensures.language
