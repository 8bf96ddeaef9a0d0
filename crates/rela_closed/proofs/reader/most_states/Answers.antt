use Rattle.std.proofs.Common.{ℕ, ◌≤◌, Bor, map, take, sym, ap, subst, arith}
use Rattle.std.specs.List.{All}
use Rattle.std.proofs.lemmas.List.{take_all}
use Rattle.std.proofs.lemmas.List.Elements.{All-push}
use Rattle.rela_nfa.specs.Automaton.{Automaton, states}
use Rattle.rela_nfa.specs.declared.nfa.Nfa.{Nfa}
use Rattle.rela_closed.proofs.Readers.{map_take_more}
use Rattle.rela_closed.proofs.reader.most_states.Goals as goal
use Rattle.rela_closed.proofs.reader.most_states.Goals.{then-count-most, else-count-most}

pub loop-a-preserved : goal.loop-a-preserved
loop-a-preserved g c =
    let now : Bor (Nfa g.row.L.Denot) → Automaton = λ a. a.now in
    let most : ℕ = c.if-count-most.most in
    let here : states c.a-item.result.now ≤ most = elim c.if-count-most.branch [ then-count-most w ↦ omega arith | else-count-most w ↦ omega arith ] in
    let longer : c.loop-a.most ≤ most = elim c.if-count-most.branch [ then-count-most w ↦ omega arith | else-count-most w ↦ omega arith ] in
    subst (All (λ a. states a ≤ most)) (sym (map_take_more now c.args.automata.now c.loop-a.a-index c.a-item.result c.loop-a-test.true c.a-item.is))
    (All-push (λ a. states a ≤ most) (map now (take c.loop-a.a-index c.args.automata.now)) c.a-item.result.now (λ k d below. omega (arith, c.loop-a.invariant k d below)) here)

pub returns : goal.returns
returns g c =
    let now : Bor (Nfa g.row.L.Denot) → Automaton = λ a. a.now in
    subst (All (λ a. states a ≤ c.loop-a.most)) (ap (map now) (take_all c.loop-a.a-index c.args.automata.now c.loop-a-test.false)) c.loop-a.invariant
