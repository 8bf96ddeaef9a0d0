use Rattle.std.proofs.Common.{◌+◌, Bor, map, take, ap, sym, ◌∙◌, arith}
use Rattle.std.proofs.lemmas.List.{get_or-map, length-map, length-take-le}
use Rattle.rela_nfa.specs.Automaton.{Automaton}
use Rattle.rela_nfa.specs.declared.nfa.Nfa.{Nfa}
use Rattle.rela_closed.proofs.Accepting.{finals_more, finals_none, met_set, some_set}
use Rattle.rela_closed.proofs.Readers.{map_pushed, map_take_more}
use Rattle.rela_closed.proofs.acceptance.accepting.Goals as goal

pub finals_at-requires-clause-some : goal.finals_at-requires-clause-some
finals_at-requires-clause-some g c =
    let now : Bor (Nfa g.row.L.Denot) → Automaton = λ a. a.now in
    some_set (map now c.args.automata.now) c.loop-n.n (omega (arith, c.loop-n-test.true, length-map c.args.automata.now now)) c.args.table.now c.requires.met

pub finals_at-requires-clause-met : goal.finals_at-requires-clause-met
finals_at-requires-clause-met g c =
    let now : Bor (Nfa g.row.L.Denot) → Automaton = λ a. a.now in
    let a = c.index-automata-n.result in
    met_set (map now c.args.automata.now) c.loop-n.n (omega (arith, c.loop-n-test.true, length-map c.args.automata.now now)) c.args.table.now (now a)
    (ap now c.index-automata-n.is ∙ sym (get_or-map now c.args.automata.now c.loop-n.n a (now a) c.loop-n-test.true)) c.requires.met

pub loop-n-preserved : goal.loop-n-preserved
loop-n-preserved g c =
    let now : Bor (Nfa g.row.L.Denot) → Automaton = λ a. a.now in
    let so_far = take c.loop-n.n c.args.automata.now in
    finals_more c.args.table.now c.args.numbers.now (map now so_far) (map now (take (c.loop-n.n + 1) c.args.automata.now)) c.loop-n.n (now c.index-automata-n.result)
    (map (λ flags. flags.items) c.loop-n.accepted.items) (map (λ flags. flags.items) c.push.new.self.items) c.in_ok-finals_at.field-0.items
    (length-map so_far now ∙ length-take-le c.loop-n.n c.args.automata.now (omega (arith, c.loop-n-test.true)))
    (map_take_more now c.args.automata.now c.loop-n.n c.index-automata-n.result c.loop-n-test.true c.index-automata-n.is)
    (map_pushed (λ flags. flags.items) c.loop-n.accepted.items c.push.new.self.items c.in_ok-finals_at.field-0 c.in_ok-push.ensures.items)
    c.loop-n.invariant c.in_ok-finals_at.ensures

pub loop-n-init : goal.loop-n-init
loop-n-init g c = finals_none c.args.table.now c.args.numbers.now (map (λ flags. flags.items) c.in_ok-accepted.accepted.items) (ap (map (λ flags. flags.items)) c.in_ok-accepted.ensures.items)
