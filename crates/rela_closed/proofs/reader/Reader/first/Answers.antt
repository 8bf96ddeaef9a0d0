use Rattle.std.proofs.Common.{◌≤◌, Bor, [], map, take, ap, ◌∙◌, subst, arith}
use Rattle.std.specs.List.{All}
use Rattle.std.proofs.lemmas.List.{take_all}
use Rattle.rela_nfa.specs.Automaton.{Automaton, states}
use Rattle.rela_nfa.specs.declared.nfa.Nfa.{Nfa}
use Rattle.rela_closed.specs.Sets.{AreReached}
use Rattle.rela_closed.proofs.Readers.{all_at, map_pushed, map_take_more, reached_pushed}
use Rattle.rela_closed.proofs.SetsFound.{sets_in}
use Rattle.rela_closed.proofs.reader.Reader.first.Goals as goal

pub first_set-requires : goal.first_set-requires
first_set-requires g c =
    let now : Bor (Nfa g.row.L.Denot) → Automaton = λ a. a.now in
    record {
      room = all_at (λ a. states a ≤ c.loop-a.self-inside.visited.count) now c.self.inside.automata.now c.loop-a.a-index c.a-item.result c.loop-a-test.true c.a-item.is
          (subst (λ l. All (λ a. states a ≤ c.loop-a.self-inside.visited.count) (map now l.now)) c.loop-a.invariant.automata c.loop-a.invariant.room);
    }

pub loop-a-preserved : goal.loop-a-preserved
loop-a-preserved g c =
    let now : Bor (Nfa g.row.L.Denot) → Automaton = λ a. a.now in
    record {
      automata = c.loop-a.invariant.automata;
      room = λ k d below. omega (arith, c.loop-a.invariant.room k d below, c.in_ok-first_set.ensures.count);
      reached =
          reached_pushed (map now (take c.loop-a.a-index c.self.inside.automata.now)) _ c.a-item.result.now [] (sets_in c.loop-a.sets.items) _ c.in_ok-first_set.field-0.items
          (map_take_more now c.self.inside.automata.now c.loop-a.a-index c.a-item.result c.loop-a-test.true c.a-item.is)
          (map_pushed (λ set. set.items) c.loop-a.sets.items c.push.new.self.items c.in_ok-first_set.field-0 c.in_ok-push.ensures.items) c.loop-a.invariant.reached c.in_ok-first_set.ensures.first;
    }

pub returns-clause-first : goal.returns-clause-first
returns-clause-first g c =
    let now : Bor (Nfa g.row.L.Denot) → Automaton = λ a. a.now in
    subst (λ l. AreReached l [] (sets_in c.loop-a.sets.items)) (ap (map now) (take_all c.loop-a.a-index c.self.inside.automata.now c.loop-a-test.false) ∙ c.self.view_is) c.loop-a.invariant.reached
