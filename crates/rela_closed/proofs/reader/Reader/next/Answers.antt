use Rattle.std.proofs.Common.{rules, ◌≡◌, ◌<◌, ◌≤◌, Bor, [], ◌∷◌, ◌++◌, length, get_or, map, take, refl, sym, ap, ◌∙◌, subst, arith}
use Rattle.std.proofs.lemmas.List.{get_or-map, get_or_default, take_all}
use Rattle.rela_nfa.specs.Automaton.{Automaton, states}
use Rattle.rela_nfa.specs.StateSet.{Lists}
use Rattle.rela_nfa.specs.declared.nfa.Nfa.{Nfa}
use Rattle.rela_closed.specs.Sets.{AreReached, ReachedBy}
use Rattle.rela_closed.proofs.Readers.{all_at, map_pushed, map_take_more, place_of, reached_pushed, sets_as_many}
use Rattle.rela_closed.proofs.SetsFound.{sets_in}
use Rattle.rela_closed.proofs.reader.Reader.next.Given
use Rattle.rela_closed.proofs.reader.Reader.next.Goals as goal

pub bounds-sets-i : goal.bounds-sets-i
bounds-sets-i g c =
    let now : Bor (Nfa g.row.L.Denot) → Automaton = λ a. a.now in
    let many = sets_as_many now (λ set. set.items) c.self.inside.automata.now c.args.sets.now c.args.self.now c.requires.0 c.self.view_is c.requires.1 in
    let below = c.loop-i-test.true in
    omega arith

pub offset_bounds-sets-i : goal.offset_bounds-sets-i
offset_bounds-sets-i g c = let within = bounds-sets-i g c in search rules

bounds_of : (g : Given.Over) (c : goal.After-next_set-arg-1 g) → c.loop-i.i < length c.args.sets.now
bounds_of g c =
    let now : Bor (Nfa g.row.L.Denot) → Automaton = λ a. a.now in
    let many = sets_as_many now (λ set. set.items) c.self.inside.automata.now c.args.sets.now c.args.self.now c.requires.0 c.self.view_is c.requires.1 in
    let below = c.loop-i-test.true in
    omega arith

pub next_set-requires-clause-met : goal.next_set-requires-clause-met
next_set-requires-clause-met g c =
    let now : Bor (Nfa g.row.L.Denot) → Automaton = λ a. a.now in
    let mine : map now c.loop-i.self-inside.automata.now ≡ c.args.self.now = ap (λ l. map now l.now) c.loop-i.invariant.automata ∙ c.self.view_is in
    let inside : c.loop-i.i < length c.loop-i.self-inside.automata.now = omega (arith, ap (λ l. length l.now) c.loop-i.invariant.automata) in
    let set_is : get_or (sets_in c.args.sets.now) c.loop-i.i [] ≡ c.deref.result.now =
    get_or-map (λ set. set.items) c.args.sets.now c.loop-i.i c.index-sets-i.result [] (bounds_of g c) ∙ ap (λ set. set.items) (sym c.index-sets-i.is) ∙ sym c.deref.ensures.value in (
      c.requires.0,
      (
        subst (λ set. Lists (ReachedBy (now (get_or c.loop-i.self-inside.automata.now c.loop-i.i c.index-self-i.result)) c.requires.0) set) set_is
            (subst (λ a. Lists (ReachedBy (now a) c.requires.0) (get_or (sets_in c.args.sets.now) c.loop-i.i [])) c.index-self-i.is
            (place_of now c.loop-i.self-inside.automata.now c.args.self.now c.loop-i.i c.index-self-i.result c.requires.0 (sets_in c.args.sets.now) mine inside c.index-self-i.is c.requires.1)),
        refl,
      ),
    )

pub next_set-requires-clause-room : goal.next_set-requires-clause-room
next_set-requires-clause-room g c =
    let now : Bor (Nfa g.row.L.Denot) → Automaton = λ a. a.now in
    let inside : c.loop-i.i < length c.loop-i.self-inside.automata.now = omega (arith, ap (λ l. length l.now) c.loop-i.invariant.automata) in
    subst (λ a. states (now a) ≤ c.loop-i.self-inside.visited.count) c.index-self-i.is
    (all_at (λ a. states a ≤ c.loop-i.self-inside.visited.count) now c.loop-i.self-inside.automata.now c.loop-i.i c.index-self-i.result inside c.index-self-i.is c.loop-i.invariant.room)

pub loop-i-preserved : goal.loop-i-preserved
loop-i-preserved g c =
    let now : Bor (Nfa g.row.L.Denot) → Automaton = λ a. a.now in
    let mine = c.loop-i.self-inside.automata.now in
    let inside : c.loop-i.i < length mine = omega (arith, ap (λ l. length l.now) c.loop-i.invariant.automata) in
    record {
      automata = c.loop-i.invariant.automata;
      room = λ k d below. omega (arith, c.loop-i.invariant.room k d below, c.in_ok-next_set.ensures.count);
      reached = λ word before.
          let many = sets_as_many now (λ set. set.items) c.loop-i.self-inside.automata.now c.args.sets.now (map now mine) word refl before in
          let within : c.loop-i.i < length c.args.sets.now = omega arith in
          let set_is : get_or (sets_in c.args.sets.now) c.loop-i.i [] ≡ c.deref.result.now =
          get_or-map (λ set. set.items) c.args.sets.now c.loop-i.i c.index-sets-i.result [] within ∙ ap (λ set. set.items) (sym c.index-sets-i.is) ∙ sym c.deref.ensures.value in
          let here = get_or mine c.loop-i.i c.index-self-i.result in
          let is_here : Lists (ReachedBy (now here) word) c.deref.result.now =
          subst (λ set. Lists (ReachedBy (now here) word) set) set_is
          (subst (λ a. Lists (ReachedBy (now a) word) (get_or (sets_in c.args.sets.now) c.loop-i.i [])) c.index-self-i.is
          (place_of now mine (map now mine) c.loop-i.i c.index-self-i.result word (sets_in c.args.sets.now) refl inside c.index-self-i.is before)) in
          reached_pushed (map now (take c.loop-i.i mine)) _ (now here) (word ++ c.args.letter ∷ []) (sets_in c.loop-i.next.items) _ c.in_ok-next_set.field-0.items
          (map_take_more now mine c.loop-i.i here inside (get_or_default mine c.loop-i.i c.index-self-i.result here inside))
          (map_pushed (λ set. set.items) c.loop-i.next.items c.push.new.self.items c.in_ok-next_set.field-0 c.in_ok-push.ensures.items)
          (c.loop-i.invariant.reached word before) (c.in_ok-next_set.ensures.next word is_here);
    }

pub returns-clause-leads : goal.returns-clause-leads
returns-clause-leads g c =
    let now : Bor (Nfa g.row.L.Denot) → Automaton = λ a. a.now in
    let is : map now c.loop-i.self-inside.automata.now ≡ c.args.self.now = ap (λ l. map now l.now) c.loop-i.invariant.automata ∙ c.self.view_is in
    let all : length c.loop-i.self-inside.automata.now ≤ c.loop-i.i = omega (arith, c.loop-i-test.false, ap (λ l. length l.now) c.loop-i.invariant.automata) in
    λ word reached. subst (λ l. AreReached l (word ++ c.args.letter ∷ []) (sets_in c.loop-i.next.items)) (ap (map now) (take_all c.loop-i.i c.loop-i.self-inside.automata.now all) ∙ is)
    (c.loop-i.invariant.reached word (subst (λ l. AreReached l word (sets_in c.args.sets.now)) (sym is) reached))
