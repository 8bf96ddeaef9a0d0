use Rattle.std.proofs.Common.{◌∷◌, [], refl, ◌∙◌, subst}
use Rattle.rela_nfa.specs.Automaton.{Automaton}
use Rattle.rela_nfa.specs.Stored.{moves_in}
use Rattle.rela_closed.specs.Sets.{AreDistinct}
use Rattle.rela_closed.proofs.Accepting.{met_by}
use Rattle.rela_closed.proofs.Edges.{edges_followed}
use Rattle.rela_closed.proofs.Listed.{all_met_by, closed_by, left_by}
use Rattle.rela_closed.proofs.Machine.{IsMachine, is_complement, machine_automaton, machine_by, tells_all}
use Rattle.rela_closed.proofs.complementing.complement_by.Goals as goal

pub transitions-requires : goal.transitions-requires
transitions-requires g c = all_met_by _ _ _ _ _ c.in_ok-number_words.ensures.same c.in_ok-number_words.ensures.listed

pub returns-in_default-clause-open_list : goal.returns-in_default-clause-open_list
returns-in_default-clause-open_list g c =
    left_by _ _ _ _ _ _ _ c.requires.reads c.in_ok-number_words.ensures.same c.in_ok-number_words.ensures.listed (rw c.in_default.is at c.in_ok-edges.ensures.left)

pub refused_of-requires : goal.refused_of-requires
refused_of-requires g c =
    let kept = rw c.in-Some.is at c.in_ok-edges.ensures.kept in
    met_by (c.args.a.now ∷ []) _ _ _ _ _ c.requires.reads kept c.in_ok-number_words.ensures.listed

pub from_parts-requires-clause-automaton : goal.from_parts-requires-clause-automaton
from_parts-requires-clause-automaton g c =
    let letters = g.L.LabelSet.letters in
    let r : Automaton = record { letters = c.letters.result; start = 0; finals = c.deref.result.now; edges = moves_in letters c.in-Some.edges.items } in
    let kept = rw c.in-Some.is at c.in_ok-edges.ensures.kept in
    let each = rw c.in-Some.is at c.in_ok-edges.ensures.each in
    let edges = rw c.in-Some.is at c.in_ok-edges.ensures.edges in
    machine_automaton (letters c.args.over.now) c.args.a.now c.number_words.new.table r
    (machine_by (letters c.args.over.now) c.args.a.now c.args.steps.now _ _ c.number_words.new.table c.transitions.new.table _ c.in_ok-finals.finals.items
    (moves_in letters c.in-Some.edges.items) r c.requires.reads c.in_ok-number_words.ensures.same kept c.in_ok-number_words.ensures.listed
    (subst AreDistinct kept c.in_ok-finals.ensures.distinct) c.requires.letters c.in_ok-finals.ensures.each c.in_ok-finals.ensures.refused each edges c.letters.ensures.letters refl
    c.deref.ensures.value refl)

module _ (g : Rattle.rela_closed.proofs.complementing.complement_by.Given.Over) (c : goal.After-drop-finals-2 g) where
  made : IsMachine (g.L.LabelSet.letters c.args.over.now) c.args.a.now c.number_words.new.table c.in_ok-nfa.nfa
  made =
      let letters = g.L.LabelSet.letters in
      let kept = rw c.in-Some.is at c.in_ok-edges.ensures.kept in
      let each = rw c.in-Some.is at c.in_ok-edges.ensures.each in
      let edges = rw c.in-Some.is at c.in_ok-edges.ensures.edges in
      machine_by (letters c.args.over.now) c.args.a.now c.args.steps.now _ _ c.number_words.new.table c.transitions.new.table _ c.in_ok-finals.finals.items
      (moves_in letters c.in-Some.edges.items) c.in_ok-nfa.nfa c.requires.reads c.in_ok-number_words.ensures.same kept c.in_ok-number_words.ensures.listed
      (subst AreDistinct kept c.in_ok-finals.ensures.distinct) c.requires.letters c.in_ok-finals.ensures.each c.in_ok-finals.ensures.refused each edges
      (c.in_ok-nfa.ensures.letters ∙ c.letters.ensures.letters) c.in_ok-nfa.ensures.start (c.in_ok-nfa.ensures.finals ∙ c.deref.ensures.value) c.in_ok-nfa.ensures.edges

pub returns-clause-complement : goal.returns-clause-complement
returns-clause-complement g c =
    is_complement (g.L.LabelSet.letters c.args.over.now) c.args.a.now c.number_words.new.table c.in_ok-nfa.nfa (made g c) (c.in_ok-nfa.ensures.letters ∙ c.letters.ensures.letters)

pub returns-clause-told : goal.returns-clause-told
returns-clause-told g c = tells_all (g.L.LabelSet.letters c.args.over.now) c.args.a.now c.number_words.new.table c.in_ok-nfa.nfa (made g c)

pub returns-clause-closed : goal.returns-clause-closed
returns-clause-closed g c =
    closed_by _ _ _ _ _ _ _ c.requires.reads c.in_ok-number_words.ensures.same c.in_ok-number_words.ensures.listed
    (edges_followed (g.L.LabelSet.letters c.args.over.now) c.number_words.new.reader c.number_words.new.table _ _ (rw c.in-Some.is at c.in_ok-edges.ensures.edges))
