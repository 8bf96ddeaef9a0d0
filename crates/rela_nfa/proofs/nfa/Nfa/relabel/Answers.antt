use Rattle.std.proofs.Common.{◌≡◌, ℕ, ◌<◌, map, length, ◌∙◌, sym, ap, subst, arith}
use Rattle.rela_labels.specs.Partition.{block_of, block_count}
use Rattle.rela_nfa.specs.Automaton.{Automaton, IsAutomaton}
use Rattle.rela_nfa.specs.Relabelling.{IsRelabelled, relabelled_move}
use Rattle.rela_nfa.proofs.Relabelled.{block_below, relabelled_states, relabelled_ok, relabelled_reach, relabelled_language}
use Rattle.rela_nfa.proofs.nfa.Nfa.relabel.Goals as goal

pub relabelled_lists-requires-clause-few : goal.relabelled_lists-requires-clause-few
relabelled_lists-requires-clause-few g c =
    omega (arith, ap length c.deref-2.ensures.value, c.in_ok-parents.ensures.len, c.in_ok-parents.parents.ok.0, c.blocks-letters.ensures.count, c.blocks-letters.type_inv)

pub relabelled_lists-requires-clause-fits : goal.relabelled_lists-requires-clause-fits
relabelled_lists-requires-clause-fits g c =
    subst g.M.LabelSet.fits (omega (arith, ap length c.deref-2.ensures.value, c.in_ok-parents.ensures.len, c.in_ok-parents.parents.ok.0)) c.requires.fits

pub invariant_of-result : goal.invariant_of-result
invariant_of-result g c =
    let a = c.args.self.now in
    let old = c.args.from.now in
    let fine = c.args.to.now in
    let parents = c.in_ok-parents.parents.items in
    let count : block_count fine ≡ length parents = sym c.in_ok-parents.ensures.len ∙ c.in_ok-parents.parents.ok.0 in
    let nfa : Automaton = record {
      letters = c.blocks-letters.result;
      start = c.self.inside.start;
      finals = c.in_ok-finals.finals.items;
      edges = c.in_ok-edges.edges;
    } in
    let built : IsRelabelled parents a nfa = record {
      letters = c.blocks-letters.ensures.count ∙ count;
      start = ap (λ (y : Automaton). y.start) c.self.view_is;
      finals = c.in_ok-finals.ensures.items ∙ c.deref.ensures.value ∙ ap (λ (y : Automaton). y.finals) c.self.view_is;
      edges =
          c.in_ok-edges.ensures ∙ ap (λ l. map (map (relabelled_move l)) c.self.inside.edges) c.deref-2.ensures.value
          ∙ ap (λ (y : Automaton). map (map (relabelled_move parents)) y.edges) c.self.view_is;
    } in
    (subst g.M.LabelSet.fits (sym c.blocks-letters.ensures.count) c.requires.fits, relabelled_ok parents a nfa built (subst IsAutomaton c.self.view_is c.self.invariant.1))

pub returns-clause-states : goal.returns-clause-states
returns-clause-states g c =
    let a = c.args.self.now in
    let old = c.args.from.now in
    let fine = c.args.to.now in
    let parents = c.in_ok-parents.parents.items in
    let count : block_count fine ≡ length parents = sym c.in_ok-parents.ensures.len ∙ c.in_ok-parents.parents.ok.0 in
    let nfa : Automaton = record {
      letters = c.blocks-letters.result;
      start = c.self.inside.start;
      finals = c.in_ok-finals.finals.items;
      edges = c.in_ok-edges.edges;
    } in
    let built : IsRelabelled parents a nfa = record {
      letters = c.blocks-letters.ensures.count ∙ count;
      start = ap (λ (y : Automaton). y.start) c.self.view_is;
      finals = c.in_ok-finals.ensures.items ∙ c.deref.ensures.value ∙ ap (λ (y : Automaton). y.finals) c.self.view_is;
      edges =
          c.in_ok-edges.ensures ∙ ap (λ l. map (map (relabelled_move l)) c.self.inside.edges) c.deref-2.ensures.value
          ∙ ap (λ (y : Automaton). map (map (relabelled_move parents)) y.edges) c.self.view_is;
    } in
    relabelled_states parents a nfa built

pub returns-clause-reached : goal.returns-clause-reached
returns-clause-reached g c =
    let a = c.args.self.now in
    let old = c.args.from.now in
    let fine = c.args.to.now in
    let parents = c.in_ok-parents.parents.items in
    let count : block_count fine ≡ length parents = sym c.in_ok-parents.ensures.len ∙ c.in_ok-parents.parents.ok.0 in
    let nfa : Automaton = record {
      letters = c.blocks-letters.result;
      start = c.self.inside.start;
      finals = c.in_ok-finals.finals.items;
      edges = c.in_ok-edges.edges;
    } in
    let built : IsRelabelled parents a nfa = record {
      letters = c.blocks-letters.ensures.count ∙ count;
      start = ap (λ (y : Automaton). y.start) c.self.view_is;
      finals = c.in_ok-finals.ensures.items ∙ c.deref.ensures.value ∙ ap (λ (y : Automaton). y.finals) c.self.view_is;
      edges =
          c.in_ok-edges.ensures ∙ ap (λ l. map (map (relabelled_move l)) c.self.inside.edges) c.deref-2.ensures.value
          ∙ ap (λ (y : Automaton). map (map (relabelled_move parents)) y.edges) c.self.view_is;
    } in
    let within : (s : ℕ) → s < length fine → block_of fine s < length parents = λ s below. omega (arith, block_below fine s below, count) in
    relabelled_reach parents a nfa built old fine (length fine) c.in_ok-parents.ensures.parents within

pub returns-clause-language : goal.returns-clause-language
returns-clause-language g c =
    let a = c.args.self.now in
    let old = c.args.from.now in
    let fine = c.args.to.now in
    let parents = c.in_ok-parents.parents.items in
    let count : block_count fine ≡ length parents = sym c.in_ok-parents.ensures.len ∙ c.in_ok-parents.parents.ok.0 in
    let nfa : Automaton = record {
      letters = c.blocks-letters.result;
      start = c.self.inside.start;
      finals = c.in_ok-finals.finals.items;
      edges = c.in_ok-edges.edges;
    } in
    let built : IsRelabelled parents a nfa = record {
      letters = c.blocks-letters.ensures.count ∙ count;
      start = ap (λ (y : Automaton). y.start) c.self.view_is;
      finals = c.in_ok-finals.ensures.items ∙ c.deref.ensures.value ∙ ap (λ (y : Automaton). y.finals) c.self.view_is;
      edges =
          c.in_ok-edges.ensures ∙ ap (λ l. map (map (relabelled_move l)) c.self.inside.edges) c.deref-2.ensures.value
          ∙ ap (λ (y : Automaton). map (map (relabelled_move parents)) y.edges) c.self.view_is;
    } in
    let within : (s : ℕ) → s < length fine → block_of fine s < length parents = λ s below. omega (arith, block_below fine s below, count) in
    relabelled_language parents a nfa built old fine (length fine) c.in_ok-parents.ensures.parents within
