use Rattle.std.proofs.Common.{◌+◌, false, true, [], ◌∷◌, ◌++◌, map, ◌∙◌, sym, ap, refl}
use Rattle.std.specs.Prelude.{replicate}
use Rattle.std.proofs.lemmas.List.{length-map}
use Rattle.rela_nfa.specs.Automaton.{Automaton}
use Rattle.rela_nfa.specs.Construction.{single, IsChain}
use Rattle.rela_nfa.proofs.Chains.{chain_ok, chain_states, singles_sized, word_reached, word_accepted}
use Rattle.rela_nfa.proofs.nfa.Nfa.word.Given.{Over}
use Rattle.rela_nfa.proofs.nfa.Nfa.word.Goals as goal

-- what was built
abbrev nfa : (g : Over) → goal.In_ok-edges g → Automaton
nfa g c = record {
  letters = c.args.letters;
  start = 0;
  finals = c.push.new.self.items;
  edges = c.in_ok-edges.edges;
}

module _ (g : Over) (c : goal.In_ok-edges g) where
  built : IsChain (map (single c.args.letters) c.args.word.now) true (nfa g c)
  built = record {
    start = refl;
    edges = c.in_ok-edges.ensures;
    finals =
        c.in_ok-push.ensures.items ∙ ap (λ l. l ++ true ∷ []) (c.in_ok-finals.ensures.items_if_clones_equal (λ y e. e))
        ∙ ap (λ n. replicate n false ++ true ∷ []) (sym (length-map c.args.word.now (single c.args.letters)));
    sized = singles_sized c.args.letters c.args.word.now;
  }

pub invariant_of-result : goal.invariant_of-result
invariant_of-result g c = (c.requires.fits, chain_ok _ true (nfa g c) (built g c))

pub returns-clause-states : goal.returns-clause-states
returns-clause-states g c = chain_states _ true (nfa g c) (built g c) ∙ ap (λ n. n + 1) (length-map c.args.word.now (single c.args.letters))

pub returns-clause-reached : goal.returns-clause-reached
returns-clause-reached g c = word_reached c.args.letters c.args.word.now c.requires.letters (nfa g c) (built g c)

pub returns-clause-language : goal.returns-clause-language
returns-clause-language g c = word_accepted c.args.letters c.args.word.now c.requires.letters (nfa g c) (built g c)
