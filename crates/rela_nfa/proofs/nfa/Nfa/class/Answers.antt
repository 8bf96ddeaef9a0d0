use Rattle.std.proofs.Common.{◌≡◌, length, true, [], ◌∷◌, ◌∙◌, ap, refl}
use Rattle.std.proofs.lemmas.List.Elements.{All-nil, All-cons}
use Rattle.rela_nfa.specs.Automaton.{Automaton}
use Rattle.rela_nfa.specs.Construction.{links, IsChain}
use Rattle.rela_nfa.proofs.Chains.{chain_ok, chain_start, letter_reached, letter_accepted}
use Rattle.rela_nfa.proofs.nfa.Nfa.class.Given.{Over}
use Rattle.rela_nfa.proofs.nfa.Nfa.class.Goals as goal

-- what was built
abbrev nfa : (g : Over) → goal.In_ok-edges g → Automaton
nfa g c = record {
  letters = c.args.letters;
  start = 0;
  finals = c.in_ok-finals.finals.items;
  edges = c.in_ok-edges.edges;
}

module _ (g : Over) (c : goal.In_ok-edges g) where
  built : IsChain (g.L.LabelSet.letters c.args.set.now ∷ []) true (nfa g c)
  built = record {
    start = refl;
    edges = c.in_ok-edges.ensures ∙ ap (λ set. links (set ∷ [])) c.in_ok-copy.ensures.same;
    finals = c.in_ok-finals.ensures.items;
    sized = All-cons (λ set. length set ≡ c.args.letters) _ [] c.requires.sized (All-nil (λ set. length set ≡ c.args.letters));
  }

pub invariant_of-result : goal.invariant_of-result
invariant_of-result g c = (c.requires.fits, chain_ok _ true (nfa g c) (built g c))

pub returns-clause-start : goal.returns-clause-start
returns-clause-start g c = chain_start _ true (nfa g c) (built g c)

pub returns-clause-end : goal.returns-clause-end
returns-clause-end g c = letter_reached _ (nfa g c) (built g c)

pub returns-clause-language : goal.returns-clause-language
returns-clause-language g c = letter_accepted _ (nfa g c) (built g c)
