use Rattle.std.proofs.Common.{subst}
use Rattle.rela_letter_nfa.specs.Chains.{AreEnds, IsDirect}
use Rattle.rela_letter_nfa.specs.LetterAutomaton.{IsLetterAutomaton}
use Rattle.rela_letter_nfa.proofs.WithoutChains.{direct_begins, direct_language, direct_leads, direct_pulled}
use Rattle.rela_letter_nfa.proofs.nfa.LetterNfa.without_silent_chains.Goals as goal

pub returns : goal.returns
returns c =
    let a = c.args.self.now in
    let ends = c.in_ok-ends.ends.items in
    let r = c.in_ok-nfa.nfa in
    let ok : IsLetterAutomaton a = c.in_ok-nfa.ensures.automaton in
    let built : IsDirect a ends r = subst (λ l. IsDirect a l r) c.deref.ensures.value c.in_ok-nfa.ensures.direct in
    let are : AreEnds a ends = c.in_ok-ends.ensures.ends in
    record {
      finals = built.finals;
      begins = direct_begins ends a r ok built are;
      direct = λ p q letter. direct_leads ends a r ok built are p q letter;
      pulled = direct_pulled ends a r ok built are;
      language = direct_language ends a r ok built are;
    }
