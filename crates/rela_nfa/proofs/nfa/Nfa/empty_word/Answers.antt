use Rattle.std.proofs.Common.{true, []}
use Rattle.std.proofs.lemmas.Result.{IfOk-weaker}
use Rattle.rela_nfa.proofs.Chains.{chain_start, empty_accepted}
use Rattle.rela_nfa.proofs.nfa.Nfa.empty_word.Goals as goal

pub returns-clause-start : goal.returns-clause-start
returns-clause-start g c = IfOk-weaker c.one_state.result _ _ (λ nfa chain. chain_start [] true nfa chain) c.one_state.ensures.chain

pub returns-clause-language : goal.returns-clause-language
returns-clause-language g c = IfOk-weaker c.one_state.result _ _ (λ nfa chain. empty_accepted nfa chain) c.one_state.ensures.chain
