use Rattle.std.proofs.Common.{◌↔◌, ℕ, IsTrue, subst}
use Rattle.rela_letter_nfa.specs.Pair.{HasFinalFrom, IsSoughtSet}
use Rattle.rela_letter_nfa.proofs.Claims.{sought_told}
use Rattle.rela_letter_nfa.proofs.both.Both.is_sought.Goals as goal

pub returns : goal.returns
returns c =
    let first = c.self.inside.first.now in
    let second = c.self.inside.second.now in
    let set = c.args.set.now in
    subst (λ pair. IsTrue c.is_sought.result ↔ IsSoughtSet c.args.sought pair set) c.self.view_is
    (sought_told c.args.sought (IsTrue c.has_final-in_first.result) (HasFinalFrom first 0 set) (IsTrue c.has_final-in_second.result) (HasFinalFrom second _ set) (IsTrue c.is_sought.result)
    c.is_sought.ensures c.has_final-in_first.ensures
    (subst (λ (n : ℕ). IsTrue c.has_final-in_second.result ↔ HasFinalFrom second n set) c.self.invariant.0 c.has_final-in_second.ensures))
