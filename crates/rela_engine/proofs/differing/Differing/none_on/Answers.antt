use Rattle.std.proofs.Common.{ℕ, List, subst}
use Rattle.std.specs.Prelude.{IsTrue}
use Rattle.std.proofs.lemmas.Result.{IfOk-weaker}
use Rattle.rela_restriction.specs.Excess.{IsInExcess, IsReadAs}
use Rattle.rela_engine.specs.Differing.{HaveNoneOn}
use Rattle.rela_engine.proofs.differing.Differing.none_on.Goals as goal

pub returns : goal.returns
returns c =
    let inputs = c.args.inputs.now in
    IfOk-weaker c.is_empty_on-2.result
    (λ empty. IsTrue empty → (read : ℕ → ℕ) (u v : List ℕ) → IsReadAs read inputs u → ¬ IsInExcess read c.self.inside.added u v)
    (λ none. IsTrue none → HaveNoneOn inputs c.args.self.now)
    (λ none second is.
    subst (HaveNoneOn inputs) c.self.view_is
    (λ read u v reads. (c.in_ok-is_empty_on.ensures c.if-not-branch.false read u v reads, second is read u v reads)))
    c.is_empty_on-2.ensures
