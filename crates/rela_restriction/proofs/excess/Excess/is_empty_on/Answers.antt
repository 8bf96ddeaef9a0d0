use Rattle.std.proofs.Common.{◌↔◌, List, ℕ, subst}
use Rattle.std.specs.Prelude.{IsTrue}
use Rattle.std.proofs.lemmas.Result.{IfOk-weaker}
use Rattle.rela_nfa.specs.Runs.{Accepts}
use Rattle.rela_subset.specs.Deterministic.{IsOver}
use Rattle.rela_restriction.specs.Excess.{Excess, IsInExcess, IsReadAs}
use Rattle.rela_restriction.proofs.Covering.{none_in_excess}
use Rattle.rela_restriction.proofs.excess.Excess.is_empty_on.Goals as goal

pub returns : goal.returns
returns g c =
    let inputs = c.args.inputs.now in
    let over = g.L.LabelSet.letters c.in_ok-over.over in
    IfOk-weaker c.accepts_none.result (λ none. IsTrue none ↔ ((w : List ℕ) → IsOver over w → ¬ Accepts c.self.inside.acts w))
    (λ empty. IsTrue empty → (read : ℕ → ℕ) (u v : List ℕ) → IsReadAs read inputs u → ¬ IsInExcess read c.args.self.now u v)
    (λ none told is read u v. subst (λ (x : Excess). IsReadAs read inputs u → ¬ IsInExcess read x u v) c.self.view_is
    (none_in_excess (record { letters = c.self.inside.letters; acts = c.self.inside.acts }) inputs over (record {
      writes = c.in_ok-over.ensures.writes;
      reads = c.in_ok-over.ensures.reads;
      keeps = c.in_ok-over.ensures.keeps;
    }) (told.0 is) read u v)) c.accepts_none.ensures
