use Rattle.std.proofs.Common.{◌≡◌, ℕ, ◌+◌, ◌∷◌, [], ◌++◌, Bool, List, length, ap, sym, ◌∙◌, subst}
use Rattle.std.specs.List.{All, Contains}
use Rattle.std.proofs.lemmas.List.{length-map, length_push}
use Rattle.rela_reduce.specs.Simulation.{AreClosed, Silently}
use Rattle.rela_reduce.specs.Stored.{lists_of, plain}
use Rattle.rela_reduce.specs.declared.arrow.Step.{Step}
use Rattle.rela_reduce.proofs.Stepping.{IsStepOf, closed_push, lists_push}
use Rattle.rela_reduce.proofs.closed.closed_steps.Goals as goal

pub loop-p-preserved : goal.loop-p-preserved
loop-p-preserved c =
    let n = plain c.args.whole.now in
    let steps = c.loop-p.steps.items in
    let finals : List Bool = c.loop-p.finals.items in
    let ends : List ℕ = c.in_ok-ends.ends.items in
    let count : length (lists_of steps) ≡ c.loop-p.p = length-map steps (λ v. v.items) ∙ c.loop-p.invariant.steps in
    let own : All (IsStepOf n.arrows ends) c.in_ok-own.own.items = subst (λ (l : List ℕ). All (IsStepOf n.arrows l) c.in_ok-own.own.items) c.deref.ensures.value c.in_ok-own.ensures in
    let closed : AreClosed n (lists_of steps ++ c.in_ok-own.own.items ∷ []) (finals ++ c.has_final.result ∷ []) =
    closed_push n (lists_of steps) finals ends c.in_ok-own.own.items c.has_final.result (count ∙ sym c.loop-p.invariant.finals) c.loop-p.invariant.closed
    (subst (λ (p : ℕ). All (Silently n.arrows p) ends) (sym count) c.in_ok-ends.ensures.silent) own
    (λ set. let found = c.has_final.ensures set in (found.0, subst (λ (l : List ℕ). Contains l found.0) c.deref-in-loop-p.ensures.value found.1, found.2)) in
    record {
      steps = ap length c.in_ok-push.ensures.items ∙ length_push steps c.in_ok-own.own ∙ ap (λ k. k + 1) c.loop-p.invariant.steps;
      finals = ap length c.in_ok-push-2.ensures.items ∙ length_push finals c.has_final.result ∙ ap (λ k. k + 1) c.loop-p.invariant.finals;
      closed =
          subst (λ (l : List (List Step)). AreClosed n l c.push-in-loop-p.new.self.items) (sym (ap lists_of c.in_ok-push.ensures.items ∙ lists_push steps c.in_ok-own.own))
          (subst (λ (l : List Bool). AreClosed n (lists_of steps ++ c.in_ok-own.own.items ∷ []) l) (sym c.in_ok-push-2.ensures.items) closed);
    }
