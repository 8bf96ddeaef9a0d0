use Rattle.std.proofs.Common.{◌≡◌, ◌<◌, ◌++◌, length, get_or, drop, take, ap, sym, ◌∙◌, subst, inl, inr, arith}
use Rattle.std.specs.List.{All}
use Rattle.std.proofs.lemmas.Bool.{cases_lt}
use Rattle.std.proofs.lemmas.List.{get_or_default}
use Rattle.rela_letter_nfa.specs.Chains.{IsWalked}
use Rattle.rela_letter_nfa.specs.Sets.{HasFlag}
use Rattle.rela_letter_nfa.proofs.ChainEnds.{AreEndsSoFar, IsSettled, ends_below, ends_more, path_below, whole_taken}
use Rattle.rela_letter_nfa.proofs.chains.chain_ends.Goals as goal

pub settle-requires : goal.settle-requires
settle-requires c =
    subst (λ l. All (λ p. p < length c.deref_mut-in-loop-q.result.now) l) (sym c.deref.ensures.value)
    (path_below c.args.nfa.now c.deref_mut.result.now c.walk.new.flags c.walk.new.path.items c.in_ok-end.end (length c.deref_mut-in-loop-q.result.now) c.in_ok-end.ensures.walked
    (ap length c.deref_mut-in-loop-q.ensures.value ∙ c.loop-q.invariant.ends.count))

pub loop-q-preserved : goal.loop-q-preserved
loop-q-preserved c =
    let a = c.args.nfa.now in
    let flags = c.walk.new.flags in
    let ends = c.settle.new.ends in
    let before = c.loop-q.ends.items in
    let path = c.walk.new.path.items in
    let flags_are = whole_taken c.loop-q.flags.len flags (drop (length flags) c.loop-q.flags.items) (c.walk.auto.flags ∙ c.deref_mut.ensures.len) in
    let ends_are = whole_taken c.loop-q.ends.len ends (drop (length ends) c.loop-q.ends.items) (c.settle.auto.ends ∙ c.deref_mut-in-loop-q.ensures.len) in
    let walk : IsWalked a c.loop-q.flags.items flags path c.in_ok-end.end = subst (λ l. IsWalked a l flags path c.in_ok-end.end) c.deref_mut.ensures.value c.in_ok-end.ensures.walked in
    let end : c.index-end.result.now ≡ get_or before c.in_ok-end.end 0 =
    c.index-end.ensures ∙ get_or_default before c.in_ok-end.end c.index-end.result.now 0 (omega (arith, walk.state, c.loop-q.invariant.ends.count)) in
    let settled : IsSettled before ends path (get_or before c.in_ok-end.end 0) =
    subst (λ e. IsSettled before ends path e) end
    (subst (λ l. IsSettled l ends path c.index-end.result.now) c.deref_mut-in-loop-q.ensures.value
    (subst (λ l. IsSettled c.deref_mut-in-loop-q.result.now ends l c.index-end.result.now) c.deref.ensures.value (c.settle.ensures.settled, c.settle.ensures.kept))) in
    record {
      count = ap length flags_are ∙ c.walk.auto.flags ∙ ap length c.deref_mut.ensures.value ∙ c.loop-q.invariant.count;
      ends =
          subst (λ l. AreEndsSoFar a (take c.loop-q.flags.len (flags ++ drop (length flags) c.loop-q.flags.items)) l) (sym ends_are)
          (subst (λ l. AreEndsSoFar a l ends) (sym flags_are)
          (ends_more a c.loop-q.flags.items flags before ends path c.in_ok-end.end c.loop-q.invariant.ends walk (c.settle.auto.ends ∙ ap length c.deref_mut-in-loop-q.ensures.value) settled));
      passed = λ p below. subst (λ l. HasFlag l p) (sym flags_are) (elim (cases_lt p c.loop-q.q) [
        | inl less ↦ walk.kept p (c.loop-q.invariant.passed p less)
        | inr not_less ↦ subst (HasFlag flags) (let same : c.loop-q.q ≡ p = omega arith in same) c.in_ok-end.ensures.passed
      ]);
    }

pub returns-clause-states : goal.returns-clause-states
returns-clause-states c = ends_below c.args.nfa.now c.states-count.ensures.automaton c.loop-q.ends.items c.loop-q.invariant.ends.count c.loop-q.invariant.ends.led
