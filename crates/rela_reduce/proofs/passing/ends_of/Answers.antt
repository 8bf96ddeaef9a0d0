use Rattle.std.proofs.Common.{◌<◌, ◌+◌, ℕ, List, get_or, length, sym, ap, subst, ◌∙◌, ◌≡◌}
use Rattle.std.proofs.lemmas.List.{length_push}
use Rattle.rela_nfa.specs.Automaton.{states}
use Rattle.rela_reduce.specs.Passing.{IsPast}
use Rattle.rela_reduce.proofs.PastDetours.{each_pushed}
use Rattle.rela_reduce.proofs.passing.ends_of.Goals as goal

pub loop-q-preserved : goal.loop-q-preserved
loop-q-preserved g c =
    let a = c.args.a.now in
    let ends = c.loop-q.ends.items in
    let pushed = sym c.in_ok-push.ensures.items in
    record {
      each = subst (λ (l : List ℕ). length l ≡ c.loop-q.q + 1) pushed (length_push ends c.past.result ∙ ap (λ n. n + 1) c.loop-q.invariant.each);
      within =
          subst (λ (l : List ℕ). (q : ℕ) → q < c.loop-q.q + 1 → get_or l q 0 < states a) pushed
          (each_pushed (λ q r. r < states a) ends c.past.result c.loop-q.q c.loop-q.invariant.each c.loop-q.invariant.within c.past.ensures.state);
      past =
          subst (λ (l : List ℕ). (q : ℕ) → q < c.loop-q.q + 1 → IsPast a q (get_or l q 0)) pushed
          (each_pushed (IsPast a) ends c.past.result c.loop-q.q c.loop-q.invariant.each c.loop-q.invariant.past c.past.ensures.past);
    }
