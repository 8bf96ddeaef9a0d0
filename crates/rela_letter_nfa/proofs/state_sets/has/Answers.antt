use Rattle.std.proofs.Common.{◌≢◌, ◌+◌, ◌-◌, ◌<◌, ◌≤◌, ℕ, List, [], length, get_or, nat_eq, sym, ap, ◌∙◌, subst, arith}
use Rattle.std.specs.Cmp.Lexicographic.{pointwise}
use Rattle.std.proofs.lemmas.Bool.{false≢true}
use Rattle.rela_letter_nfa.specs.Buckets.{befores, sets_at}
use Rattle.rela_letter_nfa.proofs.Bucketing.{IsSeeking, before_at, pointwise_same, seeking_none, seeking_on, sets_count}
use Rattle.rela_letter_nfa.proofs.state_sets.has.Goals as goal

pub loop-at-smaller : goal.loop-at-smaller
loop-at-smaller c =
    let placed = c.args.placed.now in
    let i = c.loop-at.at - 1 in
    let within : i < length placed = omega (arith, c.loop-at-test.true, c.loop-at.invariant.upto, sets_count c.args.items.now placed) in
    let upto : get_or (befores placed) i 0 ≤ i = (c.requires.bucketed.earlier i (omega (arith, within, sets_count c.args.items.now placed))).upto in
    omega (arith, before_at placed i (record { from = 0; to = 0; before = 0 }) within, upto, c.loop-at-test.true)

pub loop-at-preserved : goal.loop-at-preserved
loop-at-preserved c =
    let items = c.args.items.now in
    let placed = c.args.placed.now in
    let states = c.args.set.now in
    let sets = sets_at items placed in
    let i = c.loop-at.at - 1 in
    let within : i < length placed = omega (arith, c.loop-at-test.true, c.loop-at.invariant.upto, sets_count items placed) in
    let seeking : IsSeeking sets (length c.args.lasts.now) states (i + 1) = subst (IsSeeking sets (length c.args.lasts.now) states) (omega (arith, c.loop-at-test.true)) c.loop-at.invariant in
    let other : get_or sets i [] ≢ states =
    λ same. false≢true (sym c.if-eq.false ∙ c.eq.ensures ∙ ap (λ (l : List ℕ). pointwise nat_eq l states) (c.set_at.ensures ∙ same) ∙ pointwise_same states) in
    subst (IsSeeking sets (length c.args.lasts.now) states) (before_at placed i (record { from = 0; to = 0; before = 0 }) within)
    (seeking_on sets (befores placed) c.args.lasts.now states c.requires.bucketed i seeking other)

pub returns : goal.returns
returns c = (
  λ never. absurd (false≢true never),
  λ among. absurd (seeking_none (sets_at c.args.items.now c.args.placed.now) (length c.args.lasts.now) c.args.set.now
      (subst (IsSeeking (sets_at c.args.items.now c.args.placed.now) (length c.args.lasts.now) c.args.set.now) (omega (arith, c.loop-at-test.false)) c.loop-at.invariant) among),
)
