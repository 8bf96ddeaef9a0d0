-- Pairing has one answer.
use Rattle.std.proofs.Common.{◌⊎◌, ◌≡◌, ◌≢◌, ◌∙◌, sym, ap, ℕ, ◌<◌, List, length, take, get_or, Option, Some, Result, Ok, Err, inl, inr, arith, subst}
use Rattle.std.proofs.lemmas.Bool.{cases_order}
use Rattle.std.specs.Prelude.{slice_get, All}
use Rattle.std.proofs.lemmas.Option.{slice_get_within, get_or_from_slice_get}
use Rattle.std.proofs.lemmas.List.{get_or-take, length-take}
use Rattle.rela_flows.specs.declared.predicate.FlowClass.{FlowClass}
use Rattle.rela_snapshot.specs.declared.snapshot.Flow.{Flow}
use Rattle.rela_snapshot.specs.declared.pairing.FlowPair.{FlowPair}
use Rattle.rela_snapshot.specs.declared.pairing.PairError.{PairError}
use Rattle.rela_snapshot.specs.declared.pairing.PairError.TheVariants.{FlowDiffers, Memory}
use Rattle.rela_snapshot.specs.Pair.{Agrees, AgreesWith, IsFirstDifference, Pairing, flow_named}
use Rattle.rela_snapshot.specs.Steps.{IsAnswer}

-- a flow that differs does not agree
disagrees : (after : List Flow) (flow other : Flow) → flow_named flow.class.name after ≡ Some other → flow.class ≢ other.class → Agrees after flow → ⊥
disagrees after flow other named differs agrees = differs (subst (λ (o : Option Flow). AgreesWith o flow) named agrees)

-- the flow in a row agrees where each does
at_row : (after flows : List Flow) (row : ℕ) (flow : Flow) → slice_get flows row ≡ Some flow → All (Agrees after) flows → Agrees after flow
at_row after flows row flow at each =
    subst (Agrees after) (get_or_from_slice_get flows row flow flow at) (each row flow (slice_get_within flows row flow at))

no_difference : (before after : List Flow) (row : ℕ) (first second : FlowClass) → All (Agrees after) before → IsFirstDifference before after row first second → ⊥
no_difference before after row first second each d = disagrees after d.flow d.other d.named d.differs (at_row after before row d.flow d.at each)

-- no difference stands before the first
earlier : (before after : List Flow) (i j : ℕ) (a b c d : FlowClass) → i < j → IsFirstDifference before after i a b → IsFirstDifference before after j c d → ⊥
earlier before after i j a b c d lt one two =
    let within : i < length before = slice_get_within before i one.flow one.at in
    let same : get_or (take j before) i one.flow ≡ one.flow = get_or-take j before i one.flow lt ∙ get_or_from_slice_get before i one.flow one.flow one.at in
    disagrees after one.flow one.other one.named one.differs
    (subst (Agrees after) same (two.earlier_agree i one.flow (omega (arith, length-take j before))))

same_some : {X : Type 0} (x y : X) → Some x ≡ Some y → x ≡ y
same_some x y e = cc

-- the difference in a row is told by the two snapshots
same_difference : (before after : List Flow) (i : ℕ) (a b c d : FlowClass) → IsFirstDifference before after i a b → IsFirstDifference before after i c d → (a ≡ c) × (b ≡ d)
same_difference before after i a b c d one two =
    let flow : one.flow ≡ two.flow = same_some one.flow two.flow (sym one.at ∙ two.at) in
    let other : one.other ≡ two.other = same_some one.other two.other (sym one.named ∙ ap (λ (f : Flow). flow_named f.class.name after) flow ∙ two.named) in (
      one.before_class ∙ ap (λ (f : Flow). f.class) flow ∙ sym two.before_class,
      one.after_class ∙ ap (λ (f : Flow). f.class) other ∙ sym two.after_class,
    )

differ_by : (before after : List Flow) (i j : ℕ) (a b c d : FlowClass) → (i ≡ j) ⊎ ((i < j) ⊎ (j < i)) → IsFirstDifference before after i a b → IsFirstDifference before after j c d
    → ◌≡◌ {A = Result (List FlowPair) PairError} (Err (FlowDiffers j c d)) (Err (FlowDiffers i a b))
differ_by before after i j a b c d (inl eq) one two =
    let same : (a ≡ c) × (b ≡ d) = same_difference before after i a b c d one (subst (λ (k : ℕ). IsFirstDifference before after k c d) (sym eq) two) in
    cc (eq, same.0, same.1)
differ_by before after i j a b c d (inr (inl lt)) one two = absurd (earlier before after i j a b c d lt one two)
differ_by before after i j a b c d (inr (inr gt)) one two = absurd (earlier before after j i c d a b gt two one)

pub pairing_alone : (before after : List Flow) (r s : Result (List FlowPair) PairError) → Pairing before after r → Pairing before after s → s ≡ r
unfolding Pairing
pairing_alone before after (Ok ps) (Ok qs) one two = ap (λ (ps : List FlowPair). Ok ps) (two.1 ∙ sym one.1)
pairing_alone before after (Ok ps) (Err (FlowDiffers row a b)) one two = absurd (no_difference before after row a b one.0 two)
pairing_alone before after (Ok ps) (Err Memory) one two = absurd two
pairing_alone before after (Err (FlowDiffers row a b)) (Ok qs) one two = absurd (no_difference before after row a b two.0 one)
pairing_alone before after (Err (FlowDiffers i a b)) (Err (FlowDiffers j c d)) one two = differ_by before after i j a b c d (cases_order i j) one two
pairing_alone before after (Err (FlowDiffers row a b)) (Err Memory) one two = absurd two
pairing_alone before after (Err Memory) s one two = absurd one

pub one_pairing : (before after : List Flow) (r : Result (List FlowPair) PairError) → Pairing before after r → IsAnswer (Pairing before after) r
one_pairing before after r is = record { answers = is; alone = λ s other. pairing_alone before after r s is other }
