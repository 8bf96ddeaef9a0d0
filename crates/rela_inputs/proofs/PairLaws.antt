-- What two snapshots give, whichever of the flows that no file can tell apart stand for them.
use Rattle.std.proofs.Common.{◌≡◌, ◌≢◌, ◌∙◌, ℕ, zero, suc, ◌⊎◌, inl, inr, Bool, true, false, cond, not, List, [], ◌∷◌, ◌++◌, map, take, Option, None, Some, Result, Ok, Err, IsTrue, refl, sym, ap, subst}
use Rattle.std.specs.Prelude.{slice_get}
use Rattle.std.specs.List.{All}
use Rattle.std.specs.Str.{bytes_eq}
use Rattle.std.specs.Result.{IfErr}
use Rattle.std.proofs.lemmas.List.Elements.{All-nil, All-cons, All-head, All-tail}
use Rattle.rela_flows.specs.declared.predicate.FlowClass.{FlowClass}
use Rattle.rela_graph.specs.Topology.{Topology}
use Rattle.rela_locations.specs.Network.{Network}
use Rattle.rela_snapshot.specs.Names.{has_name}
use Rattle.rela_snapshot.specs.Pair.{flow_named, no_nodes, graph_or_none, pair_before, pair_after, flows_without, pairs_of, AgreesWith, Agrees, IsFirstDifference, Pairing}
use Rattle.rela_snapshot.specs.SnapshotFlows.{names_of}
use Rattle.rela_snapshot.specs.Steps.{After as After', IsAnswer, ◌>>=◌}
use Rattle.rela_snapshot.specs.declared.pairing.FlowPair.{FlowPair}
use Rattle.rela_snapshot.specs.declared.pairing.PairError.{PairError}
use Rattle.rela_snapshot.specs.declared.pairing.PairError.TheVariants as pair
use Rattle.rela_snapshot.specs.declared.snapshot.Flow.{Flow}
use Rattle.rela_inputs.specs.Given.{Equals, Agrees as Agrees', IsToldBy, IsGiven, IsRead}
use Rattle.rela_inputs.specs.Inputs.{Gives, ReadsFlows}
use Rattle.rela_inputs.specs.Paired.{IsPairedAs, ArePaired, GivesPairs}
use Rattle.rela_inputs.specs.Halts.{pair_halt}
use Rattle.rela_inputs.specs.Reading.{HaltsInside, is_too_long}
use Rattle.rela_same_flows.specs.SameFlows.{SameGraph, SameFlow, SameFlows, SamePair, SamePairs}
use Rattle.rela_inputs.specs.declared.reading.Halt.{Halt}
use Rattle.rela_inputs.specs.declared.reading.Halt.TheVariants.{Refused, ReadFault, Memory}
use Rattle.rela_inputs.specs.declared.refusal.Input.TheVariants.{Before, After, Pair}
use Rattle.rela_inputs.specs.declared.refusal.Reason.TheVariants.{FlowDiffers}
use Rattle.rela_inputs.specs.declared.refusal.Refusal.{Refusal}
use Rattle.rela_inputs.proofs.GivenLaws.{stopped, continued, value_read, refused_read, memory_read}

-- ---- flows that are the same, turned round

pub graph_flipped : (g h : Topology) → SameGraph g h → SameGraph h g
graph_flipped g h same = record {
  nodes = sym same.nodes;
  edges = λ a b. ((same.edges a b).1, (same.edges a b).0);
  starts = λ n. ((same.starts n).1, (same.starts n).0);
  delivered = λ n. ((same.delivered n).1, (same.delivered n).0);
  dropped = λ n. ((same.dropped n).1, (same.dropped n).0);
}

pub graph_itself : (g : Topology) → SameGraph g g
graph_itself g = record {
  nodes = refl;
  edges = λ a b. (λ e. e, λ e. e);
  starts = λ n. (λ e. e, λ e. e);
  delivered = λ n. (λ e. e, λ e. e);
  dropped = λ n. (λ e. e, λ e. e);
}

flows_flipped : (fs gs : List Flow) → SameFlows fs gs → SameFlows gs fs
flows_flipped [] [] same = tt
flows_flipped [] (g ∷ gs) same = absurd same
flows_flipped (f ∷ fs) [] same = absurd same
flows_flipped (f ∷ fs) (g ∷ gs) same =
    (record { class = sym same.0.class; graph = graph_flipped f.graph g.graph same.0.graph }, flows_flipped fs gs same.1)

-- ---- the flow of a name

abbrev SameFound : Option Flow → Option Flow → Type 0
SameFound None None = Unit {0}
SameFound None (Some g) = ⊥
SameFound (Some f) None = ⊥
SameFound (Some f) (Some g) = SameFlow f g

found_by : (b : Bool) (f g : Flow) (of og : Option Flow) → SameFlow f g → SameFound of og → SameFound (cond b (Some f) of) (cond b (Some g) og)
found_by true f g of og same rest = same
found_by false f g of og same rest = rest

named_same : (name : List ℕ) (fs gs : List Flow) → SameFlows fs gs → SameFound (flow_named name fs) (flow_named name gs)
named_same name [] [] same = tt
named_same name [] (g ∷ gs) same = absurd same
named_same name (f ∷ fs) [] same = absurd same
named_same name (f ∷ fs) (g ∷ gs) same =
    let test : bytes_eq name f.class.name ≡ bytes_eq name g.class.name = ap (λ (c : FlowClass). bytes_eq name c.name) same.0.class in
    subst (λ (t : Bool). SameFound (cond (bytes_eq name f.class.name) (Some f) (flow_named name fs)) (cond t (Some g) (flow_named name gs))) test
    (found_by (bytes_eq name f.class.name) f g (flow_named name fs) (flow_named name gs) same.0 (named_same name fs gs same.1))

-- the flow of the name of one among some is that of the name of the other among the others
partner_same : (f g : Flow) (fs gs : List Flow) → SameFlow f g → SameFlows fs gs → SameFound (flow_named f.class.name fs) (flow_named g.class.name gs)
partner_same f g fs gs same all =
    subst (λ (c : FlowClass). SameFound (flow_named f.class.name fs) (flow_named c.name gs)) same.class (named_same f.class.name fs gs all)

agrees_with : (f g : Flow) (of og : Option Flow) → SameFlow f g → SameFound of og → AgreesWith of f → AgreesWith og g
agrees_with f g None None same found agrees = tt
agrees_with f g None (Some y) same found agrees = absurd found
agrees_with f g (Some x) None same found agrees = absurd found
agrees_with f g (Some x) (Some y) same found agrees = sym same.class ∙ (agrees ∙ found.class)

module _ (ls ms : List Flow) (later : SameFlows ls ms) where
  all_agree : (fs gs : List Flow) → SameFlows fs gs → All (Agrees ls) fs → All (Agrees ms) gs
  all_agree [] [] same each = All-nil (Agrees ms)
  all_agree [] (g ∷ gs) same each = absurd same
  all_agree (f ∷ fs) [] same each = absurd same
  all_agree (f ∷ fs) (g ∷ gs) same each =
      All-cons (Agrees ms) g gs
      (agrees_with f g (flow_named f.class.name ls) (flow_named g.class.name ms) same.0 (partner_same f g ls ms same.0 later) (All-head (Agrees ls) f fs each))
      (all_agree fs gs same.1 (All-tail (Agrees ls) f fs each))

taken_same : (n : ℕ) (fs gs : List Flow) → SameFlows fs gs → SameFlows (take n fs) (take n gs)
taken_same zero fs gs same = tt
taken_same (suc n) [] [] same = tt
taken_same (suc n) [] (g ∷ gs) same = absurd same
taken_same (suc n) (f ∷ fs) [] same = absurd same
taken_same (suc n) (f ∷ fs) (g ∷ gs) same = (same.0, taken_same n fs gs same.1)

found_other : (of og : Option Flow) (f : Flow) → SameFound of og → of ≡ Some f → (g : Flow) × (og ≡ Some g) × SameFlow f g
found_other None og f same is = absurd (cc)
found_other (Some x) None f same is = absurd same
found_other (Some x) (Some y) f same is =
    let one : x ≡ f = cc in
    (y, refl, subst (λ (z : Flow). SameFlow z y) one same)

at_same : (k : ℕ) (fs gs : List Flow) → SameFlows fs gs → SameFound (slice_get fs k) (slice_get gs k)
at_same k [] [] same = tt
at_same k [] (g ∷ gs) same = absurd same
at_same k (f ∷ fs) [] same = absurd same
at_same zero (f ∷ fs) (g ∷ gs) same = same.0
at_same (suc k) (f ∷ fs) (g ∷ gs) same = at_same k fs gs same.1

difference_same : (fs gs ls ms : List Flow) (row : ℕ) (first second : FlowClass) → SameFlows fs gs → SameFlows ls ms
    → IsFirstDifference fs ls row first second → IsFirstDifference gs ms row first second
difference_same fs gs ls ms row first second earlier later d =
    let here = found_other (slice_get fs row) (slice_get gs row) d.flow (at_same row fs gs earlier) d.at in
    let there = found_other (flow_named d.flow.class.name ls) (flow_named here.0.class.name ms) d.other (partner_same d.flow here.0 ls ms here.2 later) d.named in
    record {
      flow = here.0;
      other = there.0;
      at = here.1;
      named = there.1;
      before_class = d.before_class ∙ here.2.class;
      after_class = d.after_class ∙ there.2.class;
      differs = λ same. d.differs (here.2.class ∙ (same ∙ sym there.2.class));
      earlier_agree = all_agree ls ms later (take row fs) (take row gs) (taken_same row fs gs earlier) d.earlier_agree;
    }

-- ---- the pairs

graph_found : (of og : Option Flow) → SameFound of og → SameGraph (graph_or_none of) (graph_or_none og)
graph_found None None same = graph_itself no_nodes
graph_found None (Some g) same = absurd same
graph_found (Some f) None same = absurd same
graph_found (Some f) (Some g) same = same.graph

before_same : (ls ms : List Flow) → SameFlows ls ms → (f g : Flow) → SameFlow f g → SamePair (pair_before ls f) (pair_before ms g)
before_same ls ms later f g same = record {
  class = same.class;
  before = same.graph;
  after = graph_found (flow_named f.class.name ls) (flow_named g.class.name ms) (partner_same f g ls ms same later);
}

befores_same : (ls ms : List Flow) → SameFlows ls ms → (fs gs : List Flow) → SameFlows fs gs → SamePairs (map (pair_before ls) fs) (map (pair_before ms) gs)
befores_same ls ms later [] [] same = tt
befores_same ls ms later [] (g ∷ gs) same = absurd same
befores_same ls ms later (f ∷ fs) [] same = absurd same
befores_same ls ms later (f ∷ fs) (g ∷ gs) same = (before_same ls ms later f g same.0, befores_same ls ms later fs gs same.1)

after_same : (f g : Flow) → SameFlow f g → SamePair (pair_after f) (pair_after g)
after_same f g same = record { class = same.class; before = graph_itself no_nodes; after = same.graph }

names_same : (fs gs : List Flow) → SameFlows fs gs → names_of fs ≡ names_of gs
names_same [] [] same = refl
names_same [] (g ∷ gs) same = absurd same
names_same (f ∷ fs) [] same = absurd same
names_same (f ∷ fs) (g ∷ gs) same =
    let one : f.class.name ≡ g.class.name = ap (λ (c : FlowClass). c.name) same.0.class in
    let more : names_of fs ≡ names_of gs = names_same fs gs same.1 in
    cc

rest_by : (b : Bool) (f g : Flow) (fs gs : List Flow) → SameFlow f g → SamePairs (map pair_after fs) (map pair_after gs)
    → SamePairs (map pair_after (cond b (f ∷ fs) fs)) (map pair_after (cond b (g ∷ gs) gs))
rest_by true f g fs gs same more = (after_same f g same, more)
rest_by false f g fs gs same more = more

module _ (names : List (List ℕ)) where
  abbrev is_new : FlowClass → Bool
  is_new c = not (has_name names c.name)

  afters_same : (fs gs : List Flow) → SameFlows fs gs → SamePairs (map pair_after (flows_without names fs)) (map pair_after (flows_without names gs))
  afters_same [] [] same = tt
  afters_same [] (g ∷ gs) same = absurd same
  afters_same (f ∷ fs) [] same = absurd same
  afters_same (f ∷ fs) (g ∷ gs) same =
      subst (λ (t : Bool). SamePairs (map pair_after (cond (is_new f.class) (f ∷ flows_without names fs) (flows_without names fs)))
      (map pair_after (cond t (g ∷ flows_without names gs) (flows_without names gs)))) (ap is_new same.0.class)
      (rest_by (is_new f.class) f g (flows_without names fs) (flows_without names gs) same.0 (afters_same fs gs same.1))

joined_same : (ps qs rs ss : List FlowPair) → SamePairs ps qs → SamePairs rs ss → SamePairs (ps ++ rs) (qs ++ ss)
joined_same [] [] rs ss same more = more
joined_same [] (q ∷ qs) rs ss same more = absurd same
joined_same (p ∷ ps) [] rs ss same more = absurd same
joined_same (p ∷ ps) (q ∷ qs) rs ss same more = (same.0, joined_same ps qs rs ss same.1 more)

pub pairs_same : (fs gs ls ms : List Flow) → SameFlows fs gs → SameFlows ls ms → SamePairs (pairs_of fs ls) (pairs_of gs ms)
pairs_same fs gs ls ms earlier later =
    subst (λ (names : List (List ℕ)). SamePairs (pairs_of fs ls) (map (pair_before ms) gs ++ map pair_after (flows_without names ms))) (names_same fs gs earlier)
    (joined_same (map (pair_before ls) fs) (map (pair_before ms) gs) (map pair_after (flows_without (names_of fs) ls)) (map pair_after (flows_without (names_of fs) ms))
    (befores_same ls ms later fs gs earlier) (afters_same (names_of fs) ls ms later))

-- ---- what pairing answers

-- the same pairs or the same refusal
abbrev SameAnswers : Result (List FlowPair) Refusal → Result (List FlowPair) Refusal → Type 0
SameAnswers (Ok pairs) (Ok others) = SamePairs pairs others
SameAnswers (Ok pairs) (Err refusal) = ⊥
SameAnswers (Err refusal) (Ok pairs) = ⊥
SameAnswers (Err refusal) (Err other) = refusal ≡ other

abbrev differing : FlowClass → FlowClass → Result (List FlowPair) Refusal
differing first second = Err (record { input = Pair; reason = FlowDiffers first second })

-- flows gs and bs are paired as fs and as are
module _ (fs gs ls ms : List Flow) (earlier : SameFlows fs gs) (later : SameFlows ls ms) where
  paired_same : (x : Result (List FlowPair) Refusal) (y : Result (List FlowPair) PairError) → Pairing gs ms y → IsPairedAs y x
      → (z : Result (List FlowPair) Refusal) × ArePaired fs ls z × SameAnswers z x
  unfolding Pairing ArePaired
  paired_same x (Ok pairs) (agree, are) is =
      let all : All (Agrees ls) fs = all_agree ms ls (flows_flipped ls ms later) gs fs (flows_flipped fs gs earlier) agree in
      let same : SameAnswers (Ok (pairs_of fs ls)) x = subst (λ (r : Result (List FlowPair) Refusal). SameAnswers (Ok (pairs_of fs ls)) r) (sym is)
      (subst (λ (ps : List FlowPair). SamePairs (pairs_of fs ls) ps) (sym are) (pairs_same fs gs ls ms earlier later)) in
      (Ok (pairs_of fs ls), (Ok (pairs_of fs ls), (all, refl), refl), same)
  paired_same x (Err (pair.FlowDiffers row first second)) differs is =
      let here = difference_same gs fs ms ls row first second (flows_flipped fs gs earlier) (flows_flipped ls ms later) differs in (
        differing first second,
        (Err (pair.FlowDiffers row first second), here, refl),
        subst (λ (r : Result (List FlowPair) Refusal). SameAnswers (differing first second) r) (sym is) refl,
      )
  paired_same x (Err pair.Memory) differs is = absurd is

  agreeing : (steady : Bool) (r : Result (List FlowPair) Halt) (z x : Result (List FlowPair) Refusal) → IfErr r HaltsInside
      → Agrees' true Equals r z → SameAnswers z x → Agrees' steady SamePairs r x
  agreeing steady (Ok p) (Ok z) (Ok x) halts agrees same = subst (λ (q : List FlowPair). SamePairs q x) (sym agrees) same
  agreeing steady (Ok p) (Ok z) (Err f) halts agrees same = absurd same
  agreeing steady (Ok p) (Err e) x halts agrees same = absurd agrees
  agreeing steady (Err (Refused refusal)) (Ok z) x halts agrees same = absurd agrees
  agreeing steady (Err (Refused refusal)) (Err e) (Ok x) halts agrees same = absurd same
  agreeing steady (Err (Refused refusal)) (Err e) (Err f) halts agrees same = agrees ∙ same
  agreeing steady (Err ReadFault) z x halts agrees same = absurd halts
  agreeing steady (Err Memory) z x halts agrees same = tt

  -- what pairs the flows answers for the others
  paired_agrees : (steady : Bool) (r : Result (List FlowPair) Halt) (x : Result (List FlowPair) Refusal) → IsRead Equals (ArePaired fs ls) r → ArePaired gs ms x → Agrees' steady SamePairs r x
  unfolding ArePaired
  paired_agrees steady r x reads paired =
      let found = paired_same x paired.0 paired.1 paired.2 in
      agreeing steady r found.0 x reads.halts (reads.given.alone refl found.0 found.1) found.2

-- ---- what pairs them

abbrev Halts : PairError → Type 0
Halts e = (e ≡ pair.Memory) ⊎ ((e ≢ pair.Memory) × (refusal : Refusal) × (pair_halt e ≡ Refused refusal) × (is_too_long refusal ≡ false) × IsPairedAs (Err e) (Err refusal))

pair_halts : (e : PairError) → Halts e
pair_halts (pair.FlowDiffers row first second) = inr (λ m. cc, record { input = Pair; reason = FlowDiffers first second }, refl, refl, refl)
pair_halts pair.Memory = inl refl

paired_as : (y : Result (List FlowPair) PairError) (x z : Result (List FlowPair) Refusal) → IsPairedAs y x → IsPairedAs y z → x ≡ z
paired_as (Ok pairs) x z one two = one ∙ sym two
paired_as (Err (pair.FlowDiffers row first second)) x z one two = one ∙ sym two
paired_as (Err pair.Memory) x z one two = absurd one

module _ (fs ls : List Flow) where
  paired_alone : (y : Result (List FlowPair) PairError) (z x : Result (List FlowPair) Refusal) → IsAnswer (Pairing fs ls) y → IsPairedAs y z → ArePaired fs ls x → x ≡ z
  unfolding ArePaired
  paired_alone y z x answer is paired =
      paired_as y x z (subst (λ (w : Result (List FlowPair) PairError). IsPairedAs w x) (answer.alone paired.0 paired.1) paired.2) is

  paired_told : (y : Result (List FlowPair) PairError) (z : Result (List FlowPair) Refusal) → Pairing fs ls y → IsPairedAs y z → ArePaired fs ls z
  unfolding ArePaired
  paired_told y z pairing is = (y, pairing, is)

  pub flows_paired : (pairs : List FlowPair) → IsAnswer (Pairing fs ls) (Ok pairs) → IsRead Equals (ArePaired fs ls) (Ok pairs)
  flows_paired pairs answer = value_read pairs (ArePaired fs ls) (paired_told (Ok pairs) (Ok pairs) answer.answers refl)
      (λ x paired. paired_alone (Ok pairs) (Ok pairs) x answer refl paired)

  pub pair_refused : (e : PairError) (halt : Halt) → halt ≡ pair_halt e → (e ≢ pair.Memory → IsAnswer (Pairing fs ls) (Err e)) → IsRead Equals (ArePaired fs ls) (Err halt)
  pair_refused e halt is fault = by (pair_halts e)
    where
      by : Halts e → IsRead Equals (ArePaired fs ls) (Err halt)
      by (inl same) = memory_read Equals (ArePaired fs ls) halt (is ∙ ap pair_halt same)
      by (inr (real, refusal, halts, short, paired)) =
          refused_read Equals (ArePaired fs ls) halt refusal (is ∙ halts) short (paired_told (Err e) (Err refusal) (fault real).answers paired)
          (λ x steps. paired_alone (Err e) (Err refusal) x (fault real) paired steps)

-- ---- the steps

module _ (told steady : Bool) (network : Network) (before after : Result (List ℕ) Refusal → Type 0) where
  abbrev First : Result (List Flow) Refusal → Type 0
  First = Gives before (ReadsFlows Before network)

  abbrev Second : Result (List Flow) Refusal → Type 0
  Second = Gives after (ReadsFlows After network)

  abbrev Then : List Flow → Result (List FlowPair) Refusal → Type 0
  Then fs = Second >>= ArePaired fs

  pub before_stopped : (halt : Halt) → IsGiven told steady SameFlows First (Err halt) → IsGiven told steady SamePairs (GivesPairs network before after) (Err halt)
  unfolding GivesPairs
  before_stopped halt given = stopped told steady SameFlows SamePairs First Then halt given

  after_alone : (fs : List Flow) (halt : Halt) → IsGiven told steady SameFlows Second (Err halt) → IsGiven told steady SamePairs (Then fs) (Err halt)
  after_alone fs halt given = stopped told steady SameFlows SamePairs Second (ArePaired fs) halt given

  pub after_stopped : (fs : List Flow) (halt : Halt) → IsGiven told steady SameFlows First (Ok fs) → IsGiven told steady SameFlows Second (Err halt)
      → IsGiven told steady SamePairs (GivesPairs network before after) (Err halt)
  unfolding GivesPairs
  after_stopped fs halt first second =
      continued told steady SameFlows SamePairs First Then fs (Err halt) first (after_alone fs halt second).told_by
      (λ t gs same x steps. (after_alone gs halt second).alone t x steps)

  pairs_told : (fs ls : List Flow) (r : Result (List FlowPair) Halt) → IsGiven told steady SameFlows Second (Ok ls) → IsRead Equals (ArePaired fs ls) r → IsToldBy (Then fs) r
  pairs_told fs ls r second reads = (continued told steady SameFlows SamePairs Second (ArePaired fs) ls r second reads.given.told_by
      (λ t ms same x steps. paired_agrees fs fs ls ms (flows_themselves fs) same steady r x reads steps)).told_by
    where
      flows_themselves : (gs : List Flow) → SameFlows gs gs
      flows_themselves [] = tt
      flows_themselves (g ∷ gs) = (record { class = refl; graph = graph_itself g.graph }, flows_themselves gs)

  then_alone : (fs gs ls : List Flow) (r : Result (List FlowPair) Halt) → SameFlows fs gs → IsTrue told → IsGiven told steady SameFlows Second (Ok ls) → IsRead Equals (ArePaired fs ls) r
      → (x : Result (List FlowPair) Refusal) → Then gs x → Agrees' steady SamePairs r x
  then_alone fs gs ls r earlier t second reads x steps = by steps.0 (second.alone t steps.0 steps.1) steps.2
    where
      by : (y : Result (List Flow) Refusal) → Agrees' steady SameFlows (Ok ls) y → After' (ArePaired gs) y x → Agrees' steady SamePairs r x
      by (Ok ms) agrees next = paired_agrees fs gs ls ms earlier agrees steady r x reads next
      by (Err e) agrees next = absurd agrees

  -- the flows are paired
  pub pairs_given : (fs ls : List Flow) (r : Result (List FlowPair) Halt) → IsGiven told steady SameFlows First (Ok fs) → IsGiven told steady SameFlows Second (Ok ls)
      → IsRead Equals (ArePaired fs ls) r → IsGiven told steady SamePairs (GivesPairs network before after) r
  unfolding GivesPairs
  pairs_given fs ls r first second reads =
      continued told steady SameFlows SamePairs First Then fs r first (pairs_told fs ls r second reads)
      (λ t gs same x steps. then_alone fs gs ls r same t second reads x steps)
