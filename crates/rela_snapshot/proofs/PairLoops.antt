-- The pairs of the first snapshot's flows, of which the last come off first.
use Rattle.std.proofs.Common.{◌≡◌, ◌≢◌, ◌∙◌, refl, sym, ap, ℕ, ◌<◌, List, [], ◌∷◌, ◌++◌, length, map, reverse, take, All, Option, Some, None, Result, Ok, Err, arith, subst, append_assoc}
use Rattle.std.specs.Prelude.{slice_get}
use Rattle.std.specs.Option.{option_flatten, option_to_list, IsSome}
use Rattle.std.proofs.lemmas.List.{append-nil, length-map, length-reverse, map-append, reverse-append, reverse-reverse}
use Rattle.rela_flows.specs.declared.predicate.FlowClass.{FlowClass}
use Rattle.rela_snapshot.specs.declared.snapshot.Flow.{Flow}
use Rattle.rela_snapshot.specs.declared.pairing.FlowPair.{FlowPair}
use Rattle.rela_snapshot.specs.declared.pairing.PairError.{PairError}
use Rattle.rela_snapshot.specs.declared.pairing.PairError.TheVariants.{FlowDiffers}
use Rattle.rela_snapshot.specs.Partners.{IsDifference}
use Rattle.rela_snapshot.specs.Pair.{Agrees, AgreesWith, IsFirstDifference, Pairing, flow_named, flows_without, no_nodes, pair_after, pair_before, pair_with}
use Rattle.rela_graph.specs.Topology.{IsTopology, JoinsNodes, Topology}
use Rattle.rela_graph.specs.declared.node.Link.{Link}
use Rattle.rela_snapshot.specs.SnapshotFlows.{names_of}
use Rattle.rela_snapshot.specs.Steps.{IsAnswer}
use Rattle.rela_snapshot.proofs.FlowLaws.{empty_of}
use Rattle.rela_snapshot.proofs.Kept.{All-push}
use Rattle.rela_snapshot.proofs.PairLaws.{one_pairing}

abbrev pub partner_in : List Flow → Flow → Option Flow
partner_in after flow = flow_named flow.class.name after

-- the flows so far, which agree with those of their names, and their pairs
pub record ArePaired (after all left : List Flow) (partners : List (Option Flow)) (pairs : List FlowPair) : Type 0 where
  pub done : List Flow
  pub split : all ≡ done ++ reverse left
  pub partners_left : reverse partners ≡ map (partner_in after) (reverse left)
  pub agree : All (Agrees after) done
  pub pairs_are : pairs ≡ map (pair_before after) done

slice_get-middle : {X : Type 0} (front : List X) (x : X) (back : List X) → slice_get (front ++ x ∷ back) (length front) ≡ Some x
slice_get-middle [] x back = refl
slice_get-middle (y ∷ front) x back = slice_get-middle front x back

take-front : {X : Type 0} (front back : List X) → take (length front) (front ++ back) ≡ front
take-front [] back = refl
take-front {X} (y ∷ front) back = ap (λ (l : List X). y ∷ l) (take-front front back)

-- the last of a list is the first of its reverse
turned : {X : Type 0} (xs ys : List X) (x : X) → xs ≡ ys ++ x ∷ [] → reverse xs ≡ x ∷ reverse ys
turned xs ys x e = ap reverse e ∙ reverse-append ys (x ∷ [])

turned_by : {X : Type 0} (xs ys : List X) (o : Option X) (x : X) (rest : List X) → xs ≡ ys ++ option_to_list o → (0 < length xs → IsSome o) → reverse xs ≡ x ∷ rest → (o ≡ Some x) × (reverse ys ≡ rest)
turned_by {X} xs ys None x rest e some is =
    let long : length xs ≡ length (x ∷ rest) = sym (length-reverse xs) ∙ ap length is in
    let no : IsSome {T = X} None = some (omega (arith, long)) in absurd (cc)
turned_by xs ys (Some y) x rest e some is =
    let both : y ∷ reverse ys ≡ x ∷ rest = sym (turned xs ys y e) ∙ is in (cc, cc)

-- the partner that comes off beside a flow is that of its name
pub popped_partner : (after all left new_left : List Flow) (flow : Flow) (partners new_partners : List (Option Flow)) (o : Option (Option Flow)) (pairs : List FlowPair)
    → left ≡ new_left ++ flow ∷ [] → partners ≡ new_partners ++ option_to_list o → (0 < length partners → IsSome o) → ArePaired after all left partners pairs
    → (o ≡ Some (partner_in after flow)) × (reverse new_partners ≡ map (partner_in after) (reverse new_left))
popped_partner after all left new_left flow partners new_partners o pairs off partner_off some so_far =
    turned_by partners new_partners o (partner_in after flow) (map (partner_in after) (reverse new_left)) partner_off some
    (so_far.partners_left ∙ ap (map (partner_in after)) (turned left new_left flow off))

-- one pair more
pub paired_more : (after all left new_left : List Flow) (flow : Flow) (partners new_partners : List (Option Flow)) (o : Option (Option Flow)) (pairs new_pairs : List FlowPair) (pair : FlowPair)
    → left ≡ new_left ++ flow ∷ [] → partners ≡ new_partners ++ option_to_list o → (0 < length partners → IsSome o)
    → AgreesWith (option_flatten o) flow → pair ≡ pair_with (option_flatten o) flow → new_pairs ≡ pairs ++ pair ∷ []
    → ArePaired after all left partners pairs → ArePaired after all new_left new_partners new_pairs
paired_more after all left new_left flow partners new_partners o pairs new_pairs pair off partner_off some agrees is more so_far =
    let popped = popped_partner after all left new_left flow partners new_partners o pairs off partner_off some so_far in
    let flat : option_flatten o ≡ partner_in after flow = ap option_flatten popped.0 in
    record {
      done = so_far.done ++ flow ∷ [];
      split = so_far.split ∙ ap (λ (l : List Flow). so_far.done ++ l) (turned left new_left flow off) ∙ sym (append_assoc so_far.done (flow ∷ []) (reverse new_left));
      partners_left = popped.1;
      agree = All-push (Agrees after) so_far.done (so_far.done ++ flow ∷ []) flow refl so_far.agree (subst (λ (o : Option Flow). AgreesWith o flow) flat agrees);
      pairs_are = more ∙ ap (λ (ps : List FlowPair). ps ++ pair ∷ []) so_far.pairs_are
          ∙ ap (λ (p : FlowPair). map (pair_before after) so_far.done ++ p ∷ []) (is ∙ ap (λ (o : Option Flow). pair_with o flow) flat)
          ∙ sym (map-append (pair_before after) so_far.done (flow ∷ []));
    }

-- before the first
pub paired_none : (after all : List Flow) (partners : List (Option Flow)) → partners ≡ map (partner_in after) all → ArePaired after all (reverse all) (reverse partners) []
paired_none after all partners is = record {
  done = [];
  split = sym (reverse-reverse all);
  partners_left = reverse-reverse partners ∙ is ∙ ap (map (partner_in after)) (sym (reverse-reverse all));
  agree = λ k d lt. absurd (omega (arith, lt));
  pairs_are = refl;
}

-- after the last
pub paired_all : (after all : List Flow) (partners : List (Option Flow)) (pairs : List FlowPair) → ArePaired after all [] partners pairs → All (Agrees after) all × (pairs ≡ map (pair_before after) all)
paired_all after all partners pairs so_far =
    let whole : so_far.done ≡ all = sym (append-nil so_far.done) ∙ sym so_far.split in
    (subst (All (Agrees after)) whole so_far.agree, so_far.pairs_are ∙ ap (map (pair_before after)) whole)

-- a flow that differs from its partner is the first that does
pub differs_first : (after all left new_left : List Flow) (flow other : Flow) (partners new_partners : List (Option Flow)) (o : Option (Option Flow)) (pairs : List FlowPair)
    → left ≡ new_left ++ flow ∷ [] → partners ≡ new_partners ++ option_to_list o → (0 < length partners → IsSome o) → option_flatten o ≡ Some other → flow.class ≢ other.class
    → ArePaired after all left partners pairs → IsFirstDifference all after (length pairs) flow.class other.class
differs_first after all left new_left flow other partners new_partners o pairs off partner_off some is differs so_far =
    let popped = popped_partner after all left new_left flow partners new_partners o pairs off partner_off some so_far in
    let split : all ≡ so_far.done ++ flow ∷ reverse new_left = so_far.split ∙ ap (λ (l : List Flow). so_far.done ++ l) (turned left new_left flow off) in
    let row : length pairs ≡ length so_far.done = ap length so_far.pairs_are ∙ length-map so_far.done (pair_before after) in
    record {
      flow = flow;
      other = other;
      at = rw (row, split) (slice_get-middle so_far.done flow (reverse new_left));
      named = sym (ap option_flatten popped.0) ∙ is;
      before_class = refl;
      after_class = refl;
      differs = differs;
      earlier_agree = subst (All (Agrees after)) (sym (take-front so_far.done (flow ∷ reverse new_left)) ∙ ap (λ (l : List Flow). take (length so_far.done) l) (sym split) ∙ ap (λ (n : ℕ). take n all) (sym row)) so_far.agree;
    }

opened : (all after : List Flow) (row : ℕ) (first second : FlowClass) → IsFirstDifference all after row first second → Pairing all after (Err (FlowDiffers row first second))
unfolding Pairing
opened all after row first second difference = difference

pairing_at : (all after : List Flow) (e : PairError) (row : ℕ) (first second : FlowClass) → e ≡ FlowDiffers row first second → IsFirstDifference all after row first second → Pairing all after (Err e)
pairing_at all after e row first second is difference = subst (λ (e : PairError). Pairing all after (Err e)) (sym is) (opened all after row first second difference)

pub pairing_differs : (after all left new_left : List Flow) (flow : Flow) (partners new_partners : List (Option Flow)) (o : Option (Option Flow)) (partner : Option Flow) (pairs : List FlowPair) (row : ℕ) (e : PairError)
    → left ≡ new_left ++ flow ∷ [] → partners ≡ new_partners ++ option_to_list o → (0 < length partners → IsSome o) → partner ≡ option_flatten o → row ≡ length pairs → IsDifference row flow partner e
    → ArePaired after all left partners pairs → Pairing all after (Err e)
pairing_differs after all left new_left flow partners new_partners o partner pairs row e off partner_off some flat at differs so_far =
    let first : IsFirstDifference all after (length pairs) flow.class differs.0.class =
    differs_first after all left new_left flow differs.0 partners new_partners o pairs off partner_off some (sym flat ∙ differs.1) differs.2 so_far in
    pairing_at all after e row flow.class differs.0.class differs.3 (subst (λ (row : ℕ). IsFirstDifference all after row flow.class differs.0.class) (sym at) first)

-- a pair more of the flows that only the second snapshot has
pub alone_more : (pairs new : List FlowPair) (left new_left whole : List Flow) (start : List FlowPair) (flow : Flow) (pair : FlowPair) → left ≡ new_left ++ flow ∷ [] → pair ≡ pair_after flow → new ≡ pairs ++ pair ∷ []
    → pairs ++ map pair_after (reverse left) ≡ start ++ map pair_after whole → new ++ map pair_after (reverse new_left) ≡ start ++ map pair_after whole
alone_more pairs new left new_left whole start flow pair off is more so_far =
    ap (λ (ps : List FlowPair). ps ++ map pair_after (reverse new_left)) (more ∙ ap (λ (p : FlowPair). pairs ++ p ∷ []) is)
    ∙ append_assoc pairs (pair_after flow ∷ []) (map pair_after (reverse new_left))
    ∙ ap (λ (l : List Flow). pairs ++ map pair_after l) (sym (turned left new_left flow off))
    ∙ so_far

-- ---- how the loops begin and end

pub paired_start : (after all turned : List Flow) (partners turned_partners : List (Option Flow)) (pairs : List FlowPair) → turned ≡ reverse all → turned_partners ≡ reverse partners → pairs ≡ [] → partners ≡ map (partner_in after) all
    → ArePaired after all turned turned_partners pairs
paired_start after all turns partners turned_partners pairs turned_is partners_are none is =
    subst (λ (l : List Flow). ArePaired after all l turned_partners pairs) (sym turned_is)
    (subst (λ (ps : List (Option Flow)). ArePaired after all (reverse all) ps pairs) (sym partners_are)
    (subst (λ (ps : List FlowPair). ArePaired after all (reverse all) (reverse partners) ps) (sym none) (paired_none after all partners is)))

pub paired_end : (after all left : List Flow) (partners : List (Option Flow)) (pairs : List FlowPair) → left ≡ [] → ArePaired after all left partners pairs → All (Agrees after) all × (pairs ≡ map (pair_before after) all)
paired_end after all left partners pairs none so_far = paired_all after all partners pairs (subst (λ (l : List Flow). ArePaired after all l partners pairs) none so_far)

pub alone_start : (pairs : List FlowPair) (turns whole : List Flow) → turns ≡ reverse whole → pairs ++ map pair_after (reverse turns) ≡ pairs ++ map pair_after whole
alone_start pairs turns whole is = ap (λ (l : List Flow). pairs ++ map pair_after l) (ap reverse is ∙ reverse-reverse whole)

pub alone_end : (pairs start : List FlowPair) (left whole : List Flow) → left ≡ [] → pairs ++ map pair_after (reverse left) ≡ start ++ map pair_after whole → pairs ≡ start ++ map pair_after whole
alone_end pairs start left whole none so_far = sym (append-nil pairs) ∙ ap (λ (l : List Flow). pairs ++ map pair_after (reverse l)) (sym none) ∙ so_far

-- ---- what the two loops together give

pub pairing_whole : (before after others : List Flow) (found all : List FlowPair) → All (Agrees after) before × (found ≡ map (pair_before after) before) → others ≡ flows_without (names_of before) after → all ≡ found ++ map pair_after others → Pairing before after (Ok all)
unfolding Pairing
pairing_whole before after others found all paired are is =
    (paired.0, is ∙ ap (λ (ps : List FlowPair). ps ++ map pair_after others) paired.1 ∙ ap (λ (l : List Flow). map (pair_before after) before ++ map pair_after l) are)

pub pairing_of : (b before a after : List Flow) (r : Result (List FlowPair) PairError) → b ≡ before → a ≡ after → Pairing b a r → IsAnswer (Pairing before after) r
pairing_of b before a after r first second is =
    one_pairing before after r (subst (λ (l : List Flow). Pairing before l r) second (subst (λ (l : List Flow). Pairing l a r) first is))

-- ---- the graph without nodes

edges_none : (count : ℕ) (edges : List Link) → count ≡ 0 → All (JoinsNodes count) edges → edges ≡ []
edges_none count [] none joins = refl
edges_none count (e ∷ es) none joins = let first : JoinsNodes count e = joins 0 e (omega arith) in let lt : e.a < count = first.0 in absurd (omega (arith, none, lt))

pub no_nodes_is : (g : Topology) → g.nodes ≡ [] → IsTopology g → g ≡ no_nodes
no_nodes_is g none is =
    let count : length g.nodes ≡ 0 = ap length none in
    let edges : g.edges ≡ [] = edges_none (length g.nodes) g.edges count is.joins in
    let starts : g.starts ≡ [] = empty_of g.starts (is.starts ∙ count) in
    let delivered : g.delivered ≡ [] = empty_of g.delivered (is.delivered ∙ count) in
    let dropped : g.dropped ≡ [] = empty_of g.dropped (is.dropped ∙ count) in
    λ i. record { nodes = none i; edges = edges i; starts = starts i; delivered = delivered i; dropped = dropped i }
