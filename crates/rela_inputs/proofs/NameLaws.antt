-- Of what is loaded no two checks have one name, and no two flows.
use Rattle.std.proofs.Common.{◌≡◌, ◌≢◌, ◌∙◌, ℕ, Bool, true, false, ◌||◌, not, if◌then◌else◌, List, [], ◌∷◌, ◌++◌, length, map, nat_lt, Result, Ok, Err, refl, sym, ap, subst}
use Rattle.std.specs.List.{AllByRecursion, AllPairs, IsDistinct}
use Rattle.std.specs.Str.{bytes_eq}
use Rattle.std.specs.Cmp.Lexicographic.{bytes_decides}
use Rattle.std.proofs.lemmas.List.{map-append}
use Rattle.std.proofs.lemmas.Map.Made.{AllPairs-from_IsDistinct}
use Rattle.std.proofs.lemmas.Slice.Eq.{bytes_eq-Decides}
use Rattle.serde_json.specs.Data.{Data}
use Rattle.rela_expand.specs.Expand.{Expanded, Sofar, at_first, expanded, in_size, not_full, outcome_of, unused, with_item}
use Rattle.rela_expand.specs.Expansions.{path_expansion, spec_expansion}
use Rattle.rela_expand.specs.Numbering.{nothing_numbered}
use Rattle.rela_expand.specs.Places.{Place, locations_at}
use Rattle.rela_flows.specs.declared.prefix.Prefix.{Prefix}
use Rattle.rela_json.specs.Results.{◌>>=◌, try_fold}
use Rattle.rela_json.specs.declared.error.LoadError.TheVariants.{TooMany}
use Rattle.rela_locations.specs.Network.{Network}
use Rattle.rela_snapshot.specs.Class.{class_of, flow_name_of, new_name_of}
use Rattle.rela_snapshot.specs.FlowEntry.{ListedFlow, flow_of, graph_of, listed_names, next_name_of}
use Rattle.rela_snapshot.specs.Flows.{AreFlows, AreFlowsOf, IsFlow, IsFlowNamed}
use Rattle.rela_snapshot.specs.Load as snapshot
use Rattle.rela_snapshot.specs.Load.{IsSnapshot}
use Rattle.rela_snapshot.specs.Names.{AreDistinct, has_name}
use Rattle.rela_snapshot.specs.Pair.{Pairing, flows_without, pair_after, pair_before, pairs_of}
use Rattle.rela_snapshot.specs.SnapshotFlows.{names_of}
use Rattle.rela_snapshot.specs.Version.{flow_rules}
use Rattle.rela_snapshot.specs.declared.pairing.FlowPair.{FlowPair}
use Rattle.rela_snapshot.specs.declared.pairing.PairError.{PairError}
use Rattle.rela_snapshot.specs.declared.pairing.PairError.TheVariants as pair
use Rattle.rela_snapshot.specs.declared.snapshot.Flow.{Flow}
use Rattle.rela_spec.specs.declared.tree.Item.{Item}
use Rattle.rela_spec.specs.declared.tree.Item.TheVariants.{Path, Spec, Check}
use Rattle.rela_spec.specs.declared.tree.SpecFile.{SpecFile}
use Rattle.rela_translate.specs.Checked.{Checked}
use Rattle.rela_inputs.specs.Inputs.{Gives, ReadsFlows}
use Rattle.rela_inputs.specs.Paired.{ArePaired, GivesPairs, IsPairedAs}
use Rattle.rela_inputs.specs.Specified.{IsSpecified, ReadsChecks, Specified}
use Rattle.rela_inputs.specs.declared.refusal.Input.{Input}
use Rattle.rela_inputs.specs.declared.refusal.Input.TheVariants.{After, Before}
use Rattle.rela_inputs.specs.declared.refusal.Refusal.{Refusal}

abbrev Names : Type 0
Names = List (List ℕ)

-- ---- distinct names

turned_by : (a b : List ℕ) (r : Bool) → bytes_eq b a ≡ r → bytes_eq a b ≡ false → r ≡ false
turned_by a b true e differs = let same : bytes_eq a b ≡ true = (bytes_decides a b).1 (sym ((bytes_decides b a).0 e)) in cc
turned_by a b false e differs = refl

turned : (a b : List ℕ) → bytes_eq a b ≡ false → bytes_eq b a ≡ false
turned a b differs = turned_by a b (bytes_eq b a) refl differs

or_first : (a b : Bool) → (a || b) ≡ false → a ≡ false
or_first true b e = e
or_first false b e = refl

or_second : (a b : Bool) → (a || b) ≡ false → b ≡ false
or_second true b e = absurd (cc)
or_second false b e = e

-- each of the later names is new to the earlier ones
abbrev AreNew : Names → Names → Type 0
AreNew names later = AllByRecursion (λ n. has_name names n ≡ false) later

apart_from : (x : List ℕ) (xs later : Names) → AreNew (x ∷ xs) later → AllByRecursion (λ y. bytes_eq x y ≡ false) later
apart_from x xs [] new = tt
apart_from x xs (y ∷ ys) new = (turned y x (or_first (bytes_eq y x) (has_name xs y) new.0), apart_from x xs ys new.1)

new_behind : (x : List ℕ) (xs later : Names) → AreNew (x ∷ xs) later → AreNew xs later
new_behind x xs [] new = tt
new_behind x xs (y ∷ ys) new = (or_second (bytes_eq y x) (has_name xs y) new.0, new_behind x xs ys new.1)

apart_append : (x : List ℕ) (xs later : Names) → AllByRecursion (λ y. bytes_eq x y ≡ false) xs → AllByRecursion (λ y. bytes_eq x y ≡ false) later
    → AllByRecursion (λ y. bytes_eq x y ≡ false) (xs ++ later)
apart_append x [] later one other = other
apart_append x (y ∷ ys) later one other = (one.0, apart_append x ys later one.1 other)

distinct_append : (names later : Names) → AreDistinct names → AreDistinct later → AreNew names later → AreDistinct (names ++ later)
unfolding IsDistinct
distinct_append [] later one other new = other
distinct_append (x ∷ xs) later one other new =
    (apart_append x xs later one.0 (apart_from x xs later new), distinct_append xs later one.1 other (new_behind x xs later new))

distinct_none : AreDistinct []
unfolding IsDistinct
distinct_none = tt

distinct_one : (name : List ℕ) → AreDistinct (name ∷ [])
unfolding IsDistinct
distinct_one name = (tt, tt)

distinct_more : (names : Names) (name : List ℕ) → AreDistinct names → has_name names name ≡ false → AreDistinct (names ++ name ∷ [])
distinct_more names name distinct new = distinct_append names (name ∷ []) distinct (distinct_one name) (new, tt)

all_differ : (names : Names) → AreDistinct names → AllPairs (λ a b. a ≢ b) names
all_differ names distinct = AllPairs-from_IsDistinct bytes_eq-Decides names distinct

-- ---- steps

ok_is : {A E : Type 0} (a b : A) → ◌≡◌ {A = Result A E} (Ok a) (Ok b) → a ≡ b
ok_is a b e = cc

stepped : {A B E : Type 0} (r : Result A E) (f : A → Result B E) (b : B) → (r >>= f) ≡ Ok b → (a : A) × (r ≡ Ok a) × (f a ≡ Ok b)
stepped (Ok a) f b e = (a, refl, e)
stepped (Err x) f b e = absurd (cc)

is_new_by : {E : Type 0} (taken : Bool) (e : E) (name new : List ℕ) → (if taken then Err e else Ok name) ≡ Ok new → (taken ≡ false) × (name ≡ new)
is_new_by true e name new is = absurd (cc)
is_new_by false e name new is = (refl, ok_is name new is)

-- ---- checks

abbrev check_names : List Expanded → Names
check_names checks = map (λ check. check.name) checks

abbrev Apart : Sofar → Type 0
Apart sofar = AreDistinct (check_names sofar.checks)

same_checks : (s t : Sofar) → s.checks ≡ t.checks → Apart s → Apart t
same_checks s t same apart = subst (λ (cs : List Expanded). AreDistinct (check_names cs)) same apart

one_more : (s t : Sofar) (check : Expanded) → t.checks ≡ s.checks ++ check ∷ [] → has_name (check_names s.checks) check.name ≡ false → Apart s → Apart t
one_more s t check is new apart =
    subst AreDistinct (sym (ap check_names is ∙ map-append (λ (c : Expanded). c.name) s.checks (check ∷ [])))
    (distinct_more (check_names s.checks) check.name apart new)

item_apart : (place : Place) (s t : Sofar) (item : Item) → with_item place s item ≡ Ok t → Apart s → Apart t
unfolding with_item
item_apart place s t (Path name at body) e apart =
    let named = stepped (unused s.taken name at) _ t e in
    let made = stepped (path_expansion place s.names body nothing_numbered) _ t named.2 in
    same_checks s t (ap (λ (u : Sofar). u.checks) (ok_is _ t made.2)) apart
item_apart place s t (Spec name at body) e apart =
    let named = stepped (unused s.taken name at) _ t e in
    let made = stepped (spec_expansion place s.names body nothing_numbered) _ t named.2 in
    same_checks s t (ap (λ (u : Sofar). u.checks) (ok_is _ t made.2)) apart
item_apart place s t (Check at_most name at when body) e apart =
    let named = stepped (unused (check_names s.checks) name at) _ t e in
    let within = stepped (not_full s.checks at) _ t named.2 in
    let whole = stepped (spec_expansion place s.names body nothing_numbered) _ t within.2 in
    let sized = stepped (in_size (locations_at place) at whole.0) _ t whole.2 in
    let new = is_new_by (has_name (check_names s.checks) name) _ name named.0 named.1 in
    one_more s t _ (sym (ap (λ (u : Sofar). u.checks) (ok_is _ t sized.2)))
    (subst (λ (n : List ℕ). has_name (check_names s.checks) n ≡ false) new.1 new.0) apart

items_apart : (place : Place) (items : List Item) (s t : Sofar) → try_fold (with_item place) s items ≡ Ok t → Apart s → Apart t
items_apart place [] s t e apart = same_checks s t (ap (λ (u : Sofar). u.checks) (ok_is s t e)) apart
items_apart place (item ∷ items) s t e apart =
    let first = stepped (with_item place s item) (λ u. try_fold (with_item place) u items) t e in
    items_apart place items first.0 t first.2 (item_apart place s first.0 item first.1 apart)

expanded_apart : (network : Network) (file : SpecFile) (checks : List Expanded) → expanded network file ≡ Ok checks → AreDistinct (check_names checks)
unfolding expanded
expanded_apart network file checks e =
    let place : Place = record { network = network; level = file.level } in
    let all = stepped (try_fold (with_item place) at_first file.items) (λ (s : Sofar). Ok s.checks) checks e in
    subst (λ (cs : List Expanded). AreDistinct (check_names cs)) (ok_is _ checks all.2)
    (items_apart place file.items at_first all.0 all.1 distinct_none)

outcome_names : (checks : List Checked) → check_names (map outcome_of checks) ≡ map (λ check. check.name) checks
outcome_names [] = refl
outcome_names (check ∷ checks) = ap (λ (names : Names). check.name ∷ names) (outcome_names checks)

abbrev pub CheckNamesDiffer : Specified → Type 0
CheckNamesDiffer specified = AllPairs (λ a b. a ≢ b) (map (λ check. check.name) specified.checks)

asked_apart : (network : Network) (tree : SpecFile) (specified : Specified) → IsSpecified network tree specified → CheckNamesDiffer specified
asked_apart network tree specified is =
    all_differ _ (subst AreDistinct (outcome_names specified.checks) (expanded_apart network tree (map outcome_of specified.checks) is.outcomes))

read_apart : (network : Network) (bytes : List ℕ) (specified : Specified) → ReadsChecks network bytes (Ok specified) → CheckNamesDiffer specified
unfolding ReadsChecks
read_apart network bytes specified (Ok tree, reads, asks) = asked_apart network tree specified asks
read_apart network bytes specified (Err refusal, reads, e) = absurd (cc)

pub checks_apart : (network : Network) (Bytes : Result (List ℕ) Refusal → Type 0) (specified : Specified) → Gives Bytes (ReadsChecks network) (Ok specified) → CheckNamesDiffer specified
unfolding Gives
checks_apart network Bytes specified (Ok bytes, has, reads) = read_apart network bytes specified reads
checks_apart network Bytes specified (Err refusal, has, e) = absurd (cc)

-- ---- flows

next_by : (version : _) (names : Names) (d : Data) (name : List ℕ) (few : Bool)
    → (if few then new_name_of (flow_rules version) names (length names) d else Err (TooMany 10000)) ≡ Ok name → has_name names name ≡ false
unfolding new_name_of
next_by version names d name true e =
    let named = stepped (flow_name_of (flow_rules version) (length names) d) _ name e in
    let new = is_new_by (has_name names named.0) _ named.0 name named.2 in
    subst (λ (n : List ℕ). has_name names n ≡ false) new.1 new.0
next_by version names d name false e = absurd (cc)

next_is_new : (version : _) (names : Names) (d : Data) (name : List ℕ) → next_name_of version names d ≡ Ok name → has_name names name ≡ false
unfolding next_name_of
next_is_new version names d name e = next_by version names d name (nat_lt (length names) 10000) e

named_so : (network : Network) (version : _) (row : ℕ) (name : List ℕ) (dst src : Prefix) (d : Data) (flow : ListedFlow) → flow_of network version row name dst src d ≡ Ok flow
    → flow.class.name ≡ name
unfolding flow_of
named_so network version row name dst src d flow e =
    let class = stepped (class_of (flow_rules version) row d) _ flow e in
    let graph = stepped (graph_of network version row d) _ flow class.2 in
    sym (ap (λ (f : ListedFlow). f.class.name) (ok_is _ flow graph.2))

flow_named_so : (network : Network) (version : _) (row : ℕ) (name : List ℕ) (d : Data) (flow : ListedFlow) → IsFlowNamed network version row name d (Ok flow) → flow.class.name ≡ name
unfolding IsFlowNamed
flow_named_so network version row name d flow (Ok dst, one, (Ok src, two, is)) = named_so network version row name dst src d flow (sym is)
flow_named_so network version row name d flow (Ok dst, one, (Err e, two, is)) = absurd (cc)
flow_named_so network version row name d flow (Err e, one, is) = absurd (cc)

flow_is_new : (network : Network) (version : _) (names : Names) (d : Data) (flow : ListedFlow) → IsFlow network version names d (Ok flow) → has_name names flow.class.name ≡ false
unfolding IsFlow
flow_is_new network version names d flow (Ok name, one, is) =
    subst (λ (n : List ℕ). has_name names n ≡ false) (sym (flow_named_so network version (length names) name d flow is)) (next_is_new version names d name (sym one))
flow_is_new network version names d flow (Err e, one, is) = absurd (cc)

flows_distinct : (network : Network) (version : _) (earlier listed : List ListedFlow) (ds : List Data) → AreFlows network version earlier ds (Ok listed) → AreDistinct (listed_names earlier)
    → AreDistinct (listed_names listed)
unfolding AreFlows
flows_distinct network version earlier listed [] e distinct = subst (λ (fs : List ListedFlow). AreDistinct (listed_names fs)) (sym (ok_is listed earlier e)) distinct
flows_distinct network version earlier listed (d ∷ ds) (Ok flow, is, rest) distinct =
    flows_distinct network version (earlier ++ flow ∷ []) listed ds rest
    (subst AreDistinct (sym (map-append (λ (f : ListedFlow). f.class.name) earlier (flow ∷ [])))
    (distinct_more (listed_names earlier) flow.class.name distinct (flow_is_new network version (listed_names earlier) d flow is)))
flows_distinct network version earlier listed (d ∷ ds) (Err e, is, rest) distinct = absurd (cc)

snapshot_distinct : (network : Network) (d : Data) (listed : List ListedFlow) → IsSnapshot network d (Ok listed) → AreDistinct (listed_names listed)
unfolding IsSnapshot
snapshot_distinct network d listed (Ok contents, is, flows) = flows_distinct network contents.0 [] listed contents.1 flows distinct_none
snapshot_distinct network d listed (Err e, is, rest) = absurd (cc)

load_distinct : (network : Network) (bytes : List ℕ) (listed : List ListedFlow) → snapshot.Load network bytes (Ok listed) → AreDistinct (listed_names listed)
unfolding snapshot.Load
load_distinct network bytes listed (Ok d, is, loads) = snapshot_distinct network d listed loads
load_distinct network bytes listed (Err e, is, rest) = absurd (cc)

names_listed : (listed : List ListedFlow) (flows : List Flow) → AreFlowsOf listed flows → listed_names listed ≡ names_of flows
names_listed [] [] of = refl
names_listed [] (f ∷ fs) of = absurd of
names_listed (l ∷ ls) [] of = absurd of
names_listed (l ∷ ls) (f ∷ fs) of =
    let first : f.class ≡ l.class = of.0.class in
    let rest : listed_names ls ≡ names_of fs = names_listed ls fs of.1 in
    cc

read_distinct : (input : Input) (network : Network) (bytes : List ℕ) (flows : List Flow) → ReadsFlows input network bytes (Ok flows) → AreDistinct (names_of flows)
read_distinct input network bytes flows (Ok listed, loads, of) = subst AreDistinct (names_listed listed flows of) (load_distinct network bytes listed loads)
read_distinct input network bytes flows (Err e, loads, of) = absurd of

given_distinct : (input : Input) (network : Network) (Bytes : Result (List ℕ) Refusal → Type 0) (flows : List Flow) → Gives Bytes (ReadsFlows input network) (Ok flows) → AreDistinct (names_of flows)
unfolding Gives
given_distinct input network Bytes flows (Ok bytes, has, reads) = read_distinct input network bytes flows reads
given_distinct input network Bytes flows (Err refusal, has, e) = absurd (cc)

-- ---- flows side by side

abbrev AreApart : List ℕ → List Flow → Type 0
AreApart x flows = AllByRecursion (λ y. bytes_eq x y ≡ false) (names_of flows)

kept_by : (x : List ℕ) (f : Flow) (rest : List Flow) (has : Bool) → bytes_eq x f.class.name ≡ false → AreApart x rest → AreApart x (if not has then f ∷ rest else rest)
kept_by x f rest true first apart = apart
kept_by x f rest false first apart = (first, apart)

kept_apart : (x : List ℕ) (names : Names) (flows : List Flow) → AreApart x flows → AreApart x (flows_without names flows)
kept_apart x names [] apart = tt
kept_apart x names (f ∷ fs) apart = kept_by x f (flows_without names fs) (has_name names f.class.name) apart.0 (kept_apart x names fs apart.1)

others_by : (f : Flow) (rest : List Flow) (has : Bool) → AreApart f.class.name rest → AreDistinct (names_of rest) → AreDistinct (names_of (if not has then f ∷ rest else rest))
unfolding IsDistinct
others_by f rest true apart distinct = distinct
others_by f rest false apart distinct = (apart, distinct)

distinct_first : (x : List ℕ) (xs : Names) → AreDistinct (x ∷ xs) → AllByRecursion (λ y. bytes_eq x y ≡ false) xs
unfolding IsDistinct
distinct_first x xs distinct = distinct.0

distinct_rest : (x : List ℕ) (xs : Names) → AreDistinct (x ∷ xs) → AreDistinct xs
unfolding IsDistinct
distinct_rest x xs distinct = distinct.1

others_distinct : (names : Names) (flows : List Flow) → AreDistinct (names_of flows) → AreDistinct (names_of (flows_without names flows))
others_distinct names [] distinct = distinct
others_distinct names (f ∷ fs) distinct =
    others_by f (flows_without names fs) (has_name names f.class.name)
    (kept_apart f.class.name names fs (distinct_first f.class.name (names_of fs) distinct))
    (others_distinct names fs (distinct_rest f.class.name (names_of fs) distinct))

new_by : (names : Names) (f : Flow) (rest : List Flow) (has : Bool) → has_name names f.class.name ≡ has → AreNew names (names_of rest) → AreNew names (names_of (if not has then f ∷ rest else rest))
new_by names f rest true is new = new
new_by names f rest false is new = (is, new)

others_new : (names : Names) (flows : List Flow) → AreNew names (names_of (flows_without names flows))
others_new names [] = tt
others_new names (f ∷ fs) = new_by names f (flows_without names fs) (has_name names f.class.name) refl (others_new names fs)

abbrev pair_names : List FlowPair → Names
pair_names pairs = map (λ pair. pair.class.name) pairs

before_names : (after flows : List Flow) → pair_names (map (pair_before after) flows) ≡ names_of flows
before_names after [] = refl
before_names after (f ∷ fs) = ap (λ (names : Names). f.class.name ∷ names) (before_names after fs)

after_names : (flows : List Flow) → pair_names (map pair_after flows) ≡ names_of flows
after_names [] = refl
after_names (f ∷ fs) = ap (λ (names : Names). f.class.name ∷ names) (after_names fs)

pairs_distinct : (before after : List Flow) → AreDistinct (names_of before) → AreDistinct (names_of after) → AreDistinct (pair_names (pairs_of before after))
pairs_distinct before after one two =
    let others = flows_without (names_of before) after in
    subst AreDistinct
    (sym (map-append (λ (p : FlowPair). p.class.name) (map (pair_before after) before) (map pair_after others)
    ∙ (ap (λ (ns : Names). ns ++ pair_names (map pair_after others)) (before_names after before) ∙ ap (λ (ns : Names). names_of before ++ ns) (after_names others))))
    (distinct_append (names_of before) (names_of others) one (others_distinct (names_of before) after two) (others_new (names_of before) after))

abbrev pub FlowNamesDiffer : List FlowPair → Type 0
FlowNamesDiffer pairs = AllPairs (λ a b. a ≢ b) (map (λ pair. pair.class.name) pairs)

paired_by : (before after : List Flow) (pairs : List FlowPair) (x : Result (List FlowPair) PairError) → Pairing before after x → IsPairedAs x (Ok pairs) → pairs ≡ pairs_of before after
unfolding Pairing
paired_by before after pairs (Ok made) pairing is = ok_is pairs made is ∙ pairing.1
paired_by before after pairs (Err (pair.FlowDiffers row first second)) pairing is = absurd (cc)
paired_by before after pairs (Err pair.Memory) pairing is = absurd is

paired_apart : (before after : List Flow) (pairs : List FlowPair) → ArePaired before after (Ok pairs) → AreDistinct (names_of before) → AreDistinct (names_of after) → FlowNamesDiffer pairs
unfolding ArePaired
paired_apart before after pairs (x, pairing, is) one two =
    all_differ _ (subst (λ (ps : List FlowPair). AreDistinct (pair_names ps)) (sym (paired_by before after pairs x pairing is)) (pairs_distinct before after one two))

pub flows_apart : (network : Network) (before after : Result (List ℕ) Refusal → Type 0) (pairs : List FlowPair) → GivesPairs network before after (Ok pairs) → FlowNamesDiffer pairs
unfolding GivesPairs
flows_apart network before after pairs (Ok earlier, first, (Ok later, second, paired)) =
    paired_apart earlier later pairs paired (given_distinct Before network before earlier first) (given_distinct After network after later second)
flows_apart network before after pairs (Ok earlier, first, (Err refusal, second, e)) = absurd (cc)
flows_apart network before after pairs (Err refusal, first, e) = absurd (cc)
