-- What a flow and a list of flows answer, from what their parts answer.
use Rattle.std.proofs.Common.{◌≡◌, ◌≢◌, ◌∙◌, ℕ, ◌+◌, ◌<◌, ◌≤◌, List, [], ◌∷◌, ◌++◌, length, map, drop, get_or, Result, Ok, Err, refl, sym, ap, subst, arith}
use Rattle.std.proofs.lemmas.List.{drop_more, length-append, length-drop, length-map, map-append}
use Rattle.std.specs.Prelude.{Option, Some, None, IfOk, IfErr}
use Rattle.serde_json.specs.Data.{Data}
use Rattle.rela_json.specs.declared.error.LoadError.{LoadError}
use Rattle.rela_json.specs.declared.error.LoadError.TheVariants.{NotJson, Memory}
use Rattle.rela_json.specs.declared.error.ReadJsonError.{ReadJsonError}
use Rattle.rela_json.specs.declared.error.ReadJsonError.TheVariants as read
use Rattle.rela_json.specs.LoadErrors.{load_error}
use Rattle.rela_json.specs.Reading.{reading}
use Rattle.rela_json.specs.Results.{ok_or}
use Rattle.rela_flows.specs.declared.prefix.Prefix.{Prefix}
use Rattle.rela_locations.specs.Network.{Network}
use Rattle.rela_snapshot.specs.declared.snapshot.Flow.{Flow}
use Rattle.rela_snapshot.specs.declared.class.Family.{Family}
use Rattle.rela_snapshot.specs.declared.version.FlowRules.{FlowRules}
use Rattle.rela_snapshot.specs.declared.version.Version.{Version}
use Rattle.rela_snapshot.specs.Class.{IsPrefixOf, class_of, dst_text_of, family_in, family_of, src_text_of}
use Rattle.rela_snapshot.specs.Contents.{contents_of}
use Rattle.rela_snapshot.specs.FlowEntry.{ListedFlow, flow_of, graph_of, listed_names, next_name_of}
use Rattle.rela_snapshot.specs.Flows.{AreFlows, AreFlowsOf, IsDst, IsFlow, IsFlowNamed, IsFlowOf, IsSrc}
use Rattle.rela_snapshot.specs.Listed.{Listed}
use Rattle.rela_snapshot.specs.Load.{IsSnapshot, Load}
use Rattle.rela_snapshot.specs.SnapshotFlows.{names_of}
use Rattle.rela_snapshot.specs.Steps.{IsAnswer}
use Rattle.rela_snapshot.specs.Version.{flow_rules}
use Rattle.rela_snapshot.proofs.StepLaws.{is_answer, then_next, then_refused, value_next, value_refused}

-- ---- the prefixes

pub dst_refused : (version : Version) (rules : FlowRules) (row : ℕ) (d : Data) (e : LoadError) → rules ≡ flow_rules version → dst_text_of rules row d ≡ Err e → IsAnswer (IsDst version row d) (Err e)
unfolding IsDst
dst_refused version rules row d e known is = value_refused _ _ e (subst (λ (rules : FlowRules). dst_text_of rules row d ≡ Err e) known is)

pub dst_read : (version : Version) (rules : FlowRules) (wanted : Option Family) (row : ℕ) (d : Data) (text : List ℕ) (r : Result Prefix LoadError) → rules ≡ flow_rules version → wanted ≡ family_in version
    → dst_text_of rules row d ≡ Ok text → IsAnswer (IsPrefixOf wanted row text) r → IsAnswer (IsDst version row d) r
unfolding IsDst
dst_read version rules wanted row d text r known wants is next =
    value_next _ _ text r (subst (λ (rules : FlowRules). dst_text_of rules row d ≡ Ok text) known is) (subst (λ (wanted : Option Family). IsAnswer (IsPrefixOf wanted row text) r) wants next)

pub src_refused : (version : Version) (rules : FlowRules) (family : Family) (row : ℕ) (dst : Prefix) (d : Data) (e : LoadError) → rules ≡ flow_rules version → family ≡ family_of dst
    → src_text_of rules row family d ≡ Err e → IsAnswer (IsSrc version row dst d) (Err e)
unfolding IsSrc
src_refused version rules family row dst d e known same is =
    value_refused _ _ e (subst (λ (rules : FlowRules). src_text_of rules row (family_of dst) d ≡ Err e) known (subst (λ (family : Family). src_text_of rules row family d ≡ Err e) same is))

pub src_read : (version : Version) (rules : FlowRules) (family : Family) (row : ℕ) (dst : Prefix) (d : Data) (text : List ℕ) (r : Result Prefix LoadError) → rules ≡ flow_rules version → family ≡ family_of dst
    → src_text_of rules row family d ≡ Ok text → IsAnswer (IsPrefixOf (Some family) row text) r → IsAnswer (IsSrc version row dst d) r
unfolding IsSrc
src_read version rules family row dst d text r known same is next =
    value_next _ _ text r
    (subst (λ (rules : FlowRules). src_text_of rules row (family_of dst) d ≡ Ok text) known (subst (λ (family : Family). src_text_of rules row family d ≡ Ok text) same is))
    (subst (λ (family : Family). IsAnswer (IsPrefixOf (Some family) row text) r) same next)

-- ---- the flow of a name

pub named_no_dst : (network : Network) (version : Version) (row : ℕ) (name : List ℕ) (d : Data) (e : LoadError) → IsAnswer (IsDst version row d) (Err e) → IsAnswer (IsFlowNamed network version row name d) (Err e)
unfolding IsFlowNamed
named_no_dst network version row name d e dst = then_refused _ _ e dst

pub named_no_src : (network : Network) (version : Version) (row : ℕ) (name : List ℕ) (d : Data) (dst : Prefix) (e : LoadError) → IsAnswer (IsDst version row d) (Ok dst) → IsAnswer (IsSrc version row dst d) (Err e) → IsAnswer (IsFlowNamed network version row name d) (Err e)
unfolding IsFlowNamed
named_no_src network version row name d dst e is_dst src = then_next _ _ dst (Err e) is_dst (then_refused _ _ e src)

pub named_read : (network : Network) (version : Version) (row : ℕ) (name : List ℕ) (d : Data) (dst src : Prefix) (r : Result ListedFlow LoadError) → IsAnswer (IsDst version row d) (Ok dst) → IsAnswer (IsSrc version row dst d) (Ok src) → flow_of network version row name dst src d ≡ r → IsAnswer (IsFlowNamed network version row name d) r
unfolding IsFlowNamed
named_read network version row name d dst src r is_dst is_src is = then_next _ _ dst r is_dst (then_next _ _ src r is_src (is_answer _ r is))

pub no_class : (network : Network) (version : Version) (rules : FlowRules) (row : ℕ) (name : List ℕ) (dst src : Prefix) (d : Data) (e : LoadError) → rules ≡ flow_rules version
    → class_of rules row d ≡ Err e → flow_of network version row name dst src d ≡ Err e
unfolding flow_of
no_class network version rules row name dst src d e known is =
    let class : class_of (flow_rules version) row d ≡ Err e = subst (λ (rules : FlowRules). class_of rules row d ≡ Err e) known is in rw class refl

pub no_graph : (network : Network) (version : Version) (rules : FlowRules) (row : ℕ) (name class : List ℕ) (dst src : Prefix) (d : Data) (e : LoadError) → rules ≡ flow_rules version
    → class_of rules row d ≡ Ok class → graph_of network version row d ≡ Err e → flow_of network version row name dst src d ≡ Err e
unfolding flow_of
no_graph network version rules row name class dst src d e known is_class is =
    let has_class : class_of (flow_rules version) row d ≡ Ok class = subst (λ (rules : FlowRules). class_of rules row d ≡ Ok class) known is_class in rw has_class (rw is refl)

abbrev pub listed_flow : List ℕ → Prefix → Prefix → List ℕ → Listed → ListedFlow
listed_flow name dst src class graph = record { class = record { name = name; dst = dst; src = src; class = class }; graph = graph }

pub whole : (network : Network) (version : Version) (rules : FlowRules) (row : ℕ) (name class : List ℕ) (dst src : Prefix) (d : Data) (graph : Listed) → rules ≡ flow_rules version
    → class_of rules row d ≡ Ok class → graph_of network version row d ≡ Ok graph → flow_of network version row name dst src d ≡ Ok (listed_flow name dst src class graph)
unfolding flow_of
whole network version rules row name class dst src d graph known is_class is =
    let has_class : class_of (flow_rules version) row d ≡ Ok class = subst (λ (rules : FlowRules). class_of rules row d ≡ Ok class) known is_class in rw has_class (rw is refl)

-- ---- the next flow

pub flow_unnamed : (network : Network) (version : Version) (names : List (List ℕ)) (d : Data) (e : LoadError) → next_name_of version names d ≡ Err e → IsAnswer (IsFlow network version names d) (Err e)
unfolding IsFlow
flow_unnamed network version names d e is = value_refused _ _ e is

pub flow_named : (network : Network) (version : Version) (names : List (List ℕ)) (d : Data) (row : ℕ) (name : List ℕ) (r : Result ListedFlow LoadError) → next_name_of version names d ≡ Ok name → row ≡ length names → IsAnswer (IsFlowNamed network version row name d) r → IsAnswer (IsFlow network version names d) r
unfolding IsFlow
flow_named network version names d row name r is at next = value_next _ _ name r is (subst (λ (row : ℕ). IsAnswer (IsFlowNamed network version row name d) r) at next)

-- ---- a list of flows

pub flows_end : (network : Network) (version : Version) (earlier : List ListedFlow) → IsAnswer (AreFlows network version earlier []) (Ok earlier)
unfolding AreFlows
flows_end network version earlier = is_answer _ (Ok earlier) refl

pub flows_refused : (network : Network) (version : Version) (earlier : List ListedFlow) (names : List (List ℕ)) (d : Data) (ds : List Data) (e : LoadError) → names ≡ listed_names earlier → IsAnswer (IsFlow network version names d) (Err e) → IsAnswer (AreFlows network version earlier (d ∷ ds)) (Err e)
unfolding AreFlows
flows_refused network version earlier names d ds e same flow =
    then_refused _ _ e (subst (λ (names : List (List ℕ)). IsAnswer (IsFlow network version names d) (Err e)) same flow)

pub flows_next : (network : Network) (version : Version) (earlier : List ListedFlow) (names : List (List ℕ)) (d : Data) (ds : List Data) (flow : ListedFlow) (r : Result (List ListedFlow) LoadError) → names ≡ listed_names earlier → IsAnswer (IsFlow network version names d) (Ok flow) → IsAnswer (AreFlows network version (earlier ++ flow ∷ []) ds) r → IsAnswer (AreFlows network version earlier (d ∷ ds)) r
unfolding AreFlows
flows_next network version earlier names d ds flow r same is next =
    then_next _ _ flow r (subst (λ (names : List (List ℕ)). IsAnswer (IsFlow network version names d) (Ok flow)) same is) next

-- ---- flows beside what is listed

pub same_names : (listed : List ListedFlow) (flows : List Flow) → AreFlowsOf listed flows → names_of flows ≡ listed_names listed
same_names [] [] h = refl
same_names [] (f ∷ fs) h = absurd h
same_names (l ∷ ls) [] h = absurd h
same_names (l ∷ ls) (f ∷ fs) h =
    ap (λ (c : List ℕ). c ∷ names_of fs) (ap (λ class. class.name) h.0.class) ∙ ap (λ (ns : List (List ℕ)). l.class.name ∷ ns) (same_names ls fs h.1)

pub one_more_flow : (listed : List ListedFlow) (flows : List Flow) (l : ListedFlow) (f : Flow) → AreFlowsOf listed flows → IsFlowOf l f → AreFlowsOf (listed ++ l ∷ []) (flows ++ f ∷ [])
one_more_flow [] [] l f h one = (one, tt)
one_more_flow [] (g ∷ fs) l f h one = absurd h
one_more_flow (k ∷ ls) [] l f h one = absurd h
one_more_flow (k ∷ ls) (g ∷ fs) l f h one = (h.0, one_more_flow ls fs l f h.1 one)

-- ---- the file

pub no_contents : (network : Network) (d : Data) (e : LoadError) → contents_of d ≡ Err e → IsAnswer (IsSnapshot network d) (Err e)
unfolding IsSnapshot
no_contents network d e is = value_refused _ _ e is

pub has_contents : (network : Network) (d : Data) (version : Version) (ds : List Data) (r : Result (List ListedFlow) LoadError) → contents_of d ≡ Ok (version, ds) → IsAnswer (AreFlows network version [] ds) r → IsAnswer (IsSnapshot network d) r
unfolding IsSnapshot
has_contents network d version ds r is next = value_next _ _ (version, ds) r is next

pub no_json : (network : Network) (bytes : List ℕ) → reading bytes ≡ None → IsAnswer (Load network bytes) (Err NotJson)
unfolding Load
no_json network bytes none = value_refused _ _ NotJson (ap (ok_or NotJson) none)

pub has_json : (network : Network) (bytes : List ℕ) (d : Data) (r : Result (List ListedFlow) LoadError) → reading bytes ≡ Some d → IsAnswer (IsSnapshot network d) r → IsAnswer (Load network bytes) r
unfolding Load
has_json network bytes d r is next = value_next _ _ d r (ap (ok_or NotJson) is) next

-- ---- the loop over the entries

-- what the flows so far leave to be read
pub record AreRead (network : Network) (version : Version) (all left : List Data) (flows : List Flow) : Type 0 where
  pub listed : List ListedFlow
  pub held : AreFlowsOf listed flows
  pub goes_on : (r : Result (List ListedFlow) LoadError) → IsAnswer (AreFlows network version listed left) r → IsAnswer (AreFlows network version [] all) r

pub read_none : (network : Network) (version : Version) (all : List Data) → AreRead network version all all []
read_none network version all = record { listed = []; held = tt; goes_on = λ r h. h }

pub read_more : (network : Network) (version : Version) (all whole left : List Data) (d : Data) (names : List (List ℕ)) (flows new_flows : List Flow) (flow : Flow)
    → whole ≡ d ∷ left → names ≡ names_of flows → new_flows ≡ flows ++ flow ∷ []
    → (listed : ListedFlow) × IsAnswer (IsFlow network version names d) (Ok listed) × IsFlowOf listed flow
    → AreRead network version all whole flows → AreRead network version all left new_flows
read_more network version all whole left d names flows new_flows flow next known more one so_far = record {
  listed = so_far.listed ++ one.0 ∷ [];
  held = subst (AreFlowsOf (so_far.listed ++ one.0 ∷ [])) (sym more) (one_more_flow so_far.listed flows one.0 flow so_far.held one.2);
  goes_on = λ r h. so_far.goes_on r (subst (λ (ds : List Data). IsAnswer (AreFlows network version so_far.listed ds) r) (sym next)
      (flows_next network version so_far.listed names d left one.0 r (known ∙ same_names so_far.listed flows so_far.held) one.1 h));
}

pub read_refused : (network : Network) (version : Version) (all whole left : List Data) (d : Data) (names : List (List ℕ)) (flows : List Flow) (e : LoadError)
    → whole ≡ d ∷ left → names ≡ names_of flows → IsAnswer (IsFlow network version names d) (Err e)
    → AreRead network version all whole flows → IsAnswer (AreFlows network version [] all) (Err e)
read_refused network version all whole left d names flows e next known one so_far =
    so_far.goes_on (Err e) (subst (λ (ds : List Data). IsAnswer (AreFlows network version so_far.listed ds) (Err e)) (sym next)
    (flows_refused network version so_far.listed names d left e (known ∙ same_names so_far.listed flows so_far.held) one))

pub read_all : (network : Network) (version : Version) (all left : List Data) (flows : List Flow) → left ≡ [] → AreRead network version all left flows
    → (listed : List ListedFlow) × IsAnswer (AreFlows network version [] all) (Ok listed) × AreFlowsOf listed flows
read_all network version all left flows none so_far = (
  so_far.listed,
  so_far.goes_on (Ok so_far.listed) (subst (λ (ds : List Data). IsAnswer (AreFlows network version so_far.listed ds) (Ok so_far.listed)) (sym none) (flows_end network version so_far.listed)),
  so_far.held,
)

pub left_next : {X Y : Type 0} (f : X → Y) (xs : List X) (i : ℕ) (x : X) → i < length xs → x ≡ get_or xs i x → map f (drop i xs) ≡ f x ∷ map f (drop (i + 1) xs)
left_next {X} f xs i x lt is = ap (map f) (drop_more xs i x lt ∙ ap (λ (y : X). y ∷ drop (i + 1) xs) (sym is))

pub names_more : (names new : List (List ℕ)) (flows new_flows : List Flow) (flow : Flow) → names ≡ names_of flows → new ≡ names ++ flow.class.name ∷ [] → new_flows ≡ flows ++ flow ∷ [] → new ≡ names_of new_flows
names_more names new flows new_flows flow known more pushed =
    more ∙ ap (λ (ns : List (List ℕ)). ns ++ flow.class.name ∷ []) known ∙ sym (map-append (λ (flow : Flow). flow.class.name) flows (flow ∷ [])) ∙ ap names_of (sym pushed)

pub few_more : (names new : List (List ℕ)) (name : List ℕ) → length names < 10000 → new ≡ names ++ name ∷ [] → length new ≤ 10000
few_more names new name room more = rw more (let h = length-append names (name ∷ []) in omega (arith, h, room))

pub as_many : (names : List (List ℕ)) (flows : List Flow) → names ≡ names_of flows → length flows ≡ length names
as_many names flows known = sym (ap length known ∙ length-map flows (λ (flow : Flow). flow.class.name))

-- ---- what a call answers, as what its caller answers

pub flow_kept : (network : Network) (version : Version) (names : List (List ℕ)) (d : Data) (row : ℕ) (name : List ℕ) (r : Result Flow LoadError) → next_name_of version names d ≡ Ok name → row ≡ length names
    → IfOk r (λ flow. (listed : ListedFlow) × IsAnswer (IsFlowNamed network version row name d) (Ok listed) × IsFlowOf listed flow)
    → IfOk r (λ flow. (listed : ListedFlow) × IsAnswer (IsFlow network version names d) (Ok listed) × IsFlowOf listed flow)
flow_kept network version names d row name (Ok flow) is at h = (h.0, flow_named network version names d row name (Ok h.0) is at h.1, h.2)
flow_kept network version names d row name (Err e) is at h = tt

pub flow_fault_kept : (network : Network) (version : Version) (names : List (List ℕ)) (d : Data) (row : ℕ) (name : List ℕ) (r : Result Flow LoadError) → next_name_of version names d ≡ Ok name → row ≡ length names
    → IfErr r (λ e. e ≢ Memory → IsAnswer (IsFlowNamed network version row name d) (Err e)) → IfErr r (λ e. e ≢ Memory → IsAnswer (IsFlow network version names d) (Err e))
flow_fault_kept network version names d row name (Ok flow) is at h = tt
flow_fault_kept network version names d row name (Err e) is at h = λ no. flow_named network version names d row name (Err e) is at (h no)

pub flows_kept : {A : Type 0} (network : Network) (d : Data) (version : Version) (ds : List Data) (flows : A → List Flow) (r : Result A LoadError) → contents_of d ≡ Ok (version, ds)
    → IfOk r (λ v. (listed : List ListedFlow) × IsAnswer (AreFlows network version [] ds) (Ok listed) × AreFlowsOf listed (flows v))
    → IfOk r (λ v. (listed : List ListedFlow) × IsAnswer (IsSnapshot network d) (Ok listed) × AreFlowsOf listed (flows v))
flows_kept network d version ds flows (Ok v) is h = (h.0, has_contents network d version ds (Ok h.0) is h.1, h.2)
flows_kept network d version ds flows (Err e) is h = tt

pub flows_fault_kept : {A : Type 0} (network : Network) (d : Data) (version : Version) (ds : List Data) (r : Result A LoadError) → contents_of d ≡ Ok (version, ds)
    → IfErr r (λ e. e ≢ Memory → IsAnswer (AreFlows network version [] ds) (Err e)) → IfErr r (λ e. e ≢ Memory → IsAnswer (IsSnapshot network d) (Err e))
flows_fault_kept network d version ds (Ok v) is h = tt
flows_fault_kept network d version ds (Err e) is h = λ no. has_contents network d version ds (Err e) is (h no)

pub json_fault : (network : Network) (bytes : List ℕ) (refused : ReadJsonError) (e : LoadError) → e ≡ load_error refused → (refused ≡ read.NotJson → reading bytes ≡ None) → e ≢ Memory → IsAnswer (Load network bytes) (Err e)
json_fault network bytes read.NotJson e is none real = subst (λ (e : LoadError). IsAnswer (Load network bytes) (Err e)) (sym is) (no_json network bytes (none refl))
json_fault network bytes read.Memory e is none real = absurd (real is)

pub empty_of : {X : Type 0} (xs : List X) → length xs ≡ 0 → xs ≡ []
empty_of [] e = refl
empty_of (x ∷ xs) e = absurd (omega (arith, e))

pub drop_none : {X : Type 0} (xs : List X) (i : ℕ) → length xs ≤ i → drop i xs ≡ []
drop_none xs i past = empty_of (drop i xs) (let h = length-drop i xs in omega (arith, h, past))

pub left_none : {X Y : Type 0} (f : X → Y) (xs : List X) (i : ℕ) → length xs ≤ i → map f (drop i xs) ≡ []
left_none f xs i past = ap (map f) (drop_none xs i past)
