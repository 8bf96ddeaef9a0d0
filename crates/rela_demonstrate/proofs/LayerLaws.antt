-- What the texts of the layered input are loaded as.
use Rattle.std.proofs.Common.{◌≡◌, ◌∙◌, ◌≤◌, ℕ, inl, true, List, Result, Ok, Err, refl, sym, ap, subst}
use Rattle.std.specs.List.{All}
use Rattle.std.specs.Result.{IsErrAnd}
use Rattle.std.proofs.lemmas.List.Elements.{All-weaker}
use Rattle.rela_demo.specs.Flows.{flows_after, flows_before}
use Rattle.rela_demo.specs.Input.{DoNotDiffer}
use Rattle.rela_demo.specs.Locations as layers
use Rattle.rela_demo.specs.Specification.{IsTextOf, specification}
use Rattle.rela_expand.specs.Listed.{ListsPathSymbols}
use Rattle.rela_locations.specs.Load as locations
use Rattle.rela_locations.specs.Network.{Network}
use Rattle.rela_names.specs.declared.level.Level.{Level}
use Rattle.rela_rows.specs.Rows.{AreChecksAt}
use Rattle.rela_snapshot.specs.FlowEntry.{ListedFlow}
use Rattle.rela_snapshot.specs.Flows.{AreFlowsOf}
use Rattle.rela_snapshot.specs.Load as snapshot
use Rattle.rela_snapshot.specs.Pair.{Pairing, pairs_of}
use Rattle.rela_snapshot.specs.PairsLocated.{ArePairsLocated}
use Rattle.rela_snapshot.specs.declared.pairing.FlowPair.{FlowPair}
use Rattle.rela_snapshot.specs.declared.pairing.PairError.{PairError}
use Rattle.rela_snapshot.specs.declared.pairing.PairError.TheVariants as pair
use Rattle.rela_snapshot.specs.declared.snapshot.Flow.{Flow}
use Rattle.rela_spec.specs.declared.tree.SpecFile.{SpecFile}
use Rattle.rela_translate.specs.Checked.{Checked as Check}
use Rattle.rela_demonstrate.specs.Demos.{AreLayered, IsLayered, LoadsLayered, OrMemory}
use Rattle.rela_inputs.specs.Given.{Agrees, Equals, IsRead, seen}
use Rattle.rela_inputs.specs.Inputs.{IsListedAs, ReadsNetwork, load_of}
use Rattle.rela_inputs.specs.Loaded.{Loaded, SameLoaded}
use Rattle.rela_inputs.specs.Paired.{ArePaired, IsPairedAs}
use Rattle.rela_same_flows.specs.SameFlows.{SameFlows, SamePairs}
use Rattle.rela_inputs.specs.Specifications.{ReadsText, ReadsTree}
use Rattle.rela_inputs.specs.Specified.{AsksFor, IsSpecified, SameSpecified, Specified}
use Rattle.rela_inputs.specs.declared.reading.Halt.{Halt}
use Rattle.rela_inputs.specs.declared.reading.Halt.TheVariants.{Refused, ReadFault, Memory}
use Rattle.rela_inputs.specs.declared.refusal.Input.TheVariants.{Locations}
use Rattle.rela_inputs.specs.declared.refusal.Refusal.{Refusal}
use Rattle.rela_demonstrate.proofs.Forms.{Sizes}
use Rattle.rela_demonstrate.proofs.LayerChecks.{not_refused}

-- what has a value is refused for want of memory alone
pub only_memory : {A : Type 0} (Same : A → A → Type 0) (Steps : Result A Refusal → Type 0) (halt : Halt) (a : A) → IsRead Same Steps (Err halt) → Steps (Ok a) → halt ≡ Memory
only_memory Same Steps (Refused refusal) a read has = absurd (read.given.alone refl (Ok a) has)
only_memory Same Steps ReadFault a read has = absurd read.halts
only_memory Same Steps Memory a read has = refl

-- a halt that is passed on is want of memory where it was
pub memory_passed : {A : Type 0} (P : A → Type 0) (r : Result A Halt) (halt : Halt) → IsErrAnd r (λ e. e ≡ halt) → halt ≡ Memory → OrMemory P r
memory_passed P (Ok a) halt passed memory = absurd passed
memory_passed P (Err e) halt passed memory = passed ∙ memory

-- what is loaded of the same entries and of the same tree is the same
pub record LoadsTheSame : Type 0 where
  pub flows : (listed : List ListedFlow) (flows others : List Flow) → AreFlowsOf listed flows → AreFlowsOf listed others → SameFlows flows others
  pub pairs : (before others after later : List Flow) → SameFlows before others → SameFlows after later → SamePairs (pairs_of before after) (pairs_of others later)
  pub specified : (network : Network) (tree : SpecFile) (specified other : Specified) → IsSpecified network tree specified → IsSpecified network tree other
      → SameSpecified specified other

-- the checks can be compiled, and their flows be looked at
pub are_checks : (names : List (List ℕ)) (pairs : List FlowPair) (level : Level) (checks : List Check)
    → ArePairsLocated names level pairs → All (λ check. check.level ≡ level) checks → All (ListsPathSymbols names) checks → AreChecksAt names pairs checks
are_checks names pairs level checks located levels listed = record {
  listed = listed;
  located = All-weaker (λ (check : Check). check.level ≡ level) (λ check. ArePairsLocated names check.level pairs)
      (λ check is. subst (λ (l : Level). ArePairsLocated names l pairs) (sym is) located) checks levels;
}

module _ (n : ℕ) where
  -- ---- the locations

  has_network : (text : List ℕ) → locations.Load text ≡ Ok (layers.network n) → ReadsNetwork text (Ok (layers.network n))
  has_network text loads = sym (ap (load_of Locations) loads)

  pub network_is : (text : List ℕ) (network : Network) → IsRead Equals (ReadsNetwork text) (Ok network) → locations.Load text ≡ Ok (layers.network n) → network ≡ layers.network n
  network_is text network read loads = read.given.alone refl (Ok (layers.network n)) (has_network text loads)

  pub network_memory : (text : List ℕ) (halt : Halt) → IsRead {A = Network} Equals (ReadsNetwork text) (Err halt) → locations.Load text ≡ Ok (layers.network n) → halt ≡ Memory
  network_memory text halt read loads = only_memory Equals (ReadsNetwork text) halt (layers.network n) read (has_network text loads)

  -- ---- the flows

  -- what a text gives over the network that was loaded
  pub flows_listed : (text bytes : List ℕ) (network : Network) (listed : List ListedFlow) (r : Result (List Flow) Halt) → text ≡ bytes → network ≡ layers.network n
      → ((flows : List ListedFlow) → snapshot.Load network text (Ok flows) → IsListedAs flows r) → snapshot.Load (layers.network n) bytes (Ok listed) → IsListedAs listed r
  flows_listed text bytes network listed r same is each loads =
      each listed (subst (λ (t : List ℕ). snapshot.Load network t (Ok listed)) (sym same)
      (subst (λ (w : Network). snapshot.Load w bytes (Ok listed)) (sym is) loads))

  module _ (before after : List Flow) (are_before : AreFlowsOf (flows_before n) before) (are_after : AreFlowsOf (flows_after n) after) where
    paired_ok : (pairs : List FlowPair) (x : Result (List FlowPair) PairError) → Pairing before after x → IsPairedAs x (Ok pairs) → pairs ≡ pairs_of before after
    unfolding Pairing
    paired_ok pairs (Ok made) pairing is = (let same : pairs ≡ made = cc in same ∙ pairing.1)
    paired_ok pairs (Err (pair.FlowDiffers row first second)) pairing is = absurd (cc)
    paired_ok pairs (Err pair.Memory) pairing is = absurd is

    pairs_layered : (pairs : List FlowPair) → IsRead Equals (ArePaired before after) (Ok pairs) → AreLayered n pairs
    unfolding ArePaired
    pairs_layered pairs read = (let told = read.given.told_by in record {
      before = before;
      after = after;
      are_before = are_before;
      are_after = are_after;
      side_by_side = paired_ok pairs told.0 told.1 told.2;
    })

    no_pairs : DoNotDiffer n → (refusal : Refusal) (x : Result (List FlowPair) PairError) → Pairing before after x → IsPairedAs x (Err refusal) → ⊥
    unfolding Pairing
    no_pairs none refusal (Ok made) pairing is = cc
    no_pairs none refusal (Err (pair.FlowDiffers row first second)) pairing is = none before after are_before are_after row first second pairing
    no_pairs none refusal (Err pair.Memory) pairing is = is

    pairs_memory : DoNotDiffer n → (halt : Halt) → IsRead {A = List FlowPair} Equals (ArePaired before after) (Err halt) → halt ≡ Memory
    unfolding ArePaired
    pairs_memory none (Refused refusal) read = (let told = read.given.told_by in absurd (no_pairs none refusal told.0 told.1 told.2))
    pairs_memory none ReadFault read = absurd read.halts
    pairs_memory none Memory read = refl

    pub pairs_read : {A : Type 0} (view : A → List FlowPair) (r : Result A Halt) → DoNotDiffer n → IsRead Equals (ArePaired before after) (seen view r) → OrMemory (λ a. AreLayered n (view a)) r
    pairs_read view (Ok a) none read = pairs_layered (view a) read
    pairs_read view (Err halt) none read = pairs_memory none halt read

  -- ---- the checks

  has_tree : (text : List ℕ) → IsTextOf (specification n) text → ReadsTree text (Ok (specification n))
  unfolding ReadsText
  has_tree text is = inl (is.tokens, is.lexed, is.spelled)

  pub tree_is : (text bytes : List ℕ) (tree : SpecFile) → text ≡ bytes → IsRead Equals (ReadsTree text) (Ok tree) → IsTextOf (specification n) bytes → tree ≡ specification n
  tree_is text bytes tree same read is =
      read.given.alone refl (Ok (specification n)) (subst (λ (t : List ℕ). ReadsTree t (Ok (specification n))) (sym same) (has_tree bytes is))

  pub tree_memory : (text bytes : List ℕ) (halt : Halt) → text ≡ bytes → IsRead {A = SpecFile} Equals (ReadsTree text) (Err halt) → IsTextOf (specification n) bytes → halt ≡ Memory
  tree_memory text bytes halt same read is =
      only_memory Equals (ReadsTree text) halt (specification n) read (subst (λ (t : List ℕ). ReadsTree t (Ok (specification n))) (sym same) (has_tree bytes is))

  abbrev Asks : Result Specified Refusal → Type 0
  Asks = AsksFor (layers.network n) (specification n)

  -- what the tree that was read asks for is what that of the input does
  pub asked_here : (network : Network) (tree : SpecFile) (r : Result Specified Halt) → network ≡ layers.network n → tree ≡ specification n
      → IsRead SameSpecified (AsksFor network tree) r → IsRead SameSpecified Asks r
  asked_here network tree r here is read =
      subst (λ (t : SpecFile). IsRead SameSpecified (AsksFor (layers.network n) t) r) is
      (subst (λ (w : Network). IsRead SameSpecified (AsksFor w tree) r) here read)

  -- ---- all of it

  pairs_alone : LoadsTheSame → (pairs others : List FlowPair) → AreLayered n pairs → AreLayered n others → SamePairs pairs others
  pairs_alone same pairs others one two =
      subst (λ (ps : List FlowPair). SamePairs ps others) (sym one.side_by_side)
      (subst (λ (ps : List FlowPair). SamePairs (pairs_of one.before one.after) ps) (sym two.side_by_side)
      (same.pairs one.before two.before one.after two.after (same.flows (flows_before n) one.before two.before one.are_before two.are_before)
      (same.flows (flows_after n) one.after two.after one.are_after two.are_after)))

  loaded_alone : LoadsTheSame → (loaded : Loaded) → IsLayered n loaded → (x : Result Loaded Refusal) → LoadsLayered n x → Agrees true SameLoaded (Ok loaded) x
  loaded_alone same loaded is (Ok other) there = record {
    network = is.network ∙ sym there.network;
    pairs = pairs_alone same loaded.pairs other.pairs is.pairs there.pairs;
    specified = same.specified (layers.network n) (specification n) loaded.specified other.specified is.specified there.specified;
  }
  loaded_alone same loaded is (Err refusal) there = absurd there

  pub layered_read : LoadsTheSame → (loaded : Loaded) → IsLayered n loaded → IsRead SameLoaded (LoadsLayered n) (Ok loaded)
  layered_read same loaded is = record {
    given = record { told_by = is; alone = λ t x there. loaded_alone same loaded is x there };
    halts = tt;
  }

  asked_memory : Sizes → 1 ≤ n → n ≤ 200 → (halt : Halt) → IsRead SameSpecified Asks (Err halt) → halt ≡ Memory
  asked_memory sizes some few (Refused refusal) read = absurd (not_refused sizes n some few read.given.told_by.error read.given.told_by.fault)
  asked_memory sizes some few ReadFault read = absurd read.halts
  asked_memory sizes some few Memory read = refl

  pub asked_read : {A : Type 0} (view : A → Specified) (r : Result A Halt) → Sizes → 1 ≤ n → n ≤ 200 → IsRead SameSpecified Asks (seen view r)
      → OrMemory (λ a. IsSpecified (layers.network n) (specification n) (view a)) r
  asked_read view (Ok a) sizes some few read = read.given.told_by
  asked_read view (Err halt) sizes some few read = asked_memory sizes some few halt read

  -- want of memory, passed on, settles nothing
  pub layered_passed : {A : Type 0} (view : A → Loaded) (r : Result A Halt) (halt : Halt) → IsErrAnd r (λ e. e ≡ halt) → halt ≡ Memory → IsRead SameLoaded (LoadsLayered n) (seen view r)
  layered_passed view (Ok a) halt passed memory = absurd passed
  layered_passed view (Err e) halt passed memory =
      rw (passed ∙ memory) (record { given = record { told_by = tt; alone = λ t x there. tt }; halts = tt })
