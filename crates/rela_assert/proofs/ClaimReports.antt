-- Reports on assertions agree, whichever of the flows and assertions that no file can tell apart stand for them.
use Rattle.std.proofs.Common.{◌≡◌, ℕ, Bool, List, [], ◌∷◌, map, Result, Ok, Err, refl, sym, ap, subst}
use Rattle.std.specs.Prelude.{◌↔◌}
use Rattle.std.specs.List.{AllZip}
use Rattle.rela_assertions.specs.Agreement.{AgreeInRows, AreClaimsAlike, AreFlowsAlike}
use Rattle.rela_assertions.specs.Rows.{AreRowsOf}
use Rattle.rela_assertions.specs.declared.row.AssertionRow.{AssertionRow}
use Rattle.rela_claims.specs.Claims.{Claimed, claimed_of}
use Rattle.rela_claims.specs.Classes.{Listing, listing_of}
use Rattle.rela_claims.specs.declared.claim.Claim.{Claim}
use Rattle.rela_blocks.specs.Scenes.{arrivals_of, paths_of}
use Rattle.rela_engine.specs.Scenes.{SamePathSets}
use Rattle.rela_graph.specs.Paths.{Arrives, Paths, Undelivered, locations}
use Rattle.rela_graph.specs.Topology.{Topology}
use Rattle.rela_locations.specs.Network.{Network, alphabet_of}
use Rattle.rela_names.specs.declared.level.Level.{Level}
use Rattle.rela_rir.specs.Agreement.{SameArrivals}
use Rattle.rela_rir.specs.declared.set.SymbolSet.{SymbolSet}
use Rattle.rela_snapshot.specs.declared.pairing.FlowPair.{FlowPair}
use Rattle.rela_inputs.specs.Answer.{Answer}
use Rattle.rela_assert.specs.AssertReports.{ReportsClaims, SameAssertReports, assertions_report}
use Rattle.rela_assert.specs.Asserted.{Asserted, SameAsserted}
use Rattle.rela_inputs.specs.Given.{Agrees}
use Rattle.rela_same_flows.specs.SameFlows.{SameGraph, SamePair, SamePairs}
use Rattle.rela_inputs.specs.declared.refusal.Refusal.{Refusal}

-- ---- flows that no file can tell apart have the same paths

-- what graphs that are the same have in common
pub record SameGraphsAreAlike : Type 0 where
  pub paths : (graph other : Topology) → SameGraph graph other → (level : Level) (names : List (List ℕ)) (word : List ℕ) → Paths graph level names word ↔ Paths other level names word
  pub undelivered : (graph other : Topology) → SameGraph graph other → (level : Level) (names : List (List ℕ)) (word : List ℕ)
      → Undelivered graph level names word ↔ Undelivered other level names word
  pub arrivals : (graph other : Topology) → SameGraph graph other → (level : Level) (node : ℕ) (word : List ℕ)
      → Arrives graph (locations graph level) node word ↔ Arrives other (locations other level) node word

module _ (alike : SameGraphsAreAlike) (names : List (List ℕ)) (level : Level) where
  same_arrivals : (g h : Topology) → SameGraph g h → SameArrivals (arrivals_of level names g) (arrivals_of level names h)
  same_arrivals g h same = record {
    at_node = λ n w. alike.arrivals g h same level n w;
    at_end = λ w. alike.undelivered g h same level names w;
  }

  same_paths : (p q : FlowPair) → SamePair p q → SamePathSets (paths_of level names p.before p.after) (paths_of level names q.before q.after)
  same_paths p q same = record {
    pre = λ w. alike.paths p.before q.before same.before level names w;
    post = λ w. alike.paths p.after q.after same.after level names w;
    pre_places = same_arrivals p.before q.before same.before;
    post_places = same_arrivals p.after q.after same.after;
  }

  flows_alike : (ps qs : List FlowPair) → SamePairs ps qs → AllZip (AreFlowsAlike names level) ps qs
  flows_alike [] [] same = tt
  flows_alike [] (q ∷ qs) same = absurd same
  flows_alike (p ∷ ps) [] same = absurd same
  flows_alike (p ∷ ps) (q ∷ qs) same = (record { class = same.0.class; paths = same_paths p q same.0 }, flows_alike ps qs same.1)

-- ---- assertions that no file can tell apart

-- sets of symbols with one sign and the same members are equal
abbrev pub SameSetsAreEqual : Type 0
SameSetsAreEqual = (set other : SymbolSet) → set.negated ≡ other.negated → set.members ≡ other.members → set ≡ other

module _ (equal : SameSetsAreEqual) where
  tables_same : (ss ts : List SymbolSet) → map listing_of ss ≡ map listing_of ts → ss ≡ ts
  tables_same [] [] same = refl
  tables_same [] (t ∷ ts) same = absurd (cc)
  tables_same (s ∷ ss) [] same = absurd (cc)
  tables_same (s ∷ ss) (t ∷ ts) same =
      let first : listing_of s ≡ listing_of t = cc in
      let rest : map listing_of ss ≡ map listing_of ts = cc in
      let one : s ≡ t = equal s t (ap (λ (l : Listing). l.negated) first) (ap (λ (l : Listing). l.members) first) in
      let more : ss ≡ ts = tables_same ss ts rest in
      cc

  claims_alike : (cs ds : List Claim) → map claimed_of cs ≡ map claimed_of ds → AllZip AreClaimsAlike cs ds
  claims_alike [] [] same = tt
  claims_alike [] (d ∷ ds) same = absurd (cc)
  claims_alike (c ∷ cs) [] same = absurd (cc)
  claims_alike (c ∷ cs) (d ∷ ds) same =
      let first : claimed_of c ≡ claimed_of d = cc in
      let rest : map claimed_of cs ≡ map claimed_of ds = cc in (
        record {
          name = ap (λ (x : Claimed). x.name) first;
          tree = ap (λ (x : Claimed). x.tree) first;
          classes = tables_same c.classes.items d.classes.items (ap (λ (x : Claimed). x.classes) first);
        },
        claims_alike cs ds rest,
      )

-- ---- the reports

-- right rows of the same flows under the same assertions agree
abbrev pub RightRowsAgree : Type 0
RightRowsAgree =
    (names : List (List ℕ)) (level : Level) (states : ℕ) (pairs others : List FlowPair) (claims asserted : List Claim) (rows told : List AssertionRow)
    → AllZip (AreFlowsAlike names level) pairs others → AllZip AreClaimsAlike claims asserted → AreRowsOf names level states pairs claims rows
    → AreRowsOf names level states others asserted told → AgreeInRows rows told

same_answer : (a b : Answer) → ◌≡◌ {A = Result Answer Refusal} (Ok a) (Ok b) → a ≡ b
same_answer a b e = cc

not_refused : (refusal : Refusal) (a : Answer) → ◌≡◌ {A = Result Answer Refusal} (Err refusal) (Ok a) → ⊥
not_refused refusal a e = cc

module _ (alike : SameGraphsAreAlike) (equal : SameSetsAreEqual) (agree : RightRowsAgree) (steady : Bool) (states : ℕ) (network : Network) (pairs others : List FlowPair) (asserted other : Asserted) where
  abbrev names : List (List ℕ)
  names = alphabet_of asserted.level network

  abbrev OtherRows : Level → List AssertionRow → Type 0
  OtherRows level rows = AreRowsOf (alphabet_of level network) level states others other.claims rows

  pub claims_agree : (answer : Answer) (x : Result Answer Refusal) → SamePairs pairs others → SameAsserted asserted other → ReportsClaims states network pairs asserted (Ok answer)
      → ReportsClaims states network others other x → Agrees steady SameAssertReports (Ok answer) x
  unfolding ReportsClaims
  claims_agree answer (Ok another) flows same one two = record {
    names = names;
    rows = one.0;
    others = two.0;
    is_first = same_answer answer (assertions_report names one.0) one.2;
    is_second = subst (λ (l : Level). another ≡ assertions_report (alphabet_of l network) two.0) (sym same.level)
        (same_answer another (assertions_report (alphabet_of other.level network) two.0) two.2);
    agree = agree names asserted.level states pairs others asserted.claims other.claims one.0 two.0 (flows_alike alike names asserted.level pairs others flows)
        (claims_alike equal asserted.claims other.claims same.claims) one.1 (subst (λ (l : Level). OtherRows l two.0) (sym same.level) two.1);
  }
  claims_agree answer (Err refusal) flows same one two = absurd (not_refused refusal (assertions_report (alphabet_of other.level network) two.0) two.2)
