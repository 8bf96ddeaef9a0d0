-- What an assertion file gives, and what `rir` does, from what their steps give.
use Rattle.std.proofs.Common.{◌≡◌, ◌≢◌, ◌∙◌, ◌⊎◌, ℕ, inl, inr, Bool, true, List, map, Option, Result, Ok, Err, refl, sym, ap, subst}
use Rattle.std.specs.Prelude.{IfOk, IfErr}
use Rattle.std.specs.List.{All}
use Rattle.rela_assertions.specs.Rows.{AreRowsOf, IsClaimAt}
use Rattle.rela_assertions.specs.Text.{assertions_text, status_of}
use Rattle.rela_assertions.specs.declared.row.AssertionRow.{AssertionRow}
use Rattle.rela_claims.specs.Claims.{Claimed, ListsPathSymbols, NamesByClasses, claimed_of, claims_of}
use Rattle.rela_claims.specs.declared.claim.Claim.{Claim}
use Rattle.rela_io.specs.Held.{FilesByName}
use Rattle.rela_lex.specs.declared.error.SpecError.{SpecError}
use Rattle.rela_lex.specs.declared.error.SpecError.TheVariants as spec
use Rattle.rela_locations.specs.Network.{Network, alphabet_of}
use Rattle.rela_names.specs.declared.level.Level.{Level}
use Rattle.rela_rirfile.specs.declared.written.AssertFile.{AssertFile}
use Rattle.rela_snapshot.specs.Steps.{After, ◌>>=◌}
use Rattle.rela_snapshot.specs.declared.pairing.FlowPair.{FlowPair}
use Rattle.rela_inputs.specs.Answer.{Answer}
use Rattle.rela_assert.specs.AssertReports.{ReportsAssertions, ReportsClaims, ReportsOver, SameAssertReports}
use Rattle.rela_assert.specs.Asserted.{Asserted, Asserts, IsAsserted, ReadsClaims, SameAsserted}
use Rattle.rela_inputs.specs.Given.{Equals, Agrees, IsGiven, IsRead, seen}
use Rattle.rela_inputs.specs.Halts.{refused}
use Rattle.rela_inputs.specs.Inputs.{BytesOf, Gives, ReadsNetwork}
use Rattle.rela_inputs.specs.Paired.{GivesPairs}
use Rattle.rela_same_flows.specs.SameFlows.{SamePairs}
use Rattle.rela_inputs.specs.Specifications.{ReadsAssertions, refused_text}
use Rattle.rela_inputs.specs.declared.reading.Halt.{Halt}
use Rattle.rela_inputs.specs.declared.reading.Halt.TheVariants.{Memory}
use Rattle.rela_inputs.specs.declared.refusal.Input.TheVariants as input
use Rattle.rela_inputs.specs.declared.refusal.Reason.TheVariants.{Specification}
use Rattle.rela_inputs.specs.declared.refusal.Refusal.{Refusal}
use Rattle.rela_assert.proofs.ClaimReports.{RightRowsAgree, SameGraphsAreAlike, SameSetsAreEqual, claims_agree}
use Rattle.rela_assert.proofs.Points.{StepsChain, at_claims, at_file, at_locations, at_pairs}

-- ---- the claims of a text

-- memory is wanted, or else the input is refused for what is wrong with its text
abbrev pub MemoryOrRefused : SpecError → Halt → Type 0
MemoryOrRefused e halt = ((e ≡ spec.Memory) × (halt ≡ Memory)) ⊎ ((e ≢ spec.Memory) × (halt ≡ refused input.Assertions (Specification e)))

same_claims : (a b : List Claimed) → ◌≡◌ {A = Result (List Claimed) SpecError} (Ok a) (Ok b) → a ≡ b
same_claims a b e = cc

module _ (law : StepsChain true true) (network : Network) (file : AssertFile) where
  asserts_alone : (asserted : Asserted) → IsAsserted network file asserted → (x : Result Asserted Refusal) → Asserts network file x → Agrees true SameAsserted (Ok asserted) x
  asserts_alone asserted is (Ok other) asserts = record {
    level = is.level ∙ sym asserts.level;
    claims = same_claims (map claimed_of asserted.claims) (map claimed_of other.claims) (sym is.claims ∙ asserts.claims);
  }
  asserts_alone asserted is (Err refusal) asserts =
      let e = sym is.claims ∙ asserts.fault in
      absurd (cc)

  refused_alone : (e : SpecError) → claims_of network file ≡ Err e → (x : Result Asserted Refusal) → Asserts network file x → x ≡ Err (refused_text input.Assertions e)
  refused_alone e is (Ok other) asserts =
      let s = sym is ∙ asserts.claims in
      absurd (cc)
  refused_alone e is (Err refusal) asserts =
      let s : ◌≡◌ {A = Result (List Claimed) SpecError} (Err e) (Err asserts.error) = sym is ∙ asserts.fault in
      let same : e ≡ asserts.error = cc in
      ap (λ (r : Refusal). Err r) asserts.is ∙ sym (ap (λ (f : SpecError). Err (refused_text input.Assertions f)) same)

  claims_of_tree : (bytes : List ℕ) (r : Result Asserted Halt) → IsRead Equals (ReadsAssertions bytes) (Ok file) → IsRead SameAsserted (Asserts network file) r
      → IsRead SameAsserted (ReadsClaims network bytes) r
  unfolding ReadsClaims
  claims_of_tree bytes r reads asserts = record {
    given = (law (at_file bytes network)).settled file r (λ other same. same) reads.given asserts.given;
    halts = asserts.halts;
  }

  -- what the tree of a text asserts
  pub claims_read : (bytes : List ℕ) (claims : List Claim) → IsRead Equals (ReadsAssertions bytes) (Ok file) → claims_of network file ≡ Ok (map claimed_of claims)
      → IsRead SameAsserted (ReadsClaims network bytes) (Ok (record { level = file.level; claims = claims }))
  claims_read bytes claims reads is =
      let asserted : Asserted = record { level = file.level; claims = claims } in
      let right : IsAsserted network file asserted = record { claims = is; level = refl } in
      claims_of_tree bytes (Ok asserted) reads (record {
        given = record { told_by = right; alone = λ t x asserts. asserts_alone asserted right x asserts };
        halts = tt;
      })

  -- a tree whose names aren't found
  pub no_claims : (bytes : List ℕ) (e : SpecError) (halt : Halt) → IsRead Equals (ReadsAssertions bytes) (Ok file) → MemoryOrRefused e halt
      → (e ≢ spec.Memory → claims_of network file ≡ Err e) → IsRead SameAsserted (ReadsClaims network bytes) (Err halt)
  no_claims bytes e halt reads (inl (same, memory)) fault =
      claims_of_tree bytes (Err halt) reads (rw memory (record { given = record { told_by = tt; alone = λ t x asserts. tt }; halts = tt }))
  no_claims bytes e halt reads (inr (real, is)) fault =
      claims_of_tree bytes (Err halt) reads (rw is (record {
        given = record {
          told_by = record { error = e; fault = fault real; real = real; is = refl };
          alone = λ t x asserts. rw (refused_alone e (fault real) x asserts) refl;
        };
        halts = refl;
      }))

-- a text without a tree
pub no_tree_no_claims : StepsChain true true → (network : Network) (bytes : List ℕ) (halt : Halt) → IsRead {A = AssertFile} Equals (ReadsAssertions bytes) (Err halt) → IsRead SameAsserted (ReadsClaims network bytes) (Err halt)
unfolding ReadsClaims
no_tree_no_claims law network bytes halt reads = record {
  given = (law (at_file bytes network)).stopped halt reads.given;
  halts = reads.halts;
}

-- ---- the report

report_is : (names : List (List ℕ)) (rows : List AssertionRow) (text : List ℕ) (status : ℕ) → text ≡ assertions_text names rows → status ≡ status_of rows
    → ◌≡◌ {A = Result Answer Refusal} (Ok (record { text = text; status = status })) (Ok (record { text = assertions_text names rows; status = status_of rows }))
report_is names rows text status is_text is_status = cc

-- the text and the status of the rows
pub claims_reported : (states : ℕ) (network : Network) (pairs flows : List FlowPair) (asserted : Asserted) (names : List (List ℕ)) (claims : List Claim) (rows : List AssertionRow) (text : List ℕ) (status : ℕ)
    → names ≡ alphabet_of asserted.level network → flows ≡ pairs → claims ≡ asserted.claims → AreRowsOf names asserted.level states flows claims rows
    → text ≡ assertions_text names rows → status ≡ status_of rows → ReportsClaims states network pairs asserted (Ok (record { text = text; status = status }))
unfolding ReportsClaims
claims_reported states network pairs flows asserted names claims rows text status named same all are is_text is_status =
    let by_names : AreRowsOf (alphabet_of asserted.level network) asserted.level states flows claims rows = subst (λ (ns : List (List ℕ)). AreRowsOf ns asserted.level states flows claims rows) named are in
    let by_pairs : AreRowsOf (alphabet_of asserted.level network) asserted.level states pairs claims rows =
    subst (λ (ps : List FlowPair). AreRowsOf (alphabet_of asserted.level network) asserted.level states ps claims rows) same by_names in
    let by_claims : AreRowsOf (alphabet_of asserted.level network) asserted.level states pairs asserted.claims rows =
    subst (λ (cs : List Claim). AreRowsOf (alphabet_of asserted.level network) asserted.level states pairs cs rows) all by_pairs in
    (rows, by_claims, report_is (alphabet_of asserted.level network) rows text status (subst (λ (ns : List (List ℕ)). text ≡ assertions_text ns rows) named is_text) is_status)

module _ (told steady : Bool) (law : StepsChain told steady) (holds : Option FilesByName) (before after assertions : List ℕ) (states : ℕ) where
  abbrev Pairs : Network → Result (List FlowPair) Refusal → Type 0
  Pairs network = GivesPairs network (BytesOf holds before input.Before) (BytesOf holds after input.After)

  abbrev Claims : Network → Result Asserted Refusal → Type 0
  Claims network = Gives (BytesOf holds assertions input.Assertions) (ReadsClaims network)

  abbrev Then : Network → List FlowPair → Result Answer Refusal → Type 0
  Then network pairs = Claims network >>= ReportsClaims states network pairs

  abbrev Over : Network → Result Answer Refusal → Type 0
  Over = ReportsOver holds before after assertions states

  pub pairs_stopped : (network : Network) (halt : Halt) → IsGiven told steady SamePairs (Pairs network) (Err halt) → IsGiven told steady SameAssertReports (Over network) (Err halt)
  unfolding ReportsOver
  pairs_stopped network halt pairs = (law (at_pairs holds before after assertions states network)).stopped halt pairs

  claims_alone : (network : Network) (pairs : List FlowPair) (halt : Halt) → IsGiven told steady SameAsserted (Claims network) (Err halt) → IsGiven told steady SameAssertReports (Then network pairs) (Err halt)
  claims_alone network pairs halt claims = (law (at_claims holds assertions states network pairs)).stopped halt claims

  pub claims_stopped : (network : Network) (pairs : List FlowPair) (halt : Halt) → IsGiven told steady SamePairs (Pairs network) (Ok pairs)
      → IsGiven told steady SameAsserted (Claims network) (Err halt) → IsGiven told steady SameAssertReports (Over network) (Err halt)
  unfolding ReportsOver
  claims_stopped network pairs halt paired claims =
      (law (at_pairs holds before after assertions states network)).continued pairs (Err halt) paired (claims_alone network pairs halt claims).told_by
      (λ t others same x steps. (claims_alone network others halt claims).alone t x steps)

  last_alone : SameGraphsAreAlike → SameSetsAreEqual → RightRowsAgree → (network : Network) (pairs others : List FlowPair) (asserted : Asserted) (answer : Answer) (x : Result Answer Refusal) (y : Result Asserted Refusal)
      → SamePairs pairs others → ReportsClaims states network pairs asserted (Ok answer) → Agrees steady SameAsserted (Ok asserted) y → After (ReportsClaims states network others) y x → Agrees steady SameAssertReports (Ok answer) x
  last_alone alike equal agree network pairs others asserted answer x (Ok other) same reports agrees is = claims_agree alike equal agree steady states network pairs others asserted other answer x same agrees reports is
  last_alone alike equal agree network pairs others asserted answer x (Err e) same reports agrees is = absurd agrees

  reported : SameGraphsAreAlike → SameSetsAreEqual → RightRowsAgree → (network : Network) (pairs : List FlowPair) (asserted : Asserted) (answer : Answer) → IsGiven told steady SamePairs (Pairs network) (Ok pairs)
      → IsGiven told steady SameAsserted (Claims network) (Ok asserted) → ReportsClaims states network pairs asserted (Ok answer) → IsGiven told steady SameAssertReports (Over network) (Ok answer)
  unfolding ReportsOver
  reported alike equal agree network pairs asserted answer paired claims reports =
      (law (at_pairs holds before after assertions states network)).continued pairs (Ok answer) paired (Ok asserted, claims.told_by, reports)
      (λ t others same x steps. last_alone alike equal agree network pairs others asserted answer x steps.0 same reports (claims.alone t steps.0 steps.1) steps.2)

  -- the report, or want of memory
  pub reported_or_memory : SameGraphsAreAlike → SameSetsAreEqual → RightRowsAgree → (network : Network) (pairs : List FlowPair) (asserted : Asserted) (A : Type 0) (view : A → Answer) (r : Result A Halt)
      → IfOk r (λ answer. ReportsClaims states network pairs asserted (Ok (view answer))) → IfErr r (λ halt. halt ≡ Memory) → IsGiven told steady SamePairs (Pairs network) (Ok pairs)
      → IsGiven told steady SameAsserted (Claims network) (Ok asserted) → IsGiven told steady SameAssertReports (Over network) (seen view r)
  reported_or_memory alike equal agree network pairs asserted A view (Ok answer) reports memory paired claims = reported alike equal agree network pairs asserted (view answer) paired claims reports
  reported_or_memory alike equal agree network pairs asserted A view (Err halt) reports memory paired claims =
      let same : halt ≡ Memory = memory in
      rw same (record { told_by = tt; alone = λ t x steps. tt })

module _ (told steady : Bool) (law : StepsChain told steady) (holds : Option FilesByName) (before after locations assertions : List ℕ) (states : ℕ) where
  abbrev Places : Result Network Refusal → Type 0
  Places = Gives (BytesOf holds locations input.Locations) ReadsNetwork

  abbrev Reported : Result Answer Refusal → Type 0
  Reported = ReportsAssertions holds before after locations assertions states

  pub locations_stopped : (halt : Halt) → IsGiven told steady Equals Places (Err halt) → IsGiven told steady SameAssertReports Reported (Err halt)
  unfolding ReportsAssertions
  locations_stopped halt given = (law (at_locations holds before after locations assertions states)).stopped halt given

  pub over : (network : Network) (r : Result Answer Halt) → IsGiven told steady Equals Places (Ok network) → IsGiven told steady SameAssertReports (ReportsOver holds before after assertions states network) r
      → IsGiven told steady SameAssertReports Reported r
  unfolding ReportsAssertions
  over network r given next = (law (at_locations holds before after locations assertions states)).settled network r (λ other same. same) given next

-- the claims are such as can be decided
pub are_claims : (network : Network) (level : Level) (claims : List Claim) → All (ListsPathSymbols (record { network = network; level = level })) claims → All NamesByClasses claims
    → All (IsClaimAt (alphabet_of level network)) claims
are_claims network level claims below plain = λ i d inside. record { listed = below i d inside; plain = plain i d inside }
