-- What a check gives whose violated rows say which alternative claimed their source, from what its steps give.
use Rattle.std.proofs.Common.{◌≡◌, ◌∙◌, ℕ, zero, suc, Bool, true, false, List, [], ◌∷◌, length, map, filter, Option, Some, None, Result, Ok, Err, refl, sym, ap, subst, arith}
use Rattle.std.specs.Prelude.{slice_get, IsSomeAnd, IfOk, IfErr, count_by}
use Rattle.std.specs.List.{All, AllZip, Contains}
use Rattle.std.proofs.lemmas.List.Elements.{All-cons, All-nil}
use Rattle.std.proofs.lemmas.List.Sums.{length-filter}
use Rattle.rela_blame.specs.Alternatives.{check_leads}
use Rattle.rela_blame.specs.Zones.{HasClaim, IsZoneOf}
use Rattle.rela_branches.specs.Alternatives.{alternatives_of}
use Rattle.rela_engine.specs.RowOf.{IsOffence, relation_of}
use Rattle.rela_blocks.specs.Scenes.{paths_of}
use Rattle.rela_expand.specs.Expand.{Expanded, outcome_of}
use Rattle.rela_flows.specs.declared.planning.PlannedRow.{PlannedRow}
use Rattle.rela_flows.specs.declared.planning.PlannedRow.TheVariants as planned
use Rattle.rela_io.specs.Held.{FilesByName}
use Rattle.rela_lex.specs.declared.token.Token.{Token}
use Rattle.rela_locations.specs.Network.{Network}
use Rattle.rela_report.specs.Blamed.{blamed_text}
use Rattle.rela_report.specs.Status.{is_violated, status_of}
use Rattle.rela_report.specs.declared.rows.ReportRow.{ReportRow}
use Rattle.rela_report.specs.declared.rows.ReportRow.TheVariants.{Selected, Unselected}
use Rattle.rela_report.specs.declared.rows.Row.TheVariants.{Compliant, Undecided, Violated}
use Rattle.rela_report.specs.declared.rows.Side.{Side}
use Rattle.rela_report.specs.declared.rows.Side.TheVariants as side
use Rattle.rela_report.specs.declared.zones.Zone.{Zone}
use Rattle.rela_rir.specs.declared.set.SymbolSet.{SymbolSet}
use Rattle.rela_snapshot.specs.Steps.{After, ◌>>=◌}
use Rattle.rela_snapshot.specs.declared.pairing.FlowPair.{FlowPair}
use Rattle.rela_spec.specs.declared.tree.SpecFile.{SpecFile}
use Rattle.rela_translate.specs.Checked.{Checked as Check}
use Rattle.rela_translate.specs.Zones as translate
use Rattle.rela_translate.specs.declared.body.Core.{Core}
use Rattle.rela_inputs.specs.Answer.{Answer}
use Rattle.rela_check.specs.Blames.{AreZonesOf, Blames, BlamesOver, ReportsAs, ReportsBlamed, SameAs, SameBlamed, blamed_report, change_of}
use Rattle.rela_change_report.specs.Reports.{SameReports}
use Rattle.rela_check.specs.Checks.{Checks}
use Rattle.rela_inputs.specs.Given.{Equals, Agrees, IsGiven, IsRead, seen}
use Rattle.rela_inputs.specs.Inputs.{BytesOf, Gives, ReadsNetwork}
use Rattle.rela_inputs.specs.Loaded.{Loaded, SameLoaded, names_of}
use Rattle.rela_inputs.specs.Paired.{GivesPairs}
use Rattle.rela_rows.specs.Rows.{AgreeInRows, AreRowsOf, IsAlone, IsRowOf, IsUnder}
use Rattle.rela_same_flows.specs.SameFlows.{SamePairs}
use Rattle.rela_inputs.specs.Specifications.{ReadsWritten, Written}
use Rattle.rela_inputs.specs.Specified.{AsksFor, SameSpecified, Specified}
use Rattle.rela_inputs.specs.declared.reading.Halt.{Halt}
use Rattle.rela_inputs.specs.declared.reading.Halt.TheVariants.{Memory}
use Rattle.rela_inputs.specs.declared.refusal.Input.TheVariants as input
use Rattle.rela_inputs.specs.declared.refusal.Refusal.{Refusal}
use Rattle.rela_check.proofs.Points.{StepsChain, at_asked, at_locations, at_pairs, at_written}

-- ---- violated rows have their sources in zones

-- a change stays inside the zone on either side
pub in_zone : ((classes : List SymbolSet) (locations : ℕ) (body : Core) (u v : List ℕ) → translate.Before classes locations body u v → translate.Zone classes locations body u)
    → ((classes : List SymbolSet) (locations : ℕ) (body : Core) (u v : List ℕ) → translate.After classes locations body u v → translate.Zone classes locations body u)
    → (of : Side) (check : Check) (locations : ℕ) (u v : List ℕ) → relation_of of check locations u v → translate.Zone check.classes locations check.body u
in_zone before after side.Before check locations u v related = before check.classes locations check.body u v related
in_zone before after side.After check locations u v related = after check.classes locations check.body u v related

module _ (inside : (of : Side) (check : Check) (locations : ℕ) (u v : List ℕ) → relation_of of check locations u v → translate.Zone check.classes locations check.body u) where
  slice_has : (checks : List Check) (k : ℕ) (check : Check) → slice_get checks k ≡ Some check → Contains checks check
  slice_has [] k check is = absurd (cc)
  slice_has (c ∷ checks) zero check is = (zero, omega arith, some_of c check is) where
    some_of : (x y : Check) → ◌≡◌ {A = Option Check} (Some x) (Some y) → x ≡ y
    some_of x y e = cc
  slice_has (c ∷ checks) (suc k) check is =
      let there = slice_has checks k check is in
      (suc there.0, omega (arith, there.1), there.2)

  module _ (names : List (List ℕ)) (states : ℕ) (checks : List Check) where
    under_claimed : (pair : FlowPair) (check : Check) (row : ReportRow) → Contains checks check → IsUnder names states pair check row → HasClaim (length names) checks row
    under_claimed pair check (Unselected flow) listed under = tt
    under_claimed pair check (Selected flow name Compliant) listed under = tt
    under_claimed pair check (Selected flow name Undecided) listed under = tt
    under_claimed pair check (Selected flow name (Violated word of source)) listed under =
        let offence : IsOffence check (length names) (paths_of check.level names pair.before pair.after).pre (paths_of check.level names pair.before pair.after).post word of source = under.verdict.says in
        (check, listed, sym under.check_name, inside of check (length names) source word offence.first_source.member.1)

    by_check : (pair : FlowPair) (found : Option Check) (k : ℕ) (row : ReportRow) → slice_get checks k ≡ found → IsSomeAnd found (λ by. IsUnder names states pair by row) → HasClaim (length names) checks row
    by_check pair None k row is under = absurd under
    by_check pair (Some check) k row is under = under_claimed pair check row (slice_has checks k check is) under

    by_flow : (found : Option FlowPair) (k : ℕ) (row : ReportRow) → IsSomeAnd found (λ pair. IsSomeAnd (slice_get checks k) (λ by. IsUnder names states pair by row)) → HasClaim (length names) checks row
    by_flow None k row under = absurd under
    by_flow (Some pair) k row under = by_check pair (slice_get checks k) k row refl under

    alone_claimed : (found : Option FlowPair) (row : ReportRow) → IsSomeAnd found (λ pair. IsAlone pair row) → HasClaim (length names) checks row
    alone_claimed None row alone = absurd alone
    alone_claimed (Some pair) (Unselected flow) alone = tt
    alone_claimed (Some pair) (Selected flow name row) alone = absurd alone

    row_claimed : (pairs : List FlowPair) (asked : PlannedRow) (row : ReportRow) → IsRowOf names states checks pairs asked row → HasClaim (length names) checks row
    row_claimed pairs (planned.Unselected flow) row is = alone_claimed (slice_get pairs flow) row is
    row_claimed pairs (planned.Selected flow check) row is = by_flow (slice_get pairs flow) check row is

    each_claimed : (pairs : List FlowPair) (asked : List PlannedRow) (rows : List ReportRow) → AllZip (IsRowOf names states checks pairs) asked rows → All (HasClaim (length names) checks) rows
    each_claimed pairs [] [] each = All-nil (HasClaim (length names) checks)
    each_claimed pairs [] (row ∷ rows) each = absurd each
    each_claimed pairs (one ∷ asked) [] each = absurd each
    each_claimed pairs (one ∷ asked) (row ∷ rows) each =
        All-cons (HasClaim (length names) checks) row rows (row_claimed pairs one row each.0) (each_claimed pairs asked rows each.1)

    pub rows_claimed : (pairs : List FlowPair) (rows : List ReportRow) → AreRowsOf names states checks pairs rows → All (HasClaim (length names) checks) rows
    rows_claimed pairs rows are = each_claimed pairs are.planned rows are.each

-- ---- the report

same_length : {A B : Type 0} (R : A → B → Type 0) (xs : List A) (ys : List B) → AllZip R xs ys → length ys ≡ length xs
same_length R [] [] each = refl
same_length R [] (y ∷ ys) each = absurd each
same_length R (x ∷ xs) [] each = absurd each
same_length R (x ∷ xs) (y ∷ ys) each = ap suc (same_length R xs ys each.1)

-- as many zones as violated rows
pub as_many : (R : ReportRow → Zone → Type 0) (rows : List ReportRow) (zones : List Zone) → AllZip R (filter is_violated rows) zones → length zones ≡ count_by is_violated rows
as_many R rows zones each = same_length R (filter is_violated rows) zones each ∙ length-filter is_violated rows

-- what each element of a mapped list has, each element has by way of what it is mapped to
All-unmap : {X Y : Type 0} (P : Y → Type 0) (f : X → Y) (xs : List X) → All P (map f xs) → All (λ x. P (f x)) xs
All-unmap P f [] each = All-nil (λ x. P (f x))
All-unmap P f (x ∷ xs) each = All-cons (λ x. P (f x)) x xs (each 0 (f x) (omega arith)) (All-unmap P f xs (λ i d inside. each (suc i) d (omega (arith, inside))))

-- the same of the checks as they come out of the expansion
pub placed_checks : (file : SpecFile) (tokens : List Token) (checks : List Check)
    → All (λ (check : Expanded). length (check_leads file tokens check.name) ≡ length (alternatives_of check.body)) (map outcome_of checks)
    → All (λ (check : Check). length (check_leads file tokens check.name) ≡ length (alternatives_of check.body)) checks
placed_checks file tokens checks each =
    All-unmap (λ (check : Expanded). length (check_leads file tokens check.name) ≡ length (alternatives_of check.body)) outcome_of checks each

blamed_is : (names : List (List ℕ)) (rows : List ReportRow) (zones : List Zone) (text : List ℕ) (status : ℕ) → text ≡ blamed_text names rows zones → status ≡ status_of rows
    → ◌≡◌ {A = Result Answer Refusal} (Ok (record { text = text; status = status })) (Ok (blamed_report names rows zones))
blamed_is names rows zones text status is_text is_status = cc

pub rows_blamed : (states : ℕ) (written : Written) (change : Loaded) (names : List (List ℕ)) (pairs : List FlowPair) (checks : List Check) (rows : List ReportRow) (zones : List Zone) (text : List ℕ) (status : ℕ)
    → names ≡ names_of change → pairs ≡ change.pairs → checks ≡ change.specified.checks → AreRowsOf names states checks pairs rows
    → AllZip (IsZoneOf written.file written.tokens (length names) checks) (filter is_violated rows) zones
    → text ≡ blamed_text names rows zones → status ≡ status_of rows → ReportsBlamed states written change (Ok (record { text = text; status = status }))
unfolding ReportsBlamed
rows_blamed states written change names pairs checks rows zones text status named flows all are placed is_text is_status =
    let by_names : AreRowsOf (names_of change) states checks pairs rows = subst (λ (ns : List (List ℕ)). AreRowsOf ns states checks pairs rows) named are in
    let by_checks : AreRowsOf (names_of change) states change.specified.checks pairs rows =
    subst (λ (cs : List Check). AreRowsOf (names_of change) states cs pairs rows) all by_names in
    let by_pairs : AreRowsOf (names_of change) states change.specified.checks change.pairs rows =
    subst (λ (ps : List FlowPair). AreRowsOf (names_of change) states change.specified.checks ps rows) flows by_checks in
    let zones_here : AllZip (IsZoneOf written.file written.tokens (length (names_of change)) checks) (filter is_violated rows) zones =
    subst (λ (ns : List (List ℕ)). AllZip (IsZoneOf written.file written.tokens (length ns) checks) (filter is_violated rows) zones) named placed in
    let zones_there : AreZonesOf written change rows zones =
    subst (λ (cs : List Check). AllZip (IsZoneOf written.file written.tokens (length (names_of change)) cs) (filter is_violated rows) zones) all zones_here in
    (rows, zones, by_pairs, zones_there, blamed_is (names_of change) rows zones text status (subst (λ (ns : List (List ℕ)). text ≡ blamed_text ns rows zones) named is_text) is_status)

-- changes that no file can tell apart have the same names
abbrev pub SameNames : Type 0
SameNames = (change other : Loaded) → SameLoaded change other → names_of change ≡ names_of other

-- and right rows of theirs agree
abbrev pub RowsAgree : Type 0
RowsAgree = (states : ℕ) (change other : Loaded) (rows told : List ReportRow) → SameLoaded change other → AreRowsOf (names_of change) states change.specified.checks change.pairs rows
    → AreRowsOf (names_of other) states other.specified.checks other.pairs told → AgreeInRows rows told

module _ (same_names : SameNames) (rows_agree : RowsAgree) (states : ℕ) (change other : Loaded) (same : SameLoaded change other) where
  same_answer : (a b : Answer) → ◌≡◌ {A = Result Answer Refusal} (Ok a) (Ok b) → a ≡ b
  same_answer a b e = cc

  blamed_agree : (steady : Bool) (one two : Written) (answer : Answer) (x : Result Answer Refusal) → ReportsBlamed states one change (Ok answer) → ReportsBlamed states two other x
      → Agrees steady SameBlamed (Ok answer) x
  unfolding ReportsBlamed
  blamed_agree steady one two answer x (rows, zones, are, placed, is) (others, other_zones, are_others, placed_others, is_other) =
      subst (λ (r : Result Answer Refusal). Agrees steady SameBlamed (Ok answer) r) (sym is_other) (record {
        names = names_of change;
        rows = rows;
        zones = zones;
        others = others;
        other_zones = other_zones;
        is_first = same_answer answer (blamed_report (names_of change) rows zones) is;
        is_second = ap (λ (ns : List (List ℕ)). blamed_report ns others other_zones) (sym (same_names change other same));
        agree = rows_agree states change other rows others same are are_others;
      })

-- ---- the steps

module _ (told steady : Bool) (law : StepsChain told steady) (holds : Option FilesByName) (before after spec : List ℕ) (states : ℕ) where
  abbrev Pairs : Network → Result (List FlowPair) Refusal → Type 0
  Pairs network = GivesPairs network (BytesOf holds before input.Before) (BytesOf holds after input.After)

  abbrev Writes : Result Written Refusal → Type 0
  Writes = Gives (BytesOf holds spec input.Spec) ReadsWritten

  abbrev Last : Network → List FlowPair → Written → Specified → Result Answer Refusal → Type 0
  Last network pairs written specified = ReportsBlamed states written (change_of network pairs specified)

  abbrev Then : Network → List FlowPair → Written → Result Answer Refusal → Type 0
  Then network pairs written = AsksFor network written.file >>= Last network pairs written

  abbrev Later : Network → List FlowPair → Result Answer Refusal → Type 0
  Later network pairs = Writes >>= Then network pairs

  abbrev Over : Network → Result Answer Refusal → Type 0
  Over = BlamesOver holds before after spec states

  pub pairs_stopped : (network : Network) (halt : Halt) → IsGiven told steady SamePairs (Pairs network) (Err halt) → IsGiven told steady SameBlamed (Over network) (Err halt)
  unfolding BlamesOver
  pairs_stopped network halt pairs = (law (at_pairs holds before after spec states network)).stopped halt pairs

  written_alone : (network : Network) (pairs : List FlowPair) (halt : Halt) → IsGiven told steady Equals Writes (Err halt) → IsGiven told steady SameBlamed (Later network pairs) (Err halt)
  written_alone network pairs halt writes = (law (at_written holds spec states network pairs)).stopped halt writes

  pub written_stopped : (network : Network) (pairs : List FlowPair) (halt : Halt) → IsGiven told steady SamePairs (Pairs network) (Ok pairs)
      → IsGiven told steady Equals Writes (Err halt) → IsGiven told steady SameBlamed (Over network) (Err halt)
  unfolding BlamesOver
  written_stopped network pairs halt paired writes =
      (law (at_pairs holds before after spec states network)).continued pairs (Err halt) paired (written_alone network pairs halt writes).told_by
      (λ t others same x steps. (written_alone network others halt writes).alone t x steps)

  asked_alone : (network : Network) (pairs : List FlowPair) (written : Written) (halt : Halt) → IsGiven told steady Equals Writes (Ok written)
      → IsRead SameSpecified (AsksFor network written.file) (Err halt) → IsGiven told steady SameBlamed (Later network pairs) (Err halt)
  asked_alone network pairs written halt writes asks =
      (law (at_written holds spec states network pairs)).settled written (Err halt) (λ other same. same) writes
      ((law (at_asked states network pairs written)).stopped halt ((law (at_asked states network pairs written)).first_read (Err halt) asks))

  pub asked_stopped : (network : Network) (pairs : List FlowPair) (written : Written) (halt : Halt) → IsGiven told steady SamePairs (Pairs network) (Ok pairs)
      → IsGiven told steady Equals Writes (Ok written) → IsRead SameSpecified (AsksFor network written.file) (Err halt) → IsGiven told steady SameBlamed (Over network) (Err halt)
  unfolding BlamesOver
  asked_stopped network pairs written halt paired writes asks =
      (law (at_pairs holds before after spec states network)).continued pairs (Err halt) paired (asked_alone network pairs written halt writes asks).told_by
      (λ t others same x steps. (asked_alone network others written halt writes asks).alone t x steps)

  module _ (same_names : SameNames) (rows_agree : RowsAgree) (network : Network) (pairs : List FlowPair) (written : Written) (specified : Specified) (answer : Answer) (reports : ReportsBlamed states written (change_of network pairs specified) (Ok answer)) where
    last_alone : (others : List FlowPair) → SamePairs pairs others → (x : Result Answer Refusal) (y : Result Specified Refusal) → Agrees steady SameSpecified (Ok specified) y
        → After (Last network others written) y x → Agrees steady SameBlamed (Ok answer) x
    last_alone others same x (Ok other) agrees is =
        blamed_agree same_names rows_agree states (change_of network pairs specified) (change_of network others other) (record { network = refl; pairs = same; specified = agrees }) steady written written answer x reports is
    last_alone others same x (Err e) agrees is = absurd agrees

    on_written : (others : List FlowPair) (x : Result Answer Refusal) (w : Result Written Refusal) → Agrees steady Equals (Ok written) w → After (Then network others) w x
        → (Then network others written x → Agrees steady SameBlamed (Ok answer) x) → Agrees steady SameBlamed (Ok answer) x
    on_written others x (Ok other) same after go = go (subst (λ (v : Written). Then network others v x) (sym same) after)
    on_written others x (Err e) same after go = absurd same

    pub reported : IsGiven told steady SamePairs (Pairs network) (Ok pairs) → IsGiven told steady Equals Writes (Ok written)
        → IsRead SameSpecified (AsksFor network written.file) (Ok specified) → IsGiven told steady SameBlamed (Over network) (Ok answer)
    unfolding BlamesOver
    reported paired writes asks =
        let asked = (law (at_asked states network pairs written)).first_read (Ok specified) asks in
        (law (at_pairs holds before after spec states network)).continued pairs (Ok answer) paired (Ok written, writes.told_by, (Ok specified, asked.told_by, reports))
        (λ t others same x steps. on_written others x steps.0 (writes.alone t steps.0 steps.1) steps.2
        (λ after. last_alone others same x after.0 (asked.alone t after.0 after.1) after.2))

  -- the report, or want of memory
  pub reported_or_memory : SameNames → RowsAgree → (network : Network) (pairs : List FlowPair) (written : Written) (specified : Specified) (A : Type 0) (view : A → Answer) (r : Result A Halt)
      → IfOk r (λ answer. ReportsBlamed states written (change_of network pairs specified) (Ok (view answer))) → IfErr r (λ halt. halt ≡ Memory) → IsGiven told steady SamePairs (Pairs network) (Ok pairs)
      → IsGiven told steady Equals Writes (Ok written) → IsRead SameSpecified (AsksFor network written.file) (Ok specified) → IsGiven told steady SameBlamed (Over network) (seen view r)
  reported_or_memory same_names rows_agree network pairs written specified A view (Ok answer) reports memory paired writes asks =
      reported same_names rows_agree network pairs written specified (view answer) reports paired writes asks
  reported_or_memory same_names rows_agree network pairs written specified A view (Err halt) reports memory paired writes asks =
      let same : halt ≡ Memory = memory in
      rw same (record { told_by = tt; alone = λ t x steps. tt })

module _ (told steady : Bool) (law : StepsChain told steady) (holds : Option FilesByName) (before after locations spec : List ℕ) (states : ℕ) where
  abbrev Places : Result Network Refusal → Type 0
  Places = Gives (BytesOf holds locations input.Locations) ReadsNetwork

  abbrev Blamed : Result Answer Refusal → Type 0
  Blamed = Blames holds before after locations spec states

  pub locations_stopped : (halt : Halt) → IsGiven told steady Equals Places (Err halt) → IsGiven told steady SameBlamed Blamed (Err halt)
  unfolding Blames
  locations_stopped halt given = (law (at_locations holds before after locations spec states)).stopped halt given

  pub over : (network : Network) (r : Result Answer Halt) → IsGiven told steady Equals Places (Ok network) → IsGiven told steady SameBlamed (BlamesOver holds before after spec states network) r
      → IsGiven told steady SameBlamed Blamed r
  unfolding Blames
  over network r given next = (law (at_locations holds before after locations spec states)).settled network r (λ other same. same) given next

-- ---- with the zones or without

-- the plain report is what is asked for without the flag
pub plain_asked : (blame : Bool) → blame ≡ false → (told steady : Bool) (holds : Option FilesByName) (before after locations spec b a l s : List ℕ) (states : ℕ) (r : Result Answer Halt)
    → b ≡ before → a ≡ after → l ≡ locations → s ≡ spec → IsGiven told steady SameReports (Checks holds b a l s states) r
    → IsGiven told steady (SameAs blame) (ReportsAs blame holds before after locations spec states) r
plain_asked blame plain told steady holds before after locations spec b a l s states r eb ea el es given =
    let one = subst (λ (x : List ℕ). IsGiven told steady SameReports (Checks holds x a l s states) r) eb given in
    let two = subst (λ (x : List ℕ). IsGiven told steady SameReports (Checks holds before x l s states) r) ea one in
    let three = subst (λ (x : List ℕ). IsGiven told steady SameReports (Checks holds before after x s states) r) el two in
    let four = subst (λ (x : List ℕ). IsGiven told steady SameReports (Checks holds before after locations x states) r) es three in
    subst (λ (x : Bool). IsGiven told steady (SameAs x) (ReportsAs x holds before after locations spec states) r) (sym plain) four

-- and the one with zones with it
pub blame_asked : (blame : Bool) → blame ≡ true → (told steady : Bool) (holds : Option FilesByName) (before after locations spec b a l s : List ℕ) (states : ℕ) (r : Result Answer Halt)
    → b ≡ before → a ≡ after → l ≡ locations → s ≡ spec → IsGiven told steady SameBlamed (Blames holds b a l s states) r
    → IsGiven told steady (SameAs blame) (ReportsAs blame holds before after locations spec states) r
blame_asked blame flagged told steady holds before after locations spec b a l s states r eb ea el es given =
    let one = subst (λ (x : List ℕ). IsGiven told steady SameBlamed (Blames holds x a l s states) r) eb given in
    let two = subst (λ (x : List ℕ). IsGiven told steady SameBlamed (Blames holds before x l s states) r) ea one in
    let three = subst (λ (x : List ℕ). IsGiven told steady SameBlamed (Blames holds before after x s states) r) el two in
    let four = subst (λ (x : List ℕ). IsGiven told steady SameBlamed (Blames holds before after locations x states) r) es three in
    subst (λ (x : Bool). IsGiven told steady (SameAs x) (ReportsAs x holds before after locations spec states) r) (sym flagged) four
