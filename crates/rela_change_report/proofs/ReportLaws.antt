-- Reports on a change agree, whichever of the flows and checks that no file can tell apart stand for it.
use Rattle.std.proofs.Common.{◌≡◌, ◌∙◌, ℕ, Bool, List, Result, Ok, Err, true, false, cond, sym, ap, subst, arith}
use Rattle.rela_locations.specs.Network.{Network, alphabet_of}
use Rattle.rela_names.specs.declared.level.Level.{Level}
use Rattle.std.specs.List.{list_any}
use Rattle.rela_report.specs.Status.{is_undecided, is_violated, status_of}
use Rattle.rela_report.specs.Text.{report_text}
use Rattle.rela_report.specs.declared.rows.ReportRow.{ReportRow}
use Rattle.rela_same_flows.specs.SameFlows.{SamePairs}
use Rattle.rela_snapshot.specs.declared.pairing.FlowPair.{FlowPair}
use Rattle.rela_translate.specs.Checked.{Checked as Check}
use Rattle.rela_inputs.specs.Answer.{Answer, IsOutcomeStatus}
use Rattle.rela_inputs.specs.Given.{Agrees}
use Rattle.rela_inputs.specs.Loaded.{Loaded, SameLoaded, names_of}
use Rattle.rela_inputs.specs.Specified.{SameSpecified, Specified}
use Rattle.rela_inputs.specs.declared.refusal.Refusal.{Refusal}
use Rattle.rela_rows.specs.Rows.{AreRowsOf, AgreeInRows}
use Rattle.rela_change_report.specs.Reports.{Reports, SameReports, report_of}

same_answer : (a b : Answer) → ◌≡◌ {A = Result Answer Refusal} (Ok a) (Ok b) → a ≡ b
same_answer a b e = cc

not_refused : (refusal : Refusal) (a : Answer) → ◌≡◌ {A = Result Answer Refusal} (Err refusal) (Ok a) → ⊥
not_refused refusal a e = cc

-- checks that no file can tell apart are equal
abbrev pub SameIsOne : Type 0
SameIsOne = (specified other : Specified) → SameSpecified specified other → specified ≡ other

-- right rows of the same flows under the same checks agree
abbrev pub RightRowsAgree : Type 0
RightRowsAgree = (names : List (List ℕ)) (states : ℕ) (checks : List Check) (pairs others : List FlowPair) (rows told : List ReportRow) → SamePairs pairs others
    → AreRowsOf names states checks pairs rows → AreRowsOf names states checks others told → AgreeInRows rows told

module _ (one_for_all : SameIsOne) (rows_agree : RightRowsAgree) (states : ℕ) (change other : Loaded) (same : SameLoaded change other) where
  pub names_same : names_of change ≡ names_of other
  names_same =
      ap (λ (l : Level). alphabet_of l change.network) same.specified.level
      ∙ ap (λ (n : Network). alphabet_of other.specified.level n) same.network

  the_checks : change.specified.checks ≡ other.specified.checks
  the_checks = ap (λ (s : Specified). s.checks) (one_for_all change.specified other.specified same.specified)

  moved : (rows : List ReportRow) → AreRowsOf (names_of other) states other.specified.checks other.pairs rows → AreRowsOf (names_of change) states change.specified.checks other.pairs rows
  moved rows are =
      subst (λ (ns : List (List ℕ)). AreRowsOf ns states change.specified.checks other.pairs rows) (sym names_same)
      (subst (λ (cs : List Check). AreRowsOf (names_of other) states cs other.pairs rows) (sym the_checks) are)

  -- the rows of the two agree
  pub made_rows_agree : (rows others : List ReportRow) → AreRowsOf (names_of change) states change.specified.checks change.pairs rows
      → AreRowsOf (names_of other) states other.specified.checks other.pairs others → AgreeInRows rows others
  made_rows_agree rows others one two = rows_agree (names_of change) states change.specified.checks change.pairs other.pairs rows others same.pairs one (moved others two)

  pub reports_agree : (steady : Bool) (answer : Answer) (x : Result Answer Refusal) → Reports states change (Ok answer) → Reports states other x → Agrees steady SameReports (Ok answer) x
  unfolding Reports
  reports_agree steady answer (Ok another) one two = record {
    names = names_of change;
    rows = one.0;
    others = two.0;
    is_first = same_answer answer (report_of (names_of change) one.0) one.2;
    is_second = subst (λ (ns : List (List ℕ)). another ≡ report_of ns two.0) (sym names_same) (same_answer another (report_of (names_of other) two.0) two.2);
    agree = rows_agree (names_of change) states change.specified.checks change.pairs other.pairs one.0 two.0 same.pairs one.1 (moved two.0 two.1);
  }
  reports_agree steady answer (Err refusal) one two = absurd (not_refused refusal (report_of (names_of other) two.0) two.2)

abbrev reporting : List ℕ → ℕ → Result Answer Refusal
reporting text status = Ok (record { text = text; status = status })

-- the text and the status of the rows
pub rows_reported : (states : ℕ) (change : Loaded) (names : List (List ℕ)) (pairs : List FlowPair) (checks : List Check) (rows : List ReportRow) (text : List ℕ) (status : ℕ)
    → names ≡ names_of change → pairs ≡ change.pairs → checks ≡ change.specified.checks → AreRowsOf names states checks pairs rows
    → text ≡ report_text names rows → status ≡ status_of rows → Reports states change (Ok (record { text = text; status = status }))
unfolding Reports
rows_reported states change names pairs checks rows text status named flows all are is_text is_status =
    let by_names : AreRowsOf (names_of change) states checks pairs rows = subst (λ (ns : List (List ℕ)). AreRowsOf ns states checks pairs rows) named are in
    let by_checks : AreRowsOf (names_of change) states change.specified.checks pairs rows =
    subst (λ (cs : List Check). AreRowsOf (names_of change) states cs pairs rows) all by_names in
    let by_pairs : AreRowsOf (names_of change) states change.specified.checks change.pairs rows =
    subst (λ (ps : List FlowPair). AreRowsOf (names_of change) states change.specified.checks ps rows) flows by_checks in
    let text_is : text ≡ report_text (names_of change) rows = subst (λ (ns : List (List ℕ)). text ≡ report_text ns rows) named is_text in
    (rows, by_pairs, ap (λ (t : List ℕ). reporting t status) text_is ∙ ap (λ (n : ℕ). reporting (report_text (names_of change) rows) n) is_status)

outcome : (violated undecided : Bool) (status : ℕ) → status ≡ cond violated 1 (cond undecided 3 0) → IsOutcomeStatus status
outcome true undecided status is = (omega (arith, is), λ two. omega (arith, is, two))
outcome false true status is = (omega (arith, is), λ two. omega (arith, is, two))
outcome false false status is = (omega (arith, is), λ two. omega (arith, is, two))

-- the status of rows says what they are
pub is_outcome : (rows : List ReportRow) (status : ℕ) → status ≡ status_of rows → IsOutcomeStatus status
is_outcome rows status is = outcome (list_any is_violated rows) (list_any is_undecided rows) status is
