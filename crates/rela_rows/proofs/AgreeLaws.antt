-- Right rows of the same flows under the same checks agree, whichever of the flows that no file can tell apart they are.
use Rattle.std.proofs.Common.{◌≡◌, ◌∙◌, ℕ, zero, suc, List, [], ◌∷◌, length, map, Option, None, Some, refl, sym, ap, subst}
use Rattle.std.specs.Prelude.{◌↔◌, slice_get, IsSomeAnd}
use Rattle.std.specs.List.{AllZip}
use Rattle.rela_flows.specs.Plan.{Plan}
use Rattle.rela_flows.specs.declared.predicate.FlowClass.{FlowClass}
use Rattle.rela_flows.specs.declared.predicate.Predicate.{Predicate}
use Rattle.rela_flows.specs.declared.planning.PlannedRow.{PlannedRow}
use Rattle.rela_flows.specs.declared.planning.PlannedRow.TheVariants as planned
use Rattle.rela_blocks.specs.Scenes.{paths_of}
use Rattle.rela_graph.specs.Paths.{Paths}
use Rattle.rela_graph.specs.Topology.{Topology}
use Rattle.rela_names.specs.declared.level.Level.{Level}
use Rattle.rela_report.specs.declared.rows.ReportRow.{ReportRow}
use Rattle.rela_report.specs.declared.rows.ReportRow.TheVariants.{Unselected, Selected}
use Rattle.rela_same_flows.specs.SameFlows.{SameGraph, SamePair, SamePairs}
use Rattle.rela_snapshot.specs.declared.pairing.FlowPair.{FlowPair}
use Rattle.rela_translate.specs.Checked.{Checked as Check}
use Rattle.rela_rows.specs.Rows.{IsUnder, IsAlone, IsRowOf, AreRowsOf, AgreeInRow, AgreeInRows}
use Rattle.rela_rows.proofs.VerdictLaws.{verdicts_agree}

-- the flows and the checks settle the plan
abbrev pub PlanIsOne : Type 0
PlanIsOne =
    (classes : List FlowClass) (checks : List Predicate) (rows others : List PlannedRow) → Plan classes checks rows → Plan classes checks others → rows ≡ others

classes_same : (ps qs : List FlowPair) → SamePairs ps qs → map (λ (p : FlowPair). p.class) ps ≡ map (λ (p : FlowPair). p.class) qs
classes_same [] [] same = refl
classes_same [] (q ∷ qs) same = absurd same
classes_same (p ∷ ps) [] same = absurd same
classes_same (p ∷ ps) (q ∷ qs) same =
    let one : p.class ≡ q.class = same.0.class in
    let more : map (λ (p : FlowPair). p.class) ps ≡ map (λ (p : FlowPair). p.class) qs = classes_same ps qs same.1 in
    cc

-- graphs that are the same have the same paths
abbrev pub HaveSamePaths : Type 0
HaveSamePaths =
    (graph other : Topology) → SameGraph graph other → (level : Level) (names : List (List ℕ)) (word : List ℕ) → Paths graph level names word ↔ Paths other level names word

module _ (same_paths : HaveSamePaths) (names : List (List ℕ)) (states : ℕ) where
  decided_agree : (p q : FlowPair) (check : Check) (row other : ReportRow) → SamePair p q → IsUnder names states p check row → IsUnder names states q check other → AgreeInRow row other
  decided_agree p q check (Unselected flow) other same one two = absurd one
  decided_agree p q check (Selected flow name row) (Unselected f) same one two = absurd two
  decided_agree p q check (Selected flow name row) (Selected f n v) same one two = (
    one.flow_name ∙ (ap (λ (c : FlowClass). c.name) same.class ∙ sym two.flow_name),
    one.check_name ∙ sym two.check_name,
    verdicts_agree check (length names) states (paths_of check.level names p.before p.after) (paths_of check.level names q.before q.after)
        (λ w. (same_paths p.before q.before same.before check.level names w).0) (λ w. (same_paths p.before q.before same.before check.level names w).1)
        (λ w. (same_paths p.after q.after same.after check.level names w).0) (λ w. (same_paths p.after q.after same.after check.level names w).1)
        row v one.verdict two.verdict,
  )

  alone_agree : (p q : FlowPair) (row other : ReportRow) → SamePair p q → IsAlone p row → IsAlone q other → AgreeInRow row other
  alone_agree p q (Unselected flow) (Unselected f) same one two = one ∙ (ap (λ (c : FlowClass). c.name) same.class ∙ sym two)
  alone_agree p q (Unselected flow) (Selected f n v) same one two = absurd two
  alone_agree p q (Selected flow name row) other same one two = absurd one

  under_agree : (found : Option Check) (p q : FlowPair) (row other : ReportRow) → SamePair p q → IsSomeAnd found (λ by. IsUnder names states p by row)
      → IsSomeAnd found (λ by. IsUnder names states q by other) → AgreeInRow row other
  under_agree None p q row other same one two = absurd one
  under_agree (Some by) p q row other same one two = decided_agree p q by row other same one two

  row_agrees : (checks : List Check) (ps qs : List FlowPair) (row : PlannedRow) (made other : ReportRow) → SamePairs ps qs
      → IsRowOf names states checks ps row made → IsRowOf names states checks qs row other → AgreeInRow made other
  row_agrees checks [] qs (planned.Unselected flow) made other same one two = absurd one
  row_agrees checks (p ∷ ps) [] (planned.Unselected flow) made other same one two = absurd same
  row_agrees checks (p ∷ ps) (q ∷ qs) (planned.Unselected zero) made other same one two = alone_agree p q made other same.0 one two
  row_agrees checks (p ∷ ps) (q ∷ qs) (planned.Unselected (suc k)) made other same one two = row_agrees checks ps qs (planned.Unselected k) made other same.1 one two
  row_agrees checks [] qs (planned.Selected flow check) made other same one two = absurd one
  row_agrees checks (p ∷ ps) [] (planned.Selected flow check) made other same one two = absurd same
  row_agrees checks (p ∷ ps) (q ∷ qs) (planned.Selected zero check) made other same one two = under_agree (slice_get checks check) p q made other same.0 one two
  row_agrees checks (p ∷ ps) (q ∷ qs) (planned.Selected (suc k) check) made other same one two = row_agrees checks ps qs (planned.Selected k check) made other same.1 one two

  rows_agree : (checks : List Check) (ps qs : List FlowPair) (rows : List PlannedRow) (made others : List ReportRow) → SamePairs ps qs
      → AllZip (IsRowOf names states checks ps) rows made → AllZip (IsRowOf names states checks qs) rows others → AgreeInRows made others
  rows_agree checks ps qs [] [] [] same one two = tt
  rows_agree checks ps qs [] [] (o ∷ others) same one two = absurd two
  rows_agree checks ps qs [] (m ∷ made) others same one two = absurd one
  rows_agree checks ps qs (r ∷ rows) [] others same one two = absurd one
  rows_agree checks ps qs (r ∷ rows) (m ∷ made) [] same one two = absurd two
  rows_agree checks ps qs (r ∷ rows) (m ∷ made) (o ∷ others) same one two =
      (row_agrees checks ps qs r m o same one.0 two.0, rows_agree checks ps qs rows made others same one.1 two.1)

  pub all_rows_agree : PlanIsOne → (checks : List Check) (ps qs : List FlowPair) (made others : List ReportRow) → SamePairs ps qs
      → AreRowsOf names states checks ps made → AreRowsOf names states checks qs others → AgreeInRows made others
  all_rows_agree one_plan checks ps qs made others same one two =
      let classes = classes_same ps qs same in
      let here : Plan (map (λ (p : FlowPair). p.class) ps) (map (λ (c : Check). c.when) checks) two.planned =
      subst (λ (cs : List FlowClass). Plan cs (map (λ (c : Check). c.when) checks) two.planned) (sym classes) two.plan in
      let plans : one.planned ≡ two.planned = one_plan (map (λ (p : FlowPair). p.class) ps) (map (λ (c : Check). c.when) checks) one.planned two.planned one.plan here in
      rows_agree checks ps qs one.planned made others same one.each
      (subst (λ (rows : List PlannedRow). AllZip (IsRowOf names states checks qs) rows others) (sym plans) two.each)
