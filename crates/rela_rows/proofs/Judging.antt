-- What decides flows, as it is lent, and rows that are written one after the other.
use Rattle.std.proofs.Common.{◌≡◌, ℕ, ◌+◌, ◌<◌, List, [], ◌∷◌, ◌++◌, length, map, take, get_or, Result, Ok, Err, sym, subst}
use Rattle.std.specs.Prelude.{OnOk}
use Rattle.std.specs.List.{All, AllZip}
use Rattle.rela_engine.specs.declared.compiled.Compiled.{Compiled}
use Rattle.rela_flows.specs.Plan.{Plan}
use Rattle.rela_flows.specs.declared.planning.PlannedRow.{PlannedRow}
use Rattle.rela_report.specs.Written.{Written}
use Rattle.rela_report.specs.declared.rows.ReportRow.{ReportRow}
use Rattle.rela_rows.specs.Judging.{AreJudges}
use Rattle.rela_rows.specs.Rows.{AreRowsWritten}
use Rattle.rela_rows.specs.Sharing.{IsRowBy}
use Rattle.rela_rows.specs.Writing.{AreWritten, IsOneMore}
use Rattle.rela_rows.proofs.Loops.{zip_push_at}
use Rattle.rela_rows.proofs.RowLaws.{are_rows}
use Rattle.rela_snapshot.specs.declared.pairing.FlowPair.{FlowPair}
use Rattle.rela_translate.specs.Checked.{Checked as Check}

-- what decides flows does so where it is lent
pub lent_judges : (names : List (List ℕ)) (pairs : List FlowPair) (checks given : List Check) (compiled lent : List Compiled) (places at others to : List ℕ)
    → given ≡ checks → lent ≡ compiled → at ≡ places → to ≡ others → AreJudges names pairs checks compiled places others → AreJudges names pairs given lent at to
lent_judges names pairs checks given compiled lent places at others to same_checks same_compiled same_places same_others judges =
    subst (λ (cs : List Check). AreJudges names pairs cs lent at to) (sym same_checks)
    (subst (λ (by : List Compiled). AreJudges names pairs checks by at to) (sym same_compiled)
    (subst (λ (ps : List ℕ). AreJudges names pairs checks compiled ps to) (sym same_places)
    (subst (λ (os : List ℕ). AreJudges names pairs checks compiled places os) (sym same_others) judges)))

-- one more row is written, which the next of those that are planned becomes
pub written_next : (R : PlannedRow → ReportRow → Type 0) (names : List (List ℕ)) (planned : List PlannedRow) (old new : Written) (i : ℕ) (d : PlannedRow)
    → i < length planned → AreWritten R names (take i planned) old → IsOneMore (R (get_or planned i d)) names old new
    → AreWritten R names (take (i + 1) planned) new
written_next R names planned old new i d within written more =
    let next = more written.0 written.2 in
    (written.0 ++ next.0 ∷ [], zip_push_at R planned written.0 i d next.0 within written.1 next.1, next.2)

-- the rows that are planned, written
pub rows_written : (names : List (List ℕ)) (states : ℕ) (checks given : List Check) (pairs : List FlowPair) (compiled slice : List Compiled) (rows lent : List PlannedRow)
    (written : Written) → given ≡ checks → slice ≡ compiled → lent ≡ rows → All (λ c. c.states ≡ states) compiled
    → Plan (map (λ pair. pair.class) pairs) (map (λ check. check.when) checks) rows
    → AreWritten (IsRowBy names given slice pairs) names lent written → AreRowsWritten names states checks pairs written
rows_written names states checks given pairs compiled slice rows lent written same_checks same lent_is limits plan made =
    let each : AllZip (IsRowBy names checks slice pairs) lent made.0 =
    subst (λ (cs : List Check). AllZip (IsRowBy names cs slice pairs) lent made.0) same_checks made.1 in
    (made.0, are_rows names states checks pairs compiled slice rows lent made.0 same limits lent_is plan each, made.2)

-- what follows from one fact of a call that succeeds
pub on_ok : {A E P Q : Type 0} (r : Result A E) → (P → Q) → OnOk r P → OnOk r Q
on_ok (Ok a) leads holds = leads holds
on_ok (Err e) leads holds = tt
