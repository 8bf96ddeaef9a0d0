-- One more row of a report that is written row by row, and what its counts say at the end.
use Rattle.std.proofs.Common.{◌≡◌, ◌∙◌, ℕ, ◌+◌, ◌<◌, ◌≤◌, Bool, true, false, cond, ◌||◌, List, [], ◌∷◌, ◌++◌, length, Result, Ok, Err, length-append, zero-add, refl, sym, ap, arith}
use Rattle.std.specs.Prelude.{count_by, IfOk, OnOk}
use Rattle.std.specs.List.{flat_map, list_any}
use Rattle.std.proofs.lemmas.Grind.{flat_map-append}
use Rattle.std.proofs.lemmas.List.{append-nil}
use Rattle.std.proofs.lemmas.List.Sums.{sum_by-append}
use Rattle.rela_report.specs.Counted.{CountsOneMore, counted}
use Rattle.rela_report.specs.Status.{is_compliant, is_violated, is_undecided, is_unselected, status_of}
use Rattle.rela_report.specs.Text.{report_text, row_lines, total_text}
use Rattle.rela_report.specs.Written.{Written, written_of}
use Rattle.rela_report.specs.declared.counts.Counts.{Counts}
use Rattle.rela_report.specs.declared.rows.ReportRow.{ReportRow}
use Rattle.rela_report.specs.declared.rows.ReportRow.TheVariants.{Unselected, Selected}
use Rattle.rela_report.specs.declared.rows.Row.TheVariants.{Compliant, Violated, Undecided}

-- how a writer with these fields is seen
abbrev pub seen_as : List ℕ → Counts → Written
seen_as text counts = record {
  lines = text;
  compliant = counts.compliant;
  violated = counts.violated;
  undecided = counts.undecided;
  unselected = counts.unselected;
}

-- one more row, whose lines are appended and which is counted, is one more that is written
pub written_more : (names : List (List ℕ)) (rows : List ReportRow) (row : ReportRow) (was : Written) (text next : List ℕ) (counts more : Counts)
    → seen_as text counts ≡ was → next ≡ text ++ row_lines names row → CountsOneMore counts more row → was ≡ written_of names rows
    → seen_as next more ≡ written_of names (rows ++ row ∷ [])
written_more names rows row was text next counts more seen lined kinds is =
    let both : seen_as text counts ≡ written_of names rows = seen ∙ is in
    let lines : next ≡ flat_map (row_lines names) (rows ++ row ∷ []) =
    lined ∙ ap (λ (w : Written). w.lines ++ row_lines names row) both ∙ sym (simp (flat_map-append (row_lines names) rows (row ∷ []), append-nil (row_lines names row)) refl) in
    let compliant : more.compliant ≡ count_by is_compliant (rows ++ row ∷ []) =
    kinds.compliant ∙ ap (λ (w : Written). w.compliant + count_by is_compliant (row ∷ [])) both ∙ sym (sum_by-append _ rows (row ∷ [])) in
    let violated : more.violated ≡ count_by is_violated (rows ++ row ∷ []) =
    kinds.violated ∙ ap (λ (w : Written). w.violated + count_by is_violated (row ∷ [])) both ∙ sym (sum_by-append _ rows (row ∷ [])) in
    let undecided : more.undecided ≡ count_by is_undecided (rows ++ row ∷ []) =
    kinds.undecided ∙ ap (λ (w : Written). w.undecided + count_by is_undecided (row ∷ [])) both ∙ sym (sum_by-append _ rows (row ∷ [])) in
    let unselected : more.unselected ≡ count_by is_unselected (rows ++ row ∷ []) =
    kinds.unselected ∙ ap (λ (w : Written). w.unselected + count_by is_unselected (row ∷ [])) both ∙ sym (sum_by-append _ rows (row ∷ [])) in
    λ i. record {
      lines = lines i;
      compliant = compliant i;
      violated = violated i;
      undecided = undecided i;
      unselected = unselected i;
    }

counted_first : {X : Type 0} (p : X → Bool) (x : X) (xs : List X) → count_by p (x ∷ xs) ≡ cond (p x) 1 0 + count_by p xs
counted_first p x xs = sum_by-append (λ y. cond (p y) 1 0) (x ∷ []) xs ∙ ap (λ (n : ℕ). n + count_by p xs) (zero-add (cond (p x) 1 0))

-- each row is of one kind
one_kind : (row : ReportRow) → cond (is_compliant row) 1 0 + cond (is_violated row) 1 0 + cond (is_undecided row) 1 0 + cond (is_unselected row) 1 0 ≡ 1
one_kind (Unselected flow) = refl
one_kind (Selected flow check Compliant) = refl
one_kind (Selected flow check (Violated word side source)) = refl
one_kind (Selected flow check Undecided) = refl

-- so the rows of all kinds are all rows
all_kinds : (rows : List ReportRow) → count_by is_compliant rows + count_by is_violated rows + count_by is_undecided rows + count_by is_unselected rows ≡ length rows
all_kinds [] = refl
all_kinds (row ∷ rows) =
    omega (arith, all_kinds rows, one_kind row, counted_first is_compliant row rows, counted_first is_violated row rows, counted_first is_undecided row rows, counted_first is_unselected row rows)

-- the total line, whose number of rows is that of all kinds together
pub total_counted : (names : List (List ℕ)) (rows : List ReportRow) (self : Written) (text last whole : List ℕ) (counts : Counts) (all : ℕ)
    → seen_as text counts ≡ self → all ≡ counted counts → last ≡ total_text all counts.compliant counts.violated counts.undecided counts.unselected
    → whole ≡ text ++ last → self ≡ written_of names rows → whole ≡ report_text names rows
total_counted names rows self text last whole counts all seen summed told joined is =
    let both : seen_as text counts ≡ written_of names rows = seen ∙ is in
    let sum : all ≡ length rows =
    summed ∙ ap (λ (w : Written). w.compliant + w.violated + w.undecided + w.unselected) both ∙ all_kinds rows in
    joined
    ∙ ap (λ (t : List ℕ). text ++ t) (told ∙ ap (λ (n : ℕ). total_text n counts.compliant counts.violated counts.undecided counts.unselected) sum)
    ∙ ap (λ (w : Written). w.lines ++ total_text (length rows) w.compliant w.violated w.undecided w.unselected) both

or_counted : (first rest : Bool) (n : ℕ) → 0 < cond first 1 0 + n → (0 < n → rest ≡ true) → (first || rest) ≡ true
or_counted true rest n some more = refl
or_counted false rest n some more = more (omega (arith, some))

-- some element passes where some are counted
any_counted : {X : Type 0} (p : X → Bool) (xs : List X) → 0 < count_by p xs → list_any p xs ≡ true
any_counted p [] some = absurd (omega (arith, some))
any_counted p (x ∷ xs) some = or_counted (p x) (list_any p xs) (count_by p xs) (omega (arith, some, counted_first p x xs)) (any_counted p xs)

or_uncounted : (first rest : Bool) (n : ℕ) → cond first 1 0 + n ≡ 0 → (n ≡ 0 → rest ≡ false) → (first || rest) ≡ false
or_uncounted true rest n none more = absurd (omega (arith, none))
or_uncounted false rest n none more = more (omega (arith, none))

-- none passes where none are counted
none_counted : {X : Type 0} (p : X → Bool) (xs : List X) → count_by p xs ≡ 0 → list_any p xs ≡ false
none_counted p [] none = refl
none_counted p (x ∷ xs) none = or_uncounted (p x) (list_any p xs) (count_by p xs) (omega (arith, none, counted_first p x xs)) (none_counted p xs)

-- the status by the counts
pub status_violated : (rows : List ReportRow) → 0 < count_by is_violated rows → 1 ≡ status_of rows
status_violated rows some = rw (any_counted is_violated rows some) refl

pub status_undecided : (rows : List ReportRow) → count_by is_violated rows ≡ 0 → 0 < count_by is_undecided rows → 3 ≡ status_of rows
status_undecided rows none some = rw (none_counted is_violated rows none, any_counted is_undecided rows some) refl

pub status_met : (rows : List ReportRow) → count_by is_violated rows ≡ 0 → count_by is_undecided rows ≡ 0 → 0 ≡ status_of rows
status_met rows none none_open = rw (none_counted is_violated rows none, none_counted is_undecided rows none_open) refl

-- one more row has a byte at least, so there are still no more rows than bytes
pub longer : (row : ReportRow) (text next : List ℕ) (counts more : Counts) → counted counts ≤ length text → next ≡ text ++ row_lines [] row
    → counted more ≡ counted counts + 1 → counted more ≤ length next
longer (Unselected flow) text next counts more few lined one = rw lined (omega (arith, few, one, length-append text (row_lines [] (Unselected flow))))
longer (Selected flow check row) text next counts more few lined one = rw lined (omega (arith, few, one, length-append text (row_lines [] (Selected flow check row))))

-- what follows from what a call gives, where it succeeds
pub on_ok : {A E P Q : Type 0} (r : Result A E) → (P → Q) → OnOk r P → OnOk r Q
on_ok (Ok a) leads holds = leads holds
on_ok (Err e) leads holds = tt

pub if_ok : {A E : Type 0} {P Q : A → Type 0} (r : Result A E) → ((a : A) → P a → Q a) → IfOk r P → IfOk r Q
if_ok (Ok a) leads holds = leads a holds
if_ok (Err e) leads holds = tt
