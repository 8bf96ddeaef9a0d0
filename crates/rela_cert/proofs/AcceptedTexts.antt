-- What an audit answers to a text that is a certificate of met rows, with blocks as they are made.
use Rattle.std.proofs.Common.{◌≡◌, ◌≢◌, ◌∙◌, ℕ, ◌<◌, ◌^◌, ◌⊎◌, Bool, true, false, List, length, map, inl, inr, sym, subst}
use Rattle.std.specs.List.{All, AllPairs}
use Rattle.std.proofs.lemmas.List.{length-map}
use Rattle.std.proofs.lemmas.List.Elements.{All-map}
use Rattle.rela_build.specs.PathSets.{Paths}
use Rattle.rela_certfile.specs.Breaks.{BreaksAt}
use Rattle.rela_certfile.specs.Layout.{HasBounds, IsLayout, IsNamed, Layout, check_names}
use Rattle.rela_certfile.specs.Listed.{AreListed}
use Rattle.rela_certfile.specs.Text.{text_of}
use Rattle.rela_certfile.specs.declared.rows.ListedRow.{ListedRow}
use Rattle.rela_flows.specs.Plan.{Plan}
use Rattle.rela_flows.specs.declared.planning.PlannedRow.{PlannedRow}
use Rattle.rela_flows.specs.declared.predicate.FlowClass.{FlowClass}
use Rattle.rela_flows.specs.declared.predicate.Predicate.{Predicate}
use Rattle.rela_names.specs.Name.{IsName}
use Rattle.rela_rir.specs.Words.{WordSet}
use Rattle.rela_snapshot.specs.declared.pairing.FlowPair.{FlowPair}
use Rattle.rela_translate.specs.Checked.{Checked}
use Rattle.rela_translate.specs.Verdict.{AreMet, Meets, Offends}
use Rattle.rela_cert.specs.Accepted.{AcceptsRows}
use Rattle.rela_cert.specs.Audited.{Finds, IsAudited, IsBadBlock, IsBadHead, IsBrokenOf, IsFoundOf, IsMet}
use Rattle.rela_cert.specs.Certified.{AreBlocksMade, IsCertified}
use Rattle.rela_cert.specs.Subject.{HoldsAt, IsSubject, Subject, flow_of, layout_of, shape_of}
use Rattle.rela_cert.specs.declared.answer.Audit.{Audit}
use Rattle.rela_cert.specs.declared.answer.Audit.TheVariants.{Accepted, Rejected, TooLarge}
use Rattle.rela_cert.proofs.AuditedRows.{all_at}
use Rattle.rela_cert.proofs.Listings.{names_of_shapes}
use Rattle.rela_cert.proofs.MadeRows.{at_row}

-- where a check is met, no word offends
none_offends : (at_most : Bool) (X Y : WordSet) (w : List ℕ) → AreMet at_most X Y → ¬ Offends at_most X Y w
none_offends false X Y w are offends = elim offends [
  | inl one ↦ one.1 ((are w).0 one.0)
  | inr one ↦ one.0 ((are w).1 one.1)
]
none_offends true X Y w are offends = offends.1 (are w offends.0)

-- a block that is closed, in a row that is met, isn't bad
no_bad_block : (n : ℕ) (row : ListedRow) (block : ℕ) (check : Checked) (paths : Paths) → AreBlocksMade n row check paths → Meets check n paths.pre paths.post
    → ¬ IsBadBlock n row block check paths
no_bad_block n row block check paths made met bad = elim bad [
  | inl (below, opened) ↦ opened.2 (made.complements block opened.0 opened.1).0
  | inr (last, bad_images) ↦ elim bad_images [
    | inl not_closed ↦ not_closed made.images
    | inr found ↦ none_offends check.at_most _ _ found.0 met found.2
  ]
]

module _ (s : Subject) (limit most : ℕ) (text : List ℕ) (certified : IsCertified s limit text) where
  abbrev planned : List PlannedRow
  planned = certified.planned

  abbrev l : Layout
  l = layout_of s planned

  no_bad_head : (line : ℕ) → ¬ IsBadHead s planned certified.rows line
  no_bad_head line bad =
      let (pair, check, is, block) = bad.bad in
      let made = all_at (λ row. HoldsAt s planned row.place (AreBlocksMade (length s.names) row)) certified.rows bad.place bad.row certified.rows_made.made bad.at in
      let met = all_at (IsMet s planned) certified.rows bad.place bad.row certified.rows_made.met bad.at in
      no_bad_block (length s.names) bad.row bad.block check (flow_of s pair check)
      (at_row s planned bad.row.place (AreBlocksMade (length s.names) bad.row) pair check is made)
      (at_row s planned bad.row.place (λ c paths. Meets c (length s.names) paths.pre paths.post) pair check is met) block

  abbrev IsAnswer : Audit → Type 0
  IsAnswer a = AcceptsRows s planned most certified.rows a

  answer_by : (a : Audit) → Finds s planned most certified.rows a → IsAnswer a
  answer_by (Accepted count) finds = finds.0
  answer_by (Rejected line) finds = absurd (no_bad_head line finds)
  answer_by TooLarge finds = finds

  module _ (layout : IsLayout l) (short : length text < 2 ^ 32)
      (one_reading : (k : Layout) (a b : List ListedRow) → IsLayout k → AreListed k a → AreListed k b → length (text_of k a) < 2 ^ 32 → text_of k a ≡ text_of k b → a ≡ b)
      (unbroken : (k : Layout) (rows : List ListedRow) (line : ℕ) → IsLayout k → AreListed k rows → length (text_of k rows) < 2 ^ 32 → ¬ BreaksAt k (text_of k rows) line) where
    answer_said : (a : Audit) → IsFoundOf s planned most text a ⊎ IsBrokenOf s planned text a → IsAnswer a
    answer_said a (inl (rows, certificate, finds)) =
        let same : rows ≡ certified.rows =
        one_reading l rows certified.rows layout certificate.listed certified.certificate.listed
        (subst (λ (t : List ℕ). length t < 2 ^ 32) certificate.whole short) (sym certificate.whole ∙ certified.certificate.whole) in
        answer_by a (subst (λ (rs : List ListedRow). Finds s planned most rs a) same finds)
    answer_said a (inr (line, breaks, is)) =
        absurd (unbroken l certified.rows line layout certified.certificate.listed
        (subst (λ (t : List ℕ). length t < 2 ^ 32) certified.certificate.whole short)
        (subst (λ (t : List ℕ). BreaksAt l t line) certified.certificate.whole breaks))

    pub accepted : ((classes : List FlowClass) (checks : List Predicate) (rows others : List PlannedRow) → Plan classes checks rows → Plan classes checks others → rows ≡ others)
        → (a : Audit) → IsAudited s most text a → IsAnswer a
    accepted one_plan a audited =
        let same : audited.planned ≡ planned =
        one_plan (map (λ (pair : FlowPair). pair.class) s.pairs) (map (λ (check : Checked). check.when) s.checks) audited.planned planned audited.plan certified.certificate.plan in
        answer_said a (subst (λ (p : List PlannedRow). IsFoundOf s p most text a ⊎ IsBrokenOf s p text a) same audited.says)

-- ---- layouts

-- what the rows of a plan list is laid out, where flows and checks have names and symbols of 32 bits
pub is_layout : (s : Subject) (planned : List PlannedRow) → IsSubject s → AllPairs (λ a b. a ≢ b) planned
    → All (IsNamed (length (map (λ (pair : FlowPair). pair.class) s.pairs)) (length (map (λ (check : Checked). check.when) s.checks))) planned
    → All (λ (pair : FlowPair). IsName pair.class.name) s.pairs → All (λ (check : Checked). IsName check.name) s.checks
    → All (λ (check : Checked). HasBounds (shape_of (length s.names) check)) s.checks → IsLayout (layout_of s planned)
is_layout s planned subject differ named flows checks bounds =
    let name_of : FlowPair → List ℕ = λ pair. pair.class.name in
    let class_of : FlowPair → FlowClass = λ pair. pair.class in
    let when_of : Checked → Predicate = λ check. check.when in
    let as_many : length (map class_of s.pairs) ≡ length (map name_of s.pairs) = length-map s.pairs class_of ∙ sym (length-map s.pairs name_of) in
    let as_many_checks : length (map when_of s.checks) ≡ length (map (shape_of (length s.names)) s.checks) =
    length-map s.checks when_of ∙ sym (length-map s.checks (shape_of (length s.names))) in
    let names : map (λ (check : Checked). check.name) s.checks ≡ check_names (map (shape_of (length s.names)) s.checks) = sym (names_of_shapes (length s.names) s.checks) in
    record {
      rows_differ = differ;
      named =
          subst (λ (n : ℕ). All (IsNamed n (length (map (shape_of (length s.names)) s.checks))) planned) as_many
          (subst (λ (n : ℕ). All (IsNamed (length (map class_of s.pairs)) n) planned) as_many_checks named);
      flows_named = All-map IsName name_of s.pairs flows;
      flows_differ = subject.flows_differ;
      checks_named = subst (λ (ns : List (List ℕ)). All IsName ns) names (All-map IsName (λ (check : Checked). check.name) s.checks checks);
      checks_differ = subst (λ (ns : List (List ℕ)). AllPairs (λ a b. a ≢ b) ns) names subject.checks_differ;
      bounds = All-map HasBounds (shape_of (length s.names)) s.checks bounds;
    }
