-- What `audit` gives, from what its steps give.
use Rattle.std.proofs.Common.{◌≡◌, ◌∙◌, ℕ, inl, inr, Bool, List, [], ◌∷◌, length, map, ◌⊎◌, Option, Result, Ok, Err, refl, sym, ap, subst}
use Rattle.rela_cert.specs.Audited.{IsAudited, IsBrokenOf, IsFoundOf}
use Rattle.rela_cert.specs.Subject.{IsPlan, layout_of, shape_of}
use Rattle.rela_cert.specs.declared.answer.Audit.{Audit}
use Rattle.rela_certfile.specs.Breaks.{BreaksAt}
use Rattle.rela_certfile.specs.Layout.{Layout}
use Rattle.rela_flows.specs.Plan.{Plan}
use Rattle.rela_flows.specs.declared.planning.PlannedRow.{PlannedRow}
use Rattle.rela_flows.specs.declared.predicate.FlowClass.{FlowClass}
use Rattle.rela_flows.specs.declared.predicate.Predicate.{Predicate}
use Rattle.rela_io.specs.Held.{FilesByName}
use Rattle.rela_locations.specs.Network.{Network, alphabet_of}
use Rattle.rela_names.specs.declared.level.Level.{Level}
use Rattle.rela_same_flows.specs.SameFlows.{SamePairs}
use Rattle.rela_snapshot.specs.Steps.{After, ◌>>=◌}
use Rattle.rela_snapshot.specs.declared.pairing.FlowPair.{FlowPair}
use Rattle.rela_translate.specs.Checked.{Checked as Check}
use Rattle.rela_inputs.specs.Answer.{Answer}
use Rattle.rela_inputs.specs.Given.{Equals, Agrees, IsGiven}
use Rattle.rela_inputs.specs.Inputs.{BytesOf}
use Rattle.rela_inputs.specs.Loaded.{Loaded, Loads, SameLoaded, names_of}
use Rattle.rela_inputs.specs.Specified.{SameSpecified, Specified}
use Rattle.rela_inputs.specs.declared.reading.Halt.{Halt}
use Rattle.rela_inputs.specs.declared.refusal.Input.TheVariants.{Locations, Before, After as AfterChange, Spec, Certificate}
use Rattle.rela_inputs.specs.declared.refusal.Refusal.{Refusal}
use Rattle.rela_audit.specs.Audits.{AnswersAudit, Audits, AuditsText, SameAudits, answer_to, limit, subject_of}
use Rattle.rela_audit.proofs.PlanLaws.{classes_same}
use Rattle.rela_audit.proofs.Points.{StepsChain, audited_change, audited_text}

-- checks that no file can tell apart are equal
abbrev pub SameIsOne : Type 0
SameIsOne = (specified other : Specified) → SameSpecified specified other → specified ≡ other

-- the flows and the checks settle the plan
abbrev pub PlanIsOne : Type 0
PlanIsOne =
    (classes : List FlowClass) (checks : List Predicate) (rows others : List PlannedRow) → Plan classes checks rows → Plan classes checks others → rows ≡ others

names_by : (pairs others : List FlowPair) → SamePairs pairs others → map (λ (p : FlowPair). p.class.name) pairs ≡ map (λ (p : FlowPair). p.class.name) others
names_by [] [] same = refl
names_by [] (q ∷ qs) same = absurd same
names_by (p ∷ ps) [] same = absurd same
names_by (p ∷ ps) (q ∷ qs) same =
    let one : p.class.name ≡ q.class.name = ap (λ (c : FlowClass). c.name) same.0.class in
    let more : map (λ (r : FlowPair). r.class.name) ps ≡ map (λ (r : FlowPair). r.class.name) qs = names_by ps qs same.1 in
    cc

abbrev layout_by : List PlannedRow → List (List ℕ) → List Check → List (List ℕ) → Layout
layout_by planned flows checks names = record { planned = planned; flows = flows; checks = map (shape_of (length names)) checks }

module _ (one_for_all : SameIsOne) (change other : Loaded) (same : SameLoaded change other) where
  names_same : names_of change ≡ names_of other
  names_same =
      ap (λ (l : Level). alphabet_of l change.network) same.specified.level
      ∙ ap (λ (n : Network). alphabet_of other.specified.level n) same.network

  checks_same : change.specified.checks ≡ other.specified.checks
  checks_same = ap (λ (s : Specified). s.checks) (one_for_all change.specified other.specified same.specified)

  pub layout_same : (planned : List PlannedRow) → layout_of (subject_of change) planned ≡ layout_of (subject_of other) planned
  layout_same planned =
      ap (λ (flows : List (List ℕ)). layout_by planned flows change.specified.checks (names_of change)) (names_by change.pairs other.pairs same.pairs)
      ∙ (ap (λ (checks : List Check). layout_by planned (map (λ (p : FlowPair). p.class.name) other.pairs) checks (names_of change)) checks_same
      ∙ ap (λ (names : List (List ℕ)). layout_by planned (map (λ (p : FlowPair). p.class.name) other.pairs) other.specified.checks names) names_same)

  planned_same : PlanIsOne → (planned others : List PlannedRow) → IsPlan (subject_of change) planned → IsPlan (subject_of other) others → planned ≡ others
  planned_same one_plan planned others one two =
      one_plan (map (λ (p : FlowPair). p.class) change.pairs) (map (λ (c : Check). c.when) change.specified.checks) planned others one
      (subst (λ (classes : List FlowClass). Plan classes (map (λ (c : Check). c.when) change.specified.checks) others) (sym (classes_same change.pairs other.pairs same.pairs))
      (subst (λ (checks : List Check). Plan (map (λ (p : FlowPair). p.class) other.pairs) (map (λ (c : Check). c.when) checks) others) (sym checks_same) two))

  module _ (one_plan : PlanIsOne) (text : List ℕ) (a b : Audit) (one : IsAudited (subject_of change) limit text a) (two : IsAudited (subject_of other) limit text b) where
    layouts_same : layout_of (subject_of change) one.planned ≡ layout_of (subject_of other) two.planned
    layouts_same =
        layout_same one.planned
        ∙ ap (λ (p : List PlannedRow). layout_of (subject_of other) p) (planned_same one_plan one.planned two.planned one.plan two.plan)

    said_of_both : IsFoundOf (subject_of change) one.planned limit text a ⊎ IsBrokenOf (subject_of change) one.planned text a
        → IsFoundOf (subject_of other) two.planned limit text b ⊎ IsBrokenOf (subject_of other) two.planned text b → SameAudits (answer_to a) (answer_to b)
    said_of_both (inl found) (inl also) = inr (record {
      subject = subject_of change;
      other = subject_of other;
      planned = one.planned;
      text = text;
      audit = a;
      another = b;
      same_layout = layout_same one.planned;
      found = found;
      found_too = subst (λ (p : List PlannedRow). IsFoundOf (subject_of other) p limit text b) (sym (planned_same one_plan one.planned two.planned one.plan two.plan)) also;
      is_first = refl;
      is_second = refl;
    })
    said_of_both (inr (line, breaks, is)) said =
        inl (ap answer_to (is ∙ sym (two.broken line (subst (λ (l : Layout). BreaksAt l text line) layouts_same breaks))))
    said_of_both (inl found) (inr (line, breaks, is)) =
        inl (ap answer_to (one.broken line (subst (λ (l : Layout). BreaksAt l text line) (sym layouts_same) breaks) ∙ sym is))

    audits_agree : SameAudits (answer_to a) (answer_to b)
    audits_agree = said_of_both one.says two.says

  answers_agree : PlanIsOne → (text : List ℕ) (x y : Answer) → AnswersAudit change text x → AnswersAudit other text y → SameAudits x y
  answers_agree one_plan text x y (a, one, is) (b, two, also) =
      subst (λ (z : Answer). SameAudits z y) (sym is) (subst (λ (z : Answer). SameAudits (answer_to a) z) (sym also) (audits_agree one_plan text a b one two))

  pub text_agrees : PlanIsOne → (steady : Bool) (text : List ℕ) (x : Answer) (r : Result Answer Refusal) → AnswersAudit change text x → AuditsText other text r → Agrees steady SameAudits (Ok x) r
  unfolding AuditsText
  text_agrees one_plan steady text x r one (y, two, is) = subst (λ (s : Result Answer Refusal). Agrees steady SameAudits (Ok x) s) (sym is) (answers_agree one_plan text x y one two)

audited_so : (change : Loaded) (text : List ℕ) (x : Answer) → AnswersAudit change text x → AuditsText change text (Ok x)
unfolding AuditsText
audited_so change text x answers = (x, answers, refl)

module _ (told steady : Bool) (law : StepsChain told steady) (holds : Option FilesByName) (before after locations spec certificate : List ℕ) where
  abbrev Change : Result Loaded Refusal → Type 0
  Change = Loads (BytesOf holds before Before) (BytesOf holds after AfterChange) (BytesOf holds locations Locations) (BytesOf holds spec Spec)

  abbrev Text : Result (List ℕ) Refusal → Type 0
  Text = BytesOf holds certificate Certificate

  abbrev Next : Loaded → Result Answer Refusal → Type 0
  Next change = Text >>= AuditsText change

  abbrev Audited : Result Answer Refusal → Type 0
  Audited = Audits holds before after locations spec certificate

  pub change_stopped : (halt : Halt) → IsGiven told steady SameLoaded Change (Err halt) → IsGiven told steady SameAudits Audited (Err halt)
  unfolding Audits
  change_stopped halt given = (law (audited_change holds before after locations spec certificate)).stopped halt given

  text_alone : (change : Loaded) (halt : Halt) → IsGiven told steady Equals Text (Err halt) → IsGiven told steady SameAudits (Next change) (Err halt)
  text_alone change halt text = (law (audited_text holds certificate change)).stopped halt text

  pub text_stopped : (change : Loaded) (halt : Halt) → IsGiven told steady SameLoaded Change (Ok change) → IsGiven told steady Equals Text (Err halt)
      → IsGiven told steady SameAudits Audited (Err halt)
  unfolding Audits
  text_stopped change halt given text =
      (law (audited_change holds before after locations spec certificate)).continued change (Err halt) given (text_alone change halt text).told_by
      (λ t other same x steps. (text_alone other halt text).alone t x steps)

  next_agrees : SameIsOne → PlanIsOne → (change other : Loaded) (text : List ℕ) (answer : Answer) (y : Result (List ℕ) Refusal) (x : Result Answer Refusal) → SameLoaded change other
      → AnswersAudit change text answer → Agrees steady Equals (Ok text) y → After (AuditsText other) y x → Agrees steady SameAudits (Ok answer) x
  next_agrees one_for_all one_plan change other text answer (Ok bytes) x same answers is audits =
      text_agrees one_for_all change other same one_plan steady text answer x answers (subst (λ (t : List ℕ). AuditsText other t x) (sym is) audits)
  next_agrees one_for_all one_plan change other text answer (Err refusal) x same answers is audits = absurd is

  -- all of it is read and audited
  pub audited : SameIsOne → PlanIsOne → (change : Loaded) (text : List ℕ) (answer : Answer) → IsGiven told steady SameLoaded Change (Ok change) → IsGiven told steady Equals Text (Ok text)
      → AnswersAudit change text answer → IsGiven told steady SameAudits Audited (Ok answer)
  unfolding Audits
  audited one_for_all one_plan change text answer given bytes answers =
      (law (audited_change holds before after locations spec certificate)).continued change (Ok answer) given (Ok text, bytes.told_by, audited_so change text answer answers)
      (λ t other same x steps. next_agrees one_for_all one_plan change other text answer steps.0 x same answers (bytes.alone t steps.0 steps.1) steps.2)
