use Rattle.std.proofs.Common.{◌≡◌, ℕ, List, [], ◌∷◌, ap, sym, subst, is_some, arith, string_bytes, ◌∙◌}
use Rattle.std.specs.List.{All}
use Rattle.rela_io.specs.Held.{HoldsName}
use Rattle.rela_words.specs.Commands.{command_of}
use Rattle.rela_words.specs.Words.{Command, Fmt, Fib, Rir, Certify, Audit, Zone, HasNumbers}
use Rattle.rela_inputs.specs.Answer.{answer_by}
use Rattle.rela_inputs.specs.Given.{IsGiven, seen}
use Rattle.rela_top.specs.Operands.{HoldsFiles, given_to, operands_of}
use Rattle.rela_top.specs.Outcome.{Outcome, SameAnswer}
use Rattle.rela_inputs.specs.Reading.{Ends}
use Rattle.rela_inputs.specs.declared.refusal.Input.{Input}
use Rattle.rela_inputs.specs.declared.refusal.Input.TheVariants.{Locations, Before, After, Spec, Tables, Other, Assertions, Certificate}
use Rattle.rela_top.proofs.Points.{at_demo}
use Rattle.rela_top.proofs.running.carry_out.Goals as goal

same_fib : (t tables o other l locations : List ℕ) → t ≡ tables → o ≡ other → l ≡ locations → Fib t o l ≡ Fib tables other locations
same_fib t tables o other l locations et eo el = cc

same_zone : (l locations s spec m name : List ℕ) (n : ℕ) → l ≡ locations → s ≡ spec → m ≡ name → Zone l s m n ≡ Zone locations spec name n
same_zone l locations s spec m name n el es em = cc

same_rir : (b before a after l locations s assertions : List ℕ) (n : ℕ) → b ≡ before → a ≡ after → l ≡ locations → s ≡ assertions
    → Rir b a l s n ≡ Rir before after locations assertions n
same_rir b before a after l locations s assertions n eb ea el es = cc

same_certify : (b before a after l locations s spec : List ℕ) (n : ℕ) → b ≡ before → a ≡ after → l ≡ locations → s ≡ spec
    → Certify b a l s n ≡ Certify before after locations spec n
same_certify b before a after l locations s spec n eb ea el es = cc

same_audit : (b before a after l locations s spec t certificate : List ℕ) → b ≡ before → a ≡ after → l ≡ locations → s ≡ spec → t ≡ certificate
    → Audit b a l s t ≡ Audit before after locations spec certificate
same_audit b before a after l locations s spec t certificate eb ea el es et = cc

pub report_asked-requires : goal.report_asked-requires
report_asked-requires g c = record { some = (subst HasNumbers (ap command_of c.in-Check.is) c.requires).0 }

pub returns-in-Check-clause-given : goal.returns-in-Check-clause-given
returns-in-Check-clause-given g c =
    subst (λ (x : Command). IsGiven (is_some (g.F.Files.holds c.args.files.now)) (g.F.Files.steady c.args.files.now) (SameAnswer x)
    (Outcome (g.F.Files.holds c.args.files.now) x) (seen answer_by c.report_asked.result)) (sym (ap command_of c.in-Check.is)) c.report_asked.ensures.given

pub returns-in-Check-clause-steady_is_no_fault : goal.returns-in-Check-clause-steady_is_no_fault
returns-in-Check-clause-steady_is_no_fault g c = λ steady all.
    let check = c.in-Check.check in
    let held : All (λ (operand : Input × List ℕ). HoldsName (g.F.Files.holds c.args.files.now) operand.1)
    ((Locations, string_bytes check.locations) ∷ (Before, string_bytes check.before) ∷ (After, string_bytes check.after) ∷ (Spec, string_bytes check.spec) ∷ []) =
    subst (λ (x : Command). HoldsFiles (g.F.Files.holds c.args.files.now) x) (ap command_of c.in-Check.is) all in
    c.report_asked.ensures.steady_is_no_fault steady (held 1 (Spec, []) (omega arith)) (held 2 (Spec, []) (omega arith)) (held 0 (Spec, []) (omega arith)) (held 3 (Spec, []) (omega arith))

pub returns-in-Fmt-clause-given : goal.returns-in-Fmt-clause-given
returns-in-Fmt-clause-given g c =
    subst (λ (x : Command). IsGiven (is_some (g.F.Files.holds c.args.files.now)) (g.F.Files.steady c.args.files.now) (SameAnswer x)
    (Outcome (g.F.Files.holds c.args.files.now) x) (seen answer_by c.format.result))
    (ap Fmt c.as_str.ensures.value ∙ sym (ap command_of c.in-Fmt.is)) c.format.ensures.given

pub returns-in-Fmt-clause-steady_is_no_fault : goal.returns-in-Fmt-clause-steady_is_no_fault
returns-in-Fmt-clause-steady_is_no_fault g c = λ steady all.
    let held : All (λ (operand : Input × List ℕ). HoldsName (g.F.Files.holds c.args.files.now) operand.1) ((Spec, string_bytes c.in-Fmt.fmt.spec) ∷ []) =
    subst (λ (x : Command). HoldsFiles (g.F.Files.holds c.args.files.now) x) (ap command_of c.in-Fmt.is) all in
    c.format.ensures.steady_is_no_fault steady
    (subst (HoldsName (g.F.Files.holds c.args.files.now)) (sym c.as_str.ensures.value) (held 0 (Spec, []) (omega arith)))

pub returns-in-Fib-clause-given : goal.returns-in-Fib-clause-given
returns-in-Fib-clause-given g c =
    subst (λ (x : Command). IsGiven (is_some (g.F.Files.holds c.args.files.now)) (g.F.Files.steady c.args.files.now) (SameAnswer x)
    (Outcome (g.F.Files.holds c.args.files.now) x) (seen answer_by c.draw.result))
    (same_fib _ _ _ _ _ _ c.as_str-in-Fib.ensures.value c.as_str-in-Fib-2.ensures.value c.as_str-in-Fib-3.ensures.value
    ∙ sym (ap command_of c.in-Fib.is)) c.draw.ensures.given

pub returns-in-Fib-clause-steady_is_no_fault : goal.returns-in-Fib-clause-steady_is_no_fault
returns-in-Fib-clause-steady_is_no_fault g c = λ steady all.
    let fib = c.in-Fib.fib in
    let held : All (λ (operand : Input × List ℕ). HoldsName (g.F.Files.holds c.args.files.now) operand.1)
    ((Locations, string_bytes fib.locations) ∷ (Tables, string_bytes fib.tables) ∷ (Other, string_bytes fib.other) ∷ []) =
    subst (λ (x : Command). HoldsFiles (g.F.Files.holds c.args.files.now) x) (ap command_of c.in-Fib.is) all in
    c.draw.ensures.steady_is_no_fault steady
    (subst (HoldsName (g.F.Files.holds c.args.files.now)) (sym c.as_str-in-Fib.ensures.value) (held 1 (Spec, []) (omega arith)))
    (subst (HoldsName (g.F.Files.holds c.args.files.now)) (sym c.as_str-in-Fib-2.ensures.value) (held 2 (Spec, []) (omega arith)))
    (subst (HoldsName (g.F.Files.holds c.args.files.now)) (sym c.as_str-in-Fib-3.ensures.value) (held 0 (Spec, []) (omega arith)))

pub show_zone-requires : goal.show_zone-requires
show_zone-requires g c = record { some = (subst HasNumbers (ap command_of c.in-Zone.is) c.requires).0 }

pub returns-in-Zone-clause-given : goal.returns-in-Zone-clause-given
returns-in-Zone-clause-given g c =
    subst (λ (x : Command). IsGiven (is_some (g.F.Files.holds c.args.files.now)) (g.F.Files.steady c.args.files.now) (SameAnswer x)
    (Outcome (g.F.Files.holds c.args.files.now) x) (seen answer_by c.show_zone.result))
    (same_zone _ _ _ _ _ _ c.in-Zone.zone.states c.as_str-in-Zone.ensures.value c.as_str-in-Zone-2.ensures.value c.as_str-in-Zone-3.ensures.value
    ∙ sym (ap command_of c.in-Zone.is)) c.show_zone.ensures.given

pub returns-in-Zone-clause-steady_is_no_fault : goal.returns-in-Zone-clause-steady_is_no_fault
returns-in-Zone-clause-steady_is_no_fault g c = λ steady all.
    let zone = c.in-Zone.zone in
    let held : All (λ (operand : Input × List ℕ). HoldsName (g.F.Files.holds c.args.files.now) operand.1)
    ((Locations, string_bytes zone.locations) ∷ (Spec, string_bytes zone.spec) ∷ []) =
    subst (λ (x : Command). HoldsFiles (g.F.Files.holds c.args.files.now) x) (ap command_of c.in-Zone.is) all in
    c.show_zone.ensures.steady_is_no_fault steady
    (subst (HoldsName (g.F.Files.holds c.args.files.now)) (sym c.as_str-in-Zone.ensures.value) (held 0 (Spec, []) (omega arith)))
    (subst (HoldsName (g.F.Files.holds c.args.files.now)) (sym c.as_str-in-Zone-2.ensures.value) (held 1 (Spec, []) (omega arith)))

pub report_assertions-requires : goal.report_assertions-requires
report_assertions-requires g c = record { some = (subst HasNumbers (ap command_of c.in-Rir.is) c.requires).0 }

pub returns-in-Rir-clause-given : goal.returns-in-Rir-clause-given
returns-in-Rir-clause-given g c =
    subst (λ (x : Command). IsGiven (is_some (g.F.Files.holds c.args.files.now)) (g.F.Files.steady c.args.files.now) (SameAnswer x)
    (Outcome (g.F.Files.holds c.args.files.now) x) (seen answer_by c.report_assertions.result))
    (same_rir _ _ _ _ _ _ _ _ c.in-Rir.rir.states c.as_str-in-Rir.ensures.value c.as_str-in-Rir-2.ensures.value c.as_str-in-Rir-3.ensures.value
    c.as_str-in-Rir-4.ensures.value ∙ sym (ap command_of c.in-Rir.is)) c.report_assertions.ensures.given

pub returns-in-Rir-clause-steady_is_no_fault : goal.returns-in-Rir-clause-steady_is_no_fault
returns-in-Rir-clause-steady_is_no_fault g c = λ steady all.
    let rir = c.in-Rir.rir in
    let held : All (λ (operand : Input × List ℕ). HoldsName (g.F.Files.holds c.args.files.now) operand.1)
    ((Locations, string_bytes rir.locations) ∷ (Before, string_bytes rir.before) ∷ (After, string_bytes rir.after) ∷ (Assertions, string_bytes rir.assertions) ∷ []) =
    subst (λ (x : Command). HoldsFiles (g.F.Files.holds c.args.files.now) x) (ap command_of c.in-Rir.is) all in
    c.report_assertions.ensures.steady_is_no_fault steady
    (subst (HoldsName (g.F.Files.holds c.args.files.now)) (sym c.as_str-in-Rir.ensures.value) (held 1 (Spec, []) (omega arith)))
    (subst (HoldsName (g.F.Files.holds c.args.files.now)) (sym c.as_str-in-Rir-2.ensures.value) (held 2 (Spec, []) (omega arith)))
    (subst (HoldsName (g.F.Files.holds c.args.files.now)) (sym c.as_str-in-Rir-3.ensures.value) (held 0 (Spec, []) (omega arith)))
    (subst (HoldsName (g.F.Files.holds c.args.files.now)) (sym c.as_str-in-Rir-4.ensures.value) (held 3 (Spec, []) (omega arith)))

pub returns-in-Check-clause-ends : goal.returns-in-Check-clause-ends
returns-in-Check-clause-ends g c =
    subst (λ (x : Command). Ends (g.F.Files.faults c.args.files.now) (g.F.Files.faults c.report_asked.new.files) (given_to x (g.F.Files.given c.report_asked.new.files)) c.report_asked.result)
    (sym (ap command_of c.in-Check.is)) c.report_asked.ensures.ends

pub returns-in-Check-clause-opens_nothing : goal.returns-in-Check-clause-opens_nothing
returns-in-Check-clause-opens_nothing g c = λ none.
    let never = subst (λ (x : Command). operands_of x ≡ []) (ap command_of c.in-Check.is) none in
    absurd (cc)

pub returns-in-Fmt-clause-ends : goal.returns-in-Fmt-clause-ends
returns-in-Fmt-clause-ends g c =
    subst (λ (x : Command). Ends (g.F.Files.faults c.args.files.now) (g.F.Files.faults c.format.new.files) (given_to x (g.F.Files.given c.format.new.files)) c.format.result)
    (sym (ap command_of c.in-Fmt.is)) c.format.ensures.ends

pub returns-in-Fmt-clause-opens_nothing : goal.returns-in-Fmt-clause-opens_nothing
returns-in-Fmt-clause-opens_nothing g c = λ none.
    let never = subst (λ (x : Command). operands_of x ≡ []) (ap command_of c.in-Fmt.is) none in
    absurd (cc)

pub returns-in-Fib-clause-ends : goal.returns-in-Fib-clause-ends
returns-in-Fib-clause-ends g c =
    subst (λ (x : Command). Ends (g.F.Files.faults c.args.files.now) (g.F.Files.faults c.draw.new.files) (given_to x (g.F.Files.given c.draw.new.files)) c.draw.result)
    (sym (ap command_of c.in-Fib.is)) c.draw.ensures.ends

pub returns-in-Fib-clause-opens_nothing : goal.returns-in-Fib-clause-opens_nothing
returns-in-Fib-clause-opens_nothing g c = λ none.
    let never = subst (λ (x : Command). operands_of x ≡ []) (ap command_of c.in-Fib.is) none in
    absurd (cc)

pub returns-in-Demo-clause-given : goal.returns-in-Demo-clause-given
returns-in-Demo-clause-given g c =
    subst (λ (x : Command). IsGiven (is_some (g.F.Files.holds c.args.files.now)) (g.F.Files.steady c.args.files.now) (SameAnswer x)
    (Outcome (g.F.Files.holds c.args.files.now) x) (seen answer_by c.demonstrate.result))
    (sym (ap command_of c.in-Demo.is)) ((c.steps_chain.ensures _ _ (at_demo c.in-Demo.demo.layers)).first_read _ c.demonstrate.ensures.report)

pub returns-in-Zone-clause-ends : goal.returns-in-Zone-clause-ends
returns-in-Zone-clause-ends g c =
    subst (λ (x : Command). Ends (g.F.Files.faults c.args.files.now) (g.F.Files.faults c.show_zone.new.files) (given_to x (g.F.Files.given c.show_zone.new.files)) c.show_zone.result)
    (sym (ap command_of c.in-Zone.is)) c.show_zone.ensures.ends

pub returns-in-Zone-clause-opens_nothing : goal.returns-in-Zone-clause-opens_nothing
returns-in-Zone-clause-opens_nothing g c = λ none.
    let never = subst (λ (x : Command). operands_of x ≡ []) (ap command_of c.in-Zone.is) none in
    absurd (cc)

pub returns-in-Rir-clause-ends : goal.returns-in-Rir-clause-ends
returns-in-Rir-clause-ends g c =
    subst (λ (x : Command). Ends (g.F.Files.faults c.args.files.now) (g.F.Files.faults c.report_assertions.new.files) (given_to x (g.F.Files.given c.report_assertions.new.files)) c.report_assertions.result)
    (sym (ap command_of c.in-Rir.is)) c.report_assertions.ensures.ends

pub returns-in-Rir-clause-opens_nothing : goal.returns-in-Rir-clause-opens_nothing
returns-in-Rir-clause-opens_nothing g c = λ none.
    let never = subst (λ (x : Command). operands_of x ≡ []) (ap command_of c.in-Rir.is) none in
    absurd (cc)

pub returns-in-Audit-clause-given : goal.returns-in-Audit-clause-given
returns-in-Audit-clause-given g c =
    subst (λ (x : Command). IsGiven (is_some (g.F.Files.holds c.args.files.now)) (g.F.Files.steady c.args.files.now) (SameAnswer x)
    (Outcome (g.F.Files.holds c.args.files.now) x) (seen answer_by c.audit_files.result))
    (same_audit _ _ _ _ _ _ _ _ _ _ c.as_str-in-Audit.ensures.value c.as_str-in-Audit-2.ensures.value c.as_str-in-Audit-3.ensures.value
    c.as_str-in-Audit-4.ensures.value c.as_str-in-Audit-5.ensures.value ∙ sym (ap command_of c.in-Audit.is)) c.audit_files.ensures.given

pub returns-in-Audit-clause-steady_is_no_fault : goal.returns-in-Audit-clause-steady_is_no_fault
returns-in-Audit-clause-steady_is_no_fault g c = λ steady all.
    let audit = c.in-Audit.audit in
    let held : All (λ (operand : Input × List ℕ). HoldsName (g.F.Files.holds c.args.files.now) operand.1)
    ((Locations, string_bytes audit.locations) ∷ (Before, string_bytes audit.before) ∷ (After, string_bytes audit.after) ∷ (Spec, string_bytes audit.spec)
    ∷ (Certificate, string_bytes audit.certificate) ∷ []) =
    subst (λ (x : Command). HoldsFiles (g.F.Files.holds c.args.files.now) x) (ap command_of c.in-Audit.is) all in
    c.audit_files.ensures.steady_is_no_fault steady
    (subst (HoldsName (g.F.Files.holds c.args.files.now)) (sym c.as_str-in-Audit.ensures.value) (held 1 (Spec, []) (omega arith)))
    (subst (HoldsName (g.F.Files.holds c.args.files.now)) (sym c.as_str-in-Audit-2.ensures.value) (held 2 (Spec, []) (omega arith)))
    (subst (HoldsName (g.F.Files.holds c.args.files.now)) (sym c.as_str-in-Audit-3.ensures.value) (held 0 (Spec, []) (omega arith)))
    (subst (HoldsName (g.F.Files.holds c.args.files.now)) (sym c.as_str-in-Audit-4.ensures.value) (held 3 (Spec, []) (omega arith)))
    (subst (HoldsName (g.F.Files.holds c.args.files.now)) (sym c.as_str-in-Audit-5.ensures.value) (held 4 (Spec, []) (omega arith)))

pub returns-in-Audit-clause-ends : goal.returns-in-Audit-clause-ends
returns-in-Audit-clause-ends g c =
    subst (λ (x : Command). Ends (g.F.Files.faults c.args.files.now) (g.F.Files.faults c.audit_files.new.files) (given_to x (g.F.Files.given c.audit_files.new.files)) c.audit_files.result)
    (sym (ap command_of c.in-Audit.is)) c.audit_files.ensures.ends

pub returns-in-Audit-clause-opens_nothing : goal.returns-in-Audit-clause-opens_nothing
returns-in-Audit-clause-opens_nothing g c = λ none.
    let never = subst (λ (x : Command). operands_of x ≡ []) (ap command_of c.in-Audit.is) none in
    absurd (cc)

pub certify_files-requires : goal.certify_files-requires
certify_files-requires g c =
    let numbers = subst HasNumbers (ap command_of c.in-Certify.is) c.requires in
    record { some = numbers.0; few = numbers.1 }

pub returns-in-Certify-clause-given : goal.returns-in-Certify-clause-given
returns-in-Certify-clause-given g c =
    subst (λ (x : Command). IsGiven (is_some (g.F.Files.holds c.args.files.now)) (g.F.Files.steady c.args.files.now) (SameAnswer x)
    (Outcome (g.F.Files.holds c.args.files.now) x) (seen answer_by c.certify_files.result))
    (same_certify _ _ _ _ _ _ _ _ c.in-Certify.certify.states c.as_str-in-Certify.ensures.value c.as_str-in-Certify-2.ensures.value c.as_str-in-Certify-3.ensures.value
    c.as_str-in-Certify-4.ensures.value ∙ sym (ap command_of c.in-Certify.is)) c.certify_files.ensures.given

pub returns-in-Certify-clause-steady_is_no_fault : goal.returns-in-Certify-clause-steady_is_no_fault
returns-in-Certify-clause-steady_is_no_fault g c = λ steady all.
    let certify = c.in-Certify.certify in
    let held : All (λ (operand : Input × List ℕ). HoldsName (g.F.Files.holds c.args.files.now) operand.1)
    ((Locations, string_bytes certify.locations) ∷ (Before, string_bytes certify.before) ∷ (After, string_bytes certify.after) ∷ (Spec, string_bytes certify.spec) ∷ []) =
    subst (λ (x : Command). HoldsFiles (g.F.Files.holds c.args.files.now) x) (ap command_of c.in-Certify.is) all in
    c.certify_files.ensures.steady_is_no_fault steady
    (subst (HoldsName (g.F.Files.holds c.args.files.now)) (sym c.as_str-in-Certify.ensures.value) (held 1 (Spec, []) (omega arith)))
    (subst (HoldsName (g.F.Files.holds c.args.files.now)) (sym c.as_str-in-Certify-2.ensures.value) (held 2 (Spec, []) (omega arith)))
    (subst (HoldsName (g.F.Files.holds c.args.files.now)) (sym c.as_str-in-Certify-3.ensures.value) (held 0 (Spec, []) (omega arith)))
    (subst (HoldsName (g.F.Files.holds c.args.files.now)) (sym c.as_str-in-Certify-4.ensures.value) (held 3 (Spec, []) (omega arith)))

pub returns-in-Certify-clause-ends : goal.returns-in-Certify-clause-ends
returns-in-Certify-clause-ends g c =
    subst (λ (x : Command). Ends (g.F.Files.faults c.args.files.now) (g.F.Files.faults c.certify_files.new.files) (given_to x (g.F.Files.given c.certify_files.new.files)) c.certify_files.result)
    (sym (ap command_of c.in-Certify.is)) c.certify_files.ensures.ends

pub returns-in-Certify-clause-opens_nothing : goal.returns-in-Certify-clause-opens_nothing
returns-in-Certify-clause-opens_nothing g c = λ none.
    let never = subst (λ (x : Command). operands_of x ≡ []) (ap command_of c.in-Certify.is) none in
    absurd (cc)
