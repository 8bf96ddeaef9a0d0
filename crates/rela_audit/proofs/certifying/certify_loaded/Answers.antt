use Rattle.std.proofs.Common.{ℕ, List, sym, subst}
use Rattle.rela_cert.specs.Subject.{IsSubject, subject}
use Rattle.rela_inputs.specs.Loaded.{loaded_by, names_of}
use Rattle.rela_snapshot.specs.declared.pairing.FlowPair.{FlowPair}
use Rattle.rela_translate.specs.Checked.{Checked as Check}
use Rattle.rela_audit.proofs.certifying.certify_loaded.Goals as goal

pub certify-requires-clause-subject : goal.certify-requires-clause-subject
certify-requires-clause-subject c =
    let change = loaded_by c.args.loaded.now in
    let of_change : IsSubject (subject change.specified.checks change.pairs (names_of change)) = record {
      listed = c.requires.listed;
      located = c.requires.located;
      checks_differ = c.requires.names_differ.checks;
      flows_differ = c.requires.names_differ.flows;
    } in
    subst (λ (ns : List (List ℕ)). IsSubject (subject c.deref.result.now c.deref-2.result.now ns)) (sym c.alphabet-alphabet.ensures)
    (subst (λ (ps : List FlowPair). IsSubject (subject c.deref.result.now ps (names_of change))) (sym c.deref-2.ensures.value)
    (subst (λ (cs : List Check). IsSubject (subject cs change.pairs (names_of change))) (sym c.deref.ensures.value) of_change))
