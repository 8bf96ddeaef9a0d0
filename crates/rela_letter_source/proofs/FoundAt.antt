-- Where a configuration stands that was looked up by its fields.
use Rattle.std.proofs.Common.{◌≡◌, ℕ, eqb, ◌&&◌, Bool, true, List, get_or, Some, sym, ap, ◌∙◌}
use Rattle.std.specs.List.{position, slice_get}
use Rattle.std.proofs.lemmas.Bool.{and_parts, eqb-true}
use Rattle.std.proofs.lemmas.List.Quantifiers.{position-Some}
use Rattle.std.proofs.lemmas.Option.{slice_get-get_or}
use Rattle.rela_letter_source.specs.Steps.{standing}
use Rattle.rela_letter_source.specs.declared.configuration.Configuration.{Configuration}

abbrev pub same_fields : Configuration → Configuration → Bool
same_fields a b = eqb a.path b.path && (eqb a.machine b.machine && eqb a.written b.written)

fields_same : (a b : Configuration) → same_fields a b ≡ true → a ≡ b
fields_same a b holds =
    let one = and_parts (eqb a.path b.path) (eqb a.machine b.machine && eqb a.written b.written) holds in
    let two = and_parts (eqb a.machine b.machine) (eqb a.written b.written) one.1 in
    let path = eqb-true a.path b.path one.0 in
    let machine = eqb-true a.machine b.machine two.0 in
    let written = eqb-true a.written b.written two.1 in
    λ i. standing (path i) (machine i) (written i)

pub found_at : (all : List Configuration) (x : Configuration) (i : ℕ) → position (same_fields x) all ≡ Some i → slice_get all i ≡ Some x
found_at all x i is =
    let told = position-Some (same_fields x) all i x is in
    slice_get-get_or all i x told.0 ∙ ap (λ (y : Configuration). Some y) (sym (fields_same x (get_or all i x) told.1))
