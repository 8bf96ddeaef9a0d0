use Rattle.std.proofs.Common.{Some, refl, ap, sym, ◌∙◌}
use Rattle.std.proofs.lemmas.Bool.{false_from_ne_true}
use Rattle.rela_locations.specs.Names.{has_name}
use Rattle.rela_locations.specs.Tables.{index_of}
use Rattle.rela_locations.proofs.Indexes.{index_of_known, known_at}
use Rattle.rela_locations.proofs.lookup.find.Goals as goal

pub returns-in-Some-clause-known : goal.returns-in-Some-clause-known
returns-in-Some-clause-known c =
    known_at c.args.alphabet.now c.args.name.now c.in-Some.symbol ((c.in-Some.ensures.found c.in-Some.symbol).0 refl ∙ ap Some c.as_bytes.ensures.bytes)

pub returns-in-Some-clause-found : goal.returns-in-Some-clause-found
returns-in-Some-clause-found c =
    let known = known_at c.args.alphabet.now c.args.name.now c.in-Some.symbol ((c.in-Some.ensures.found c.in-Some.symbol).0 refl ∙ ap Some c.as_bytes.ensures.bytes) in
    let stands = index_of_known c.args.alphabet.now c.args.name.now known in
    let found = (c.in-Some.ensures.found (index_of c.args.alphabet.now c.args.name.now)).1 (stands ∙ ap Some (sym c.as_bytes.ensures.bytes)) in
    cc

pub returns-in-None-clause-unknown : goal.returns-in-None-clause-unknown
returns-in-None-clause-unknown c =
    false_from_ne_true (has_name c.args.alphabet.now c.args.name.now)
    (λ known.
    let stands = index_of_known c.args.alphabet.now c.args.name.now known in
    let found = (c.in-None.ensures.found (index_of c.args.alphabet.now c.args.name.now)).1 (stands ∙ ap Some (sym c.as_bytes.ensures.bytes)) in
    cc)
