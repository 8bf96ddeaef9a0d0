use Rattle.std.proofs.Common.{◌≡◌, map, subst, sym, ◌∙◌}
use Rattle.std.specs.List.Sorted.{IsStrictlyIncreasing}
use Rattle.rela_expand.specs.Known.{picked}
use Rattle.rela_expand.specs.Numbered.{listing, placed}
use Rattle.rela_expand.specs.Numbering.{Listing}
use Rattle.rela_expand.specs.Places.{Place}
use Rattle.rela_expand.specs.Tables.{numbering_of}
use Rattle.rela_expand.specs.declared.numbers.Numbers.{Numbers}
use Rattle.rela_expand.proofs.Known.{entry_listed, number_known, places_later, written_known}
use Rattle.rela_expand.proofs.Listings.{found_rises}
use Rattle.rela_expand.proofs.unfolding.class.Goals as goal

pub new-requires-2 : goal.new-requires-2
new-requires-2 c =
    let place : Place = record { network = c.args.locations.now; level = c.args.level } in
    subst IsStrictlyIncreasing (sym c.in_ok-symbols.ensures) (found_rises place (map (picked place) c.as_slice.result.now))

pub returns-in-Some-clause-numbered : goal.returns-in-Some-clause-numbered
returns-in-Some-clause-numbered c =
    let place : Place = record { network = c.args.locations.now; level = c.args.level } in
    number_known place c.args.numbers.now c.in_ok-written.written (listing place c.args.negated c.args.members.now) c.in-Some.number
    c.requires.written (c.in_ok-written.ensures c.args.locations.now) (sym (c.in-Some.ensures ∙ c.get.ensures.value))

pub returns-clause-written : goal.returns-clause-written
returns-clause-written c =
    let place : Place = record { network = c.args.locations.now; level = c.args.level } in
    let class : Listing = listing place c.args.negated c.args.members.now in
    let same = c.in_ok-written.ensures c.args.locations.now in
    let entry =
    entry_listed place c.args.negated c.args.members.now c.in_ok-written.written c.new-2.result c.as_slice.result.now c.in_ok-symbols.symbols same
    c.new-2.ensures.negated c.new-2.ensures.members c.in_ok-symbols.ensures c.as_slice.ensures.value in
    let is : placed class (numbering_of c.args.numbers.now) ≡ record { value = c.in_ok-number.number; after = numbering_of c.class.new.self } =
    subst (λ (l : Listing). placed l (numbering_of c.args.numbers.now) ≡ record { value = c.in_ok-number.number; after = numbering_of c.class.new.self }) entry
    c.in_ok-number.ensures.placed in
    let new : Numbers = record c.class.new.self { written = c.insert.new.self } in
    written_known place class c.args.numbers.now c.class.new.self new c.in_ok-written.written c.in_ok-number.number c.requires.written same is
    c.in_ok-number.ensures.written c.in_ok-insert.ensures.updates.0

pub returns-clause-places : goal.returns-clause-places
returns-clause-places c =
    λ shapes known.
    let place : Place = record { network = c.args.locations.now; level = c.args.level } in
    let class : Listing = listing place c.args.negated c.args.members.now in
    let entry =
    entry_listed place c.args.negated c.args.members.now c.in_ok-written.written c.new-2.result c.as_slice.result.now c.in_ok-symbols.symbols
    (c.in_ok-written.ensures c.args.locations.now) c.new-2.ensures.negated c.new-2.ensures.members c.in_ok-symbols.ensures c.as_slice.ensures.value in
    let is : placed class (numbering_of c.args.numbers.now) ≡ record { value = c.in_ok-number.number; after = numbering_of c.class.new.self } =
    subst (λ (l : Listing). placed l (numbering_of c.args.numbers.now) ≡ record { value = c.in_ok-number.number; after = numbering_of c.class.new.self }) entry
    c.in_ok-number.ensures.placed in
    let new : Numbers = record c.class.new.self { written = c.insert.new.self } in
    places_later place shapes class c.args.numbers.now new c.in_ok-number.number is c.in_ok-number.ensures.places known
