use Rattle.std.proofs.Common.{◌<◌, ℕ, List, [], length, get_or, map, ap, ◌∙◌, Vec, Global}
use Rattle.std.proofs.lemmas.Option.{slice_get_within}
use Rattle.rela_locations.specs.Tables.{index_of}
use Rattle.rela_locations.proofs.Indexes.{index_of_known}
use Rattle.rela_locations.proofs.Places.{field_at}
use Rattle.rela_locations.proofs.lookup.inside.Goals as goal

pub bounds-lists-symbol : goal.bounds-lists-symbol
bounds-lists-symbol c =
    let stands = index_of_known c.args.alphabet.now c.args.name.now c.in_ok-symbol.ensures.known in
    rw (c.in_ok-symbol.ensures.found, c.requires) (slice_get_within c.args.alphabet.now (index_of c.args.alphabet.now c.args.name.now) c.args.name.now stands)

abbrev items_of : Vec ℕ Global → List ℕ
items_of list = list.items

pub returns-clause-members : goal.returns-clause-members
returns-clause-members c =
    let stands = index_of_known c.args.alphabet.now c.args.name.now c.in_ok-symbol.ensures.known in
    let within : c.in_ok-symbol.symbol < length c.args.lists.now =
    rw (c.in_ok-symbol.ensures.found, c.requires) (slice_get_within c.args.alphabet.now (index_of c.args.alphabet.now c.args.name.now) c.args.name.now stands) in
    c.in_ok-from_slice.ensures.items ∙ c.as_slice.ensures.value
    ∙ field_at items_of c.args.lists.now c.in_ok-symbol.symbol c.index-lists-symbol.result within c.index-lists-symbol.is
    ∙ ap (λ k. get_or (map items_of c.args.lists.now) k []) c.in_ok-symbol.ensures.found
