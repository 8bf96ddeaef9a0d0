use Rattle.std.proofs.Common.{◌≡◌, ◌<◌, ◌++◌, ◌∷◌, [], List, ℕ, length, map, get_or, arith, ap, sym, ◌∙◌, Vec, Global}
use Rattle.std.specs.Prelude.{slice_index, slice_set}
use Rattle.std.proofs.lemmas.List.{map-set, length-map}
use Rattle.std.proofs.lemmas.List.FromFn.{fill_by_all}
use Rattle.rela_locations.specs.Tables.{places_of}
use Rattle.rela_locations.proofs.Places.{place_put, places_before, field_at}
use Rattle.rela_locations.proofs.containment.places_of.Goals as goal

abbrev items_of : Vec ℕ Global → List ℕ
items_of list = list.items

pub loop-at-preserved : goal.loop-at-preserved
loop-at-preserved c = record {
  count = c.loop-at.invariant.count;
  places = λ k within.
      let entry : ℕ = slice_index c.args.table.now c.loop-at.at in
      let lists : List (List ℕ) = map items_of c.loop-at.lists.items in
      let below : entry < c.args.count = c.requires.in_range c.loop-at.at 0 c.loop-at-test.true in
      let stored : length c.loop-at.lists.items ≡ c.args.count = sym c.loop-at.lists.ok.0 ∙ c.loop-at.invariant.count in
      let inside : entry < length lists = rw (length-map, stored) below in
      let inside' : entry < length c.loop-at.lists.items = rw stored below in
      let old : c.index_mut-list.result.now.items ≡ get_or lists entry [] = field_at items_of c.loop-at.lists.items entry c.index_mut-list.result.now inside' c.index_mut-list.ensures.value in
      let new : c.push.new.self.items ≡ get_or lists entry [] ++ c.loop-at.at ∷ [] = c.in_ok-push.ensures.items ∙ ap (λ xs. xs ++ c.loop-at.at ∷ []) old in
      ap (λ (xs : List (List ℕ)). get_or xs k []) (map-set items_of c.loop-at.lists.items entry c.push.new.self ∙ ap (slice_set lists entry) new)
      ∙ place_put c.args.table.now lists c.loop-at.at k inside (c.loop-at.invariant.places k within);
}

pub returns : goal.returns
returns c =
    let lists : List (List ℕ) = map items_of c.loop-at.lists.items in
    let stored : length lists ≡ c.args.count = rw length-map (sym c.loop-at.lists.ok.0 ∙ c.loop-at.invariant.count) in
    let whole : c.loop-at.at ≡ length c.args.table.now = omega arith in
    fill_by_all (places_of c.args.table.now) lists c.args.count [] stored
    (λ k within. c.loop-at.invariant.places k within ∙ ap (λ n. places_before c.args.table.now n k) whole)
