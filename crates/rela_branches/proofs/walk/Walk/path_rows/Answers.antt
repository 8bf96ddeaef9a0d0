use Rattle.std.proofs.Common.{◌+◌, ◌∙◌, ℕ, List, length, refl, sym, ap}
use Rattle.std.specs.Prelude.{Vec}
use Rattle.rela_rir.specs.Meaning.{IsPathWord}
use Rattle.rela_rir.specs.Words.{Star}
use Rattle.rela_translate.specs.Zones.{path_symbols}
use Rattle.rela_branches.specs.Places.{AreReached, Each}
use Rattle.rela_branches.specs.Walks.{IsLed, singles}
use Rattle.rela_branches.specs.declared.letters.Letter.TheVariants.{Path}
use Rattle.rela_branches.proofs.Ends.{if_ok, onward_shown, rows_below, same_ends, shown_each, shown_long, singles_below, star_ends, step_rows}
use Rattle.rela_branches.proofs.Steps.{Symbols, path_words}
use Rattle.rela_branches.proofs.walk.Walk.path_rows.Goals as goal

pub step_each-requires : goal.step_each-requires
step_each-requires c =
    singles_below c.as_slice.result.now c.in_ok-each.each.items c.bound.result (length c.args.self.now.word.now + 1) c.as_slice.ensures.value c.in_ok-each.ensures c.bound.ensures

pub reached_each-requires-clause-rows : goal.reached_each-requires-clause-rows
reached_each-requires-clause-rows c =
    let classes = c.args.self.now.classes.now in
    let symbols = path_symbols c.args.self.now.locations in
    let word = c.args.self.now.word.now in
    let rows = step_rows classes symbols word Path c.as_slice.result.now c.in_ok-each.each.items c.in_ok-rows.rows.items c.bound.result c.as_slice.ensures.value c.in_ok-each.ensures
    c.bound.ensures c.in_ok-rows.ensures in
    rows_below word (Symbols classes symbols word Path) c.in_ok-rows.rows.items c.as_slice-2.result.now (length c.as_slice-2.result.now) rows c.as_slice-2.ensures.value
    (shown_long word (Symbols classes symbols word Path) c.in_ok-rows.rows.items c.as_slice-2.result.now rows c.as_slice-2.ensures.value)

pub reached_each-requires-clause-onward : goal.reached_each-requires-clause-onward
reached_each-requires-clause-onward c =
    let classes = c.args.self.now.classes.now in
    let symbols = path_symbols c.args.self.now.locations in
    let word = c.args.self.now.word.now in
    let rows = step_rows classes symbols word Path c.as_slice.result.now c.in_ok-each.each.items c.in_ok-rows.rows.items c.bound.result c.as_slice.ensures.value c.in_ok-each.ensures
    c.bound.ensures c.in_ok-rows.ensures in
    onward_shown word (Symbols classes symbols word Path) c.in_ok-rows.rows.items c.as_slice-2.result.now rows c.as_slice-2.ensures.value

pub reached_each-requires-clause-from : goal.reached_each-requires-clause-from
reached_each-requires-clause-from c =
    let classes = c.args.self.now.classes.now in
    let symbols = path_symbols c.args.self.now.locations in
    let word = c.args.self.now.word.now in
    let rows = step_rows classes symbols word Path c.as_slice.result.now c.in_ok-each.each.items c.in_ok-rows.rows.items c.bound.result c.as_slice.ensures.value c.in_ok-each.ensures
    c.bound.ensures c.in_ok-rows.ensures in
    singles_below c.as_slice-3.result.now c.in_ok-each.each.items c.bound.result (length c.as_slice-2.result.now) c.as_slice-3.ensures.value c.in_ok-each.ensures
    (c.bound.ensures ∙ sym (shown_long word (Symbols classes symbols word Path) c.in_ok-rows.rows.items c.as_slice-2.result.now rows c.as_slice-2.ensures.value))

pub returns : goal.returns
returns c =
    let classes = c.args.self.now.classes.now in
    let symbols = path_symbols c.args.self.now.locations in
    let word = c.args.self.now.word.now in
    let rows = step_rows classes symbols word Path c.as_slice.result.now c.in_ok-each.each.items c.in_ok-rows.rows.items c.bound.result c.as_slice.ensures.value c.in_ok-each.ensures
    c.bound.ensures c.in_ok-rows.ensures in
    let of_path = Symbols classes symbols word Path in
    if_ok (λ (to : Vec (List ℕ) _). Each (AreReached c.as_slice-2.result.now) c.as_slice-3.result.now to.items)
    (λ (to : Vec (List ℕ) _). Each (IsLed word (IsPathWord symbols)) (singles (length word + 1)) to.items) c.reached_each.result
    (λ to each.
    same_ends word (Star of_path) (IsPathWord symbols) (singles (length word + 1)) to.items (path_words classes symbols)
    (star_ends word of_path c.in_ok-rows.rows.items c.as_slice-2.result.now (singles (length word + 1)) to.items rows c.as_slice-2.ensures.value
    (singles_below (singles (length word + 1)) (singles (length word + 1)) (length word + 1) (length word + 1) refl refl refl)
    (shown_each (AreReached c.as_slice-2.result.now) c.as_slice-3.result.now (singles (length word + 1)) to.items
    (c.as_slice-3.ensures.value ∙ c.in_ok-each.ensures ∙ ap singles c.bound.ensures) each))) c.reached_each.ensures
