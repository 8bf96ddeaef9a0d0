use Rattle.std.proofs.Common.{ℕ, List, ap}
use Rattle.std.specs.Prelude.{Vec}
use Rattle.rela_translate.specs.Zones.{Either, Paths, Single, path_symbols, unit_meaning}
use Rattle.rela_translate.specs.declared.body.Change.{Change}
use Rattle.rela_branches.specs.Places.{AreJoined, Each, EachOfTwo}
use Rattle.rela_branches.specs.Walks.{IsLed}
use Rattle.rela_branches.specs.declared.letters.Letter.TheVariants.{One}
use Rattle.rela_branches.proofs.Ends.{alt_ends, by_words, ends_below, if_ok, one_symbol, same_ends, step_ends}
use Rattle.rela_branches.proofs.Steps.{Symbols}
use Rattle.rela_branches.proofs.walk.Walk.unit_ends.Goals as goal

pub joined_each-requires-clause-first : goal.joined_each-requires-clause-first
joined_each-requires-clause-first c =
    ends_below c.args.self.now.word.now (Paths c.args.self.now.classes.now c.args.self.now.locations c.args.zone.now) c.args.from.now c.in_ok-spoken-in-Drop.spoken.items
    c.as_slice.result.now c.bound.result c.in_ok-spoken-in-Drop.ensures c.as_slice.ensures.value c.bound.ensures

pub joined_each-requires-clause-second : goal.joined_each-requires-clause-second
joined_each-requires-clause-second c =
    let classes = c.args.self.now.classes.now in
    let n = c.args.self.now.locations in
    let word = c.args.self.now.word.now in
    ends_below word (Symbols classes (path_symbols n) word (One n)) c.args.from.now c.in_ok-dropped-in-Drop.dropped.items c.as_slice-in-Drop.result.now c.bound.result
    (step_ends classes (path_symbols n) word (One n) c.args.from.now c.in_ok-dropped-in-Drop.dropped.items c.in_ok-dropped-in-Drop.ensures) c.as_slice-in-Drop.ensures.value c.bound.ensures

pub returns-in_ok-dropped-in-Drop : goal.returns-in_ok-dropped-in-Drop
returns-in_ok-dropped-in-Drop c =
    let classes = c.args.self.now.classes.now in
    let n = c.args.self.now.locations in
    let word = c.args.self.now.word.now in
    let from = c.args.from.now in
    let zone = Paths classes n c.args.zone.now in
    let dropped = same_ends word (Symbols classes (path_symbols n) word (One n)) (Single n) from c.in_ok-dropped-in-Drop.dropped.items (one_symbol n)
    (step_ends classes (path_symbols n) word (One n) from c.in_ok-dropped-in-Drop.dropped.items c.in_ok-dropped-in-Drop.ensures) in
    if_ok (λ (to : Vec (List ℕ) _). EachOfTwo (AreJoined c.bound.result) c.as_slice.result.now c.as_slice-in-Drop.result.now to.items)
    (λ (to : Vec (List ℕ) _). Each (IsLed word (unit_meaning classes n zone c.args.modifier.now).zone) from to.items) c.joined_each.result
    (λ to joined.
    by_words word (Either zone (Single n)) (unit_meaning classes n zone c.args.modifier.now).zone from to.items
    (ap (λ (m : Change). (unit_meaning classes n zone m).zone) c.in-Drop.is)
    (alt_ends word zone (Single n) from c.in_ok-spoken-in-Drop.spoken.items c.in_ok-dropped-in-Drop.dropped.items c.as_slice.result.now c.as_slice-in-Drop.result.now to.items
    c.bound.result c.in_ok-spoken-in-Drop.ensures dropped c.as_slice.ensures.value c.as_slice-in-Drop.ensures.value c.bound.ensures joined)) c.joined_each.ensures
