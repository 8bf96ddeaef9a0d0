use Rattle.std.proofs.Common.{ℕ, List}
use Rattle.std.specs.Prelude.{Vec}
use Rattle.rela_translate.specs.Zones.{Either, Paths}
use Rattle.rela_branches.specs.Places.{AreJoined, Each, EachOfTwo}
use Rattle.rela_branches.specs.Walks.{IsLed}
use Rattle.rela_branches.proofs.Ends.{alt_ends, ends_below, if_ok}
use Rattle.rela_branches.proofs.walk.Walk.either_ends.Goals as goal

pub joined_each-requires-clause-first : goal.joined_each-requires-clause-first
joined_each-requires-clause-first c =
    ends_below c.args.self.now.word.now (Paths c.args.self.now.classes.now c.args.self.now.locations c.args.first.now) c.args.from.now c.in_ok-first.first.items c.as_slice.result.now
    c.bound.result c.in_ok-first.ensures c.as_slice.ensures.value c.bound.ensures

pub joined_each-requires-clause-second : goal.joined_each-requires-clause-second
joined_each-requires-clause-second c =
    ends_below c.args.self.now.word.now (Paths c.args.self.now.classes.now c.args.self.now.locations c.args.second.now) c.args.from.now c.in_ok-second.second.items c.as_slice-2.result.now
    c.bound.result c.in_ok-second.ensures c.as_slice-2.ensures.value c.bound.ensures

pub returns : goal.returns
returns c =
    let word = c.args.self.now.word.now in
    let one = Paths c.args.self.now.classes.now c.args.self.now.locations c.args.first.now in
    let other = Paths c.args.self.now.classes.now c.args.self.now.locations c.args.second.now in
    if_ok (λ (to : Vec (List ℕ) _). EachOfTwo (AreJoined c.bound.result) c.as_slice.result.now c.as_slice-2.result.now to.items)
    (λ (to : Vec (List ℕ) _). Each (IsLed word (Either one other)) c.args.from.now to.items) c.joined_each.result
    (λ to joined.
    alt_ends word one other c.args.from.now c.in_ok-first.first.items c.in_ok-second.second.items c.as_slice.result.now c.as_slice-2.result.now to.items c.bound.result
    c.in_ok-first.ensures c.in_ok-second.ensures c.as_slice.ensures.value c.as_slice-2.ensures.value c.bound.ensures joined) c.joined_each.ensures
