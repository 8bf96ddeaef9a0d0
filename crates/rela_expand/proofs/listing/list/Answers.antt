use Rattle.std.proofs.Common.{◌==◌, ◌∙◌, sym, take, eqb}
use Rattle.std.proofs.lemmas.List.{take_all}
use Rattle.std.proofs.lemmas.List.Filters.{dedup_is}
use Rattle.std.proofs.lemmas.List.Sorted.{list_any-IsPermutation}
use Rattle.rela_expand.specs.Places.{Place}
use Rattle.rela_expand.proofs.Listings.{listed_is_found}
use Rattle.rela_expand.proofs.listing.list.Goals as goal

pub returns : goal.returns
returns c =
    let place : Place = record { network = c.args.locations.now; level = c.args.level } in
    let picks = c.args.picks.now in
    let sorted = c.sort_unstable.new.self.items in
    dedup_is eqb sorted c.dedup.new.self.items c.dedup.ensures.filtered
    ∙ listed_is_found place picks (take c.loop-pick.pick-index picks) c.loop-pick.symbols.items sorted
    (take_all c.loop-pick.pick-index picks c.loop-pick-test.false) c.loop-pick.invariant c.sort_unstable.ensures.sorted
    (λ n. sym (list_any-IsPermutation (λ m. m == n) c.loop-pick.symbols.items sorted c.sort_unstable.ensures.permutation))
