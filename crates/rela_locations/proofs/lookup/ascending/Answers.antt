use Rattle.std.proofs.Common.{◌==◌, ap, sym, ◌∙◌, eqb}
use Rattle.std.proofs.lemmas.List.Filters.{dedup_is}
use Rattle.std.proofs.lemmas.List.Sorted.{list_any-IsPermutation}
use Rattle.rela_locations.specs.Tables.{has_number}
use Rattle.rela_locations.proofs.NumberLists.{dedup_rises, has_number-dedup}
use Rattle.rela_locations.proofs.lookup.ascending.Goals as goal

pub returns-clause-rising : goal.returns-clause-rising
returns-clause-rising c =
    let kept = dedup_is eqb c.sort_unstable.new.self.items c.dedup.new.self.items c.dedup.ensures.filtered in
    rw kept (dedup_rises c.sort_unstable.new.self.items c.sort_unstable.ensures.sorted)

pub returns-clause-same : goal.returns-clause-same
returns-clause-same c = λ n.
    let kept = dedup_is eqb c.sort_unstable.new.self.items c.dedup.new.self.items c.dedup.ensures.filtered in
    ap (λ numbers. has_number numbers n) kept
    ∙ has_number-dedup c.sort_unstable.new.self.items n
    ∙ sym (list_any-IsPermutation (λ m. m == n) c.args.symbols.items c.sort_unstable.new.self.items c.sort_unstable.ensures.permutation)
