use Rattle.std.proofs.Common.{◌+◌, ◌<◌, ◌≤◌, length, slice_get, subst, sym, arith, Option, ℕ}
use Rattle.rela_blame.specs.Leads.{spread, value_at}
use Rattle.rela_blame.specs.Tables.{IsFound, rank, values_of}
use Rattle.rela_blame.specs.declared.definitions.Sought.{Sought}
use Rattle.rela_blame.specs.declared.definitions.Sought.TheVariants.{Within}
use Rattle.rela_blame.proofs.Counts.{found_higher, rank_below, sought_next}
use Rattle.rela_blame.proofs.definitions.Definitions.unit_at.Goals as goal

pub loop-sought-init : goal.loop-sought-init
loop-sought-init c = c.seek-sought.ensures (length c.args.self.now.list.items) c.requires.leads

pub loop-sought-smaller : goal.loop-sought-smaller
loop-sought-smaller c =
    let table = c.args.self.now in
    let values = values_of table.list.items in
    let k = c.in-Within.number in
    let next = c.seek-sought-in-Within.result in
    let there = slice_get (spread values c.args.leads.now) c.args.before in
    let here : IsFound values (length table.list.items) there (Within k c.in-Within.before) = subst (IsFound values (length table.list.items) there) c.in-Within.is c.loop-sought.invariant in
    let found = sought_next table k c.index.result.now c.requires.table here.0 c.index.ensures c.in-Within.before c.as_slice.result.now next c.as_slice.ensures.value c.seek-sought-in-Within.ensures in
    let low : rank next ≤ k = rank_below values k (slice_get (value_at values k) c.in-Within.before) next found in
    let smaller : rank next < k + 1 = omega arith in
    subst (λ (s : Sought). rank next < rank s) (sym c.in-Within.is) smaller

pub loop-sought-preserved : goal.loop-sought-preserved
loop-sought-preserved c =
    let table = c.args.self.now in
    let values = values_of table.list.items in
    let k = c.in-Within.number in
    let next = c.seek-sought-in-Within.result in
    let there = slice_get (spread values c.args.leads.now) c.args.before in
    let here : IsFound values (length table.list.items) there (Within k c.in-Within.before) = subst (IsFound values (length table.list.items) there) c.in-Within.is c.loop-sought.invariant in
    let found = sought_next table k c.index.result.now c.requires.table here.0 c.index.ensures c.in-Within.before c.as_slice.result.now next c.as_slice.ensures.value c.seek-sought-in-Within.ensures in
    let inside = here.0 in
    let le : k ≤ length table.list.items = omega arith in
    subst (λ (o : Option ℕ). IsFound values (length table.list.items) o next) (sym here.1)
    (found_higher values k (length table.list.items) (slice_get (value_at values k) c.in-Within.before) next le found)
