use Rattle.std.proofs.Common.{◌-◌, ◌^◌, ◌<◌, ◌≤◌, slice_get, arith}
use Rattle.rela_blame.specs.Leads.{spread}
use Rattle.rela_blame.specs.Tables.{values_of}
use Rattle.rela_blame.proofs.Counts.{here, passed}
use Rattle.rela_blame.proofs.definitions.Definitions.seek.Goals as goal

pub returns-then-left-count : goal.returns-then-left-count
returns-then-left-count c = λ bound below.
    let values = values_of c.args.self.now.list.items in
    let few : c.loop-lead.left < 2 ^ 64 - 1 = let w = c.loop-lead.invariant.within in let r = c.requires.within in omega arith in
    here values c.args.leads.now c.loop-lead.lead-index _ c.loop-lead-test.true c.loop-lead.left c.count_of-count.result bound
    (slice_get (spread values c.args.leads.now) c.args.before) c.inside.result c.loop-lead.invariant.same c.count_of-count.ensures c.if-left-count.true few below
    (c.inside.ensures values bound)

pub loop-lead-preserved : goal.loop-lead-preserved
loop-lead-preserved c =
    let values = values_of c.args.self.now.list.items in
    let w = c.loop-lead.invariant.within in
    let few : c.loop-lead.left < 2 ^ 64 - 1 = let r = c.requires.within in omega arith in
    let not_here : c.count_of-count.result ≤ c.loop-lead.left = let n = c.if-left-count.false in grind arith in
    record {
      same = passed values c.args.leads.now c.loop-lead.lead-index _ c.loop-lead-test.true c.loop-lead.left c.count_of-count.result
          (slice_get (spread values c.args.leads.now) c.args.before) c.loop-lead.invariant.same c.count_of-count.ensures not_here few;
      within = omega arith;
    }
