use Rattle.std.proofs.Common.{◌≡◌, ◌≤◌, drop, slice_get}
use Rattle.rela_blame.specs.Leads.{spread}
use Rattle.rela_blame.specs.Tables.{values_of}
use Rattle.rela_blame.proofs.definitions.Definitions.seek.Given as goal

-- what is sought is at this place among the alternatives of the leads that are left
abbrev pub invariant-loop-lead : goal.invariant-loop-lead
invariant-loop-lead l = record {
  same : slice_get (spread (values_of l.self.list.items) (drop l.lead-index l.leads)) l.left ≡ slice_get (spread (values_of l.self.list.items) l.leads) l.before;
  within : l.left ≤ l.before;
}
