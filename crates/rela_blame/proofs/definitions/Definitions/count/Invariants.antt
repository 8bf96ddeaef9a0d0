use Rattle.std.proofs.Common.{◌≡◌, length, take}
use Rattle.rela_blame.specs.Leads.{spread}
use Rattle.rela_blame.specs.Tables.{capped, values_of}
use Rattle.rela_blame.proofs.definitions.Definitions.count.Given as goal

-- the alternatives of the leads so far
abbrev pub invariant-loop-lead : goal.invariant-loop-lead
invariant-loop-lead l = l.count ≡ capped (length (spread (values_of l.self.list.items) (take l.lead-index l.leads)))
