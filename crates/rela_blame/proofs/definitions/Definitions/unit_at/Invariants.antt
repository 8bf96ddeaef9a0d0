use Rattle.std.proofs.Common.{length, slice_get}
use Rattle.rela_blame.specs.Leads.{spread}
use Rattle.rela_blame.specs.Tables.{IsFound, rank, values_of}
use Rattle.rela_blame.proofs.definitions.Definitions.unit_at.Given as goal

abbrev pub invariant-loop-sought : goal.invariant-loop-sought
invariant-loop-sought l = IsFound (values_of l.self.list.items) (length l.self.list.items) (slice_get (spread (values_of l.self.list.items) l.leads) l.before) l.sought

abbrev pub decreases-loop-sought : goal.decreases-loop-sought
decreases-loop-sought l = rank l.sought
