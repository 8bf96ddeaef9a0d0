use Rattle.std.proofs.Common.{◌≡◌, ℕ, ◌<◌, length, get_or}
use Rattle.rela_labels.specs.Apart.{IsLead}
use Rattle.rela_labels.proofs.base.Base.leads.Given as goal

abbrev pub invariant-loop-block : goal.invariant-loop-block
invariant-loop-block l = record {
  len : length l.leads.items ≡ l.block;
  each : (b : ℕ) → b < l.block → IsLead l.self.blocks.items l.apart b (get_or l.leads.items b 0);
}
