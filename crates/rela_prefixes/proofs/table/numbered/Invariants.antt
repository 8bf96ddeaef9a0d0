use Rattle.std.proofs.Common.{◌≡◌, ◌<◌, ℕ, vec_len}
use Rattle.std.specs.Prelude.{slice_get, Some}
use Rattle.rela_flows.specs.declared.prefix.Ipv4Prefix.{Ipv4Prefix}
use Rattle.rela_prefixes.proofs.table.numbered.Given as goal

abbrev pub invariant-loop-number : goal.invariant-loop-number
invariant-loop-number l = record {
  as_many : vec_len l.ns ≡ l.number;
  each : (k : ℕ) (p : Ipv4Prefix) → k < l.number → slice_get l.prefixes k ≡ Some p → slice_get l.ns.items k ≡ Some (record { prefix = p; number = k });
}
