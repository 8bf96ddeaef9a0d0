use Rattle.std.proofs.Common.{◌≡◌, All, vec_len}
use Rattle.std.specs.Option.{IsNone}
use Rattle.rela_snapshot.proofs.pairing.no_flows.Given as goal

abbrev pub invariant-loop : goal.invariant-loop
invariant-loop l = record { len : vec_len l.none ≡ l.counter; none : All IsNone l.none.items }
