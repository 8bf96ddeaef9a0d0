use Rattle.std.proofs.Common.{◌≡◌, ◌-◌, ◌≤◌, length, take}
use Rattle.rela_io.specs.Bytes.{after_told}
use Rattle.rela_io.proofs.writing.write_all.Given as goal

-- The first bytes stand in the sink, and no write has failed.
abbrev pub invariant-loop-written : goal.invariant-loop-written
invariant-loop-written g l = record {
  within : l.written ≤ length l.bytes;
  appended : g.K.Sink.taken l.sink ≡ after_told (g.K.Sink.taken l.initial.sink) (take l.written l.bytes);
  no_fault : g.K.Sink.faults l.sink ≡ g.K.Sink.faults l.initial.sink;
}

abbrev pub decreases-loop-written : goal.decreases-loop-written
decreases-loop-written g l = length l.bytes - l.written
