use Rattle.std.proofs.Common.{take}
use Rattle.rela_fib.specs.Writing.{AddsFlows, IsDrawing}
use Rattle.rela_fib.proofs.writing.push_flows.Given as goal

abbrev pub invariant-loop-place : goal.invariant-loop-place
invariant-loop-place l = record {
  added : AddsFlows l.devices l.end (take l.place l.classes) l.initial.text.items l.text.items;
  drawing : IsDrawing l.devices l.drawing;
}
