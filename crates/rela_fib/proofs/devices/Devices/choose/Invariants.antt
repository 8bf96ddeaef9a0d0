use Rattle.std.proofs.Common.{◌≡◌, false, take}
use Rattle.rela_fib.specs.Steps.{AreChoices, AreWithin}
use Rattle.rela_fib.proofs.devices.Devices.choose.Given as goal

abbrev pub invariant-loop-place : goal.invariant-loop-place
invariant-loop-place l = record {
  chosen : AreChoices (take l.place l.self.devices.items) l.address (take l.place l.choices);
  within : AreWithin l.self.devices.items l.choices;
  kept : l.is_changed ≡ false → l.choices ≡ l.initial.choices;
}
