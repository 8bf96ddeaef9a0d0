use Rattle.std.proofs.Common.{◌≡◌, drop, map}
use Rattle.rela_tokens.specs.Pieces.{text}
use Rattle.rela_locations.specs.Load.{load_interfaces}
use Rattle.rela_locations.specs.Names.{with_names}
use Rattle.rela_locations.proofs.Loops.{with_front}
use Rattle.rela_locations.proofs.plain_device.add_interfaces.Given as goal

-- the names so far, and what comes of the texts that are left
abbrev pub invariant-loop-text : goal.invariant-loop-text
invariant-loop-text l = record {
  left : with_front l.names.items (load_interfaces l.seen (map text (drop l.text-index l.texts))) ≡ load_interfaces l.initial.seen (map text l.texts);
  seen : l.seen ≡ with_names l.initial.seen l.names.items;
}
