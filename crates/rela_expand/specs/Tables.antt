-- A class table as it is filled.
use Rattle.std.specs.Prelude.{◌≡◌, map}
use Rattle.rela_expand.specs.Expand.{symbols_in}
use Rattle.rela_expand.specs.Forms.{capped}
use Rattle.rela_expand.specs.Numbering.{Listing, Numbering}
use Rattle.rela_expand.specs.declared.entry.Entry.{Entry}
use Rattle.rela_expand.specs.declared.numbers.Numbers.{Numbers}

abbrev pub entry_of : Entry → Listing
entry_of entry = record { negated = entry.negated; members = entry.members.items }

-- what is numbered so far
abbrev pub numbering_of : Numbers → Numbering
numbering_of numbers = record {
  classes = map entry_of numbers.classes.keys;
  markers = numbers.markers;
}

-- the symbols that the classes list are counted as far as 64 bits go
abbrev pub IsCounted : Numbers → Type 0
IsCounted numbers = numbers.listed ≡ capped (symbols_in (map entry_of numbers.classes.keys))
