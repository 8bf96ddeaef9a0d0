use Rattle.std.proofs.Common.{◌≤◌, length, map}
use Rattle.rela_tokens.specs.Holds.{HoldsMembers}
use Rattle.rela_tokens.specs.Pieces.{member_of}
use Rattle.rela_tokens.proofs.members.read_opened_members.Given as goal

abbrev pub invariant-members : goal.invariant-members
invariant-members l = record {
  held : HoldsMembers 2 l.initial.reader (map member_of l.members.items) l.reader;
  shorter : length l.reader ≤ length l.initial.reader;
}

abbrev pub decreases-members : goal.decreases-members
decreases-members l = length l.reader
