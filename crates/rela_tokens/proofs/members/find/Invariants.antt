use Rattle.std.proofs.Common.{◌≡◌, ◌≤◌, length, map}
use Rattle.serde_json.specs.Data.{no_members}
use Rattle.serde_json.specs.Find.{get_member}
use Rattle.rela_tokens.specs.Objects.{puts}
use Rattle.rela_tokens.specs.Pieces.{member_of}
use Rattle.rela_tokens.proofs.Found.{members_before}
use Rattle.rela_tokens.proofs.members.find.Given as goal

abbrev pub invariant-loop-left : goal.invariant-loop-left
invariant-loop-left l = record {
  same : get_member l.name (members_before l.left l.members) ≡ get_member l.name (puts (map member_of l.members) no_members);
  few : l.left ≤ length l.members;
}

abbrev pub decreases-loop-left : goal.decreases-loop-left
decreases-loop-left l = l.left
