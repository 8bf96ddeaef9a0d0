use Rattle.std.proofs.Common.{◌≡◌, ◌++◌, take, codes}
use Rattle.rela_print.specs.Joined.{behind}
use Rattle.rela_print.specs.Members.{member_text}
use Rattle.rela_print.proofs.members.push_members.Given as goal

abbrev pub invariant-loop-member : goal.invariant-loop-member
invariant-loop-member l = l.out.items ≡ l.initial.out.items ++ behind (codes " ") member_text (take l.member-index l.others)
