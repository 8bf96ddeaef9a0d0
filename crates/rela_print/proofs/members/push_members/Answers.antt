use Rattle.std.proofs.Common.{rules, ◌≡◌, ◌∷◌, [], codes, arith}
use Rattle.std.proofs.lemmas.Grind.{common_steps}
use Rattle.rela_print.specs.Members.{member_text}
use Rattle.rela_print.proofs.JoinedTexts.{row_is_whole, row_goes_on, row_begins, row_is_empty}
use Rattle.rela_print.proofs.members.push_members.Goals as goal

pub returns-in_default : goal.returns-in_default
returns-in_default c =
    let none : c.args.members.now ≡ [] = grind (arith, common_steps) in
    row_is_empty (codes " ") member_text c.args.out.now.items c.args.members.now none

pub loop-member-init : goal.loop-member-init
loop-member-init c = row_begins (codes " ") member_text c.push_member.new.out.items

pub loop-member-preserved : goal.loop-member-preserved
loop-member-preserved c =
    row_goes_on (codes " ") member_text c.push_member.new.out.items c.loop-member.out.items c.extend_from_slice.new.self.items c.push_member-in-loop-member.new.out.items
    c.in-Some.others.now c.loop-member.member-index c.member-item.result c.loop-member-test.true c.member-item.is c.loop-member.invariant
    c.in_ok-extend_from_slice.ensures.items (c.in_ok-push_member-2.ensures {u = tt})

pub returns : goal.returns
returns c =
    let all : c.args.members.now ≡ c.in-Some.first.now ∷ c.in-Some.others.now = search rules in
    row_is_whole (codes " ") member_text c.args.out.now.items c.push_member.new.out.items c.loop-member.out.items
    c.in-Some.first.now c.in-Some.others.now c.args.members.now c.loop-member.member-index all c.loop-member-test.false
    (c.in_ok-push_member.ensures {u = tt}) c.loop-member.invariant
