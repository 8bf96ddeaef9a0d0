use Rattle.std.proofs.Common.{◌≡◌, ◌≤◌, Some, None, length, refl, arith}
use Rattle.json.specs.Json.{read_key}
use Rattle.rela_tokens.specs.Pieces.{member_of}
use Rattle.rela_tokens.proofs.Standing.{object_holds}
use Rattle.rela_tokens.proofs.Grown.{next_member}
use Rattle.rela_tokens.proofs.members.read_opened_members.Goals as goal

pub members-init : goal.members-init
members-init c = record {
  held = rw c.in_ok-members.ensures.items refl;
  shorter = omega arith;
}

pub members-preserved : goal.members-preserved
members-preserved c =
    let l = c.members in
    let key : read_key l.reader ≡ Some (Some c.in-Some.name.now, c.next_key.new.self) = grind arith in
    let known : length l.reader ≤ length c.args.reader.now = l.invariant.shorter in
    record {
      held = next_member member_of 2 _ _ _ _ _ _ _ key c.in_ok-push.ensures.items l.invariant.held c.in_ok-piece.ensures.piece;
      shorter = grind (arith, known);
    }

pub returns-clause-members : goal.returns-clause-members
returns-clause-members c =
    let closed : read_key c.members.reader ≡ Some (None, c.next_key.new.self) = grind arith in
    object_holds 2 _ _ _ _ c.members.invariant.held closed
