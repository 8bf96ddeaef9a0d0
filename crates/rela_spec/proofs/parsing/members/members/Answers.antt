use Rattle.std.proofs.Common.{rules, arith, ◌≡◌, ◌≢◌, Err, true, List, [], refl, sym, ◌∙◌, subst}
use Rattle.rela_lex.specs.declared.error.SpecError.TheVariants.{Memory}
use Rattle.rela_spec.specs.ReadPaths.{read_member, read_members, starts_member}
use Rattle.rela_spec.specs.Readings.{next_is}
use Rattle.rela_spec.specs.declared.tree.Member.{Member}
use Rattle.rela_spec.proofs.Loops.{Gathers, gathers_start, loop_more, loop_fault, from_none_fault}
use Rattle.rela_spec.proofs.parsing.members.members.Goals as goal

pub loop-alloc-init : goal.loop-alloc-init
loop-alloc-init c = record {
  end = refl;
  left = omega arith;
  read = subst (λ (xs : List Member). Gathers starts_member (read_member c.args.cursor.now.end c.args.room) [] c.args.cursor.now.rest.now xs c.args.cursor.now.rest.now) (sym c.new-members.ensures.items)
      (gathers_start starts_member (read_member c.args.cursor.now.end c.args.room) [] c.args.cursor.now.rest.now);
}

pub returns-in_err-member-clause-fault : goal.returns-in_err-member-clause-fault
unfolding read_members
returns-in_err-member-clause-fault c =
    let next : next_is starts_member c.loop-alloc.cursor.rest.now ≡ true = sym c.is_at_member.ensures ∙ c.loop-alloc-test.true in
    let fault : c.in_err-member.field-0.0 ≢ Memory → read_members c.args.cursor.now.end c.args.room c.args.cursor.now.rest.now ≡ Err c.in_err-member.field-0.0 =
    λ ne. from_none_fault starts_member (read_member c.args.cursor.now.end c.args.room) c.args.cursor.now.rest.now c.in_err-member.field-0.0
    (loop_fault starts_member (λ n. read_member n c.args.room) c.args.cursor.now.end c.loop-alloc.cursor.end c.loop-alloc.invariant.end [] c.args.cursor.now.rest.now c.loop-alloc.members.items c.loop-alloc.cursor.rest.now c.loop-alloc.invariant.read
    c.in_err-member.field-0.0 next (c.in_err-member.ensures.fault ne))
    in
    search rules

pub loop-alloc-preserved : goal.loop-alloc-preserved
loop-alloc-preserved c =
    let next : next_is starts_member c.loop-alloc.cursor.rest.now ≡ true = sym c.is_at_member.ensures ∙ c.loop-alloc-test.true in
    record {
      end = c.member.ensures.end ∙ c.loop-alloc.invariant.end;
      left = omega (arith, c.in_ok-member.ensures.less);
      read = loop_more starts_member (λ n. read_member n c.args.room) c.args.cursor.now.end c.loop-alloc.cursor.end c.loop-alloc.invariant.end [] c.args.cursor.now.rest.now c.loop-alloc.members.items c.loop-alloc.cursor.rest.now c.loop-alloc.invariant.read
          c.in_ok-member.field-0 c.push.new.self.items c.member.new.cursor.rest.now next c.in_ok-member.ensures.read c.in_ok-member.ensures.less c.in_ok-push.ensures.items;
    }
