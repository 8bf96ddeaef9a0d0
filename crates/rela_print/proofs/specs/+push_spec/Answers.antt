use Rattle.std.proofs.Common.{rules, ◌≡◌, ◌∷◌, [], arith, sym}
use Rattle.std.proofs.lemmas.Grind.{common_steps}
use Rattle.rela_print.specs.Printed.{within}
use Rattle.rela_print.specs.SpecTexts.{printed_spec}
use Rattle.rela_print.proofs.JoinedTexts.{row_is_whole, row_goes_on, row_begins, row_is_empty}
use Rattle.rela_print.proofs.PrintedSpecs.{spec_else}
use Rattle.rela_print.proofs.specs.+push_spec.Goals as goal

pub push_parts-returns-in_default : goal.push_parts-returns-in_default
push_parts-returns-in_default t c =
    let none : c.args.parts.now ≡ [] = grind (arith, common_steps) in
    row_is_empty c.args.between.now (λ part. within c.args.above (printed_spec part)) c.args.out.now.items c.args.parts.now none

pub push_parts-loop-part-init : goal.push_parts-loop-part-init
push_parts-loop-part-init t c = row_begins _ _ _

pub push_parts-loop-part-preserved : goal.push_parts-loop-part-preserved
push_parts-loop-part-preserved t c =
    row_goes_on c.args.between.now (λ part. within c.args.above (printed_spec part)) c.push_part.new.out.items c.loop-part.out.items
    c.extend_from_slice.new.self.items c.push_part-in-loop-part.new.out.items c.in-Some.others.now c.loop-part.part-index c.part-item.result
    c.loop-part-test.true c.part-item.is c.loop-part.invariant c.in_ok-extend_from_slice.ensures.items (c.in_ok-push_part-2.ensures {u = tt})

pub push_parts-returns : goal.push_parts-returns
push_parts-returns t c =
    let all : c.args.parts.now ≡ c.in-Some.first.now ∷ c.in-Some.others.now = search rules in
    row_is_whole c.args.between.now (λ part. within c.args.above (printed_spec part)) c.args.out.now.items c.push_part.new.out.items c.loop-part.out.items
    c.in-Some.first.now c.in-Some.others.now c.args.parts.now c.loop-part.part-index all c.loop-part-test.false
    (c.in_ok-push_part.ensures {u = tt}) c.loop-part.invariant

pub push_spec-returns-in-Else : goal.push_spec-returns-in-Else
push_spec-returns-in-Else t c = rw (c.in-Else.is, spec_else c.in-Else.parts, sym c.as_slice-in-Else.ensures) c.push_parts-in-Else.ensures
