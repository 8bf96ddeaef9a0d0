use Rattle.rela_blame.proofs.Zoned.{IsOther, blamed, not_all_others, number_of, others_more}
use Rattle.rela_blame.proofs.zoning.Specification.zone_of.Goals as goal

pub offset_of-requires-clause-number : goal.offset_of-requires-clause-number
offset_of-requires-clause-number c =
    let spec = c.args.self.now in
    let answer = rw c.in-Some.is at c.in_ok-number.ensures in
    number_of spec.file.now spec.tokens.now spec.checks.now c.loop-index.index c.branches-item.result c.loop-index-test.true c.branches-item.is c.in-Some.number c.args.source.now
    c.requires.placed answer.1

pub returns-in-Some-clause-zone : goal.returns-in-Some-clause-zone
returns-in-Some-clause-zone c =
    let spec = c.args.self.now in
    let answer = rw c.in-Some.is at c.in_ok-number.ensures in
    blamed spec.file.now spec.tokens.now spec.checks.now c.loop-index.index c.branches-item.result c.loop-index-test.true c.branches-item.is c.in-Some.number c.in_ok-at.at
    c.args.name.now c.args.source.now answer.0 answer.1 c.in_ok-at.ensures.offset

pub loop-index-preserved : goal.loop-index-preserved
loop-index-preserved c =
    let spec = c.args.self.now in
    let other = rw c.in_default.is at c.in_ok-number.ensures in
    record {
      others = others_more (IsOther c.args.name.now c.args.source.now) spec.checks.now c.loop-index.index c.branches-item.result c.loop-index-test.true c.branches-item.is
          c.loop-index.invariant.others other;
      offsets = c.loop-index.invariant.offsets;
    }

pub unreachable-requires : goal.unreachable-requires
unreachable-requires c =
    let spec = c.args.self.now in
    not_all_others c.loop-index.index c.args.name.now c.args.source.now spec.checks.now c.loop-index-test.false c.loop-index.invariant.others c.requires.claimed
