use Rattle.std.proofs.Common.{◌<◌, length, get_or, true, arith, ◌∙◌}
use Rattle.std.proofs.lemmas.List.{length-set}
use Rattle.std.proofs.lemmas.List.Elements.{All-get_or}
use Rattle.rela_branches.proofs.Marks.{mark_done, mark_more}
use Rattle.rela_branches.proofs.places.mark_all.Goals as goal

pub loop-place-preserved : goal.loop-place-preserved
loop-place-preserved c =
    let same = c.loop-place.auto.marks in
    let first : get_or c.args.places.now c.loop-place.place-index 0 < length c.args.marks.now =
    All-get_or (λ i. i < length c.args.marks.now) c.args.places.now c.loop-place.place-index 0 c.loop-place-test.true c.requires in
    let below : get_or c.args.places.now c.loop-place.place-index 0 < length c.loop-place.marks = omega arith in record {
      long = length-set c.loop-place.marks (get_or c.args.places.now c.loop-place.place-index 0) true ∙ same;
      has = mark_more c.args.marks.now c.loop-place.marks c.args.places.now c.loop-place.place-index c.loop-place-test.true below c.loop-place.invariant.has;
    }

pub returns-clause-marks : goal.returns-clause-marks
returns-clause-marks c =
    mark_done c.args.marks.now c.loop-place.marks c.args.places.now c.loop-place.place-index c.loop-place-test.false c.loop-place.invariant.has
