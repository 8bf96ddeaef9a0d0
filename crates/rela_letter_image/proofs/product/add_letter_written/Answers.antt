use Rattle.std.proofs.Common.{nat_eq, sym}
use Rattle.std.specs.List.{slice_index}
use Rattle.rela_letter_image.specs.Coarse.{in_coarse}
use Rattle.rela_letter_image.specs.LetterMoves.{only_letter}
use Rattle.rela_letter_image.proofs.GrownSteps.{grows_found, grows_letter, same_pairs}
use Rattle.rela_letter_image.proofs.LaidOut.{has_only}
use Rattle.rela_letter_image.proofs.product.add_letter_written.Goals as goal

pub loop-letter-init : goal.loop-letter-init
loop-letter-init c = record {
  at = c.in_ok-number.ensures.numbered;
  grows = grows_found c.args.growing.now c.number.new.self c.args.to c.number.ensures.shape c.number.ensures.told c.number.ensures.parts c.number.ensures.found;
}

pub loop-letter-preserved : goal.loop-letter-preserved
loop-letter-preserved c =
    let to = c.args.to in
    let test = in_coarse c.args.coarse.now (only_letter c.args.letters c.args.only) in
    let n = c.loop-letter.letter in
    let q = c.in_ok-number.number in
    let added = nat_eq c.args.only (slice_index c.args.coarse.now n) in
    let here = c.loop-letter.invariant in
    let new = c.in_ok-add_edge_if.ensures in
    record {
      at = same_pairs test to n q added c.loop-letter.growing c.add_edge_if.new.growing new here.at;
      grows = grows_letter test to n q added c.args.growing.now c.loop-letter.growing c.add_edge_if.new.growing (sym (has_only c.args.letters c.args.only (slice_index c.args.coarse.now n) c.requires.only)) here.at new here.grows;
    }
