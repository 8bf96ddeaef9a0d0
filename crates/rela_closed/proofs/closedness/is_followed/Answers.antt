use Rattle.std.proofs.Common.{◌≡◌, [], get_or, ◌∙◌}
use Rattle.rela_closed.specs.Listing.{IsFollowed, LeadsTo}
use Rattle.rela_closed.proofs.Leaving.{leads_as, some_of}
use Rattle.rela_closed.proofs.TakenBlocks.{block_leads, done_taken, fewer_remain, told_fewer}
use Rattle.rela_closed.proofs.closedness.is_followed.Goals as goal

pub loop-letter-preserved : goal.loop-letter-preserved
loop-letter-preserved g c =
    let over = g.L.LabelSet.letters c.args.over.now in
    let sets = get_or c.args.table.now c.args.number [] in
    let letter = c.loop-letter.letter in
    let block = g.L.LabelSet.letters c.in_ok-take.field-0 in
    let is = c.in_ok-take.ensures.block in
    let fewer = c.in_ok-take.ensures.fewer in
    let (to, follows) =
    some_of c.in_ok-follower.field-0 (λ to. LeadsTo c.loop-letter.reader c.loop-letter.table (get_or c.loop-letter.table c.args.number []) letter to) c.if-is_none.ensures
    c.in_ok-follower.ensures.follows in
    let kept = some_of c.in_ok-follower.field-0 (λ _. c.follower.new.table ≡ c.loop-letter.table) c.if-is_none.ensures c.in_ok-follower.ensures.kept in
    let leads =
    leads_as c.args.reader.now c.loop-letter.reader c.args.table.now c.loop-letter.table c.args.number letter to c.loop-letter.invariant.same c.loop-letter.invariant.kept follows in
    record {
      same = c.in_ok-follower.ensures.same ∙ c.loop-letter.invariant.same;
      kept = kept.1 ∙ c.loop-letter.invariant.kept;
      told = told_fewer block c.loop-letter.blocks c.take.new.self fewer c.args.reader.now sets c.loop-letter.invariant.told;
      over = λ k there. c.loop-letter.invariant.over k (fewer_remain block c.loop-letter.blocks c.take.new.self fewer k there);
      followed =
          done_taken over (λ k. IsFollowed c.args.reader.now c.args.table.now sets k) c.loop-letter.blocks c.take.new.self letter block is fewer
          (λ k read among. (
            to,
            record { below = leads.below; leads = block_leads c.args.reader.now sets c.loop-letter.blocks letter block c.loop-letter.invariant.told is k among (get_or c.args.table.now to []) leads.leads },
          )) c.loop-letter.invariant.followed;
    }
