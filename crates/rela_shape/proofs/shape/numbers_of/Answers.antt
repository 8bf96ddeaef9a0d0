use Rattle.std.proofs.Common.{get_or, length, sym, ap, arith}
use Rattle.std.proofs.lemmas.List.{length_push}
use Rattle.rela_shape.proofs.Numbers.{begun_more, keys_grown, numbers_done}
use Rattle.rela_shape.proofs.shape.numbers_of.Goals as goal

pub loop-place-preserved : goal.loop-place-preserved
loop-place-preserved c =
    let places = c.args.places.now in
    let place = get_or places c.loop-place.place-index 0 in
    let keys = c.loop-place.seen.keys in
    let new = c.insert_full.new.self.keys in
    let numbers = c.loop-place.numbers.items in
    let number = c.in_ok-number.number in
    let inv = c.loop-place.invariant in
    let one = c.in_ok-number.ensures in
    record {
      len = omega (arith, ap length c.in_ok-push.ensures.items, length_push numbers number, inv.len);
      begun =
          begun_more places keys new numbers c.push.new.self.items place number inv.begun
          (keys_grown keys new place number one.keys c.insert_full.ensures.unique one.within one.stored)
          (ap (λ i. get_or places i 0) (sym inv.len)) c.in_ok-push.ensures.items;
      distinct = c.insert_full.ensures.unique;
    }

pub returns : goal.returns
returns c =
    let inv = c.loop-place.invariant in
    numbers_done c.args.places.now c.loop-place.seen.keys c.loop-place.numbers.items inv.begun inv.distinct (omega (arith, inv.len))
