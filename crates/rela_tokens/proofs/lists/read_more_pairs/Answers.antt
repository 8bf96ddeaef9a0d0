use Rattle.std.proofs.Common.{◌≡◌, ◌≤◌, Some, length, arith}
use Rattle.json.specs.Json.{after_end_array}
use Rattle.rela_tokens.specs.Pieces.{pair}
use Rattle.rela_tokens.proofs.Standing.{array_holds}
use Rattle.rela_tokens.proofs.Grown.{first_held, next_held}
use Rattle.rela_tokens.proofs.lists.read_more_pairs.Goals as goal

pub pairs-init : goal.pairs-init
pairs-init c = record {
  held = λ start h. first_held pair 1 _ _ _ _ _ c.in_ok-pairs.ensures.items c.in_ok-push.ensures.items h;
  shorter = omega arith;
}

pub pairs-preserved : goal.pairs-preserved
pairs-preserved c =
    let l = c.pairs in
    let same : c.take_end_array.new.self ≡ l.reader = grind arith in
    let known : length l.reader ≤ length c.args.reader.now = l.invariant.shorter in
    record {
      held = λ start h. next_held pair 1 _ _ _ _ _ _ _ same c.in_ok-push-2.ensures.items (l.invariant.held start h) c.in_ok-next.ensures.pair;
      shorter = grind (arith, known);
    }

pub returns-clause-pairs : goal.returns-clause-pairs
returns-clause-pairs c start h =
    let closed : after_end_array c.pairs.reader ≡ Some c.take_end_array.new.self = grind arith in
    array_holds 1 _ _ _ _ (c.pairs.invariant.held start h) closed
