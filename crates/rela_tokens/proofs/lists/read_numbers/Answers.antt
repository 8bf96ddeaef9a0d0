use Rattle.std.proofs.Common.{◌≡◌, ◌≤◌, Some, length, arith}
use Rattle.json.specs.Json.{after_end_array}
use Rattle.rela_tokens.specs.Pieces.{whole}
use Rattle.rela_tokens.proofs.Standing.{array_holds}
use Rattle.rela_tokens.proofs.Grown.{first_held, next_held}
use Rattle.rela_tokens.proofs.lists.read_numbers.Goals as goal

pub numbers-init : goal.numbers-init
numbers-init c = record {
  held = λ start h. first_held whole 0 _ _ _ _ _ c.in_ok-numbers.ensures.items c.in_ok-push.ensures.items h;
  shorter = omega arith;
}

pub numbers-preserved : goal.numbers-preserved
numbers-preserved c =
    let l = c.numbers in
    let same : c.take_end_array.new.self ≡ l.reader = grind arith in
    let known : length l.reader ≤ length c.args.reader.now = l.invariant.shorter in
    record {
      held = λ start h. next_held whole 0 _ _ _ _ _ _ _ same c.in_ok-push-2.ensures.items (l.invariant.held start h) c.in_ok-next.ensures.number;
      shorter = grind (arith, known);
    }

pub returns-clause-numbers : goal.returns-clause-numbers
returns-clause-numbers c start h =
    let closed : after_end_array c.numbers.reader ≡ Some c.take_end_array.new.self = grind arith in
    array_holds 0 _ _ _ _ (c.numbers.invariant.held start h) closed
