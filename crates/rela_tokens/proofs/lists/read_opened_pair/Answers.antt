use Rattle.std.proofs.Common.{◌≡◌, Some, arith}
use Rattle.json.specs.Json.{after_end_array}
use Rattle.rela_tokens.proofs.Grown.{pair_held}
use Rattle.rela_tokens.proofs.lists.read_opened_pair.Goals as goal

pub returns-then-take_end_array-clause-pair : goal.returns-then-take_end_array-clause-pair
returns-then-take_end_array-clause-pair c =
    let closed : after_end_array c.read_number-2.new.reader ≡ Some c.take_end_array.new.self = grind arith in
    pair_held _ _ _ _ _ _ c.in_ok-first.ensures.number c.in_ok-second.ensures.number closed
