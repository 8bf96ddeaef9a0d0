use Rattle.std.proofs.Common.{◌≡◌, ◌∷◌, arith}
use Rattle.json.specs.Token.{begin_array}
use Rattle.rela_tokens.specs.Pieces.{pair}
use Rattle.rela_tokens.proofs.Grown.{passed}
use Rattle.rela_tokens.proofs.lists.read_pair.Goals as goal

pub returns-in-Some-BeginArray-clause-pair : goal.returns-in-Some-BeginArray-clause-pair
returns-in-Some-BeginArray-clause-pair c =
    let is : c.args.reader.now ≡ begin_array ∷ c.next.new.self = grind arith in
    passed pair 1 _ _ _ begin_array _ is c.read_opened_pair.ensures.pair
