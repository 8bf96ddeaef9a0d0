use Rattle.std.proofs.Common.{◌≡◌, ◌∷◌, arith}
use Rattle.json.specs.Token.{begin_array, end_array, string}
use Rattle.rela_tokens.proofs.Grown.{behind_two, empty_held, number_shown, number_taken}
use Rattle.rela_tokens.proofs.Standing.{deeper}
use Rattle.rela_tokens.proofs.piece.read_array.Goals as goal

pub returns-in-Some-EndArray-clause-piece : goal.returns-in-Some-EndArray-clause-piece
returns-in-Some-EndArray-clause-piece c =
    let is : c.args.reader.now ≡ end_array ∷ c.next.new.self = grind arith in
    empty_held 1 _ _ is

pub returns-in_ok-texts-in-Some-String-clause-piece : goal.returns-in_ok-texts-in-Some-String-clause-piece
returns-in_ok-texts-in-Some-String-clause-piece c =
    let is : c.args.reader.now ≡ string c.in-Some-String.first.now ∷ c.next.new.self = grind arith in
    behind_two 1 2 _ _ _ begin_array _ _ is (omega arith) c.in_ok-texts-in-Some-String.ensures.texts

pub returns-in_ok-numbers-in-Some-Number-clause-piece : goal.returns-in_ok-numbers-in-Some-Number-clause-piece
returns-in_ok-numbers-in-Some-Number-clause-piece c =
    let first = number_taken 0 _ _ _ (number_shown _ _ _ _ c.in-Some-Number.field-0-is c.in-Some-Number.ensures.token) in
    deeper 1 2 _ _ _ (omega arith) (c.in_ok-numbers-in-Some-Number.ensures.numbers _ first)

pub returns-in_ok-pairs-in-Some-BeginArray-clause-piece : goal.returns-in_ok-pairs-in-Some-BeginArray-clause-piece
returns-in_ok-pairs-in-Some-BeginArray-clause-piece c =
    let is : c.args.reader.now ≡ begin_array ∷ c.next.new.self = grind arith in
    behind_two 2 2 _ _ _ begin_array _ _ is (omega arith) c.in_ok-pairs-in-Some-BeginArray.ensures.pairs
