use Rattle.std.proofs.Common.{◌≡◌, ◌∷◌, arith}
use Rattle.json.specs.Token.{begin_array, string}
use Rattle.rela_tokens.specs.Pieces.{data_of}
use Rattle.rela_tokens.proofs.Grown.{number_shown, number_taken, passed, text_taken}
use Rattle.rela_tokens.proofs.piece.read_piece.Goals as goal

pub returns-in-Some-String-clause-piece : goal.returns-in-Some-String-clause-piece
returns-in-Some-String-clause-piece c =
    let is : c.args.reader.now ≡ string c.in-Some-String.text.now ∷ c.next.new.self = grind arith in
    text_taken 2 _ _ _ is

pub returns-in-Some-Number-clause-piece : goal.returns-in-Some-Number-clause-piece
returns-in-Some-Number-clause-piece c = number_taken 2 _ _ _ (number_shown _ _ _ _ c.in-Some-Number.field-0-is c.in-Some-Number.ensures.token)

pub returns-in-Some-BeginArray-clause-piece : goal.returns-in-Some-BeginArray-clause-piece
returns-in-Some-BeginArray-clause-piece c =
    let is : c.args.reader.now ≡ begin_array ∷ c.next.new.self = grind arith in
    passed data_of 2 _ _ _ begin_array _ is c.read_array.ensures.piece
