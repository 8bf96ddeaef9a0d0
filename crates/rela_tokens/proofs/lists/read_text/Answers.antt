use Rattle.std.proofs.Common.{◌≡◌, ◌∷◌, arith}
use Rattle.json.specs.Token.{string}
use Rattle.rela_tokens.proofs.Grown.{text_taken}
use Rattle.rela_tokens.proofs.lists.read_text.Goals as goal

pub returns-in-Some-String-clause-text : goal.returns-in-Some-String-clause-text
returns-in-Some-String-clause-text c =
    let is : c.args.reader.now ≡ string c.in-Some-String.text.now ∷ c.next.new.self = grind arith in
    text_taken 0 _ _ _ is
