use Rattle.std.proofs.Common.{◌≡◌, ◌∷◌, map, arith}
use Rattle.json.specs.Token.{begin_object}
use Rattle.rela_tokens.specs.Objects.{object_of}
use Rattle.rela_tokens.specs.Pieces.{member_of}
use Rattle.rela_tokens.proofs.Grown.{passed}
use Rattle.rela_tokens.proofs.members.read_members.Goals as goal

pub returns-in-Some-BeginObject-clause-members : goal.returns-in-Some-BeginObject-clause-members
returns-in-Some-BeginObject-clause-members c =
    let is : c.args.reader.now ≡ begin_object ∷ c.next.new.self = grind arith in
    passed (λ members. object_of (map member_of members.items)) 3 _ _ _ begin_object _ is c.read_opened_members.ensures.members
