use Rattle.rela_claims.proofs.Numbering.{mentioned_stands, standing_is_mentioned, stands_at_its_own}
use Rattle.rela_claims.proofs.laws.classes_have_their_numbers.Goals as goal

pub returns : goal.returns
returns c = record { stands = mentioned_stands; mentioned = standing_is_mentioned; own = stands_at_its_own }
