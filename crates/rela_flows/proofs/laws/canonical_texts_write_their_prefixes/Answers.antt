use Rattle.rela_flows.proofs.OwnText.{text_of_is_text}
use Rattle.rela_flows.proofs.laws.canonical_texts_write_their_prefixes.Goals as goal

pub returns : goal.returns
returns c = text_of_is_text
