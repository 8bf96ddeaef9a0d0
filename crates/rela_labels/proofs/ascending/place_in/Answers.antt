use Rattle.rela_labels.proofs.AscendingLists.{place_or_none}
use Rattle.rela_labels.proofs.ascending.place_in.Goals as goal

pub returns : goal.returns
returns c = place_or_none _ _ c.binary_search.result c.ok.result c.requires c.binary_search.ensures.position c.ok.ensures.value
