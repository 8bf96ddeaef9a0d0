use Rattle.std.proofs.Common.{arith}
use Rattle.rela_json.proofs.Lists.{list_of-items_of}
use Rattle.rela_json.proofs.parts.array.Goals as goal

pub returns-clause-found : goal.returns-clause-found
returns-clause-found c = grind (arith, list_of-items_of)
