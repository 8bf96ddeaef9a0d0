use Rattle.rela_blame.proofs.Openings.{as_many_units}
use Rattle.rela_blame.proofs.laws.units_stand_in_their_order.Goals as goal

pub returns : goal.returns
returns c tokens tree spells = as_many_units tokens tree spells.grammar
