use Rattle.rela_certfile.proofs.Derived.{ordered_from}
use Rattle.rela_certfile.proofs.laws.in_order.Goals as goal

pub returns : goal.returns
returns c = λ l rows i j a b are less at is. ordered_from l 0 rows i j a b are less at is
