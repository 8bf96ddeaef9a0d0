use Rattle.std.proofs.Common.{arith}
use Rattle.rela_certfile.proofs.Derived.{row_appended}
use Rattle.rela_certfile.proofs.laws.row_appended.Goals as goal

pub returns : goal.returns
returns c = λ l rows row are before listed. row_appended l 0 rows row are before (omega arith) listed
