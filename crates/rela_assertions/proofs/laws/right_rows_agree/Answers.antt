use Rattle.rela_assertions.proofs.AgreementLaws.{rows_agree}
use Rattle.rela_assertions.proofs.laws.right_rows_agree.Goals as goal

pub returns : goal.returns
returns c = record { agree = λ names level states pairs others claims asserted rows told flows alike is other_is. rows_agree c.shortlex_is_total.ensures names level states pairs others claims asserted rows told flows alike is other_is }
