use Rattle.rela_rows.proofs.AgreeLaws.{all_rows_agree}
use Rattle.rela_rows.proofs.laws.right_rows_agree.Goals as goal

pub returns : goal.returns
returns c = record {
  agree = λ names states checks pairs others rows told same is other_is.
      all_rows_agree c.same_graphs_same_paths.ensures.paths names states c.plans_are_equal.ensures checks pairs others rows told same is other_is;
}
