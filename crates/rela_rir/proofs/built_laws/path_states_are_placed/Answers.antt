use Rattle.rela_rir.proofs.ExactTables as exact
use Rattle.rela_rir.proofs.LeafTables as leaf
use Rattle.rela_rir.proofs.built_laws.path_states_are_placed.Goals as goal

pub returns : goal.returns
returns g c at n u states =
    let M = g.M.Machinery.machines in record {
      table = leaf.path_table n;
      is_table = leaf.path_states n (M.scene.of at).pre (M.reach u) states;
      exact = exact.path_states n (M.scene.of at).pre (M.reach u) states;
    }
