use Rattle.rela_rir.proofs.ReachedPlaces as tables
use Rattle.rela_rir.proofs.table_laws.reached_states_are_places.Goals as goal

pub returns : goal.returns
returns g c at =
    let M = g.M.Machinery.machines in
    let m = M.scene.of at in record {
      paths = λ x a placed. tables.reached m x (M.reach a) placed.table placed.is_table;
      relations = λ r t placed. tables.reached_r m r (M.reach_pair t) placed.table placed.is_table;
      meet = λ x y a b. tables.meet m x y (M.reach a) (M.reach b);
      image = λ x r a t. tables.image m x r (M.reach a) (M.reach_pair t);
      compose = λ r s t u. tables.composed m r s (M.reach_pair t) (M.reach_pair u);
      complement = λ x a. tables.complement m x (M.reach a);
      comparison = λ last x y a b. tables.comparison m last x y (M.reach a) (M.reach b);
    }
