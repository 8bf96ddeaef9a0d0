use Rattle.rela_rir.proofs.LicencesCarry.{turned, turned_r}
use Rattle.rela_rir.proofs.ReachedPlaces as tables
use Rattle.rela_rir.proofs.table_laws.tables_carry_over.Goals as goal

pub returns : goal.returns
returns g c =
    let M = g.M.Machinery.machines in
    let m = M.scene.of in record {
      paths = λ at other x a agree. (
        tables.placed (m at) (m other) x (M.reach a) agree,
        tables.placed (m other) (m at) x (M.reach a) (turned (m at) (m other) x agree),
      );
      relations = λ at other r t agree. (
        tables.placed_r (m at) (m other) r (M.reach_pair t) agree,
        tables.placed_r (m other) (m at) r (M.reach_pair t) (turned_r (m at) (m other) r agree),
      );
      counted = λ at other x n a agree. (
        tables.counted (m at) (m other) x (M.reach a) M.exactly n agree,
        tables.counted (m other) (m at) x (M.reach a) M.exactly n (turned (m at) (m other) x agree),
      );
      counted_relations = λ at other r n t agree. (
        tables.counted_r (m at) (m other) r (M.reach_pair t) M.exactly n agree,
        tables.counted_r (m other) (m at) r (M.reach_pair t) M.exactly n (turned_r (m at) (m other) r agree),
      );
      exact = λ at other x n a table agree. (
        tables.exact (m at) (m other) x (M.reach a) agree n table,
        tables.exact (m other) (m at) x (M.reach a) (turned (m at) (m other) x agree) n table,
      );
      exact_relations = λ at other r n t table agree. (
        tables.exact_r (m at) (m other) r (M.reach_pair t) agree n table,
        tables.exact_r (m other) (m at) r (M.reach_pair t) (turned_r (m at) (m other) r agree) n table,
      );
      alike = λ at x a b. tables.placed_alike (m at) x (M.reach a) (M.reach b);
      relations_alike = λ at r t u. tables.placed_alike_r (m at) r (M.reach_pair t) (M.reach_pair u);
    }
