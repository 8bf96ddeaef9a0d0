use Rattle.rela_rir.proofs.InsideForms as inside
use Rattle.rela_rir.proofs.inside_laws.reached_inside_rel_terms.Goals as goal
use Rattle.rela_rir.specs.declared.term.PathTerm.TheOpen as F
use Rattle.rela_rir.specs.declared.term.RelTerm.TheVariants as R

pub returns-clause-identity : goal.returns-clause-identity
returns-clause-identity g c at k x = inside.uncounted_r (g.M.Staging.scene.of at) k (F.Identity x) _ (R.rolls-Identity x) (λ never. never)

pub returns-clause-product : goal.returns-clause-product
returns-clause-product g c at k x y = inside.uncounted_r (g.M.Staging.scene.of at) k (F.Product x y) _ (R.rolls-Product x y) (λ never. never)

pub returns-clause-union : goal.returns-clause-union
returns-clause-union g c at k r s = inside.uncounted_r (g.M.Staging.scene.of at) k (F.RelTerm::Union r s) _ (R.rolls-Union r s) (λ never. never)

pub returns-clause-concat : goal.returns-clause-concat
returns-clause-concat g c at k r s = inside.uncounted_r (g.M.Staging.scene.of at) k (F.RelTerm::Concat r s) _ (R.rolls-Concat r s) (λ never. never)

pub returns-clause-star : goal.returns-clause-star
returns-clause-star g c at k r = inside.uncounted_r (g.M.Staging.scene.of at) k (F.RelTerm::Star r) _ (R.rolls-Star r) (λ never. never)

pub returns-clause-compose : goal.returns-clause-compose
returns-clause-compose g c at k r s = inside.counted_r (g.M.Staging.scene.of at) k (F.Compose r s) _ (R.rolls-Compose r s) tt
