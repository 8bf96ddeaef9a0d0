use Rattle.rela_rir.proofs.InsideForms as inside
use Rattle.rela_rir.proofs.inside_laws.reached_inside_path_terms.Goals as goal
use Rattle.rela_rir.specs.declared.term.PathTerm.TheOpen as F
use Rattle.rela_rir.specs.declared.term.PathTerm.TheVariants as P

pub returns-clause-none : goal.returns-clause-none
returns-clause-none g c at k = (inside.uncounted (g.M.Staging.scene.of at) k F.None _ P.rolls-None (λ never. never)).0

pub returns-clause-empty : goal.returns-clause-empty
returns-clause-empty g c at k = (inside.uncounted (g.M.Staging.scene.of at) k F.Empty _ P.rolls-Empty (λ never. never)).0

pub returns-clause-class : goal.returns-clause-class
returns-clause-class g c at k entry = (inside.uncounted (g.M.Staging.scene.of at) k (F.Class entry) _ (P.rolls-Class entry) (λ never. never)).0

pub returns-clause-one : goal.returns-clause-one
returns-clause-one g c at k s = (inside.uncounted (g.M.Staging.scene.of at) k (F.One s) _ (P.rolls-One s) (λ never. never)).0

pub returns-clause-union : goal.returns-clause-union
returns-clause-union g c at k x y = inside.uncounted (g.M.Staging.scene.of at) k (F.PathTerm::Union x y) _ (P.rolls-Union x y) (λ never. never)

pub returns-clause-concat : goal.returns-clause-concat
returns-clause-concat g c at k x y = inside.uncounted (g.M.Staging.scene.of at) k (F.PathTerm::Concat x y) _ (P.rolls-Concat x y) (λ never. never)

pub returns-clause-star : goal.returns-clause-star
returns-clause-star g c at k x = inside.uncounted (g.M.Staging.scene.of at) k (F.PathTerm::Star x) _ (P.rolls-Star x) (λ never. never)

pub returns-clause-meet : goal.returns-clause-meet
returns-clause-meet g c at k x y = inside.counted (g.M.Staging.scene.of at) k (F.Meet x y) _ (P.rolls-Meet x y) tt

pub returns-clause-complement : goal.returns-clause-complement
returns-clause-complement g c at k x = inside.counted (g.M.Staging.scene.of at) k (F.Complement x) _ (P.rolls-Complement x) tt

pub returns-clause-before : goal.returns-clause-before
returns-clause-before g c at k = (inside.uncounted (g.M.Staging.scene.of at) k F.Pre _ P.rolls-Pre (λ never. never)).0

pub returns-clause-after : goal.returns-clause-after
returns-clause-after g c at k = (inside.uncounted (g.M.Staging.scene.of at) k F.Post _ P.rolls-Post (λ never. never)).0

pub returns-clause-image : goal.returns-clause-image
returns-clause-image g c at k x r = inside.counted (g.M.Staging.scene.of at) k (F.Image x r) _ (P.rolls-Image x r) tt
