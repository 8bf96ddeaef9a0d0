use Rattle.rela_rir.proofs.Licences as licences
use Rattle.rela_rir.proofs.limit_laws.forced_is_licensed.Goals as goal

pub returns : goal.returns
returns g c at = licences.forced_is_licensed (g.M.Staging.scene.of at)
