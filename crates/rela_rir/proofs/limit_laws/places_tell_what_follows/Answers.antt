use Rattle.rela_rir.proofs.TermsFollow.{terms_follow}
use Rattle.rela_rir.proofs.limit_laws.places_tell_what_follows.Goals as goal

pub returns : goal.returns
returns g c at = terms_follow (g.M.Staging.scene.of at)
