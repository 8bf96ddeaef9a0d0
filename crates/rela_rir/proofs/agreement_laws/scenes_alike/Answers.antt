use Rattle.rela_rir.proofs.ScenesAlike.{carries, carries_r}
use Rattle.rela_rir.proofs.agreement_laws.scenes_alike.Goals as goal

pub returns-clause-words : goal.returns-clause-words
returns-clause-words g c at other x agree w =
    let both = carries (g.M.Staging.scene.of at) (g.M.Staging.scene.of other) agree.symbols.setting x agree.paths in
    (both.0.words w, both.1.words w)

pub returns-clause-places : goal.returns-clause-places
returns-clause-places g c at other x agree p w =
    let both = carries (g.M.Staging.scene.of at) (g.M.Staging.scene.of other) agree.symbols.setting x agree.paths in
    (both.0.places p w, both.1.places p w)

pub returns-clause-apart : goal.returns-clause-apart
returns-clause-apart g c at other x agree p q =
    let both = carries (g.M.Staging.scene.of at) (g.M.Staging.scene.of other) agree.symbols.setting x agree.paths in
    (both.0.apart p q, both.1.apart p q)

pub returns-clause-pairs : goal.returns-clause-pairs
returns-clause-pairs g c at other r agree u v =
    let both = carries_r (g.M.Staging.scene.of at) (g.M.Staging.scene.of other) agree.symbols.setting r agree.paths in
    (both.0.pairs u v, both.1.pairs u v)

pub returns-clause-pair_places : goal.returns-clause-pair_places
returns-clause-pair_places g c at other r agree p u v =
    let both = carries_r (g.M.Staging.scene.of at) (g.M.Staging.scene.of other) agree.symbols.setting r agree.paths in
    (both.0.places p u v, both.1.places p u v)

pub returns-clause-pair_apart : goal.returns-clause-pair_apart
returns-clause-pair_apart g c at other r agree p q =
    let both = carries_r (g.M.Staging.scene.of at) (g.M.Staging.scene.of other) agree.symbols.setting r agree.paths in
    (both.0.apart p q, both.1.apart p q)
