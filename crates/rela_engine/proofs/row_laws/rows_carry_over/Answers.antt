use Rattle.std.proofs.Common.{true, false}
use Rattle.rela_blocks.specs.Scenes.{after_image, before_image}
use Rattle.rela_engine.proofs.CarriedRows.{agree, carried}
use Rattle.rela_engine.proofs.row_laws.rows_carry_over.Goals as goal

pub returns : goal.returns
returns g c same check locations limit row is =
    let p = g.P.TwoPathSets.paths in
    let q = g.Q.TwoPathSets.paths in
    let before = before_image check locations in
    let after = after_image check locations in
    let alike = agree check locations limit p q same in
    carried check locations limit p q same
    (λ last. c.licences_carry_over.ensures.licensed (check, locations, true) (check, locations, false) before after (alike before) (alike after) last limit)
    (c.licences_carry_over.ensures.forced (check, locations, true) (check, locations, false) before after (alike before) (alike after) limit) row is
