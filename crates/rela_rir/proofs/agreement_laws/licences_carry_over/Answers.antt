use Rattle.rela_rir.proofs.LicencesCarry as carry
use Rattle.rela_rir.proofs.agreement_laws.licences_carry_over.Goals as goal

pub returns-clause-reached : goal.returns-clause-reached
returns-clause-reached g c at other x agree k =
    let back = carry.turned (g.M.Staging.scene.of at) (g.M.Staging.scene.of other) x agree in
    (carry.reached_inside _ _ agree.symbols k x agree.paths, carry.reached_inside _ _ back.symbols k x back.paths)

pub returns-clause-reached_pairs : goal.returns-clause-reached_pairs
returns-clause-reached_pairs g c at other r agree k =
    let back = carry.turned_r (g.M.Staging.scene.of at) (g.M.Staging.scene.of other) r agree in
    (carry.reached_inside_r _ _ agree.symbols k r agree.paths, carry.reached_inside_r _ _ back.symbols k r back.paths)

pub returns-clause-forced_inside : goal.returns-clause-forced_inside
returns-clause-forced_inside g c at other x agree k =
    let back = carry.turned (g.M.Staging.scene.of at) (g.M.Staging.scene.of other) x agree in
    (carry.forced_inside _ _ agree.symbols k x agree.paths, carry.forced_inside _ _ back.symbols k x back.paths)

pub returns-clause-forced_pairs : goal.returns-clause-forced_pairs
returns-clause-forced_pairs g c at other r agree k =
    let back = carry.turned_r (g.M.Staging.scene.of at) (g.M.Staging.scene.of other) r agree in
    (carry.forced_inside_r _ _ agree.symbols k r agree.paths, carry.forced_inside_r _ _ back.symbols k r back.paths)

pub returns-clause-licensed : goal.returns-clause-licensed
returns-clause-licensed g c at other x y one two last limit =
    let back_one = carry.turned (g.M.Staging.scene.of at) (g.M.Staging.scene.of other) x one in
    let back_two = carry.turned (g.M.Staging.scene.of at) (g.M.Staging.scene.of other) y two in (
      carry.licensed _ _ one.symbols last x y limit one.paths two.paths,
      carry.licensed _ _ back_one.symbols last x y limit back_one.paths back_two.paths,
    )

pub returns-clause-forced : goal.returns-clause-forced
returns-clause-forced g c at other x y one two limit =
    let back_one = carry.turned (g.M.Staging.scene.of at) (g.M.Staging.scene.of other) x one in
    let back_two = carry.turned (g.M.Staging.scene.of at) (g.M.Staging.scene.of other) y two in (
      carry.forced _ _ one.symbols x y limit one.paths two.paths,
      carry.forced _ _ back_one.symbols x y limit back_one.paths back_two.paths,
    )
