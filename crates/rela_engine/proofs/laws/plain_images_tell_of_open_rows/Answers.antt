use Rattle.std.proofs.Common.{Some}
use Rattle.rela_engine.specs.FlowMachines.{check_name}
use Rattle.rela_engine.proofs.PlainRows.{after_open, before_open, both_open}
use Rattle.rela_engine.proofs.laws.plain_images_tell_of_open_rows.Goals as goal

pub returns-clause-before : goal.returns-clause-before
returns-clause-before c k relations are blocks is symbols f =
    before_open c.terms_name_no_paths.ensures.before c.terms_name_no_paths.ensures.after c.tables_carry_over.ensures c.built_terms_are_placed.ensures
    k relations are blocks is symbols f c.images_are_placed.ensures.passes c.reached_inside_path_terms.ensures.image

pub returns-clause-after : goal.returns-clause-after
returns-clause-after c k relations are blocks is symbols f =
    after_open c.terms_name_no_paths.ensures.before c.terms_name_no_paths.ensures.after c.tables_carry_over.ensures c.built_terms_are_placed.ensures
    k relations are blocks is symbols f c.images_are_placed.ensures.passes c.reached_inside_path_terms.ensures.image

pub returns-clause-both : goal.returns-clause-both
returns-clause-both c k relations are blocks symbols f pre_paths pre_relation pre_image post_paths post_relation post_image sides =
    both_open c.terms_name_no_paths.ensures.before c.terms_name_no_paths.ensures.after c.tables_carry_over.ensures c.built_terms_are_placed.ensures
    k relations are blocks sides.partition symbols f c.images_are_placed.ensures.placed
    pre_paths pre_relation pre_image post_paths post_relation post_image sides (c.reached_states_are_places.ensures (check_name k.check k.locations (Some f)))
