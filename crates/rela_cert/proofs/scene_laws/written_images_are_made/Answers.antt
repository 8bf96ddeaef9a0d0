use Rattle.std.proofs.Common.{◌+◌, inl}
use Rattle.rela_cert.proofs.RefinedRelations.{image_made, image_passes}
use Rattle.rela_cert.proofs.scene_laws.written_images_are_made.Goals as goal

pub returns-clause-made : goal.returns-clause-made
returns-clause-made c at coarse fine x r words t u image is written =
    image_made c.tables_carry_over.ensures at coarse fine x r words t u is c.scenes_alike.ensures.pairs c.images_are_placed.ensures.placed
    c.symbols_give_letters.ensures.reached (c.path_terms_mean.ensures.image at x r) image written

pub returns-clause-passes : goal.returns-clause-passes
returns-clause-passes c at coarse fine x r words t u limit is more =
    image_passes c.tables_carry_over.ensures at coarse fine x r words t u is c.images_are_placed.ensures.passes c.letters_give_symbols.ensures.reached limit
    (λ reached. (c.reached_inside_path_terms.ensures.image at (limit + 1) x r).1 (inl reached)) more
