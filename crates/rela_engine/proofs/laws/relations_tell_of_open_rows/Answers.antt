use Rattle.rela_engine.proofs.OpenRows.{not_forced, undecided}
use Rattle.rela_engine.proofs.laws.relations_tell_of_open_rows.Goals as goal

pub returns-clause-missing : goal.returns-clause-missing
returns-clause-missing c =
    undecided c.terms_name_no_paths.ensures.before c.terms_name_no_paths.ensures.after
    c.reached_inside_path_terms.ensures.image c.licences_carry_over.ensures.reached_pairs

pub returns-clause-there : goal.returns-clause-there
returns-clause-there c =
    let parts = c.complemented_parts_of_path_terms.ensures in
    not_forced c.terms_name_no_paths.ensures.before c.terms_name_no_paths.ensures.after
    parts.before parts.after parts.image c.complements_inside.ensures.forced c.complements_inside.ensures.forced_pairs
    c.licences_carry_over.ensures.forced_pairs
