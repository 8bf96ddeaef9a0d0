use Rattle.rela_translate.proofs.FixedTerms.{after_fixed, before_fixed, zone_fixed}
use Rattle.rela_translate.proofs.laws.terms_name_no_paths.Goals as goal

pub returns-clause-zone : goal.returns-clause-zone
returns-clause-zone c = zone_fixed c.fixed_terms_by_form.ensures

pub returns-clause-before : goal.returns-clause-before
returns-clause-before c = before_fixed c.fixed_terms_by_form.ensures

pub returns-clause-after : goal.returns-clause-after
returns-clause-after c = after_fixed c.fixed_terms_by_form.ensures
