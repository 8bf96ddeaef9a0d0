use Rattle.std.proofs.Common.{inr}
use Rattle.rela_rir.specs.declared.term.PathTerm.TheVariants as P
use Rattle.rela_translate.specs.Terms.{after_of, before_of}
use Rattle.rela_cert.specs.RowNames.{no_flow}
use Rattle.rela_cert.proofs.NoPaths.{agree_r}
use Rattle.rela_cert.proofs.scene_laws.relations_pass_on.Goals as goal

pub returns-clause-before : goal.returns-clause-before
returns-clause-before c at k passes =
    let n = at.locations in
    let r = before_of n at.check.body in
    let same = c.licences_carry_over.ensures.reached_pairs (no_flow at.check n) at r (agree_r at r (c.terms_name_no_paths.ensures.before n at.check.body)) k in
    (c.reached_inside_path_terms.ensures.image at k P.Pre r).1 (inr (inr (same.0 passes)))

pub returns-clause-after : goal.returns-clause-after
returns-clause-after c at k passes =
    let n = at.locations in
    let r = after_of n at.check.body in
    let same = c.licences_carry_over.ensures.reached_pairs (no_flow at.check n) at r (agree_r at r (c.terms_name_no_paths.ensures.after n at.check.body)) k in
    (c.reached_inside_path_terms.ensures.image at k P.Post r).1 (inr (inr (same.0 passes)))
