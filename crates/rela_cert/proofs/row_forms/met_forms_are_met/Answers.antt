use Rattle.std.proofs.Common.{length, refl}
use Rattle.rela_cert.specs.RowNames.{no_flow}
use Rattle.rela_cert.proofs.OneShape.{met_too}
use Rattle.rela_cert.proofs.TermsMean.{RelationsMean}
use Rattle.rela_cert.proofs.row_forms.met_forms_are_met.Goals as goal

pub returns : goal.returns
returns c known =
    let row = c.args.row.now in
    let check = row.check.now in
    let n = length row.alphabet.now in
    let kept = c.requires.kept.1 in
    let means : RelationsMean check n = record {
      before = c.terms_mean_the_body.ensures.before (no_flow check n) n check.body refl;
      after = c.terms_mean_the_body.ensures.after (no_flow check n) n check.body refl;
    } in
    met_too (Unit {0}) check row.alphabet.now c.args.kept.now.parts.blocks _ _ row.pair.now c.args.form.now.shape means kept.parts.blocks kept.relations.before
    kept.relations.after c.one_shape_renames.ensures c.renamed_flows_meet_alike.ensures c.requires.located c.requires.shape known
