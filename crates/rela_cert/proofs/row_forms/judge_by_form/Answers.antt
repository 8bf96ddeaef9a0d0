use Rattle.std.proofs.Common.{[], length, subst}
use Rattle.rela_cert.specs.RowParts.{paths_at}
use Rattle.rela_cert.specs.Rows.{Judges}
use Rattle.rela_cert.specs.Sharing.{IsMetBy}
use Rattle.rela_cert.specs.declared.judgement.Judgement.{Judgement}
use Rattle.rela_cert.proofs.OneShape.{forms_kept}
use Rattle.rela_cert.proofs.row_forms.judge_by_form.Goals as goal

pub form_of-requires-clause-blocks : goal.form_of-requires-clause-blocks
form_of-requires-clause-blocks c = c.requires.kept.1.relations.parts.blocks

pub returns-in_ok-keep_form-clause-kept : goal.returns-in_ok-keep_form-clause-kept
returns-in_ok-keep_form-clause-kept c count were =
    let row = c.args.row.now in
    let kept = c.args.kept.now in
    let judged : Judges row.check.now (length row.alphabet.now) (paths_at row) 4000000 [] c.args.images.now c.in_ok-judgement.judgement = c.in_ok-judgement.ensures [] in
    let met : IsMetBy (length row.alphabet.now) row.check.now (paths_at row) =
    subst (λ (j : Judgement). Judges row.check.now (length row.alphabet.now) (paths_at row) 4000000 [] c.args.images.now j) c.in-Met.is judged in
    record {
      relations = record { row = were.relations.row; parts = were.relations.parts; relations = were.relations.relations };
      met = forms_kept row.alphabet.now row.check.now kept.parts.blocks kept.met c.keep_form.new.met c.in_ok-form.form 256 c.in_ok-keep_form.ensures.room
          c.in_ok-keep_form.ensures.full were.met row.pair.now c.requires.located c.in_ok-form.ensures.shape met;
    }
