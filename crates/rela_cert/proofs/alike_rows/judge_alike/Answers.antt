use Rattle.std.proofs.Common.{◌≡◌, ◌↔◌, ℕ, List, length, refl, sym, subst}
use Rattle.rela_graph.specs.Outline.{outline_of}
use Rattle.rela_graph.specs.Paths.{Paths}
use Rattle.rela_names.specs.declared.level.Level.{Level}
use Rattle.rela_cert.specs.RowNames.{no_flow}
use Rattle.rela_cert.proofs.AlikeRows.{meets_alike}
use Rattle.rela_cert.proofs.TermsMean.{RelationsMean}
use Rattle.rela_cert.proofs.alike_rows.judge_alike.Goals as goal

pub before_image-requires-clause-relations : goal.before_image-requires-clause-relations
before_image-requires-clause-relations c = c.requires.kept.1.relations

pub judge_one-requires-clause-met : goal.judge_one-requires-clause-met
judge_one-requires-clause-met c =
    let row = c.args.row.now in
    let names = row.alphabet.now in
    let pre = row.pair.now.before in
    let post = row.pair.now.after in
    let n = length names in
    let means : RelationsMean row.check.now n = record {
      before = c.terms_mean_the_body.ensures.before (no_flow row.check.now n) n row.check.now.body refl;
      after = c.terms_mean_the_body.ensures.after (no_flow row.check.now n) n row.check.now.body refl;
    } in
    meets_alike row.check.now n means (c.requires.kept.1.relations.alone c.requires.alike.0)
    (Paths pre row.check.now.level names) (Paths post row.check.now.level names)
    (subst (λ (l : Level). (w : List ℕ) → Paths pre l names w ↔ Paths post l names w) c.level.ensures
    (c.same_outline_same_paths.ensures (subst (λ (l : Level). outline_of l pre ≡ outline_of l post) (sym c.level.ensures) c.requires.alike.1) names))

pub returns-in_ok-pass_limit-in-Err-clause-judged : goal.returns-in_ok-pass_limit-in-Err-clause-judged
returns-in_ok-pass_limit-in-Err-clause-judged c listed = c.in-Err.ensures.limit c.in_ok-pass_limit-in-Err.ensures.limit
