use Rattle.std.proofs.Common.{◌≡◌, List, ℕ, map, sym, subst}
use Rattle.std.specs.Prelude.{IfOk}
use Rattle.std.proofs.lemmas.Result.{IfOk-weaker}
use Rattle.rela_build.specs.Reading.{read_by}
use Rattle.rela_nfa.specs.Runs.{Accepts}
use Rattle.rela_trans.specs.Machine.{Machine}
use Rattle.rela_trans.specs.Runs.{Relates}
use Rattle.rela_engine.specs.Reading.{Realises, RealisesFrom}
use Rattle.rela_engine.specs.Seen.{LeadAlike, machine_of}
use Rattle.rela_engine.specs.declared.seen.Form.{Form}
use Rattle.rela_engine.specs.declared.seen.Form.TheVariants as form
use Rattle.rela_engine.proofs.Rereading.{realises_all}
use Rattle.rela_engine.proofs.seen.relation_over.Goals as goal

pub returns-in-Small-clause-relation : goal.returns-in-Small-clause-relation
returns-in-Small-clause-relation g c =
    let blocks = c.args.blocks.now in
    let words : List ℕ → Type 0 = λ u. Accepts c.args.paths.now (map (read_by blocks) u) in
    subst (λ (f : Form). IfOk c.small_relation.result (RealisesFrom blocks words (Relates (read_by c.args.coarse.now) (machine_of f c.args.relation.now)))) (sym c.in-Small.is)
    (subst (λ (m : Machine). IfOk c.small_relation.result (RealisesFrom blocks words (Relates (read_by c.args.coarse.now) m))) c.small.ensures
    c.small_relation.ensures.relation)

pub returns-in-Plain-clause-relation : goal.returns-in-Plain-clause-relation
returns-in-Plain-clause-relation g c =
    let blocks = c.args.blocks.now in
    let words : List ℕ → Type 0 = λ u. Accepts c.args.paths.now (map (read_by blocks) u) in
    let pairs = Relates (read_by c.args.coarse.now) c.plain.result.now in
    subst (λ (f : Form). IfOk c.whole_relation.result (RealisesFrom blocks words (Relates (read_by c.args.coarse.now) (machine_of f c.args.relation.now)))) (sym c.in-Plain.is)
    (subst (λ (m : Machine). IfOk c.whole_relation.result (RealisesFrom blocks words (Relates (read_by c.args.coarse.now) m))) c.plain.ensures
    (IfOk-weaker c.whole_relation.result (Realises blocks pairs) (RealisesFrom blocks words pairs) (realises_all blocks words pairs) c.whole_relation.ensures.relation))

pub returns-in-Plain-clause-reached : goal.returns-in-Plain-clause-reached
returns-in-Plain-clause-reached g c =
    IfOk-weaker c.whole_relation.result (LeadAlike c.args.coarse.now c.plain.result.now c.args.blocks.now)
    (λ t. c.args.form ≡ form.Plain → LeadAlike c.args.coarse.now c.args.relation.now.plain c.args.blocks.now t)
    (λ t alike plain. subst (λ (m : Machine). LeadAlike c.args.coarse.now m c.args.blocks.now t) c.plain.ensures alike)
    c.whole_relation.ensures.reached
