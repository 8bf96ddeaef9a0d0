use Rattle.std.proofs.Common.{◌∷◌, [], length, get_or, not, map, refl, ap, ◌∙◌, arith}
use Rattle.std.proofs.lemmas.List.{length-map}
use Rattle.std.proofs.lemmas.Result.{IfOk-weaker}
use Rattle.rela_closed.specs.Sets.{HasFinal}
use Rattle.rela_closed.proofs.Accepting.{met_set, others_tell, some_set}
use Rattle.rela_closed.proofs.complementing.refused_of.Goals as goal

pub finals_of-requires-clause-some : goal.finals_of-requires-clause-some
finals_of-requires-clause-some g c = some_set (c.args.a.now ∷ []) 0 (omega arith) c.args.table.now c.requires

pub finals_of-requires-clause-met : goal.finals_of-requires-clause-met
finals_of-requires-clause-met g c = met_set (c.args.a.now ∷ []) 0 (omega arith) c.args.table.now c.args.a.now refl c.requires

pub returns-clause-each : goal.returns-clause-each
returns-clause-each g c =
    IfOk-weaker c.opposite.result _ _ (λ flags are. ap length (are ∙ ap (map not) c.deref.ensures.value) ∙ length-map c.in_ok-finals.finals.items not ∙ c.in_ok-finals.ensures.each) c.opposite.ensures

pub returns-clause-refused : goal.returns-clause-refused
returns-clause-refused g c =
    IfOk-weaker c.opposite.result _ _
    (λ flags are. others_tell (λ i. HasFinal c.args.a.now (get_or (get_or c.args.table.now i []) 0 [])) c.in_ok-finals.finals.items flags.items (length c.args.table.now) c.in_ok-finals.ensures.each
    (are ∙ ap (map not) c.deref.ensures.value) c.in_ok-finals.ensures.final_states) c.opposite.ensures
