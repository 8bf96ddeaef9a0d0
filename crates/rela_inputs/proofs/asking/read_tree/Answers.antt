use Rattle.std.proofs.Common.{◌∙◌, List, sym, subst, arith}
use Rattle.rela_lex.specs.Spells as lex
use Rattle.rela_lex.specs.declared.token.Token.{Token}
use Rattle.rela_spec.specs.Grammar as grammar
use Rattle.rela_inputs.specs.declared.refusal.Input.TheVariants.{Spec}
use Rattle.rela_inputs.proofs.TreeLaws.{AreTokens, no_fault, no_tokens, no_tree, one_fault, tree_read}
use Rattle.rela_inputs.proofs.asking.read_tree.Goals as goal

pub returns-in-Err-clause-tree : goal.returns-in-Err-clause-tree
returns-in-Err-clause-tree c =
    no_tokens Spec grammar.Spells grammar.IsFault _ c.in-Err.error _ c.spec_halt.ensures (record { fault = c.in-Err.ensures.fault; spelled = c.in-Err.ensures.spelled; bad = c.in-Err.ensures.bad })

pub returns-in-Ok-parse-clause-tree : goal.returns-in-Ok-parse-clause-tree
returns-in-Ok-parse-clause-tree c =
    let is = c.as_slice.ensures.value in
    let are : AreTokens c.args.text.now c.as_slice.result.now = record {
      spells = subst (λ (ts : List Token). lex.Spells c.args.text.now ts) (sym is) c.in-Ok.ensures.tokens;
      alone = λ others spells. is ∙ c.in-Ok.ensures.spelled others spells;
      good = λ at bad. c.in-Ok.ensures.bad at bad;
    } in
    tree_read Spec grammar.Spells grammar.IsFault _ _ are _ c.in-Ok-parse.file (grind arith) c.in-Ok-parse.ensures.tree c.in-Ok-parse.ensures.spelled
    (no_fault _ _ c.in-Ok-parse.ensures.syntax c.in-Ok-parse.ensures.too_deep c.in-Ok-parse.ensures.bad_number)

pub returns-clause-tree : goal.returns-clause-tree
returns-clause-tree c =
    let is = c.as_slice.ensures.value in
    let are : AreTokens c.args.text.now c.as_slice.result.now = record {
      spells = subst (λ (ts : List Token). lex.Spells c.args.text.now ts) (sym is) c.in-Ok.ensures.tokens;
      alone = λ others spells. is ∙ c.in-Ok.ensures.spelled others spells;
      good = λ at bad. c.in-Ok.ensures.bad at bad;
    } in
    no_tree Spec grammar.Spells grammar.IsFault _ _ are _ c.in-Err-parse.error _ (grind arith) c.spec_halt-in-Err-parse.ensures c.in-Err-parse.ensures.fault
    c.in-Err-parse.ensures.spelled
    (one_fault _ _ c.in-Err-parse.error c.in-Err-parse.ensures.syntax c.in-Err-parse.ensures.too_deep c.in-Err-parse.ensures.bad_number)
