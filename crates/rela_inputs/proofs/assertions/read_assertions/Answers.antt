use Rattle.std.proofs.Common.{◌∙◌, List, sym, subst, arith}
use Rattle.rela_lex.specs.Spells as lex
use Rattle.rela_lex.specs.declared.token.Token.{Token}
use Rattle.rela_rirfile.specs.Grammar as grammar
use Rattle.rela_inputs.specs.declared.refusal.Input.TheVariants.{Assertions}
use Rattle.rela_inputs.proofs.TreeLaws.{AreTokens, no_assertion_fault, no_tokens, no_tree, one_assertion_fault, tree_read}
use Rattle.rela_inputs.proofs.assertions.read_assertions.Goals as goal

pub returns-in-Err : goal.returns-in-Err
returns-in-Err c =
    no_tokens Assertions grammar.Spells grammar.IsFault _ c.in-Err.error _ c.spec_halt.ensures
    (record { fault = c.in-Err.ensures.fault; spelled = c.in-Err.ensures.spelled; bad = c.in-Err.ensures.bad })

pub returns-in-Ok-parse : goal.returns-in-Ok-parse
returns-in-Ok-parse c =
    let is = c.as_slice.ensures.value in
    let are : AreTokens c.args.text.now c.as_slice.result.now = record {
      spells = subst (λ (ts : List Token). lex.Spells c.args.text.now ts) (sym is) c.in-Ok.ensures.tokens;
      alone = λ others spells. is ∙ c.in-Ok.ensures.spelled others spells;
      good = λ at bad. c.in-Ok.ensures.bad at bad;
    } in
    tree_read Assertions grammar.Spells grammar.IsFault _ _ are _ c.in-Ok-parse.file (grind arith) c.in-Ok-parse.ensures.tree c.in-Ok-parse.ensures.spelled
    (no_assertion_fault _ _ c.in-Ok-parse.ensures.syntax c.in-Ok-parse.ensures.too_deep)

pub returns : goal.returns
returns c =
    let is = c.as_slice.ensures.value in
    let are : AreTokens c.args.text.now c.as_slice.result.now = record {
      spells = subst (λ (ts : List Token). lex.Spells c.args.text.now ts) (sym is) c.in-Ok.ensures.tokens;
      alone = λ others spells. is ∙ c.in-Ok.ensures.spelled others spells;
      good = λ at bad. c.in-Ok.ensures.bad at bad;
    } in
    no_tree Assertions grammar.Spells grammar.IsFault _ _ are _ c.in-Err-parse.error _ (grind arith) c.spec_halt-in-Err-parse.ensures c.in-Err-parse.ensures.fault
    c.in-Err-parse.ensures.spelled (one_assertion_fault _ _ c.in-Err-parse.error c.in-Err-parse.ensures.syntax c.in-Err-parse.ensures.too_deep)
