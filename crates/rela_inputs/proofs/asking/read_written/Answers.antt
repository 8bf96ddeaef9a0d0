use Rattle.std.proofs.Common.{◌∙◌, List, sym, subst, arith}
use Rattle.rela_lex.specs.Spells as lex
use Rattle.rela_lex.specs.declared.token.Token.{Token}
use Rattle.rela_spec.specs.Grammar as grammar
use Rattle.rela_inputs.specs.declared.refusal.Input.TheVariants.{Spec}
use Rattle.rela_inputs.specs.Specifications.{SpellsWritten, written_by}
use Rattle.rela_inputs.proofs.TreeLaws.{AreTokens, no_fault, no_tokens, no_tree, one_fault, tree_read, written_same}
use Rattle.rela_inputs.proofs.asking.read_written.Goals as goal

pub returns-in-Err-clause-written : goal.returns-in-Err-clause-written
returns-in-Err-clause-written c =
    no_tokens Spec SpellsWritten grammar.IsFault _ c.in-Err.error _ c.spec_halt.ensures (record { fault = c.in-Err.ensures.fault; spelled = c.in-Err.ensures.spelled; bad = c.in-Err.ensures.bad })

pub returns-in-Ok-parse-clause-written : goal.returns-in-Ok-parse-clause-written
returns-in-Ok-parse-clause-written c =
    let is = c.as_slice.ensures.value in
    let are : AreTokens c.args.text.now c.as_slice.result.now = record {
      spells = subst (λ (ts : List Token). lex.Spells c.args.text.now ts) (sym is) c.in-Ok.ensures.tokens;
      alone = λ others spells. is ∙ c.in-Ok.ensures.spelled others spells;
      good = λ at bad. c.in-Ok.ensures.bad at bad;
    } in
    tree_read Spec SpellsWritten grammar.IsFault _ _ are _ (written_by (record { tokens = c.in-Ok.tokens; file = c.in-Ok-parse.file })) (grind arith) (sym is, c.in-Ok-parse.ensures.tree)
    (λ other spells. written_same _ _ _ _ (sym is ∙ sym spells.0) (c.in-Ok-parse.ensures.spelled other.file spells.1))
    (no_fault _ _ c.in-Ok-parse.ensures.syntax c.in-Ok-parse.ensures.too_deep c.in-Ok-parse.ensures.bad_number)

pub returns-in-Err-parse-clause-written : goal.returns-in-Err-parse-clause-written
returns-in-Err-parse-clause-written c =
    let is = c.as_slice.ensures.value in
    let are : AreTokens c.args.text.now c.as_slice.result.now = record {
      spells = subst (λ (ts : List Token). lex.Spells c.args.text.now ts) (sym is) c.in-Ok.ensures.tokens;
      alone = λ others spells. is ∙ c.in-Ok.ensures.spelled others spells;
      good = λ at bad. c.in-Ok.ensures.bad at bad;
    } in
    no_tree Spec SpellsWritten grammar.IsFault _ _ are _ c.in-Err-parse.error _ (grind arith) c.spec_halt-in-Err-parse.ensures c.in-Err-parse.ensures.fault
    (λ other spells. c.in-Err-parse.ensures.spelled other.file spells.1)
    (one_fault _ _ c.in-Err-parse.error c.in-Err-parse.ensures.syntax c.in-Err-parse.ensures.too_deep c.in-Err-parse.ensures.bad_number)
