use Rattle.std.proofs.Common.{rules, ap, ap₂, true, ◌≡◌, ◌∙◌}
use Rattle.std.proofs.lemmas.Result.{IfOk-weaker}
use Rattle.clap.specs.Simple.{App, app_of_fields}
use Rattle.clap.specs.Words.{app_of, rule_of, with_rule}
use Rattle.rela_words.specs.Parts.{bare_app, blame_rule, operands_rule, options_app, states_rule}
use Rattle.rela_words.proofs.parts.options.Goals as goal

pub returns : goal.returns
unfolding options_app
returns c =
    let states_is : rule_of c.action-states.result ≡ states_rule = search rules in
    let blame_is : rule_of c.action-blame.result ≡ blame_rule = search rules in
    let operands_is : rule_of c.action-operands.result ≡ operands_rule = search rules in
    let bare_is : app_of c.disable_help_flag.result ≡ bare_app = ap app_of_fields c.disable_help_flag.ensures
    ∙ ap (λ f. app_of_fields (record f { disable_help_flag = true })) c.no_binary_name.ensures
    ∙ ap (λ (a : App). record a { top = record a.top { no_binary_name = true; disable_help_flag = true } }) c.new-4.ensures.app in
    let one : app_of c.in_ok-arg.field-0 ≡ with_rule bare_app states_rule = c.in_ok-arg.ensures.shape (search rules) ∙ ap₂ with_rule bare_is states_is in
    let two : app_of c.in_ok-arg-2.field-0 ≡ with_rule (with_rule bare_app states_rule) blame_rule =
    c.in_ok-arg-2.ensures.shape (search rules) ∙ ap₂ with_rule one blame_is in
    IfOk-weaker c.arg-3.result _ _ (λ r added. added.shape (search rules) ∙ ap₂ with_rule two operands_is) c.arg-3.ensures
