use Rattle.std.proofs.Common.{◌∙◌, ap, Some}
use Rattle.rela_tables.proofs.PrefixLaws.{is_prefix, no_prefix, no_text, other_text}
use Rattle.rela_tables.proofs.route.ipv4_prefix.Goals as goal

pub returns-in_default : goal.returns-in_default
returns-in_default c = no_prefix _ _ (no_text _ c.parse.result c.parse.ensures c.in_default.is)

pub returns-in-V4 : goal.returns-in-V4
returns-in-V4 c = is_prefix _ _ c.parse.result _ c.parse.ensures (c.in-Some.is ∙ ap Some c.in-V4.is)

pub returns-in-V6 : goal.returns-in-V6
returns-in-V6 c = no_prefix _ _ (other_text _ c.parse.result _ c.parse.ensures (c.in-Some.is ∙ ap Some c.in-V6.is))
