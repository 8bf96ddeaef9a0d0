use Rattle.std.proofs.Common.{◌∙◌, ap, sym}
use Rattle.rela_flows.specs.Notation.{text_of, IsTextOf}
use Rattle.rela_flows.proofs.OwnText.{is_text_when, if_ok_then}
use Rattle.rela_flows.proofs.prefix.Prefix.text.Goals as goal

pub returns-in-V4-clause-reads_back : goal.returns-in-V4-clause-reads_back
returns-in-V4-clause-reads_back c =
    if_ok_then c.ipv4_text.result _ (λ v. IsTextOf v.items c.args.self.now) c.ipv4_text.ensures
    (λ v same. is_text_when c.args.self.now v.items (same ∙ ap text_of (sym c.in-V4.is)))

pub returns-in-V6-clause-reads_back : goal.returns-in-V6-clause-reads_back
returns-in-V6-clause-reads_back c =
    if_ok_then c.ipv6_text.result _ (λ v. IsTextOf v.items c.args.self.now) c.ipv6_text.ensures
    (λ v same. is_text_when c.args.self.now v.items (same ∙ ap text_of (sym c.in-V6.is)))
