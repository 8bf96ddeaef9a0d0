use Rattle.std.proofs.Common.{Result, subst}
use Rattle.rela_flows.specs.declared.prefix.Ipv4Prefix.{Ipv4Prefix}
use Rattle.rela_json.specs.declared.error.LoadError.{LoadError}
use Rattle.rela_snapshot.specs.Steps.{IsAnswer}
use Rattle.rela_tables.specs.Plain.{entry_of}
use Rattle.rela_tables.specs.Routes.{IsPrefixOf}
use Rattle.rela_tables.proofs.PlainLaws.{prefix_taken}
use Rattle.rela_tables.proofs.plain_route.prefix_in.Goals as goal

pub returns-in-Ok : goal.returns-in-Ok
returns-in-Ok c =
    subst (λ (r : Result Ipv4Prefix LoadError). IsAnswer (IsPrefixOf c.args.row (entry_of c.args.members.now)) r) c.in-Ok.is
    (prefix_taken _ _ _ _ _ c.as_bytes.ensures.value c.in_ok-text.ensures c.ipv4_prefix.ensures)
