use Rattle.rela_snapshot.proofs.PlainLoops.{file_read}
use Rattle.rela_snapshot.proofs.plain.read_plain.Goals as goal

pub returns-clause-flows : goal.returns-clause-flows
returns-clause-flows c =
    file_read _ _ _ _ _ _ _ c.what_holds.ensures.object c.what_holds.ensures.text c.what_holds.ensures.deeper c.in-Ok.ensures.cases c.new-reader.ensures c.in_ok-open_flows.ensures c.in_ok-flows.ensures.flows c.in_ok-close_text.ensures.brace
