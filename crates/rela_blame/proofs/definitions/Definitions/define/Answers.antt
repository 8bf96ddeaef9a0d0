use Rattle.std.proofs.Common.{◌≡◌, ◌∙◌, List, length, ap}
use Rattle.rela_blame.specs.Leads.{spread}
use Rattle.rela_blame.specs.Tables.{capped, values_of}
use Rattle.rela_blame.specs.declared.leads.Lead.{Lead}
use Rattle.rela_blame.proofs.Tables.{added, names_more, table_more}
use Rattle.rela_blame.proofs.definitions.Definitions.define.Goals as goal

pub returns-clause-table : goal.returns-clause-table
returns-clause-table c =
    let table = c.args.self.now in
    let size : c.len-number.result ≡ length table.list.items = c.len-number.ensures ∙ c.args.self.now.list.ok.0 in
    table_more table (record { places = c.insert.new.self; list = c.push.new.self }) c.args.name.now (record { leads = c.args.leads; count = c.count-count.result })
    (added table (record { places = c.insert.new.self; list = c.push.new.self }) c.args.name.now (record { leads = c.args.leads; count = c.count-count.result }) c.len-number.result size
    c.in_ok-push.ensures.items (λ other. c.in_ok-insert.ensures.updates.0 (record { ref_ptr = (0, 0); now = other })))
    c.requires.table c.requires.leads
    (c.count-count.ensures ∙ ap (λ (ls : List Lead). capped (length (spread (values_of table.list.items) ls))) c.as_slice.ensures.value)

pub returns-clause-names : goal.returns-clause-names
returns-clause-names c =
    let table = c.args.self.now in
    let size : c.len-number.result ≡ length table.list.items = c.len-number.ensures ∙ c.args.self.now.list.ok.0 in
    names_more table (record { places = c.insert.new.self; list = c.push.new.self }) c.args.name.now (record { leads = c.args.leads; count = c.count-count.result })
    (added table (record { places = c.insert.new.self; list = c.push.new.self }) c.args.name.now (record { leads = c.args.leads; count = c.count-count.result }) c.len-number.result size
    c.in_ok-push.ensures.items (λ other. c.in_ok-insert.ensures.updates.0 (record { ref_ptr = (0, 0); now = other })))
    c.requires.table c.requires.leads
    (c.count-count.ensures ∙ ap (λ (ls : List Lead). capped (length (spread (values_of table.list.items) ls))) c.as_slice.ensures.value)
