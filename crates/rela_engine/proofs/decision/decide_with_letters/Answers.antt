use Rattle.std.proofs.Common.{ℕ, sym, subst}
use Rattle.rela_report.specs.declared.rows.Row.TheVariants.{Compliant, Undecided}
use Rattle.rela_blocks.specs.FlowName.{FlowName, flow_paths}
use Rattle.rela_engine.specs.RowOf.{RowOf}
use Rattle.rela_engine.proofs.Rows.{right_row}
use Rattle.rela_engine.proofs.decision.decide_with_letters.Goals as goal

pub returns-in_default-clause-row : goal.returns-in_default-clause-row
returns-in_default-clause-row c =
    let k = c.args.compiled.now in
    let f : FlowName = record { level = k.check.level; names = c.args.alphabet.now; before = c.args.pair.now.before; after = c.args.pair.now.after } in
    subst (λ (n : ℕ). RowOf k.check n (flow_paths f) k.states Undecided) (sym c.requires.alphabet)
    (c.relations_tell_of_open_rows.ensures.missing k (rw c.in_default.is at c.relations.ensures.past) f)

pub returns-then-met-clause-row : goal.returns-then-met-clause-row
returns-then-met-clause-row c =
    let k = c.args.compiled.now in
    let f : FlowName = record { level = k.check.level; names = c.args.alphabet.now; before = c.args.pair.now.before; after = c.args.pair.now.after } in
    let are = rw c.in-Some.is at c.relations.ensures.made in
    subst (λ (n : ℕ). RowOf k.check n (flow_paths f) k.states Compliant) (sym c.requires.alphabet)
    (right_row k.check k.locations (flow_paths f) k.states (c.relations_tell_of_open_rows.ensures.there k are.within f) Compliant
    (c.in_ok-met.ensures c.if-met.true))
