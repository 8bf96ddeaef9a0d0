use Rattle.std.proofs.Common.{ℕ, List, subst, sym, arith}
use Rattle.std.proofs.lemmas.List.{take_all}
use Rattle.rela_snapshot.specs.PairsLocated.{IsPairLocated}
use Rattle.rela_snapshot.specs.declared.pairing.FlowPair.{FlowPair}
use Rattle.rela_assertions.specs.Rows.{Appended, AreRowsOf, IsRowOf}
use Rattle.rela_assertions.proofs.RowLaws.{flow_rows, rows_have_texts}
use Rattle.rela_assertions.proofs.deciding.rows_of.Goals as goal

pub push_rows-requires-clause-located : goal.push_rows-requires-clause-located
push_rows-requires-clause-located c =
    subst (λ (p : FlowPair). IsPairLocated c.args.alphabet.now c.args.level p) (sym c.pair-item.is) (c.requires.located c.loop-pair.pair-index _ (omega arith))

pub loop-pair-preserved : goal.loop-pair-preserved
loop-pair-preserved c =
    flow_rows _ _ _ c.args.pairs.now c.args.claims.now c.loop-pair.rows.items c.push_rows.new.rows.items c.loop-pair.pair-index c.pair-item.result _ c.pair-item.is (omega arith) c.loop-pair.invariant
    (subst (λ (n : ℕ). Appended (IsRowOf c.args.alphabet.now c.args.level n c.pair-item.result) c.args.claims.now c.loop-pair.rows.items c.push_rows.new.rows.items)
    c.across_letters-complements.ensures c.in_ok-push_rows.ensures.rows)

pub returns-clause-texts : goal.returns-clause-texts
returns-clause-texts c =
    rows_have_texts c.args.alphabet.now c.args.level c.args.states c.args.pairs.now c.args.claims.now c.loop-pair.rows.items
    (subst (λ (ps : List FlowPair). AreRowsOf c.args.alphabet.now c.args.level c.args.states ps c.args.claims.now c.loop-pair.rows.items)
    (take_all c.loop-pair.pair-index c.args.pairs.now c.loop-pair-test.false) c.loop-pair.invariant)
