use Rattle.rela_minimise.proofs.Signing.{column_at, signature_more}
use Rattle.rela_minimise.proofs.signature.signature.Goals as goal

pub class_by-requires-clause-column : goal.class_by-requires-clause-column
class_by-requires-clause-column g c =
    column_at c.args.columns.now c.loop-column.column-index c.column-item.result c.deref.result.now c.loop-column-test.true c.column-item.is c.deref.ensures.value _ _ c.requires.classes c.requires.columns

pub loop-column-preserved : goal.loop-column-preserved
loop-column-preserved g c =
    signature_more c.args.columns.now c.loop-column.column-index c.column-item.result c.deref.result.now c.loop-column-test.true c.column-item.is c.deref.ensures.value c.args.dfa.now c.args.classes.now c.args.q
    c.class_by.result c.loop-column.signed.items c.push-in-loop-column.new.self.items c.loop-column.invariant c.class_by.ensures c.in_ok-push-2.ensures.items
