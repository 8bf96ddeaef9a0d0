use Rattle.std.proofs.Common.{◌≡◌, List, ◌++◌, map, subst, sym, ◌∙◌}
use Rattle.std.proofs.lemmas.List.{append-nil}
use Rattle.rela_expand.specs.Expand.{listing_of}
use Rattle.rela_expand.specs.Tables.{entry_of}
use Rattle.rela_expand.specs.declared.entry.Entry.{Entry}
use Rattle.rela_expand.proofs.Tables.{one_set_more}
use Rattle.rela_expand.proofs.making.class_table.Goals as goal

pub loop-entry-preserved : goal.loop-entry-preserved
loop-entry-preserved c =
    rw c.in_ok-push.ensures.items
    (one_set_more c.loop-entry.sets.items c.set_of.result c.in-Some.entry c.next.new.self (map entry_of c.args.entries.keys) c.set_of.ensures
    (subst (λ (es : List Entry). map listing_of c.loop-entry.sets.items ++ map entry_of es ≡ map entry_of c.args.entries.keys) c.in-Some.ensures.steps c.loop-entry.invariant))

pub returns : goal.returns
returns c =
    sym (append-nil (map listing_of c.loop-entry.sets.items))
    ∙ subst (λ (es : List Entry). map listing_of c.loop-entry.sets.items ++ map entry_of es ≡ map entry_of c.args.entries.keys) c.in-None.ensures.steps.0 c.loop-entry.invariant
