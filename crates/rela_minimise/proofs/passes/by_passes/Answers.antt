use Rattle.std.proofs.Common.{length, sym, subst, arith}
use Rattle.std.specs.List.{All}
use Rattle.std.proofs.lemmas.List.{length-map}
use Rattle.rela_minimise.specs.Cutting.{AreCounted, IsPassed}
use Rattle.rela_minimise.specs.Refining.{IsMap}
use Rattle.rela_minimise.specs.Stored.{lists_of}
use Rattle.rela_minimise.proofs.CutApart.{passed_classes}
use Rattle.rela_minimise.proofs.passes.by_passes.Goals as goal

pub cut_by_all-requires-clause-maps : goal.cut_by_all-requires-clause-maps
cut_by_all-requires-clause-maps g c = subst (λ n. All (IsMap n) (lists_of c.args.columns.now)) (sym c.loop-pass.invariant.counted.each) c.requires.columns.maps

pub cut_by_all-requires-clause-counted : goal.cut_by_all-requires-clause-counted
cut_by_all-requires-clause-counted g c = subst (λ n. AreCounted n c.loop-pass.classes.count c.loop-pass.classes.numbers.items) (sym c.loop-pass.invariant.counted.each) c.loop-pass.invariant.counted

pub loop-pass-preserved : goal.loop-pass-preserved
loop-pass-preserved g c = c.in_ok-classes-2.ensures.coarse c.args.dfa.now c.loop-pass.invariant.counted.each c.requires.deterministic c.requires.columns c.loop-pass.invariant

pub returns-then-after-before : goal.returns-then-after-before
returns-then-after-before g c =
    let old = c.loop-pass.classes in
    let made = c.in_ok-classes-2.classes in
    let cols = c.args.columns.now in
    passed_classes c.args.dfa.now (lists_of cols) (length old.numbers.items) old.count old.numbers.items made.count made.numbers.items c.requires.deterministic c.requires.columns c.loop-pass.invariant.counted.each c.loop-pass.invariant
    (subst (λ i. IsPassed (length old.numbers.items) (lists_of cols) i old.count old.numbers.items made.count made.numbers.items) (sym (length-map cols (λ u. u.items))) c.in_ok-classes-2.ensures) (omega arith)
