use Rattle.std.proofs.Common.{◌≡◌, ◌<◌, ◌≤◌, ℕ, List, [], length, get_or, ap, sym, ◌∙◌, subst, arith}
use Rattle.std.specs.declared.vec.Vec.{Vec}
use Rattle.std.proofs.lemmas.List.{get_or-map, length-map}
use Rattle.rela_minimise.specs.Cutting.{AreCounted, IsCut, IsPassed}
use Rattle.rela_minimise.specs.Stored.{lists_of}
use Rattle.rela_minimise.proofs.CutApart.{passed_more, passed_none}
use Rattle.rela_minimise.proofs.Signing.{column_at}
use Rattle.rela_minimise.proofs.cutting.cut_by_all.Goals as goal

column_read : {A : Type 0} (columns : List (Vec ℕ A)) (i : ℕ) (v : Vec ℕ A) (column : List ℕ) → i < length columns → v ≡ get_or columns i v → column ≡ v.items → column ≡ get_or (lists_of columns) i []
column_read columns i v column i_in at is = is ∙ ap (λ (u : Vec ℕ _). u.items) at ∙ sym (get_or-map (λ u. u.items) columns i v [] i_in)

fewer_passed : (n : ℕ) (columns : List (List ℕ)) (i m count : ℕ) (classes : List ℕ) (count' : ℕ) (classes' : List ℕ) → m ≤ i → IsPassed n columns i count classes count' classes' → IsPassed n columns m count classes count' classes'
fewer_passed n columns i m count classes count' classes' least is = record {
  counted = is.counted;
  grown = is.grown;
  coarse = is.coarse;
  same = λ none. let (old, earlier) = is.same none in (old, λ j below. earlier j (omega (arith, below, least)));
}

pub loop-column-init : goal.loop-column-init
loop-column-init c = passed_none (length c.args.classes.numbers.items) (lists_of c.args.columns.now) c.args.classes.count c.args.classes.numbers.items c.requires.counted

pub cut-requires-clause-column : goal.cut-requires-clause-column
cut-requires-clause-column c =
    column_at c.args.columns.now c.loop-column.column-index c.column-item.result c.deref.result.now c.loop-column-test.true c.column-item.is c.deref.ensures.value
    (length c.args.classes.numbers.items) (length c.loop-column.made.numbers.items) c.loop-column.invariant.counted.each c.requires.maps

pub cut-requires-clause-counted : goal.cut-requires-clause-counted
cut-requires-clause-counted c = subst (λ n. AreCounted n c.loop-column.made.count c.loop-column.made.numbers.items) (sym c.loop-column.invariant.counted.each) c.loop-column.invariant.counted

pub loop-column-preserved : goal.loop-column-preserved
loop-column-preserved c =
    let columns = c.args.columns.now in
    let first = c.args.classes in
    let i = c.loop-column.column-index in
    let old = c.loop-column.made in
    let made = c.in_ok-made.made in
    let below : i < length (lists_of columns) = omega (arith, c.loop-column-test.true, length-map columns (λ u. u.items)) in
    let read = column_read columns i c.column-item.result c.deref.result.now c.loop-column-test.true c.column-item.is c.deref.ensures.value in
    passed_more (length first.numbers.items) (lists_of columns) i first.count first.numbers.items old.count old.numbers.items made.count made.numbers.items c.requires.maps below c.loop-column.invariant
    (subst (λ n. IsCut n (get_or (lists_of columns) i []) old.count old.numbers.items made.count made.numbers.items) c.loop-column.invariant.counted.each
    (subst (λ (l : List ℕ). IsCut (length old.numbers.items) l old.count old.numbers.items made.count made.numbers.items) read c.in_ok-made.ensures))

pub returns : goal.returns
returns c =
    let first = c.args.classes in
    let made = c.loop-column.made in
    fewer_passed (length first.numbers.items) (lists_of c.args.columns.now) c.loop-column.column-index (length c.args.columns.now) first.count first.numbers.items made.count made.numbers.items c.loop-column-test.false c.loop-column.invariant
