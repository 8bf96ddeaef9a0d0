use Rattle.std.proofs.Common.{◌≡◌, ◌<◌, ◌-◌, ℕ, List, [], ◌++◌, Option, None, length, get_or, replicate, take, ap, ◌∙◌, subst, arith}
use Rattle.std.proofs.lemmas.List.{get_or_read, length-replicate, take_all}
use Rattle.std.proofs.lemmas.List.Elements.{All-get_or}
use Rattle.std.specs.Vec.{vec_len}
use Rattle.rela_minimise.specs.Cutting.{GoesTo, IsCutting, IsParted}
use Rattle.rela_minimise.proofs.CutApart.{cutting_all, cutting_more, cutting_none}
use Rattle.rela_minimise.proofs.cutting.cut.Goals as goal

filled : (n before : ℕ) (none made : List (Option ℕ)) → none ≡ [] → before ≡ 0 → made ≡ take n none ++ replicate (n - before) None → made ≡ replicate n None
filled n before none made empty start is =
    let nothing : take n none ≡ [] = ap (take n) empty ∙ take_all n [] (omega arith) in
    let left : n - before ≡ n = omega (arith, start) in
    is ∙ ap (λ (l : List (Option ℕ)). l ++ replicate (n - before) None) nothing ∙ ap (λ m. replicate m None) left

pub loop-q-init : goal.loop-q-init
loop-q-init c =
    let count = c.args.classes.now.count in
    let none = c.new-firsts.result in
    let start : vec_len none ≡ 0 = omega (arith, c.new-firsts.ensures.len) in
    cutting_none c.args.column.now count c.args.classes.now.numbers.items c.resize.new.self.items c.new-pairs.result c.in_ok-numbers.numbers.items
    (filled count (vec_len none) none.items c.resize.new.self.items c.new-firsts.ensures.items start c.in_ok-resize.ensures.items) c.new-pairs.ensures c.in_ok-numbers.ensures.items (length-replicate count None)

pub loop-q-preserved : goal.loop-q-preserved
loop-q-preserved c =
    let column = c.args.column.now in
    let numbers = c.args.classes.now.numbers in
    let q = c.loop-q.q in
    let part = c.in_ok-part_of.field-0 in
    let firsts = c.part_of.new.firsts.items in
    let pairs = c.part_of.new.pairs in
    let q_in : q < length numbers.items = omega (arith, numbers.ok.0) in
    let class_at : c.index.result.now ≡ get_or numbers.items q 0 = get_or_read numbers.items q _ q_in c.index.ensures 0 in
    let q_read : q < length column = omega (arith, q_in, c.requires.column.each) in
    let to_in : get_or column q 0 < length numbers.items = All-get_or (λ r. r < length numbers.items) column q 0 q_read c.requires.column.within in
    let onto_at : c.index-in-loop-q.result.now ≡ get_or numbers.items (get_or column q 0) 0 = get_or_read numbers.items (get_or column q 0) _ to_in c.index-in-loop-q.ensures 0 in
    cutting_more column c.args.classes.now.count numbers.items q c.loop-q.firsts.items firsts c.loop-q.pairs pairs c.loop-q.numbers.items c.push.new.self.items part c.loop-q.invariant
    (subst (λ n. GoesTo firsts pairs n (get_or numbers.items (get_or column q 0) 0) part) class_at (subst (λ n. GoesTo firsts pairs c.index.result.now n part) onto_at c.in_ok-part_of.ensures.goes))
    (subst (λ n. IsParted n part c.loop-q.firsts.items c.loop-q.pairs firsts pairs) class_at c.in_ok-part_of.ensures.parted) c.in_ok-push.ensures.items

pub returns : goal.returns
returns c =
    let column = c.args.column.now in
    let count = c.args.classes.now.count in
    let numbers = c.args.classes.now.numbers in
    let firsts = c.loop-q.firsts in
    let all : c.loop-q.q ≡ length numbers.items = omega (arith, numbers.ok.0) in
    let opened = c.loop-q.invariant.opened in
    cutting_all (length numbers.items) column count numbers.items firsts.items c.loop-q.pairs c.loop-q.numbers.items c.requires.counted c.len-new.ensures.apart
    (subst (λ n. IsCutting column count numbers.items n firsts.items c.loop-q.pairs c.loop-q.numbers.items) all c.loop-q.invariant) _ (omega (arith, firsts.ok.0))
