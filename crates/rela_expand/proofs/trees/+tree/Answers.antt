use Rattle.std.proofs.Common.{◌-◌, ◌/◌, ◌≤◌, length, map, refl, arith}
use Rattle.std.proofs.lemmas.Result.{IfOk-weaker}
use Rattle.rela_expand.specs.Expansions.{tree_of}
use Rattle.rela_expand.specs.Forms.{StandsAt, joined, shape_at, shapes_of}
use Rattle.rela_expand.specs.Shapes.{Empty}
use Rattle.rela_expand.proofs.TreeForms.{tree_made, some_parts}
use Rattle.rela_expand.proofs.trees.+tree.Goals as goal

pub returns-clause-made : goal.returns-clause-made
returns-clause-made t c =
    let old = shapes_of c.args.forms.now.forms.items in
    let mid = shapes_of c.tree.new.forms.forms.items in
    let all = shapes_of c.tree-2.new.forms.forms.items in
    let new = shapes_of c.add-2.new.self.forms.items in
    let places = c.args.places.now in
    let n = length places - length places / 2 in
    let some = some_parts places c.if-is_empty.ensures in
    let two : 2 ≤ length places = omega arith in
    IfOk-weaker c.add-2.result
    (λ k. StandsAt new (joined c.args.by (shape_at all c.in_ok-a.a) (shape_at all c.in_ok-b.b)) k)
    (λ k. StandsAt new (tree_of (joined c.args.by) Empty (map (shape_at old) places)) k)
    (λ k last.
    tree_made c.args.by old mid all new places c.split_at.result.0.now c.split_at.result.1.now n c.in_ok-a.a c.in_ok-b.b k two refl
    c.split_at.ensures.front c.split_at.ensures.back c.requires c.tree.ensures.grown c.in_ok-a.ensures.made c.tree-2.ensures.grown c.in_ok-b.ensures.made last)
    c.add-2.ensures.made
