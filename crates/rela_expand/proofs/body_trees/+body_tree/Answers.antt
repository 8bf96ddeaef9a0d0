use Rattle.std.proofs.Common.{◌-◌, ◌/◌, ◌<◌, ◌≤◌, length, map, refl, arith}
use Rattle.std.proofs.lemmas.Result.{IfOk-weaker}
use Rattle.std.specs.List.{All}
use Rattle.rela_expand.specs.Bodies.{StandsFor, bodies_of, body_at, body_joined}
use Rattle.rela_expand.specs.Expansions.{tree_of}
use Rattle.rela_expand.specs.Forms.{shapes_of}
use Rattle.rela_expand.specs.Shapes.{no_body}
use Rattle.rela_expand.proofs.BodyLaws.{as_many}
use Rattle.rela_expand.proofs.BodyTrees.{tree_made, inside_more}
use Rattle.rela_expand.proofs.body_trees.+body_tree.Goals as goal

pub returns-clause-made : goal.returns-clause-made
returns-clause-made t c =
    let paths = shapes_of c.args.paths.now.forms.items in
    let old = bodies_of paths c.args.bodies.now.forms.items in
    let mid = bodies_of paths c.body_tree.new.bodies.forms.items in
    let all = bodies_of paths c.body_tree-2.new.bodies.forms.items in
    let new = bodies_of paths c.add.new.self.forms.items in
    let places = c.args.places.now in
    let n = length places - length places / 2 in
    let some = c.requires.some in
    let two : 2 ≤ length places = omega arith in
    let many = as_many paths c.args.bodies.now.forms.items in
    let inside : All (λ k. k < length old) places = inside_more (length c.args.bodies.now.forms.items) (length old) places (omega arith) c.requires.inside in
    IfOk-weaker c.add.result
    (λ k. StandsFor new (body_joined c.args.by (body_at all c.in_ok-a.a) (body_at all c.in_ok-b.b)) k)
    (λ k. StandsFor new (tree_of (body_joined c.args.by) no_body (map (body_at old) places)) k)
    (λ k last.
    tree_made c.args.by old mid all new places c.split_at.result.0.now c.split_at.result.1.now n c.in_ok-a.a c.in_ok-b.b k two refl
    c.split_at.ensures.front c.split_at.ensures.back inside c.body_tree.ensures.grown c.in_ok-a.ensures.made c.body_tree-2.ensures.grown c.in_ok-b.ensures.made last)
    c.add.ensures.made
