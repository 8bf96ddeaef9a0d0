use Rattle.rela_expand.specs.Bodies.{Grows, bodies_of}
use Rattle.rela_expand.specs.Forms.{shapes_of}
use Rattle.rela_expand.proofs.BodyGathering.{still_bodies, grows_over, on_ok}
use Rattle.rela_expand.proofs.spec_gathering.joined.Goals as goal

pub add-requires-then-is_empty-clause-are : goal.add-requires-then-is_empty-clause-are
add-requires-then-is_empty-clause-are c =
    still_bodies (shapes_of c.args.forms.now.forms.items) (shapes_of c.add.new.self.forms.items) c.add.ensures.grown c.args.bodies.now.forms.items c.requires.are

pub returns-then-is_empty-clause-grown : goal.returns-then-is_empty-clause-grown
returns-then-is_empty-clause-grown c =
    let start = shapes_of c.args.forms.now.forms.items in
    let new = shapes_of c.add.new.self.forms.items in
    on_ok c.add-then-is_empty.result (Grows (bodies_of start c.args.bodies.now.forms.items) (bodies_of new c.add-then-is_empty.new.self.forms.items))
    (grows_over start new c.add.ensures.grown c.args.bodies.now.forms.items c.add-then-is_empty.new.self.forms.items c.requires.are c.add-then-is_empty.ensures.grown)
