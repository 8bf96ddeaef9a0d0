use Rattle.std.proofs.Common.{◌≡◌, ◌++◌, ◌∷◌, [], List, length, sym, subst, ◌∙◌}
use Rattle.std.specs.Result.{is_ok}
use Rattle.rela_expand.specs.Bodies.{AreBodies, Grows, StandsFor, body_in, bodies_of}
use Rattle.rela_expand.specs.Forms.{shapes_of}
use Rattle.rela_expand.specs.declared.bodies.BodyForm.{BodyForm}
use Rattle.rela_expand.proofs.BodyLaws.{one_more, grown, stands, in_either, grows_either}
use Rattle.rela_expand.proofs.bodies.Bodies.add.Goals as goal

pub returns-clause-are : goal.returns-clause-are
returns-clause-are c =
    let paths = shapes_of c.args.paths.now.forms.items in
    let old = c.args.self.now.forms.items in
    subst (AreBodies paths) (sym c.push.ensures.items)
    (in_either paths (is_ok c.push.result) (old ++ record { layer = c.args.layer; size = c.size_of-size.result } ∷ []) old
    (one_more paths old c.args.layer c.size_of-size.result c.requires.are c.requires.below c.requires.zoned c.size_of-size.ensures) c.requires.are)

pub returns-clause-grown : goal.returns-clause-grown
returns-clause-grown c =
    let paths = shapes_of c.args.paths.now.forms.items in
    let old = c.args.self.now.forms.items in
    subst (λ (forms : List BodyForm). Grows (bodies_of paths old) (bodies_of paths forms)) (sym c.push.ensures.items)
    (grows_either paths (is_ok c.push.result) old (old ++ record { layer = c.args.layer; size = c.size_of-size.result } ∷ []) (grown paths old c.args.layer c.size_of-size.result))

pub returns-clause-made : goal.returns-clause-made
returns-clause-made c =
    let paths = shapes_of c.args.paths.now.forms.items in
    let old = c.args.self.now.forms.items in
    let shape = body_in paths (bodies_of paths old) c.args.layer in
    let place : c.len-place.result ≡ length old = c.len-place.ensures ∙ c.args.self.now.forms.ok.0 in
    subst (λ (forms : List BodyForm). StandsFor (bodies_of paths forms) shape c.len-place.result) (sym c.in_ok-push.ensures.items)
    (subst (StandsFor (bodies_of paths (old ++ record { layer = c.args.layer; size = c.size_of-size.result } ∷ [])) shape) (sym place) (stands paths old c.args.layer c.size_of-size.result))
