use Rattle.std.proofs.Common.{◌≡◌, ◌++◌, ◌∷◌, [], length, sym, ap, subst, ◌∙◌}
use Rattle.std.specs.Result.{is_ok}
use Rattle.rela_expand.specs.Forms.{AreForms, Extends, StandsAt, shape_in, shapes_of}
use Rattle.rela_expand.proofs.FormLaws.{as_many, shapes_last, extends_last, stands_last, one_more, in_either}
use Rattle.rela_expand.proofs.forms.Forms.add.Goals as goal

pub invariant_of-self : goal.invariant_of-self
invariant_of-self c =
    let old = c.args.self.now.forms.items in
    let sound = c.args.self.now.sound in
    record {
      sound =
          subst AreForms (sym c.push.ensures.items)
          (in_either (is_ok c.push.result) (old ++ record { layer = c.args.layer; size = c.size_of-size.result } ∷ []) old
          (one_more old c.args.layer c.size_of-size.result sound c.requires c.size_of-size.ensures) sound);
    }

pub returns-clause-grown : goal.returns-clause-grown
returns-clause-grown c =
    let old = c.args.self.now.forms.items in
    subst (Extends (shapes_of old)) (sym (ap shapes_of c.in_ok-push.ensures.items ∙ shapes_last old _)) (extends_last (shapes_of old) (shape_in (shapes_of old) c.args.layer))

pub returns-clause-made : goal.returns-clause-made
returns-clause-made c =
    let old = c.args.self.now.forms.items in
    let shape = shape_in (shapes_of old) c.args.layer in
    let place : c.len-place.result ≡ length (shapes_of old) = c.len-place.ensures ∙ c.args.self.now.forms.ok.0 ∙ sym (as_many old) in
    subst (λ shapes. StandsAt shapes shape c.len-place.result) (sym (ap shapes_of c.in_ok-push.ensures.items ∙ shapes_last old _))
    (subst (StandsAt (shapes_of old ++ shape ∷ []) shape) (sym place) (stands_last (shapes_of old) shape))
