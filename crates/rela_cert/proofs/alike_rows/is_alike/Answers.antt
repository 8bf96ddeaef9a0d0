use Rattle.std.proofs.Common.{◌≡◌, ◌∙◌, Bool, true, false, Option, None, Some, refl, sym, subst}
use Rattle.std.specs.Prelude.{is_some}
use Rattle.rela_graph.specs.Outline.{outline_of}
use Rattle.rela_names.specs.declared.level.Level.{Level}
use Rattle.rela_cert.proofs.SameOutlines.{outlines_decide}
use Rattle.rela_cert.proofs.alike_rows.is_alike.Goals as goal

none_is : {X : Type 0} (o : Option X) (b : Bool) → b ≡ is_some o → b ≡ false → o ≡ None
none_is None b is told = refl
none_is (Some x) b is told = let e : true ≡ false = sym is ∙ told in absurd (cc)

pub returns : goal.returns
returns c =
    let before = c.args.row.now.pair.now.before in
    let after = c.args.row.now.pair.now.after in
    let decides = outlines_decide c.at.result c.at-2.result in (
      λ yes. (
        none_is c.args.relations.now.after c.is_some.result c.is_some.ensures c.if-is_some.false,
        subst (λ (l : Level). outline_of l before ≡ outline_of l after) c.level-level.ensures
            (sym c.at.ensures ∙ (decides.0 (sym c.eq.ensures ∙ yes) ∙ c.at-2.ensures)),
      ),
      λ alike. c.eq.ensures
          ∙ decides.1 (c.at.ensures ∙ (subst (λ (l : Level). outline_of l before ≡ outline_of l after) (sym c.level-level.ensures) alike.1 ∙ sym c.at-2.ensures)),
    )
