use Rattle.std.proofs.Common.{[], ◌∷◌, sym, subst}
use Rattle.std.proofs.lemmas.Result.{on_ok_weaker}
use Rattle.rela_letter_image.specs.ByLetters.{AddsMoves}
use Rattle.rela_letter_image.proofs.Spelling.{adds_only, labelled}
use Rattle.rela_letter_image.proofs.letter_by_letter.add_letters.Goals as goal

pub returns-in-Some : goal.returns-in-Some
returns-in-Some g c =
    let set = g.L.LabelSet.letters c.args.set.now in
    on_ok_weaker c.push_edge.result
    (λ same. subst (AddsMoves (labelled set c.args.to ∷ []) c.args.builder.now.parts) (sym same)
    (adds_only set c.args.to c.args.builder.now.parts c.in-Some.letter c.in-Some.ensures.only)) c.push_edge.ensures.pushed
