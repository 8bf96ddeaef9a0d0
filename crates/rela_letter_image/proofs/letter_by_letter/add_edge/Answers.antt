use Rattle.std.proofs.Common.{[], ◌∷◌, None, Some, sym, subst}
use Rattle.std.proofs.lemmas.Result.{on_ok_weaker}
use Rattle.rela_nfa.specs.Automaton.{Move}
use Rattle.rela_letter_image.specs.ByLetters.{AddsMoves}
use Rattle.rela_letter_image.proofs.Spelling.{adds_silent, label_is}
use Rattle.rela_letter_image.proofs.letter_by_letter.add_edge.Goals as goal

pub returns-in-Some : goal.returns-in-Some
returns-in-Some g c =
    on_ok_weaker c.add_letters.result
    (λ adds. subst (λ (m : Move). AddsMoves (m ∷ []) c.args.builder.now.parts c.add_letters.new.builder.parts) (label_is g.L.LabelSet.letters c.args.edge.now (Some c.in-Some.set) c.in-Some.is) adds) c.add_letters.ensures

pub returns-in-None : goal.returns-in-None
returns-in-None g c =
    on_ok_weaker c.push_silent.result
    (λ same. subst (λ (m : Move). AddsMoves (m ∷ []) c.args.builder.now.parts c.push_silent.new.self.parts) (label_is g.L.LabelSet.letters c.args.edge.now None c.in-None.is)
    (subst (AddsMoves (record { label = None; to = c.args.edge.now.to } ∷ []) c.args.builder.now.parts) (sym same) (adds_silent c.args.builder.now.parts c.args.edge.now.to))) c.push_silent.ensures.pushed
