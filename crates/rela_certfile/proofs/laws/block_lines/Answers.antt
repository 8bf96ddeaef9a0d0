use Rattle.std.proofs.Common.{◌≡◌, IsSome, Some, [], get_or, refl, subst, sym, ◌∙◌}
use Rattle.std.proofs.lemmas.Option.{slice_get-get_or}
use Rattle.rela_certfile.proofs.Heads.{complement_head, images_head, word_there}
use Rattle.rela_certfile.proofs.Lookups.{BlockAt, block_is, block_there}
use Rattle.rela_certfile.proofs.laws.block_lines.Goals as goal

pub returns-clause-complement : goal.returns-clause-complement
returns-clause-complement c = λ l rows i k row there inside.
    complement_head l rows i k row (get_or row.complements k []) there (slice_get-get_or row.complements k [] inside)

pub returns-clause-images : goal.returns-clause-images
returns-clause-images c = λ l rows i row there. images_head l rows i row there

pub returns-clause-words : goal.returns-clause-words
returns-clause-words c = λ l rows i k j steps step is at.
    let b : BlockAt rows i k = block_there rows i k (subst (λ o. IsSome o) (sym is) refl) in
    let same : Some b.steps ≡ Some steps = sym (block_is rows i k b) ∙ is in
    word_there l rows i k j b.row steps step b.there (b.its ∙ same) at
