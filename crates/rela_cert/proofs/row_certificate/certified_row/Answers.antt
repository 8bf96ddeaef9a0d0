use Rattle.std.proofs.Common.{◌<◌, List, refl, sym, subst}
use Rattle.std.specs.List.{All}
use Rattle.rela_closed.specs.declared.step.Step as letter
use Rattle.rela_labels.specs.Partition.{block_count}
use Rattle.rela_cert.specs.Found.{AreAllBySymbols, AreBySymbols}
use Rattle.rela_cert.specs.RowParts.{locations_of, paths_at}
use Rattle.rela_cert.proofs.FoundRows.{blocks_made, images_below, row_shaped, words_below}
use Rattle.rela_cert.proofs.row_certificate.certified_row.Goals as goal

pub all_by_symbols-requires : goal.all_by_symbols-requires
all_by_symbols-requires c =
    subst (λ (notes : List (List letter.Step)). All (λ steps. All (λ step. step.letter < block_count c.in_ok-blocks.blocks) steps) notes)
    (sym c.as_slice.ensures.value)
    (words_below c.args.row.now c.in_ok-blocks.blocks c.in-Some.words.complements.items c.in-Some.words.images (rw c.in-Some.is at c.in_ok-words.ensures.words))

pub by_symbols-requires : goal.by_symbols-requires
by_symbols-requires c =
    subst (λ (steps : List letter.Step). All (λ step. step.letter < block_count c.in_ok-blocks.blocks) steps)
    (sym c.as_slice-2.ensures)
    (images_below c.args.row.now c.in_ok-blocks.blocks c.in-Some.words.complements.items c.in-Some.words.images (rw c.in-Some.is at c.in_ok-words.ensures.words))

pub returns-clause-shape : goal.returns-clause-shape
returns-clause-shape c =
    let words = rw c.in-Some.is at c.in_ok-words.ensures.words in
    row_shaped c.args.row.now.check.now (locations_of c.args.row.now) (paths_at c.args.row.now) c.in_ok-blocks.blocks c.in_ok-blocks.ensures.letters
    c.in-Some.words.complements.items words.noted c.in_ok-complements.complements
    (subst (λ (notes : List (List letter.Step)). AreAllBySymbols c.in_ok-blocks.blocks notes c.in_ok-complements.complements) c.as_slice.ensures.value c.in_ok-complements.ensures)
    words.before words.after words.made_before words.made_after words.over words.holds c.in-Some.words.images words.found c.in_ok-images.images
    (subst (λ (steps : List letter.Step). AreBySymbols c.in_ok-blocks.blocks steps c.in_ok-images.images) c.as_slice-2.ensures c.in_ok-images.ensures)
    (record { place = c.args.place; complements = c.in_ok-complements.complements; images = c.in_ok-images.images }) refl refl

pub returns-clause-made : goal.returns-clause-made
returns-clause-made c =
    let words = rw c.in-Some.is at c.in_ok-words.ensures.words in
    blocks_made c.args.row.now.check.now (locations_of c.args.row.now) (paths_at c.args.row.now) c.in_ok-blocks.blocks c.in_ok-blocks.ensures.letters
    c.in-Some.words.complements.items words.noted c.in_ok-complements.complements
    (subst (λ (notes : List (List letter.Step)). AreAllBySymbols c.in_ok-blocks.blocks notes c.in_ok-complements.complements) c.as_slice.ensures.value c.in_ok-complements.ensures)
    words.before words.after words.made_before words.made_after words.over words.holds c.in-Some.words.images words.found c.in_ok-images.images
    (subst (λ (steps : List letter.Step). AreBySymbols c.in_ok-blocks.blocks steps c.in_ok-images.images) c.as_slice-2.ensures c.in_ok-images.ensures)
    (record { place = c.args.place; complements = c.in_ok-complements.complements; images = c.in_ok-images.images }) refl refl
