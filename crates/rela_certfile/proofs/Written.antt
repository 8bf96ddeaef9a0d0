-- The text of rows, appended line by line.
use Rattle.std.proofs.Common.{◌≡◌, ℕ, ◌+◌, ◌<◌, Option, None, Some, IsSome, List, [], ◌∷◌, ◌++◌, length, get_or, map, take, codes, refl, sym, ◌∙◌, ap, append_assoc, append-nil}
use Rattle.std.specs.List.{flat_map}
use Rattle.std.proofs.lemmas.Grind.{flat_map-append}
use Rattle.std.proofs.lemmas.List.{take_more}
use Rattle.rela_certfile.specs.declared.rows.Step.{Step}
use Rattle.rela_certfile.specs.declared.rows.ListedRow.{ListedRow}
use Rattle.rela_certfile.specs.Layout.{Layout, Shape, row_line}
use Rattle.rela_certfile.specs.Listed.{IsListedAs}
use Rattle.rela_certfile.specs.Text.{complement_lines, ended, header, images_lines, last_line, lines_of, row_lines, text_begun, text_of, word_line}

-- lines, and then others
pub ended_both : (a b : List (List ℕ)) → ended (a ++ b) ≡ ended a ++ ended b
ended_both a b = flat_map-append (λ (line : List ℕ). line ++ 10 ∷ []) a b

-- the first line
pub begun_first : (l : Layout) → ended (header ∷ []) ≡ text_begun l []
unfolding text_begun
begun_first l = refl

-- the lines of a row
pub row_written : (l : Layout) (row : ListedRow) (old : List ℕ) → ((old ++ (row_line l row.place ++ 10 ∷ [])) ++ ended (flat_map complement_lines row.complements)) ++ (codes "images" ++ 10 ∷ [] ++ ended (map word_line row.images)) ≡ old ++ ended (row_lines l row)
unfolding row_lines
row_written l row old =
    append_assoc (old ++ (row_line l row.place ++ 10 ∷ [])) (ended (flat_map complement_lines row.complements)) (ended (images_lines row.images))
    ∙ ap (λ more. (old ++ (row_line l row.place ++ 10 ∷ [])) ++ more) (sym (ended_both (flat_map complement_lines row.complements) (images_lines row.images)))
    ∙ append_assoc old (row_line l row.place ++ 10 ∷ []) (ended (flat_map complement_lines row.complements ++ images_lines row.images))

pub begun_more : (l : Layout) (rows : List ListedRow) (row : ListedRow) (old : List ℕ) → old ≡ text_begun l rows → old ++ ended (row_lines l row) ≡ text_begun l (rows ++ row ∷ [])
unfolding text_begun
begun_more l rows row old is =
    ap (λ t. t ++ ended (row_lines l row)) is
    ∙ sym (ended_both (header ∷ flat_map (row_lines l) rows) (row_lines l row))
    ∙ ap (λ lines. ended (header ∷ lines)) (ap (λ more. flat_map (row_lines l) rows ++ more) (sym (append-nil (row_lines l row))) ∙ sym (flat_map-append (row_lines l) rows (row ∷ [])))

pub begun_ended : (l : Layout) (rows : List ListedRow) (old : List ℕ) → old ≡ text_begun l rows → old ++ ended (last_line ∷ []) ≡ text_of l rows
unfolding text_begun lines_of
begun_ended l rows old is =
    ap (λ t. t ++ ended (last_line ∷ [])) is
    ∙ sym (ended_both (header ∷ flat_map (row_lines l) rows) (last_line ∷ []))

-- a row whose check asks for its blocks has a check
pub has_check : (o : Option Shape) (row : ListedRow) → IsListedAs o row → IsSome o
has_check None row listed = absurd listed
has_check (Some shape) row listed = refl

-- one complement block more
pub complements_more : (old text : List ℕ) (blocks : List (List Step)) (i : ℕ) (block : List Step) → text ≡ old ++ ended (flat_map complement_lines (take i blocks)) → i < length blocks → block ≡ get_or blocks i block → text ++ ended (complement_lines block) ≡ old ++ ended (flat_map complement_lines (take (i + 1) blocks))
complements_more old text blocks i block is inside at =
    let so_far : List (List ℕ) = flat_map complement_lines (take i blocks) in
    let next : flat_map complement_lines (take (i + 1) blocks) ≡ flat_map complement_lines (take i blocks) ++ complement_lines block =
    ap (λ bs. flat_map complement_lines bs) (take_more blocks i block inside ∙ ap (λ b. take i blocks ++ b ∷ []) (sym at))
    ∙ flat_map-append complement_lines (take i blocks) (block ∷ [])
    ∙ ap (λ more. flat_map complement_lines (take i blocks) ++ more) (append-nil (complement_lines block)) in
    ap (λ t. t ++ ended (complement_lines block)) is
    ∙ append_assoc old (ended (flat_map complement_lines (take i blocks))) (ended (complement_lines block))
    ∙ ap (λ t. old ++ t) (sym (ended_both (flat_map complement_lines (take i blocks)) (complement_lines block)) ∙ ap ended (sym next))
