-- Where the lines of a block stand in the text.
use Rattle.std.proofs.Common.{◌≡◌, ℕ, ◌+◌, ◌-◌, ◌<◌, ◌≤◌, ◌⊎◌, inl, inr, ⊎_elim, zero, suc, Some, List, [], ◌∷◌, ◌++◌, length, map, take, codes, refl, sym, ◌∙◌, ap, subst, length-append, arith}
use Rattle.std.specs.Option.{option_map}
use Rattle.std.specs.List.{flat_map, slice_get, sum_by}
use Rattle.std.proofs.Math.Seq.{take-append_seam}
use Rattle.std.proofs.lemmas.List.{length-map, take-append-le, take-map}
use Rattle.std.proofs.lemmas.List.Folds.{flat_map-map}
use Rattle.std.proofs.lemmas.List.Sums.{sum_by-append, sum_by-cons}
use Rattle.std.proofs.lemmas.Option.{slice_get-map, slice_get_within}
use Rattle.rela_certfile.specs.declared.rows.Step.{Step}
use Rattle.rela_certfile.specs.declared.rows.ListedRow.{ListedRow}
use Rattle.rela_certfile.specs.Blocks.{blocks_of, blocks_of_row, block_height, head_line, row_height}
use Rattle.rela_certfile.specs.Layout.{Layout}
use Rattle.rela_certfile.specs.Parts.{joined}
use Rattle.rela_certfile.specs.Text.{complement_lines, header, images_lines, last_line, lines_of, row_lines, word_line}
use Rattle.rela_certfile.proofs.Parted.{behind, element_at, front_of}

complements_height : (blocks : List (List Step)) → length (flat_map complement_lines blocks) ≡ sum_by block_height blocks
complements_height [] = refl
complements_height (b ∷ bs) =
    omega (arith, complements_height bs, length-append (complement_lines b) (flat_map complement_lines bs), length-map b word_line, sum_by-cons block_height b bs)

row_long : (l : Layout) (row : ListedRow) → length (row_lines l row) ≡ row_height row
unfolding row_lines
row_long l row =
    omega (
      arith,
      complements_height row.complements,
      length-append (flat_map complement_lines row.complements) (images_lines row.images),
      length-map row.images word_line,
      sum_by-append block_height row.complements (row.images ∷ []),
      sum_by-cons block_height row.images [],
    )

rows_long : (l : Layout) (rows : List ListedRow) → length (flat_map (row_lines l) rows) ≡ sum_by row_height rows
rows_long l [] = refl
rows_long l (row ∷ rows) =
    omega (arith, rows_long l rows, row_long l row, length-append (row_lines l row) (flat_map (row_lines l) rows), sum_by-cons row_height row rows)

-- a line of a row, among all lines
line_of_row : (l : Layout) (rows : List ListedRow) (i m n : ℕ) (row : ListedRow) (line : List ℕ) → slice_get rows i ≡ Some row → slice_get (row_lines l row) m ≡ Some line → n ≡ 1 + sum_by row_height (take i rows) + m → slice_get (lines_of l rows) n ≡ Some line
unfolding lines_of
line_of_row l rows i m n row line there its is =
    let lists : List (List (List ℕ)) = map (row_lines l) rows in
    let all : joined (map (row_lines l) rows) ≡ flat_map (row_lines l) rows = flat_map-map (λ lines. lines) (row_lines l) rows in
    let some : joined (take i (map (row_lines l) rows)) ≡ flat_map (row_lines l) (take i rows) =
    ap joined (take-map (row_lines l) i rows) ∙ flat_map-map (λ lines. lines) (row_lines l) (take i rows) in
    let found : slice_get (map (row_lines l) rows) i ≡ Some (row_lines l row) = slice_get-map (row_lines l) rows i ∙ ap (λ o. option_map (row_lines l) o) there in
    let place : n ≡ suc (length (joined (take i (map (row_lines l) rows))) + m) = omega (arith, is, ap length some, rows_long l (take i rows)) in
    ap (λ k. slice_get (header ∷ (flat_map (row_lines l) rows ++ last_line ∷ [])) k) place
    ∙ front_of (flat_map (row_lines l) rows) (last_line ∷ []) (length (joined (take i (map (row_lines l) rows))) + m) line
    (ap (λ lines. slice_get lines (length (joined (take i (map (row_lines l) rows))) + m)) (sym all)
    ∙ element_at (map (row_lines l) rows) i m (row_lines l row) line found its)

-- a line of a complement block, among those of its row
complement_line : (l : Layout) (row : ListedRow) (k m : ℕ) (block : List Step) (line : List ℕ) → slice_get row.complements k ≡ Some block → slice_get (complement_lines block) m ≡ Some line → slice_get (row_lines l row) (1 + sum_by block_height (take k (blocks_of row)) + m) ≡ Some line
unfolding row_lines
complement_line l row k m block line there its =
    let lists : List (List (List ℕ)) = map complement_lines row.complements in
    let all : joined (map complement_lines row.complements) ≡ flat_map complement_lines row.complements = flat_map-map (λ lines. lines) complement_lines row.complements in
    let some : joined (take k (map complement_lines row.complements)) ≡ flat_map complement_lines (take k row.complements) =
    ap joined (take-map complement_lines k row.complements) ∙ flat_map-map (λ lines. lines) complement_lines (take k row.complements) in
    let found : slice_get (map complement_lines row.complements) k ≡ Some (complement_lines block) = slice_get-map complement_lines row.complements k ∙ ap (λ o. option_map complement_lines o) there in
    let within : k ≤ length row.complements = omega (arith, slice_get_within row.complements k block there) in
    let same : take k (blocks_of row) ≡ take k row.complements = take-append-le k row.complements (row.images ∷ []) within in
    let place : 1 + sum_by block_height (take k (blocks_of row)) + m ≡ suc (length (joined (take k (map complement_lines row.complements))) + m) =
    omega (arith, ap length some, complements_height (take k row.complements), ap (λ bs. sum_by block_height bs) same) in
    ap (λ n. slice_get (row_lines l row) n) place
    ∙ front_of (flat_map complement_lines row.complements) (images_lines row.images) (length (joined (take k (map complement_lines row.complements))) + m) line
    (ap (λ lines. slice_get lines (length (joined (take k (map complement_lines row.complements))) + m)) (sym all)
    ∙ element_at (map complement_lines row.complements) k m (complement_lines block) line found its)

-- and of the images block
images_line : (l : Layout) (row : ListedRow) (m : ℕ) (line : List ℕ) → slice_get (images_lines row.images) m ≡ Some line → slice_get (row_lines l row) (1 + sum_by block_height (take (length row.complements) (blocks_of row)) + m) ≡ Some line
unfolding row_lines
images_line l row m line its =
    let place : 1 + sum_by block_height (take (length row.complements) (blocks_of row)) + m ≡ suc (length (flat_map complement_lines row.complements) + m) =
    omega (arith, complements_height row.complements, ap (λ bs. sum_by block_height bs) (take-append_seam row.complements (row.images ∷ []))) in
    ap (λ n. slice_get (row_lines l row) n) place
    ∙ behind (flat_map complement_lines row.complements) (images_lines row.images) m
    ∙ its

-- a line of a block, among all lines: the first is the head
line_of_block : (l : Layout) (rows : List ListedRow) (i k m n : ℕ) (row : ListedRow) (line : List ℕ) → slice_get rows i ≡ Some row → slice_get (row_lines l row) (1 + sum_by block_height (take k (blocks_of row)) + m) ≡ Some line → n + 1 ≡ head_line rows i k + m → slice_get (lines_of l rows) n ≡ Some line
unfolding head_line
line_of_block l rows i k m n row line there its is =
    let own : sum_by block_height (take k (blocks_of_row (slice_get rows i))) ≡ sum_by block_height (take k (blocks_of row)) = ap (λ o. sum_by block_height (take k (blocks_of_row o))) there in
    line_of_row l rows i (1 + sum_by block_height (take k (blocks_of row)) + m) n row line there its (omega (arith, is, own))

-- heads stand above the first line
head_late : (rows : List ListedRow) (i k : ℕ) → 0 < head_line rows i k
unfolding head_line
head_late rows i k = omega arith

pub complement_head : (l : Layout) (rows : List ListedRow) (i k : ℕ) (row : ListedRow) (block : List Step) → slice_get rows i ≡ Some row → slice_get row.complements k ≡ Some block → slice_get (lines_of l rows) (head_line rows i k - 1) ≡ Some (codes "complement")
complement_head l rows i k row block there its =
    line_of_block l rows i k 0 (head_line rows i k - 1) row (codes "complement") there (complement_line l row k 0 block (codes "complement") its refl) (omega (arith, head_late rows i k))

pub images_head : (l : Layout) (rows : List ListedRow) (i : ℕ) (row : ListedRow) → slice_get rows i ≡ Some row → slice_get (lines_of l rows) (head_line rows i (length row.complements) - 1) ≡ Some (codes "images")
images_head l rows i row there =
    line_of_block l rows i (length row.complements) 0 (head_line rows i (length row.complements) - 1) row (codes "images") there (images_line l row 0 (codes "images") refl) (omega (arith, head_late rows i (length row.complements)))

word_of_lines : (first : List ℕ) (steps : List Step) (j : ℕ) (step : Step) → slice_get steps j ≡ Some step → slice_get (first ∷ map word_line steps) (suc j) ≡ Some (word_line step)
word_of_lines first steps j step is = slice_get-map word_line steps j ∙ ap (λ o. option_map word_line o) is

word_in : (l : Layout) (row : ListedRow) (cs : List (List Step)) (k j : ℕ) (block : List Step) (step : Step) → slice_get (cs ++ row.images ∷ []) k ≡ Some block → slice_get block j ≡ Some step → (slice_get cs k ≡ Some block) ⊎ ((k ≡ length cs) × (block ≡ row.images))
word_in l row [] zero j block step its at = inr (refl, cc)
word_in l row [] (suc k) j block step its at = cc
word_in l row (c ∷ cs) zero j block step its at = inl its
word_in l row (c ∷ cs) (suc k) j block step its at = ⊎_elim
    (λ (inside : slice_get cs k ≡ Some block). inl inside)
    (λ (last : (k ≡ length cs) × (block ≡ row.images)). inr (ap suc last.0, last.1))
    (word_in l row cs k j block step its at)

pub word_there : (l : Layout) (rows : List ListedRow) (i k j : ℕ) (row : ListedRow) (block : List Step) (step : Step) → slice_get rows i ≡ Some row → slice_get (blocks_of row) k ≡ Some block → slice_get block j ≡ Some step → slice_get (lines_of l rows) (head_line rows i k + j) ≡ Some (word_line step)
word_there l rows i k j row block step there its at =
    line_of_block l rows i k (suc j) (head_line rows i k + j) row (word_line step) there
    (⊎_elim
    (λ (inside : slice_get row.complements k ≡ Some block). complement_line l row k (suc j) block (word_line step) inside (word_of_lines (codes "complement") block j step at))
    (λ (last : (k ≡ length row.complements) × (block ≡ row.images)).
    subst (λ n. slice_get (row_lines l row) (1 + sum_by block_height (take n (blocks_of row)) + suc j) ≡ Some (word_line step)) (sym last.0)
    (images_line l row (suc j) (word_line step) (word_of_lines (codes "images") row.images j step (subst (λ (b : List Step). slice_get b j ≡ Some step) last.1 at))))
    (word_in l row row.complements k j block step its at))
    (omega arith)
