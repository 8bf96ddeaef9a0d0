-- Rows that are held, found again.
use Rattle.std.proofs.Common.{◌≡◌, ℕ, ◌+◌, ◌-◌, ◌^◌, ◌<◌, ◌≤◌, zero, suc, Option, None, Some, IsSome, List, [], ◌∷◌, ◌++◌, length, get_or, map, take, refl, sym, ◌∙◌, ap, subst, length-append, arith}
use Rattle.std.specs.Option.{option_map}
use Rattle.std.specs.List.{slice_get, slice_range, sum_by, zip}
use Rattle.std.proofs.lemmas.Grind.{flat_map-append}
use Rattle.std.proofs.lemmas.List.{length-map, length-take-le, take-map, take_all, take_more}
use Rattle.std.proofs.lemmas.List.Folds.{flat_map-map}
use Rattle.std.proofs.lemmas.List.Sums.{sum_by-cons}
use Rattle.std.proofs.lemmas.Option.{slice_get-get_or, slice_get-map, slice_get_within}
use Rattle.rela_certfile.specs.declared.rows.Step.{Step}
use Rattle.rela_certfile.specs.declared.rows.ListedRow.{ListedRow}
use Rattle.rela_certfile.specs.Blocks.{block_at, blocks_of, blocks_of_row, block_height, head_line, last_of, row_height, row_of}
use Rattle.rela_certfile.specs.Held.{all_blocks, Holds, rows_held}
use Rattle.rela_certfile.specs.Parts.{end_of, joined, parts, starts_of}
use Rattle.rela_certfile.proofs.Parted.{before_it, begins_at, behind, cut_out, element_at, front_of, joined_more, joined_within, length-starts_of, parts_again, starts_at}
use Rattle.rela_certfile.proofs.Running.{fronts_again, last_again}

-- a row is told by its place and its blocks
row_again : (row : ListedRow) → row_of row.place (blocks_of row) ≡ row
row_again row =
    ap (λ bs. record { place = row.place; complements = bs; images = last_of (row.complements ++ row.images ∷ []) }) (fronts_again row.complements row.images)
    ∙ ap (λ b. record { place = row.place; complements = row.complements; images = b }) (last_again row.complements row.images)

rows_again : (rows : List ListedRow) → map (λ (row : ℕ × List (List Step)). row_of row.0 row.1) (zip (map (λ row. row.place) rows) (map blocks_of rows)) ≡ rows
rows_again [] = refl
rows_again (row ∷ rows) =
    ap (λ r. r ∷ map (λ (row : ℕ × List (List Step)). row_of row.0 row.1) (zip (map (λ row. row.place) rows) (map blocks_of rows))) (row_again row)
    ∙ ap (λ more. row ∷ more) (rows_again rows)

all_joined : (rows : List ListedRow) → joined (map blocks_of rows) ≡ all_blocks rows
all_joined rows = flat_map-map (λ bs. bs) blocks_of rows

rows_joined : (rows : List ListedRow) (i : ℕ) → joined (take i (map blocks_of rows)) ≡ all_blocks (take i rows)
rows_joined rows i = ap joined (take-map blocks_of i rows) ∙ all_joined (take i rows)

-- the rows are found again
pub held_again : (rows : List ListedRow) (places firsts starts : List ℕ) (steps : List Step) → Holds rows places firsts starts steps → rows_held places firsts starts steps ≡ rows
held_again rows places firsts starts steps h =
    let blocks : parts steps starts ≡ all_blocks rows =
    ap (λ xs. parts xs starts) h.stepped ∙ ap (λ ns. parts (joined (all_blocks rows)) ns) h.begun ∙ parts_again [] (all_blocks rows) in
    let each : parts (parts steps starts) firsts ≡ map blocks_of rows =
    ap (λ xs. parts xs firsts) (blocks ∙ sym (all_joined rows)) ∙ ap (λ ns. parts (joined (map blocks_of rows)) ns) h.parted ∙ parts_again [] (map blocks_of rows) in
    ap (λ bs. map (λ (row : ℕ × List (List Step)). row_of row.0 row.1) (zip places bs)) each
    ∙ ap (λ ps. map (λ (row : ℕ × List (List Step)). row_of row.0 row.1) (zip ps (map blocks_of rows))) h.placed
    ∙ rows_again rows

-- the row of a number
pub row_of_number : (rows : List ListedRow) (i : ℕ) → i < length rows → (row : ListedRow) × (slice_get rows i ≡ Some row)
row_of_number [] i inside = absurd (omega arith)
row_of_number (row ∷ rows) zero inside = (row, refl)
row_of_number (row ∷ rows) (suc i) inside = row_of_number rows i (omega arith)

-- a row, and a block of it
pub record BlockAt (rows : List ListedRow) (i k : ℕ) : Type 0 where
  pub row : ListedRow
  pub steps : List Step
  pub there : slice_get rows i ≡ Some row
  pub its : slice_get (blocks_of row) k ≡ Some steps

block_in : (rows : List ListedRow) (i k : ℕ) (row : ListedRow) (o : Option (List Step)) → slice_get rows i ≡ Some row → slice_get (blocks_of row) k ≡ o → IsSome o → BlockAt rows i k
block_in rows i k row None there its some = cc
block_in rows i k row (Some steps) there its some = record { row = row; steps = steps; there = there; its = its }

row_in : (rows : List ListedRow) (i k : ℕ) (o : Option ListedRow) → slice_get rows i ≡ o → IsSome (slice_get (blocks_of_row o) k) → BlockAt rows i k
row_in rows i k None there some = cc
row_in rows i k (Some row) there some = block_in rows i k row (slice_get (blocks_of row) k) there refl some

pub block_there : (rows : List ListedRow) (i k : ℕ) → IsSome (block_at rows i k) → BlockAt rows i k
unfolding block_at
block_there rows i k some = row_in rows i k (slice_get rows i) refl some

pub block_is : (rows : List ListedRow) (i k : ℕ) (b : BlockAt rows i k) → block_at rows i k ≡ Some b.steps
unfolding block_at
block_is rows i k b = ap (λ o. slice_get (blocks_of_row o) k) b.there ∙ b.its

-- the blocks of a row stand behind those of the rows before it
pub number_is : (rows : List ListedRow) (i k : ℕ) (b : BlockAt rows i k) → slice_get (all_blocks rows) (length (all_blocks (take i rows)) + k) ≡ Some b.steps
number_is rows i k b =
    let bss : List (List (List Step)) = map blocks_of rows in
    let there : slice_get (map blocks_of rows) i ≡ Some (blocks_of b.row) = slice_get-map blocks_of rows i ∙ ap (λ o. option_map blocks_of o) b.there in
    ap (λ bs. slice_get bs (length (all_blocks (take i rows)) + k)) (sym (all_joined rows))
    ∙ ap (λ bs. slice_get (joined (map blocks_of rows)) (length bs + k)) (sym (rows_joined rows i))
    ∙ element_at (map blocks_of rows) i k (blocks_of b.row) b.steps there b.its

-- where the blocks of a row begin
pub first_is : (rows : List ListedRow) (places firsts starts : List ℕ) (steps : List Step) (i d : ℕ) → Holds rows places firsts starts steps → i < length rows → get_or firsts i d ≡ length (all_blocks (take i rows))
first_is rows places firsts starts steps i d h inside =
    ap (λ ns. get_or ns i d) h.parted
    ∙ begins_at 0 (map blocks_of rows) i d (rw length-map inside)
    ∙ (let plain : 0 + length (joined (take i (map blocks_of rows))) ≡ length (joined (take i (map blocks_of rows))) = omega arith in plain)
    ∙ ap length (rows_joined rows i)

-- and where they end
pub last_is : (rows : List ListedRow) (places firsts starts : List ℕ) (steps : List Step) (i all : ℕ) (row : ListedRow) → Holds rows places firsts starts steps → slice_get rows i ≡ Some row → all ≡ length starts → end_of firsts i all ≡ length (all_blocks (take i rows)) + length (blocks_of row)
last_is rows places firsts starts steps i all row h there is =
    let bss : List (List (List Step)) = map blocks_of rows in
    let inside : i < length rows = slice_get_within rows i row there in
    let total : all ≡ 0 + length (joined (map blocks_of rows)) = omega (arith, is, ap length h.begun, length-starts_of 0 (all_blocks rows), ap length (all_joined rows)) in
    let found : slice_get (map blocks_of rows) i ≡ Some (blocks_of row) = slice_get-map blocks_of rows i ∙ ap (λ o. option_map blocks_of o) there in
    let next : end_of firsts i all ≡ get_or (starts_of 0 (map blocks_of rows)) (suc i) all = ap (λ ns. get_or ns (i + 1) all) h.parted ∙ ap (λ n. get_or (starts_of 0 (map blocks_of rows)) n all) (let one : i + 1 ≡ suc i = omega arith in one) in
    let ends : get_or (starts_of 0 (map blocks_of rows)) (suc i) all ≡ 0 + length (joined (take (suc i) (map blocks_of rows))) = starts_at 0 (map blocks_of rows) (suc i) all total (omega (arith, length-map rows blocks_of)) in
    omega (arith, next, ends, joined_more (map blocks_of rows) i (blocks_of row) found, ap length (rows_joined rows i))

-- where the steps of a block begin
pub start_is : (rows : List ListedRow) (places firsts starts : List ℕ) (steps : List Step) (n d : ℕ) → Holds rows places firsts starts steps → n < length (all_blocks rows) → get_or starts n d ≡ length (joined (take n (all_blocks rows)))
start_is rows places firsts starts steps n d h inside =
    ap (λ ns. get_or ns n d) h.begun
    ∙ begins_at 0 (all_blocks rows) n d inside
    ∙ (let plain : 0 + length (joined (take n (all_blocks rows))) ≡ length (joined (take n (all_blocks rows))) = omega arith in plain)

-- and where they end
pub end_is : (rows : List ListedRow) (places firsts starts : List ℕ) (steps : List Step) (n all : ℕ) (block : List Step) → Holds rows places firsts starts steps → slice_get (all_blocks rows) n ≡ Some block → all ≡ length steps → end_of starts n all ≡ length (joined (take n (all_blocks rows))) + length block
end_is rows places firsts starts steps n all block h there is =
    let inside : n < length (all_blocks rows) = slice_get_within (all_blocks rows) n block there in
    let total : all ≡ 0 + length (joined (all_blocks rows)) = omega (arith, is, ap length h.stepped) in
    let next : end_of starts n all ≡ get_or (starts_of 0 (all_blocks rows)) (suc n) all = ap (λ ns. get_or ns (n + 1) all) h.begun ∙ ap (λ k. get_or (starts_of 0 (all_blocks rows)) k all) (let one : n + 1 ≡ suc n = omega arith in one) in
    let ends : get_or (starts_of 0 (all_blocks rows)) (suc n) all ≡ 0 + length (joined (take (suc n) (all_blocks rows))) = starts_at 0 (all_blocks rows) (suc n) all total (omega arith) in
    omega (arith, next, ends, joined_more (all_blocks rows) n block there)

-- the steps of a block
pub steps_are : (rows : List ListedRow) (places firsts starts : List ℕ) (steps : List Step) (n from to : ℕ) (block : List Step) → Holds rows places firsts starts steps → slice_get (all_blocks rows) n ≡ Some block → from ≡ length (joined (take n (all_blocks rows))) → to ≡ from + length block → slice_range steps from to ≡ block
steps_are rows places firsts starts steps n from to block h there begins ends =
    ap (λ xs. slice_range xs from to) h.stepped
    ∙ ap (λ k. slice_range (joined (all_blocks rows)) from k) ends
    ∙ ap (λ k. slice_range (joined (all_blocks rows)) k (k + length block)) begins
    ∙ cut_out (all_blocks rows) n block there

-- the lines of blocks, and of rows
heights : (blocks : List (List Step)) → sum_by block_height blocks ≡ length blocks + length (joined blocks)
heights [] = refl
heights (b ∷ bs) = omega (arith, sum_by-cons block_height b bs, heights bs, length-append b (joined bs))

row_heights : (rows : List ListedRow) → sum_by row_height rows ≡ length rows + length (all_blocks rows) + length (joined (all_blocks rows))
row_heights [] = refl
row_heights (row ∷ rows) =
    omega (
      arith,
      sum_by-cons row_height row rows,
      row_heights rows,
      heights (blocks_of row),
      length-append (blocks_of row) (all_blocks rows),
      ap length (flat_map-append (λ (b : List Step). b) (blocks_of row) (all_blocks rows)),
      length-append (joined (blocks_of row)) (joined (all_blocks rows)),
    )

-- the line of a block's head
pub head_is : (rows : List ListedRow) (i k : ℕ) (b : BlockAt rows i k) → head_line rows i k ≡ i + (length (all_blocks (take i rows)) + k) + length (joined (take (length (all_blocks (take i rows)) + k) (all_blocks rows))) + 3
unfolding head_line
head_is rows i k b =
    let bss : List (List (List Step)) = map blocks_of rows in
    let there : slice_get (map blocks_of rows) i ≡ Some (blocks_of b.row) = slice_get-map blocks_of rows i ∙ ap (λ o. option_map blocks_of o) b.there in
    let inside : i < length rows = slice_get_within rows i b.row b.there in
    let within : k < length (blocks_of b.row) = slice_get_within (blocks_of b.row) k b.steps b.its in
    let before : take (length (all_blocks (take i rows)) + k) (all_blocks rows) ≡ all_blocks (take i rows) ++ take k (blocks_of b.row) =
    ap (λ bs. take (length (all_blocks (take i rows)) + k) bs) (sym (all_joined rows))
    ∙ ap (λ bs. take (length bs + k) (joined (map blocks_of rows))) (sym (rows_joined rows i))
    ∙ before_it (map blocks_of rows) i k (blocks_of b.row) there (omega arith)
    ∙ ap (λ bs. bs ++ take k (blocks_of b.row)) (rows_joined rows i) in
    let own : sum_by block_height (take k (blocks_of_row (slice_get rows i))) ≡ k + length (joined (take k (blocks_of b.row))) =
    ap (λ o. sum_by block_height (take k (blocks_of_row o))) b.there ∙ heights (take k (blocks_of b.row)) ∙ ap (λ n. n + length (joined (take k (blocks_of b.row)))) (length-take-le k (blocks_of b.row) (omega arith)) in
    let both : length (joined (all_blocks (take i rows) ++ take k (blocks_of b.row))) ≡ length (joined (all_blocks (take i rows))) + length (joined (take k (blocks_of b.row))) =
    ap length (flat_map-append (λ (b : List Step). b) (all_blocks (take i rows)) (take k (blocks_of b.row))) ∙ length-append (joined (all_blocks (take i rows))) (joined (take k (blocks_of b.row))) in
    omega (arith, own, both, ap (λ bs. length (joined bs)) before, row_heights (take i rows), length-take-le i rows (omega arith))

-- it is one of few lines
pub head_fits : (rows : List ListedRow) (places firsts starts : List ℕ) (steps : List Step) (i k : ℕ) (b : BlockAt rows i k) → Holds rows places firsts starts steps → head_line rows i k < 2 ^ 32
head_fits rows places firsts starts steps i k b h =
    let n : ℕ = length (all_blocks (take i rows)) + k in
    let inside : i < length rows = slice_get_within rows i b.row b.there in
    let within : length (all_blocks (take i rows)) + k < length (all_blocks rows) = slice_get_within (all_blocks rows) (length (all_blocks (take i rows)) + k) b.steps (number_is rows i k b) in
    omega (arith, head_is rows i k b, h.few, ap length h.placed, ap length h.begun, ap length h.stepped, length-map rows (λ row. row.place), length-starts_of 0 (all_blocks rows), joined_within (all_blocks rows) (length (all_blocks (take i rows)) + k))

-- a row has a place among these, and a block too
pub row_within : (rows : List ListedRow) (places firsts starts : List ℕ) (steps : List Step) (i : ℕ) → Holds rows places firsts starts steps → i < length rows → i < length firsts
row_within rows places firsts starts steps i h inside =
    omega (arith, ap length h.parted, length-starts_of 0 (map blocks_of rows), length-map rows blocks_of)

pub number_within : (rows : List ListedRow) (places firsts starts : List ℕ) (steps : List Step) (i k : ℕ) (b : BlockAt rows i k) → Holds rows places firsts starts steps → length (all_blocks (take i rows)) + k < length starts
number_within rows places firsts starts steps i k b h =
    omega (arith, slice_get_within (all_blocks rows) (length (all_blocks (take i rows)) + k) b.steps (number_is rows i k b), ap length h.begun, length-starts_of 0 (all_blocks rows))

-- what is held, said of the rows that contracts see
pub seen : (rows : List ListedRow) (places firsts starts : List ℕ) (steps : List Step) → rows_held places firsts starts steps ≡ rows → Holds (rows_held places firsts starts steps) places firsts starts steps → Holds rows places firsts starts steps
seen rows places firsts starts steps same h = subst (λ rs. Holds rs places firsts starts steps) same h

-- the number of a block, as it is found
pub number_found : (rows : List ListedRow) (places firsts starts : List ℕ) (steps : List Step) (i k first : ℕ) → Holds rows places firsts starts steps → IsSome (block_at rows i k) → first ≡ get_or firsts i first → (first ≡ length (all_blocks (take i rows))) × (first + k < 2 ^ 32)
number_found rows places firsts starts steps i k first h some read =
    let b : BlockAt rows i k = block_there rows i k some in
    let is : first ≡ length (all_blocks (take i rows)) = read ∙ first_is rows places firsts starts steps i first h (slice_get_within rows i b.row b.there) in
    (is, omega (arith, is, number_within rows places firsts starts steps i k b h, h.few))

pub row_there : (rows : List ListedRow) (places firsts starts : List ℕ) (steps : List Step) (i k : ℕ) → Holds rows places firsts starts steps → IsSome (block_at rows i k) → i < length firsts
row_there rows places firsts starts steps i k h some =
    let b : BlockAt rows i k = block_there rows i k some in
    row_within rows places firsts starts steps i h (slice_get_within rows i b.row b.there)

-- a block, as it is found
pub record Found (rows : List ListedRow) (steps : List Step) (i k from to : ℕ) : Type 0 where
  pub ordered : from ≤ to
  pub inside : to ≤ length steps
  pub its : block_at rows i k ≡ Some (slice_range steps from to)

pub block_found : (rows : List ListedRow) (places firsts starts : List ℕ) (steps : List Step) (i k n from to all : ℕ) → Holds rows places firsts starts steps → IsSome (block_at rows i k) → n ≡ length (all_blocks (take i rows)) + k → from ≡ get_or starts n from → all ≡ length steps → to ≡ end_of starts n all → Found rows steps i k from to
block_found rows places firsts starts steps i k n from to all h some number read total ends =
    let b : BlockAt rows i k = block_there rows i k some in
    let there : slice_get (all_blocks rows) n ≡ Some b.steps = ap (λ m. slice_get (all_blocks rows) m) number ∙ number_is rows i k b in
    let begins : from ≡ length (joined (take n (all_blocks rows))) = read ∙ start_is rows places firsts starts steps n from h (slice_get_within (all_blocks rows) n b.steps there) in
    let finish : to ≡ length (joined (take n (all_blocks rows))) + length b.steps = ends ∙ end_is rows places firsts starts steps n all b.steps h there total in
    let last : to ≡ from + length b.steps = omega arith in
    record {
      ordered = omega arith;
      inside = omega (arith, joined_more (all_blocks rows) n b.steps there, joined_within (all_blocks rows) (suc n), ap length h.stepped);
      its = block_is rows i k b ∙ ap Some (sym (steps_are rows places firsts starts steps n from to b.steps h there begins last));
    }

-- a number of a block is one of a start
pub start_there : (rows : List ListedRow) (places firsts starts : List ℕ) (steps : List Step) (i k n : ℕ) → Holds rows places firsts starts steps → IsSome (block_at rows i k) → n ≡ length (all_blocks (take i rows)) + k → n < length starts
start_there rows places firsts starts steps i k n h some number =
    omega (arith, number_within rows places firsts starts steps i k (block_there rows i k some) h)

-- the line of a block's head, as it is found
pub line_found : (rows : List ListedRow) (places firsts starts : List ℕ) (steps : List Step) (i k n from : ℕ) → Holds rows places firsts starts steps → IsSome (block_at rows i k) → n ≡ length (all_blocks (take i rows)) + k → from ≡ get_or starts n from → (i + n + from + 3 ≡ head_line rows i k) × (i + n + from + 3 < 2 ^ 32)
line_found rows places firsts starts steps i k n from h some number read =
    let b : BlockAt rows i k = block_there rows i k some in
    let there : slice_get (all_blocks rows) n ≡ Some b.steps = ap (λ m. slice_get (all_blocks rows) m) number ∙ number_is rows i k b in
    let begins : from ≡ length (joined (take n (all_blocks rows))) = read ∙ start_is rows places firsts starts steps n from h (slice_get_within (all_blocks rows) n b.steps there) in
    let line : head_line rows i k ≡ i + n + length (joined (take n (all_blocks rows))) + 3 =
    head_is rows i k b ∙ ap (λ m. i + m + length (joined (take m (all_blocks rows))) + 3) (sym number) in
    let is : i + n + from + 3 ≡ head_line rows i k = omega arith in
    (is, omega (arith, is, head_fits rows places firsts starts steps i k b h))

-- how many blocks a row has, as it is found
pub count_found : (rows : List ListedRow) (places firsts starts : List ℕ) (steps : List Step) (i from to all : ℕ) → Holds rows places firsts starts steps → i < length rows → from ≡ get_or firsts i from → all ≡ length starts → to ≡ end_of firsts i all → (from ≤ to) × (option_map (λ (listed : ListedRow). length (blocks_of listed)) (slice_get rows i) ≡ Some (to - from))
count_found rows places firsts starts steps i from to all h inside read total ends =
    let row : (row : ListedRow) × (slice_get rows i ≡ Some row) = row_of_number rows i inside in
    let begins : from ≡ length (all_blocks (take i rows)) = read ∙ first_is rows places firsts starts steps i from h inside in
    let finish : to ≡ length (all_blocks (take i rows)) + length (blocks_of row.0) = ends ∙ last_is rows places firsts starts steps i all row.0 h row.1 total in
    let count : length (blocks_of row.0) ≡ to - from = omega arith in
    (omega arith, ap (λ o. option_map (λ (listed : ListedRow). length (blocks_of listed)) o) row.1 ∙ ap Some count)

-- the images block is the last one
pub images_at : (rows : List ListedRow) (i count : ℕ) (row : ListedRow) → slice_get rows i ≡ Some row → option_map (λ (listed : ListedRow). length (blocks_of listed)) (slice_get rows i) ≡ Some count → block_at rows i (count - 1) ≡ Some row.images
unfolding block_at
images_at rows i count row there counted =
    let size : length (row.complements ++ row.images ∷ []) ≡ count =
    cc (ap (λ o. option_map (λ (listed : ListedRow). length (blocks_of listed)) o) there, counted) in
    let last : count - 1 ≡ length row.complements + 0 = omega (arith, size, length-append row.complements (row.images ∷ [])) in
    ap (λ o. slice_get (blocks_of_row o) (count - 1)) there
    ∙ ap (λ k. slice_get (row.complements ++ row.images ∷ []) k) last
    ∙ behind row.complements (row.images ∷ []) 0

-- and those of the complements stand before it
pub complement_at : (rows : List ListedRow) (i k : ℕ) (row : ListedRow) → slice_get rows i ≡ Some row → k < length row.complements → block_at rows i k ≡ Some (get_or row.complements k [])
unfolding block_at
complement_at rows i k row there inside =
    ap (λ o. slice_get (blocks_of_row o) k) there
    ∙ front_of row.complements (row.images ∷ []) k (get_or row.complements k []) (slice_get-get_or row.complements k [] inside)

pub complement_count : (rows : List ListedRow) (i count : ℕ) (row : ListedRow) → slice_get rows i ≡ Some row → option_map (λ (listed : ListedRow). length (blocks_of listed)) (slice_get rows i) ≡ Some count → count - 1 ≡ length row.complements
complement_count rows i count row there counted =
    let size : length (row.complements ++ row.images ∷ []) ≡ count =
    cc (ap (λ o. option_map (λ (listed : ListedRow). length (blocks_of listed)) o) there, counted) in
    omega (arith, size, length-append row.complements (row.images ∷ []))

-- one complement block more
pub one_more : (rows : List ListedRow) (i count k : ℕ) (row : ListedRow) (blocks : List (List Step)) (block : List Step) → slice_get rows i ≡ Some row → option_map (λ (listed : ListedRow). length (blocks_of listed)) (slice_get rows i) ≡ Some count → k < count - 1 → blocks ≡ take k row.complements → block_at rows i k ≡ Some block → blocks ++ block ∷ [] ≡ take (k + 1) row.complements
one_more rows i count k row blocks block there counted inside before found =
    let within : k < length row.complements = omega (arith, complement_count rows i count row there counted) in
    let same : Some (get_or row.complements k []) ≡ Some block = sym (complement_at rows i k row there within) ∙ found in
    let it : block ≡ get_or row.complements k [] = cc in
    ap (λ bs. bs ++ block ∷ []) before ∙ ap (λ b. take k row.complements ++ b ∷ []) it ∙ sym (take_more row.complements k [] within)

-- a number below that of the last block is one of a complement block
pub complement_there : (rows : List ListedRow) (i count k : ℕ) → i < length rows → option_map (λ (listed : ListedRow). length (blocks_of listed)) (slice_get rows i) ≡ Some count → k < count - 1 → IsSome (block_at rows i k)
complement_there rows i count k inside counted below =
    let row : (row : ListedRow) × (slice_get rows i ≡ Some row) = row_of_number rows i inside in
    let within : k < length row.0.complements = omega (arith, complement_count rows i count row.0 row.1 counted) in
    subst (λ (o : Option (List Step)). IsSome o) (sym (complement_at rows i k row.0 row.1 within)) refl

-- all of them
pub all_complements : (rows : List ListedRow) (i count : ℕ) (blocks : List (List Step)) → i < length rows → option_map (λ (listed : ListedRow). length (blocks_of listed)) (slice_get rows i) ≡ Some count → (k : ℕ) → count - 1 ≤ k → ((row : ListedRow) → slice_get rows i ≡ Some row → blocks ≡ take k row.complements) → option_map (λ (listed : ListedRow). listed.complements) (slice_get rows i) ≡ Some blocks
all_complements rows i count blocks inside counted k past are =
    let row : (row : ListedRow) × (slice_get rows i ≡ Some row) = row_of_number rows i inside in
    let whole : blocks ≡ row.0.complements = are row.0 row.1 ∙ take_all k row.0.complements (omega (arith, complement_count rows i count row.0 row.1 counted)) in
    ap (λ o. option_map (λ (listed : ListedRow). listed.complements) o) row.1 ∙ ap Some (sym whole)

-- what holds some rows holds those that are found again
pub held_found : (rows : List ListedRow) (places firsts starts : List ℕ) (steps : List Step) → Holds rows places firsts starts steps → Holds (rows_held places firsts starts steps) places firsts starts steps
held_found rows places firsts starts steps h =
    subst (λ rs. Holds rs places firsts starts steps) (sym (held_again rows places firsts starts steps h)) h
