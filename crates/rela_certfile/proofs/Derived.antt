-- What follows for listed rows, and for the steps and the words of a block.
use Rattle.std.proofs.Common.{◌≡◌, ℕ, ◌+◌, ◌<◌, ◌≤◌, zero, suc, Some, List, [], ◌∷◌, ◌++◌, length, get_or, refl, sym, ◌∙◌, ap, subst, length-append, arith}
use Rattle.std.specs.List.{All, slice_get}
use Rattle.std.proofs.lemmas.Option.{get_or_from_slice_get, slice_get-get_or}
use Rattle.rela_certfile.specs.declared.rows.Step.{Step}
use Rattle.rela_certfile.specs.declared.rows.ListedRow.{ListedRow}
use Rattle.rela_certfile.specs.Blocks.{block_at, blocks_of, blocks_of_row}
use Rattle.rela_certfile.specs.Layout.{Layout, shape_at}
use Rattle.rela_certfile.specs.Listed.{AreListedFrom, AreSteps, IsListedAs, words_after}
use Rattle.rela_certfile.proofs.Parted.{behind, front_of}

-- a listed row stands at its place or behind it, and its blocks are as its check asks
pub listed_from : (l : Layout) (next : ℕ) (rows : List ListedRow) (i : ℕ) (row : ListedRow) → AreListedFrom l next rows → slice_get rows i ≡ Some row → (next ≤ row.place) × IsListedAs (shape_at l row.place) row
listed_from l next [] i row are is = cc
listed_from l next (r ∷ rows) zero row are is =
    let same : r ≡ row = cc in
    subst (λ (r : ListedRow). (next ≤ r.place) × IsListedAs (shape_at l r.place) r) same (are.0, are.1)
listed_from l next (r ∷ rows) (suc i) row are is =
    let rest : (r.place + 1 ≤ row.place) × IsListedAs (shape_at l row.place) row = listed_from l (r.place + 1) rows i row are.2 is in
    (omega (arith, are.0, rest.0), rest.1)

-- later rows stand behind earlier ones
pub ordered_from : (l : Layout) (next : ℕ) (rows : List ListedRow) (i j : ℕ) (a b : ListedRow) → AreListedFrom l next rows → i < j → slice_get rows i ≡ Some a → slice_get rows j ≡ Some b → a.place < b.place
ordered_from l next [] i j a b are less at is = cc
ordered_from l next (r ∷ rows) zero zero a b are less at is = absurd (omega arith)
ordered_from l next (r ∷ rows) zero (suc j) a b are less at is =
    let same : r ≡ a = cc in
    let behind : r.place + 1 ≤ b.place = (listed_from l (r.place + 1) rows j b are.2 is).0 in
    omega (arith, ap (λ r. r.place) same)
ordered_from l next (r ∷ rows) (suc i) zero a b are less at is = absurd (omega arith)
ordered_from l next (r ∷ rows) (suc i) (suc j) a b are less at is =
    ordered_from l (r.place + 1) rows i j a b are.2 (omega arith) at is

-- one row more
pub row_appended : (l : Layout) (next : ℕ) (rows : List ListedRow) (row : ListedRow) → AreListedFrom l next rows → All (λ listed. listed.place < row.place) rows → next ≤ row.place → IsListedAs (shape_at l row.place) row → AreListedFrom l next (rows ++ row ∷ [])
row_appended l next [] row are before from listed = (from, listed, tt)
row_appended l next (r ∷ rows) row are before from listed =
    let below : r.place < row.place = before 0 r (omega arith) in
    (are.0, are.1, row_appended l (r.place + 1) rows row are.2 (λ k d inside. before (suc k) d (omega arith)) (omega arith) listed)

-- the blocks of a row
pub row_block_is : (rows : List ListedRow) (i k : ℕ) (row : ListedRow) → slice_get rows i ≡ Some row → block_at rows i k ≡ slice_get (blocks_of row) k
unfolding block_at
row_block_is rows i k row is = ap (λ o. slice_get (blocks_of_row o) k) is

-- the steps of a block one by one, where so many words stand before them
pub step_within : (words bound : ℕ) (steps : List Step) (j : ℕ) (step : Step) → AreSteps words bound steps → slice_get steps j ≡ Some step → (step.parent < words + j) × (step.symbol < bound)
step_within words bound [] j step are is = cc
step_within words bound (s ∷ steps) zero step are is =
    let same : s ≡ step = cc in
    (omega (arith, are.0, ap (λ s. s.parent) same), omega (arith, are.1, ap (λ s. s.symbol) same))
step_within words bound (s ∷ steps) (suc j) step are is =
    let rest : (step.parent < words + 1 + j) × (step.symbol < bound) = step_within (words + 1) bound steps j step are.2 is in
    (omega (arith, rest.0), rest.1)

pub steps_within : (words bound : ℕ) (steps : List Step) → ((j : ℕ) (step : Step) → slice_get steps j ≡ Some step → (step.parent < words + j) × (step.symbol < bound)) → AreSteps words bound steps
steps_within words bound [] each = tt
steps_within words bound (s ∷ steps) each =
    let first : (s.parent < words + 0) × (s.symbol < bound) = each 0 s refl in
    (omega (arith, first.0), first.1, steps_within (words + 1) bound steps (λ j step is. (let next : (step.parent < words + suc j) × (step.symbol < bound) = each (suc j) step is in (omega (arith, next.0), next.1))))

-- the words of a block one by one
pub words_count : (words : List (List ℕ)) (steps : List Step) → length (words_after words steps) ≡ length words + length steps
words_count words [] = omega arith
words_count words (step ∷ steps) =
    omega (arith, words_count (words ++ (get_or words step.parent [] ++ step.symbol ∷ []) ∷ []) steps, length-append words ((get_or words step.parent [] ++ step.symbol ∷ []) ∷ []))

-- words stay where they are
pub words_stay : (words : List (List ℕ)) (steps : List Step) (i : ℕ) (word : List ℕ) → slice_get words i ≡ Some word → slice_get (words_after words steps) i ≡ Some word
words_stay words [] i word is = is
words_stay words (step ∷ steps) i word is =
    words_stay (words ++ (get_or words step.parent [] ++ step.symbol ∷ []) ∷ []) steps i word (front_of words ((get_or words step.parent [] ++ step.symbol ∷ []) ∷ []) i word is)

-- the words with one more
abbrev extended : List (List ℕ) → Step → List (List ℕ)
extended words step = words ++ (get_or words step.parent [] ++ step.symbol ∷ []) ∷ []

pub word_next : (bound : ℕ) (words : List (List ℕ)) (steps : List Step) (j : ℕ) (step : Step) → AreSteps (length words) bound steps → slice_get steps j ≡ Some step → slice_get (words_after words steps) (length words + j) ≡ Some (get_or (words_after words steps) step.parent [] ++ step.symbol ∷ [])
word_next bound words [] j step are is = cc
word_next bound words (s ∷ steps) zero step are is =
    let same : s ≡ step = cc in
    let parent : slice_get (words_after (extended words s) steps) s.parent ≡ Some (get_or words s.parent []) =
    words_stay (extended words s) steps s.parent (get_or words s.parent [])
    (front_of words ((get_or words s.parent [] ++ s.symbol ∷ []) ∷ []) s.parent (get_or words s.parent []) (slice_get-get_or words s.parent [] are.0)) in
    let here : slice_get (words_after (extended words s) steps) (length words + 0) ≡ Some (get_or words s.parent [] ++ s.symbol ∷ []) =
    words_stay (extended words s) steps (length words + 0) (get_or words s.parent [] ++ s.symbol ∷ [])
    (behind words ((get_or words s.parent [] ++ s.symbol ∷ []) ∷ []) 0) in
    here
    ∙ ap (λ w. Some (w ++ s.symbol ∷ [])) (sym (get_or_from_slice_get (words_after (extended words s) steps) s.parent (get_or words s.parent []) [] parent))
    ∙ ap (λ (t : Step). Some (get_or (words_after (extended words s) steps) t.parent [] ++ t.symbol ∷ [])) same
word_next bound words (s ∷ steps) (suc j) step are is =
    let more : length (extended words s) ≡ length words + 1 = length-append words ((get_or words s.parent [] ++ s.symbol ∷ []) ∷ []) in
    ap (λ n. slice_get (words_after (extended words s) steps) n) (let place : length words + suc j ≡ length (extended words s) + j = omega (arith, more) in place)
    ∙ word_next bound (extended words s) steps j step (subst (λ n. AreSteps n bound steps) (sym more) are.2) is
