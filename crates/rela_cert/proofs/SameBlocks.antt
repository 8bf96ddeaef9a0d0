-- Listed rows with the same blocks, by their blocks one after another.
use Rattle.std.proofs.Common.{◌≡◌, ◌≢◌, ◌∙◌, ℕ, zero, suc, ◌+◌, ◌-◌, ◌<◌, ◌∷◌, ◌++◌, Bool, true, false, not, Option, Some, List, [], length, get_or, nat_eq, ◌&&◌, refl, sym, ap, subst, arith, length-append}
use Rattle.std.specs.Bool.{Decides}
use Rattle.std.specs.Cmp.{IsEquivalence}
use Rattle.std.specs.Cmp.Lexicographic.{pointwise}
use Rattle.std.specs.List.{slice_get}
use Rattle.std.specs.Prelude.{IsSome, option_map}
use Rattle.std.proofs.lemmas.Bool.{and_parts, eqb-true}
use Rattle.std.proofs.lemmas.Cmp.{and_equiv, nat_eq_equiv, on_equiv}
use Rattle.std.proofs.lemmas.List.{same_lists}
use Rattle.std.proofs.lemmas.Option.{slice_get-get_or, unwrap_or-slice_get}
use Rattle.std.proofs.lemmas.Slice.Eq.{slice_eq-Decides}
use Rattle.std.specs.Option.{unwrap_or}
use Rattle.rela_certfile.specs.Blocks.{block_at, blocks_of, blocks_of_row}
use Rattle.rela_certfile.specs.declared.rows.ListedRow.{ListedRow}
use Rattle.rela_certfile.specs.declared.rows.Step.{Step}
use Rattle.rela_cert.specs.KeptChecks.{complements_of_row}
use Rattle.rela_cert.proofs.ListedRows.{some_is}
use Rattle.rela_cert.proofs.Listings.{map_at, row_there}

module _ (rows : List ListedRow) (i j : ℕ) (row other : ListedRow) (at : slice_get rows i ≡ Some row) (other_at : slice_get rows j ≡ Some other)
    (blocks : (i k : ℕ) (row : ListedRow) → slice_get rows i ≡ Some row → block_at rows i k ≡ slice_get (blocks_of row) k) where
  here : blocks_of_row (slice_get rows i) ≡ blocks_of row
  here = ap blocks_of_row at

  there : blocks_of_row (slice_get rows j) ≡ blocks_of other
  there = ap blocks_of_row other_at

  -- the two rows have the same blocks if they have as many, and each is the same
  pub same_blocks : (count : ℕ) → length (blocks_of row) ≡ count → length (blocks_of other) ≡ count → ((k : ℕ) → k < count → block_at rows i k ≡ block_at rows j k)
      → blocks_of_row (slice_get rows i) ≡ blocks_of_row (slice_get rows j)
  same_blocks count one two each =
      let reads : (k : ℕ) (d : List Step) → k < length (blocks_of row) → get_or (blocks_of row) k d ≡ get_or (blocks_of other) k d = λ k d below.
      let found : slice_get (blocks_of row) k ≡ slice_get (blocks_of other) k =
      sym (blocks i k row at) ∙ (each k (subst (λ (n : ℕ). k < n) one below) ∙ blocks j k other other_at) in
      sym (unwrap_or-slice_get (blocks_of row) k d) ∙ (ap (λ (o : Option (List Step)). unwrap_or o d) found ∙ unwrap_or-slice_get (blocks_of other) k d) in
      here ∙ (same_lists (blocks_of row) (blocks_of other) (one ∙ sym two) reads ∙ sym there)

  -- rows with the same blocks have as many, and each is the same
  module _ (same : blocks_of_row (slice_get rows i) ≡ blocks_of_row (slice_get rows j)) where
    equal : blocks_of row ≡ blocks_of other
    equal = sym here ∙ (same ∙ there)

    pub each_same : (k : ℕ) → block_at rows i k ≡ block_at rows j k
    each_same k = blocks i k row at ∙ (ap (λ (bs : List (List Step)). slice_get bs k) equal ∙ sym (blocks j k other other_at))

-- ---- steps

-- whether two steps are equal
abbrev pub same_step : Step → Step → Bool
same_step x y = nat_eq x.parent y.parent && nat_eq x.symbol y.symbol

steps_alike : IsEquivalence same_step
steps_alike = and_equiv (on_equiv (λ (step : Step). step.parent) nat_eq_equiv) (on_equiv (λ (step : Step). step.symbol) nat_eq_equiv)

equal_steps : (x y : Step) → same_step x y ≡ true → x ≡ y
equal_steps x y same =
    let parts = and_parts (nat_eq x.parent y.parent) (nat_eq x.symbol y.symbol) same in
    let first : x.parent ≡ y.parent = eqb-true x.parent y.parent parts.0 in
    let second : x.symbol ≡ y.symbol = eqb-true x.symbol y.symbol parts.1 in
    λ i. record { parent = first i; symbol = second i }

steps_decide : (x y : Step) → Decides (same_step x y) (x ≡ y)
steps_decide x y = (equal_steps x y, λ e. subst (λ z. same_step x z ≡ true) e (steps_alike.refl x))

-- what `!=` says of two blocks
module _ (xs ys : List Step) (differ : Bool) (is : differ ≡ not (pointwise same_step xs ys)) where
  decided : Decides (pointwise same_step xs ys) (xs ≡ ys)
  decided = slice_eq-Decides steps_decide xs ys (pointwise same_step xs ys) refl

  pub blocks_differ : differ ≡ true → xs ≢ ys
  blocks_differ told same =
      let equal : pointwise same_step xs ys ≡ true = decided.1 same in
      let e : true ≡ not true = sym told ∙ (is ∙ ap not equal) in
      absurd (cc)

  pub blocks_equal : differ ≡ false → xs ≡ ys
  blocks_equal told = decided.0 (by_not (pointwise same_step xs ys) (sym is ∙ told))
    where
      by_not : (b : Bool) → not b ≡ false → b ≡ true
      by_not true e = refl
      by_not false e = sym e

-- ---- blocks

-- the blocks of a row that is listed
pub block_there : (rows : List ListedRow) (i k count : ℕ)
    → ((i k : ℕ) (row : ListedRow) → slice_get rows i ≡ Some row → block_at rows i k ≡ slice_get (blocks_of row) k)
    → i < length rows → option_map (λ listed. length (blocks_of listed)) (slice_get rows i) ≡ Some count → k < count → IsSome (block_at rows i k)
block_there rows i k count blocks below told inside =
    let found = row_there rows i below in
    let many : length (blocks_of found.0) ≡ count = map_at (λ (r : ListedRow). length (blocks_of r)) rows i found.0 count found.1 told in
    some_is (block_at rows i k) (get_or (blocks_of found.0) k [])
    (blocks i k found.0 found.1 ∙ slice_get-get_or (blocks_of found.0) k [] (omega (arith, inside, many)))

module _ (rows : List ListedRow) (i j : ℕ) (blocks : (i k : ℕ) (row : ListedRow) → slice_get rows i ≡ Some row → block_at rows i k ≡ slice_get (blocks_of row) k)
    (below : i < length rows) (other_below : j < length rows) where
  abbrev pub one : (row : ListedRow) × (slice_get rows i ≡ Some row)
  one = row_there rows i below

  abbrev pub other : (row : ListedRow) × (slice_get rows j ≡ Some row)
  other = row_there rows j other_below

  -- two rows have the same blocks if they have as many, and each is the same
  pub same_if_each : (count : ℕ) → option_map (λ listed. length (blocks_of listed)) (slice_get rows i) ≡ Some count
      → option_map (λ listed. length (blocks_of listed)) (slice_get rows j) ≡ Some count → ((k : ℕ) → k < count → block_at rows i k ≡ block_at rows j k)
      → blocks_of_row (slice_get rows i) ≡ blocks_of_row (slice_get rows j)
  same_if_each count told other_told each =
      same_blocks rows i j one.0 other.0 one.1 other.1 blocks count
      (map_at (λ (r : ListedRow). length (blocks_of r)) rows i one.0 count one.1 told)
      (map_at (λ (r : ListedRow). length (blocks_of r)) rows j other.0 count other.1 other_told) each

  -- and rows with the same blocks have each the same
  pub each_if_same : blocks_of_row (slice_get rows i) ≡ blocks_of_row (slice_get rows j) → (k : ℕ) → block_at rows i k ≡ block_at rows j k
  each_if_same same k = each_same rows i j one.0 other.0 one.1 other.1 blocks same k

-- ---- complement blocks

-- what stands at a place of the first of two lists
slice_get_front : {X : Type 0} (xs ys : List X) (k : ℕ) → k < length xs → slice_get (xs ++ ys) k ≡ slice_get xs k
slice_get_front [] ys k below = absurd (omega (arith, below))
slice_get_front (x ∷ xs) ys zero below = refl
slice_get_front (x ∷ xs) ys (suc k) below = slice_get_front xs ys k (omega (arith, below))

module _ (rows : List ListedRow) (blocks : (i k : ℕ) (row : ListedRow) → slice_get rows i ≡ Some row → block_at rows i k ≡ slice_get (blocks_of row) k) (i j : ℕ)
    (row other : ListedRow) (at : slice_get rows i ≡ Some row) (other_at : slice_get rows j ≡ Some other) where
  block_is : (i k : ℕ) (row : ListedRow) → slice_get rows i ≡ Some row → k < length row.complements → block_at rows i k ≡ slice_get row.complements k
  block_is i k row at below = blocks i k row at ∙ slice_get_front row.complements (row.images ∷ []) k below

  complements_if : length row.complements ≡ length other.complements → ((k : ℕ) → k < length row.complements → block_at rows i k ≡ block_at rows j k) → row.complements ≡ other.complements
  complements_if same each =
      let reads : (k : ℕ) (d : List Step) → k < length row.complements → get_or row.complements k d ≡ get_or other.complements k d = λ k d below.
      let found : slice_get row.complements k ≡ slice_get other.complements k =
      sym (block_is i k row at below) ∙ (each k below ∙ block_is j k other other_at (omega (arith, below, same))) in
      sym (unwrap_or-slice_get row.complements k d) ∙ (ap (λ (o : Option (List Step)). unwrap_or o d) found ∙ unwrap_or-slice_get other.complements k d) in
      same_lists row.complements other.complements same reads

  each_if : row.complements ≡ other.complements → (k : ℕ) → k < length row.complements → block_at rows i k ≡ block_at rows j k
  each_if same k below =
      let long : length row.complements ≡ length other.complements = ap (λ (bs : List (List Step)). length bs) same in
      block_is i k row at below ∙ (ap (λ (bs : List (List Step)). slice_get bs k) same ∙ sym (block_is j k other other_at (omega (arith, below, long))))

module _ (rows : List ListedRow) (blocks : (i k : ℕ) (row : ListedRow) → slice_get rows i ≡ Some row → block_at rows i k ≡ slice_get (blocks_of row) k) (i j : ℕ)
    (below : i < length rows) (other_below : j < length rows) where
  abbrev first : (row : ListedRow) × (slice_get rows i ≡ Some row)
  first = row_there rows i below

  abbrev second : (row : ListedRow) × (slice_get rows j ≡ Some row)
  second = row_there rows j other_below

  -- how many complement blocks a row has that has so many blocks
  fewer : (i : ℕ) (row : ListedRow) (count : ℕ) → slice_get rows i ≡ Some row → option_map (λ listed. length (blocks_of listed)) (slice_get rows i) ≡ Some count
      → length row.complements + 1 ≡ count
  fewer i row count at told =
      let many : length (blocks_of row) ≡ count = map_at (λ (r : ListedRow). length (blocks_of r)) rows i row count at told in
      sym (length-append row.complements (row.images ∷ [])) ∙ many

  pub same_complements_if_each : (count : ℕ) → option_map (λ listed. length (blocks_of listed)) (slice_get rows i) ≡ Some count
      → option_map (λ listed. length (blocks_of listed)) (slice_get rows j) ≡ Some count → ((k : ℕ) → k < count - 1 → block_at rows i k ≡ block_at rows j k)
      → complements_of_row (slice_get rows i) ≡ complements_of_row (slice_get rows j)
  same_complements_if_each count told other_told each =
      let one = fewer i first.0 count first.1 told in
      let two = fewer j second.0 count second.1 other_told in
      ap complements_of_row first.1
      ∙ (complements_if rows blocks i j first.0 second.0 first.1 second.1 (omega (arith, one, two)) (λ k less. each k (omega (arith, less, one)))
      ∙ sym (ap complements_of_row second.1))

  module _ (same : complements_of_row (slice_get rows i) ≡ complements_of_row (slice_get rows j)) where
    equal_complements : first.0.complements ≡ second.0.complements
    equal_complements = sym (ap complements_of_row first.1) ∙ (same ∙ ap complements_of_row second.1)

    pub each_of_complements : (count : ℕ) → option_map (λ listed. length (blocks_of listed)) (slice_get rows i) ≡ Some count
        → (k : ℕ) → k < count - 1 → block_at rows i k ≡ block_at rows j k
    each_of_complements count told k less =
        let one = fewer i first.0 count first.1 told in
        each_if rows blocks i j first.0 second.0 first.1 second.1 equal_complements k (omega (arith, less, one))

    pub same_counts : (count other_count : ℕ) → option_map (λ listed. length (blocks_of listed)) (slice_get rows i) ≡ Some count
        → option_map (λ listed. length (blocks_of listed)) (slice_get rows j) ≡ Some other_count → count ≡ other_count
    same_counts count other_count told other_told =
        let one = fewer i first.0 count first.1 told in
        let two = fewer j second.0 other_count second.1 other_told in
        let long : length first.0.complements ≡ length second.0.complements = ap (λ (bs : List (List Step)). length bs) equal_complements in
        omega (arith, one, two, long)
