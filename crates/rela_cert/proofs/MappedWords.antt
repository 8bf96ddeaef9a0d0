-- Words of symbols read as words of letters.
use Rattle.std.proofs.Common.{◌≡◌, ◌∙◌, ℕ, zero, suc, ◌+◌, ◌<◌, ◌≤◌, List, [], ◌∷◌, ◌++◌, length, get_or, map, refl, sym, ap, subst, Bor, arith}
use Rattle.std.specs.List.{All}
use Rattle.std.specs.Prelude.{Contains}
use Rattle.std.proofs.lemmas.List.{length-map, get_or-map}
use Rattle.rela_build.specs.Reading.{read_by}
use Rattle.rela_certfile.specs.Listed.{AreSteps, IsBlock, words_after, words_of}
use Rattle.rela_certfile.specs.declared.rows.Step.{Step}
use Rattle.rela_closed.specs.Words as letters
use Rattle.rela_closed.specs.Words.{AreOrdered}
use Rattle.rela_closed.specs.declared.step.Step as letter
use Rattle.rela_cert.specs.Letters.{AreInOrder, letter_step, letter_words}

module _ (f : List ℕ → List ℕ) where
  pub mapped : (ws : List (List ℕ)) (w : List ℕ) → Contains ws w → Contains (map f ws) (f w)
  mapped ws w (k, below, at) = (k, omega (arith, below, length-map ws f), get_or-map f ws k w (f w) below ∙ ap f at)

  pub mapped_back : (ws : List (List ℕ)) (v : List ℕ) → Contains (map f ws) v → (w : List ℕ) × Contains ws w × (f w ≡ v)
  mapped_back ws v (k, below, at) =
      let within : k < length ws = omega (arith, below, length-map ws f) in
      (get_or ws k [], (k, within, inside ws k within), sym (get_or-map f ws k [] v within) ∙ at) where
        inside : (ws : List (List ℕ)) (k : ℕ) → k < length ws → get_or ws k (get_or ws k []) ≡ get_or ws k []
        inside [] k within = absurd (omega (arith, within))
        inside (w ∷ ws) zero within = refl
        inside (w ∷ ws) (suc k) within = inside ws k (omega (arith, within))

-- ---- the words of steps

map_push : (f : ℕ → ℕ) (w : List ℕ) (s : ℕ) → map f (w ++ s ∷ []) ≡ map f w ++ f s ∷ []
map_push f [] s = refl
map_push f (x ∷ w) s = ap (λ (r : List ℕ). f x ∷ r) (map_push f w s)

pub pushed : (f : ℕ → ℕ) (w : List ℕ) (s : ℕ) → map f (w ++ s ∷ []) ≡ map f w ++ f s ∷ []
pushed = map_push

module _ (blocks : List ℕ) where
  abbrev f : ℕ → ℕ
  f = read_by blocks

  maps_push : (ws : List (List ℕ)) (w : List ℕ) → letter_words blocks (ws ++ w ∷ []) ≡ letter_words blocks ws ++ map f w ∷ []
  maps_push [] w = refl
  maps_push (x ∷ ws) w = ap (λ (r : List (List ℕ)). map f x ∷ r) (maps_push ws w)

  word_at : (ws : List (List ℕ)) (k : ℕ) → get_or (letter_words blocks ws) k [] ≡ map f (get_or ws k [])
  word_at [] k = refl
  word_at (w ∷ ws) zero = refl
  word_at (w ∷ ws) (suc k) = word_at ws k

  words_from_are : (ws : List (List ℕ)) (steps : List Step) →
      letters.words_from (letter_words blocks ws) (map (letter_step blocks) steps) ≡ letter_words blocks (words_after ws steps)
  words_from_are ws [] = refl
  words_from_are ws (step ∷ steps) =
      let next : List ℕ = get_or ws step.parent [] ++ step.symbol ∷ [] in
      let one : get_or (letter_words blocks ws) step.parent [] ++ f step.symbol ∷ [] ≡ map f next =
      ap (λ (w : List ℕ). w ++ f step.symbol ∷ []) (word_at ws step.parent) ∙ sym (map_push f (get_or ws step.parent []) step.symbol) in
      let all : letter_words blocks ws ++ (get_or (letter_words blocks ws) step.parent [] ++ f step.symbol ∷ []) ∷ [] ≡ letter_words blocks (ws ++ next ∷ []) =
      ap (λ (w : List ℕ). letter_words blocks ws ++ w ∷ []) one ∙ sym (maps_push ws next) in
      ap (λ (r : List (List ℕ)). letters.words_from r (map (letter_step blocks) steps)) all ∙ words_from_are (ws ++ next ∷ []) steps

  -- the words of the steps by letters are the words of the steps, by letters
  pub words_are : (steps : List Step) → letters.words_of (map (letter_step blocks) steps) ≡ letter_words blocks (words_of steps)
  words_are steps = words_from_are ([] ∷ []) steps

  parents_from : (bound words : ℕ) (steps : List Step) → AreSteps words bound steps → (i : ℕ) (step : Step) → i < length steps
      → (get_or steps i step).parent < words + i
  parents_from bound words [] are i step below = absurd (omega (arith, below))
  parents_from bound words (s ∷ steps) are zero step below = omega (arith, are.0)
  parents_from bound words (s ∷ steps) are (suc i) step below =
      let rest = parents_from bound (words + 1) steps are.2 i step (omega (arith, below)) in omega (arith, rest)

  symbols_from : (bound words : ℕ) (steps : List Step) → AreSteps words bound steps → All (λ step. step.symbol < bound) steps
  symbols_from bound words [] are i step below = absurd (omega (arith, below))
  symbols_from bound words (s ∷ steps) are zero step below = are.1
  symbols_from bound words (s ∷ steps) are (suc i) step below = symbols_from bound (words + 1) steps are.2 i step (omega (arith, below))

  -- the steps of a block are in order, also below a greater bound
  pub in_order : (bound more : ℕ) (steps : List Step) → bound ≤ more → IsBlock bound steps → AreInOrder more steps
  in_order bound more steps less are = (
    λ i step below. let one = symbols_from bound 1 steps are i step below in omega (arith, one, less),
    λ i step below. let one = parents_from bound 1 steps are i step below in omega (arith, one),
  )

  -- and so are those of each of some blocks
  pub all_in_order : (bound more : ℕ) (xs : List (Bor (List Step))) → bound ≤ more → All (λ x. IsBlock bound x.now) xs → All (λ x. AreInOrder more x.now) xs
  all_in_order bound more xs less are i x below = in_order bound more (get_or xs i x).now less (are i x below)

  -- steps in order are so by letters too
  pub ordered : (bound : ℕ) (steps : List Step) (xs : List letter.Step) → xs ≡ map (letter_step blocks) steps → AreInOrder bound steps → AreOrdered xs
  ordered bound steps xs is are =
      subst AreOrdered (sym is) (λ i step below.
      let within : i < length steps = omega (arith, below, length-map steps (letter_step blocks)) in
      let d : Step = record { parent = 0; symbol = 0 } in
      let at : get_or (map (letter_step blocks) steps) i step ≡ letter_step blocks (get_or steps i d) = get_or-map (letter_step blocks) steps i d step within in
      let same : (get_or (map (letter_step blocks) steps) i step).parent ≡ (get_or steps i d).parent = ap (λ (s : letter.Step). s.parent) at in
      let low = are.1 i d within in
      omega (arith, same, low))

  pub letter_words_are : (steps : List Step) (xs : List letter.Step) → xs ≡ map (letter_step blocks) steps → letters.words_of xs ≡ letter_words blocks (words_of steps)
  letter_words_are steps xs is = ap letters.words_of is ∙ words_are steps

-- the block that is found at a place is in order where all are
pub block_in_order : (bound : ℕ) (blocks : List (Bor (List Step))) (number : ℕ) (b : Bor (List Step)) → All (λ x. AreInOrder bound x.now) blocks
    → number < length blocks → b ≡ get_or blocks number b → AreInOrder bound b.now
block_in_order bound blocks number b all within at =
    subst (λ (x : Bor (List Step)). AreInOrder bound x.now) (sym at) (all number b within)
