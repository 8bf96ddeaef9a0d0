-- Steps of letters by the least symbols of their blocks.
use Rattle.std.proofs.Common.{◌≡◌, ◌∙◌, ℕ, zero, suc, ◌+◌, ◌<◌, Bool, true, List, [], ◌∷◌, ◌++◌, length, get_or, map, refl, sym, ap, subst, arith}
use Rattle.std.specs.List.{All}
use Rattle.std.proofs.lemmas.List.Elements.{All-cons, All-head, All-nil, All-push, All-tail}
use Rattle.rela_build.specs.Complement.{IsOver}
use Rattle.rela_build.specs.Reading.{read_by}
use Rattle.rela_certfile.specs.Listed.{AreSteps, IsBlock, words_after, words_of}
use Rattle.rela_certfile.specs.declared.rows.Step.{Step}
use Rattle.rela_closed.specs.Words as letters
use Rattle.rela_closed.specs.declared.step.Step as letter
use Rattle.rela_labels.specs.Letters.{has}
use Rattle.rela_labels.specs.Partition.{IsLeastOf}
use Rattle.rela_cert.specs.Found.{AreBySymbols, IsBySymbol}
use Rattle.rela_cert.specs.Letters.{letter_step, letter_words}
use Rattle.rela_cert.proofs.LeastOrder.{IsLeast}
use Rattle.rela_cert.proofs.LetterLaws.{read_symbol}
use Rattle.rela_cert.proofs.MappedWords.{words_are}

-- ---- the letters of the steps

module _ (over : List Bool) where
  abbrev Reads : letter.Step → Type 0
  Reads step = has over step.letter ≡ true

  -- the words before are among those after
  words_before : (words : List (List ℕ)) (steps : List letter.Step) → All (IsOver over) (letters.words_from words steps) → All (IsOver over) words
  words_before words [] all = all
  words_before words (step ∷ steps) all =
      let next : List ℕ = get_or words step.parent [] ++ step.letter ∷ [] in
      front words next (words_before (words ++ next ∷ []) steps all) where
        front : (ws : List (List ℕ)) (w : List ℕ) → All (IsOver over) (ws ++ w ∷ []) → All (IsOver over) ws
        front [] w each = All-nil (IsOver over)
        front (v ∷ ws) w each = All-cons (IsOver over) v ws (All-head (IsOver over) v (ws ++ w ∷ []) each) (front ws w (All-tail (IsOver over) v (ws ++ w ∷ []) each))

  last_word : (ws : List (List ℕ)) (w : List ℕ) → All (IsOver over) (ws ++ w ∷ []) → IsOver over w
  last_word [] w each = All-head (IsOver over) w [] each
  last_word (v ∷ ws) w each = last_word ws w (All-tail (IsOver over) v (ws ++ w ∷ []) each)

  last_letter : (w : List ℕ) (k : ℕ) → IsOver over (w ++ k ∷ []) → has over k ≡ true
  last_letter [] k each = All-head (λ j. has over j ≡ true) k [] each
  last_letter (j ∷ w) k each = last_letter w k (All-tail (λ i. has over i ≡ true) j (w ++ k ∷ []) each)

  reads_from : (words : List (List ℕ)) (steps : List letter.Step) → All (IsOver over) (letters.words_from words steps) → All Reads steps
  reads_from words [] all = All-nil Reads
  reads_from words (step ∷ steps) all =
      let next : List ℕ = get_or words step.parent [] ++ step.letter ∷ [] in
      All-cons Reads step steps
      (last_letter (get_or words step.parent []) step.letter (last_word words next (words_before (words ++ next ∷ []) steps all)))
      (reads_from (words ++ next ∷ []) steps all)

  -- where the words are over a set, so are the letters of the steps
  pub reads_each : (steps : List letter.Step) → All (IsOver over) (letters.words_of steps) → All Reads steps
  reads_each steps all = reads_from ([] ∷ []) steps all

-- ---- by symbols

module _ (blocks : List ℕ) where
  same_step : (l : letter.Step) (s : Step) → IsBySymbol blocks l s → l ≡ letter_step blocks s
  same_step l s by =
      let letter : l.letter ≡ read_by blocks s.symbol = sym (read_symbol blocks s.symbol by.least.within ∙ by.least.member) in
      λ i. record { parent = sym by.parent i; letter = letter i }

  -- the letters of the symbols are those of the steps
  pub letter_steps : (ls : List letter.Step) (ss : List Step) → AreBySymbols blocks ls ss → ls ≡ map (letter_step blocks) ss
  letter_steps [] [] zip = refl
  letter_steps [] (s ∷ ss) zip = absurd zip
  letter_steps (l ∷ ls) [] zip = absurd zip
  letter_steps (l ∷ ls) (s ∷ ss) zip =
      let first = same_step l s zip.0 in
      let rest = letter_steps ls ss zip.1 in
      λ i. first i ∷ rest i

  pub words_by_letters : (ls : List letter.Step) (ss : List Step) → AreBySymbols blocks ls ss → letters.words_of ls ≡ letter_words blocks (words_of ss)
  words_by_letters ls ss zip = ap letters.words_of (letter_steps ls ss zip) ∙ words_are blocks ss

  abbrev AreLeast : List (List ℕ) → Type 0
  AreLeast words = All (All (IsLeast blocks)) words

  word_there : (words : List (List ℕ)) (k : ℕ) → AreLeast words → All (IsLeast blocks) (get_or words k [])
  word_there [] k least = All-nil (IsLeast blocks)
  word_there (w ∷ ws) zero least = All-head (All (IsLeast blocks)) w ws least
  word_there (w ∷ ws) (suc k) least = word_there ws k (All-tail (All (IsLeast blocks)) w ws least)

  least_from : (words : List (List ℕ)) (ls : List letter.Step) (ss : List Step) → AreBySymbols blocks ls ss → AreLeast words → AreLeast (words_after words ss)
  least_from words [] [] zip least = least
  least_from words [] (s ∷ ss) zip least = absurd zip
  least_from words (l ∷ ls) [] zip least = absurd zip
  least_from words (l ∷ ls) (s ∷ ss) zip least =
      let here : IsLeast blocks s.symbol = subst (λ (b : ℕ). IsLeastOf blocks b s.symbol) (sym zip.0.least.member) zip.0.least in
      let next : List ℕ = get_or words s.parent [] ++ s.symbol ∷ [] in
      least_from (words ++ next ∷ []) ls ss zip.1
      (All-push (All (IsLeast blocks)) words next least (All-push (IsLeast blocks) (get_or words s.parent []) s.symbol (word_there words s.parent least) here))

  -- each word of the steps is of least symbols
  pub least_each : (ls : List letter.Step) (ss : List Step) → AreBySymbols blocks ls ss → AreLeast (words_of ss)
  least_each ls ss zip = least_from ([] ∷ []) ls ss zip (All-cons (All (IsLeast blocks)) [] [] (All-nil (IsLeast blocks)) (All-nil (All (IsLeast blocks))))

  -- ---- the steps of a block

  block_from : (over : List Bool) (n first : ℕ) → ((s : ℕ) → has over (read_by blocks s) ≡ true → s < n) → (ls : List letter.Step) (ss : List Step) → AreBySymbols blocks ls ss
      → All (λ step. has over step.letter ≡ true) ls → ((i : ℕ) (step : letter.Step) → i < length ls → (get_or ls i step).parent < first + i) → AreSteps first n ss
  block_from over n first holds [] [] zip reads ordered = tt
  block_from over n first holds [] (s ∷ ss) zip reads ordered = absurd zip
  block_from over n first holds (l ∷ ls) [] zip reads ordered = absurd zip
  block_from over n first holds (l ∷ ls) (s ∷ ss) zip reads ordered =
      let read : has over l.letter ≡ true = All-head (λ step. has over step.letter ≡ true) l ls reads in
      let letter : read_by blocks s.symbol ≡ l.letter = read_symbol blocks s.symbol zip.0.least.within ∙ zip.0.least.member in
      let parent = ordered 0 l (omega arith) in (
        omega (arith, parent, zip.0.parent),
        holds s.symbol (ap (has over) letter ∙ read),
        block_from over n (first + 1) holds ls ss zip.1 (All-tail (λ step. has over step.letter ≡ true) l ls reads)
            (λ i step below. let later = ordered (suc i) step (omega (arith, below)) in omega (arith, later)),
      )

  -- steps that are in order and read letters of a set are those of a block of the set's symbols
  pub are_block : (over : List Bool) (n : ℕ) → ((s : ℕ) → has over (read_by blocks s) ≡ true → s < n) → (ls : List letter.Step) (ss : List Step) → AreBySymbols blocks ls ss
      → All (λ step. has over step.letter ≡ true) ls → letters.AreOrdered ls → IsBlock n ss
  are_block over n holds ls ss zip reads ordered =
      block_from over n 1 holds ls ss zip reads (λ i step below. let parent = ordered i step below in omega (arith, parent))
