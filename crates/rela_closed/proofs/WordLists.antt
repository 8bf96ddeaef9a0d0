-- Lists of words that get one word more.
use Rattle.std.proofs.Common.{◌≡◌, ℕ, ◌+◌, ◌<◌, ◌≤◌, List, [], ◌∷◌, ◌++◌, length, get_or, take, refl, sym, ap, ◌∙◌, subst, inl, inr, arith}
use Rattle.std.proofs.lemmas.Bool.{cases_lt}
use Rattle.std.proofs.lemmas.List.{get_or_append_left, get_or_push, length_push, take_more}
use Rattle.rela_closed.specs.Words.{AreOrdered, words_from, words_of}
use Rattle.rela_closed.specs.declared.step.Step.{Step}

-- the word of a step
abbrev pub word_by : List (List ℕ) → Step → List ℕ
word_by words step = get_or words step.parent [] ++ step.letter ∷ []

words_push : (words : List (List ℕ)) (steps : List Step) (step : Step) → words_from words (steps ++ step ∷ []) ≡ words_from words steps ++ word_by (words_from words steps) step ∷ []
words_push words [] step = refl
words_push words (first ∷ steps) step = words_push (words ++ word_by words first ∷ []) steps step

words_length : (words : List (List ℕ)) (steps : List Step) → length (words_from words steps) ≡ length words + length steps
words_length words [] = omega arith
words_length words (first ∷ steps) = omega (arith, words_length (words ++ word_by words first ∷ []) steps, length_push words (word_by words first))

pub words_of_length : (steps : List Step) → length (words_of steps) ≡ 1 + length steps
words_of_length steps = words_length ([] ∷ []) steps

pub words_of_push : (steps : List Step) (step : Step) → words_of (steps ++ step ∷ []) ≡ words_of steps ++ word_by (words_of steps) step ∷ []
words_of_push steps step = words_push ([] ∷ []) steps step

pub words_of_more : (steps : List Step) (i : ℕ) (step : Step) → i < length steps → words_of (take (i + 1) steps) ≡ words_of (take i steps) ++ word_by (words_of (take i steps)) (get_or steps i step) ∷ []
words_of_more steps i step below = ap words_of (take_more steps i step below) ∙ words_of_push (take i steps) (get_or steps i step)

-- the words that were there before stay where they are
words_keep : (words : List (List ℕ)) (steps : List Step) (i : ℕ) → i < length words → get_or (words_from words steps) i [] ≡ get_or words i []
words_keep words [] i below = refl
words_keep words (first ∷ steps) i below =
    words_keep (words ++ word_by words first ∷ []) steps i (omega (arith, length_push words (word_by words first)))
    ∙ get_or_append_left words (word_by words first ∷ []) [] i below

pub words_first : (steps : List Step) → get_or (words_of steps) 0 [] ≡ []
words_first steps = words_keep ([] ∷ []) steps 0 (omega arith)

-- one step more
pub ordered_push : (steps steps' : List Step) (step : Step) → steps' ≡ steps ++ step ∷ [] → AreOrdered steps → step.parent ≤ length steps → AreOrdered steps'
ordered_push steps steps' step pushed ordered parent = subst AreOrdered (sym pushed) (λ i d below. elim (cases_lt i (length steps)) [
  | inl old ↦ subst (λ (s : Step). s.parent ≤ i) (sym (get_or_append_left steps (step ∷ []) d i old)) (ordered i d old)
  | inr not_old ↦
      let here : i ≡ length steps = omega (arith, below, length_push steps step) in
      subst (λ (s : Step). s.parent ≤ i) (sym (get_or_push steps step d i (sym here))) (omega arith)
])
