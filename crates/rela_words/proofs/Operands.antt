-- Lists of so many texts.
use Rattle.std.proofs.Common.{◌≡◌, ◌<◌, ◌≤◌, ℕ, ◌↔◌, List, [], ◌∷◌, length, get_or, map, Option, Some, inl, inr, ap, sym, ◌∙◌, arith}
use Rattle.std.specs.Borrow.{Bor}
use Rattle.std.specs.Fmt.{decimal}
use Rattle.rela_words.specs.Parts.{IsLimitUpTo, IsNumber, words_of}
use Rattle.rela_words.proofs.WordKinds.{Word}

abbrev Texts : Type 0
Texts = List (Bor Word)

abbrev bytes_of : Texts → List Word
bytes_of xs = map (λ w. w.now) xs

one : (xs : Texts) (a : Word) (d : Bor Word) → 1 ≤ length xs → length xs < 2 → a ≡ (get_or xs 0 d).now → bytes_of xs ≡ a ∷ []
one [] a d least most ea = absurd (omega (arith, least))
one (x ∷ []) a d least most ea = cc
one (x ∷ y ∷ xs) a d least most ea = absurd (omega (arith, most))

three : (xs : Texts) (a b c : Word) (d e f : Bor Word) → 3 ≤ length xs → length xs < 4 → a ≡ (get_or xs 0 d).now → b ≡ (get_or xs 1 e).now
    → c ≡ (get_or xs 2 f).now → bytes_of xs ≡ a ∷ b ∷ c ∷ []
three [] a b c d e f least most ea eb ec = absurd (omega (arith, least))
three (x ∷ []) a b c d e f least most ea eb ec = absurd (omega (arith, least))
three (x ∷ y ∷ []) a b c d e f least most ea eb ec = absurd (omega (arith, least))
three (x ∷ y ∷ z ∷ []) a b c d e f least most ea eb ec = cc
three (x ∷ y ∷ z ∷ w ∷ xs) a b c d e f least most ea eb ec = absurd (omega (arith, most))

four : (xs : Texts) (a b c g : Word) (d e f h : Bor Word) → 4 ≤ length xs → length xs < 5 → a ≡ (get_or xs 0 d).now → b ≡ (get_or xs 1 e).now
    → c ≡ (get_or xs 2 f).now → g ≡ (get_or xs 3 h).now → bytes_of xs ≡ a ∷ b ∷ c ∷ g ∷ []
four [] a b c g d e f h least most ea eb ec eg = absurd (omega (arith, least))
four (x ∷ []) a b c g d e f h least most ea eb ec eg = absurd (omega (arith, least))
four (x ∷ y ∷ []) a b c g d e f h least most ea eb ec eg = absurd (omega (arith, least))
four (x ∷ y ∷ z ∷ []) a b c g d e f h least most ea eb ec eg = absurd (omega (arith, least))
four (x ∷ y ∷ z ∷ w ∷ []) a b c g d e f h least most ea eb ec eg = cc
four (x ∷ y ∷ z ∷ w ∷ v ∷ xs) a b c g d e f h least most ea eb ec eg = absurd (omega (arith, most))

five : (xs : Texts) (a b c g i : Word) (d e f h j : Bor Word) → 5 ≤ length xs → length xs < 6 → a ≡ (get_or xs 0 d).now → b ≡ (get_or xs 1 e).now
    → c ≡ (get_or xs 2 f).now → g ≡ (get_or xs 3 h).now → i ≡ (get_or xs 4 j).now → bytes_of xs ≡ a ∷ b ∷ c ∷ g ∷ i ∷ []
five [] a b c g i d e f h j least most ea eb ec eg ei = absurd (omega (arith, least))
five (x ∷ []) a b c g i d e f h j least most ea eb ec eg ei = absurd (omega (arith, least))
five (x ∷ y ∷ []) a b c g i d e f h j least most ea eb ec eg ei = absurd (omega (arith, least))
five (x ∷ y ∷ z ∷ []) a b c g i d e f h j least most ea eb ec eg ei = absurd (omega (arith, least))
five (x ∷ y ∷ z ∷ w ∷ []) a b c g i d e f h j least most ea eb ec eg ei = absurd (omega (arith, least))
five (x ∷ y ∷ z ∷ w ∷ v ∷ []) a b c g i d e f h j least most ea eb ec eg ei = cc
five (x ∷ y ∷ z ∷ w ∷ v ∷ u ∷ xs) a b c g i d e f h j least most ea eb ec eg ei = absurd (omega (arith, most))

module _ (r : Option (Bor Texts)) (texts : Bor Texts) (is : r ≡ Some texts) where
  pub one_word : (a : Word) (d : Bor Word) → 1 ≤ length texts.now → length texts.now < 2 → a ≡ (get_or texts.now 0 d).now → words_of r ≡ a ∷ []
  one_word a d least most ea = ap words_of is ∙ one texts.now a d least most ea

  pub three_words : (a b c : Word) (d e f : Bor Word) → 3 ≤ length texts.now → length texts.now < 4 → a ≡ (get_or texts.now 0 d).now
      → b ≡ (get_or texts.now 1 e).now → c ≡ (get_or texts.now 2 f).now → words_of r ≡ a ∷ b ∷ c ∷ []
  three_words a b c d e f least most ea eb ec = ap words_of is ∙ three texts.now a b c d e f least most ea eb ec

  pub four_words : (a b c g : Word) (d e f h : Bor Word) → 4 ≤ length texts.now → length texts.now < 5 → a ≡ (get_or texts.now 0 d).now
      → b ≡ (get_or texts.now 1 e).now → c ≡ (get_or texts.now 2 f).now → g ≡ (get_or texts.now 3 h).now → words_of r ≡ a ∷ b ∷ c ∷ g ∷ []
  four_words a b c g d e f h least most ea eb ec eg = ap words_of is ∙ four texts.now a b c g d e f h least most ea eb ec eg

  pub five_words : (a b c g i : Word) (d e f h j : Bor Word) → 5 ≤ length texts.now → length texts.now < 6 → a ≡ (get_or texts.now 0 d).now
      → b ≡ (get_or texts.now 1 e).now → c ≡ (get_or texts.now 2 f).now → g ≡ (get_or texts.now 3 h).now → i ≡ (get_or texts.now 4 j).now
      → words_of r ≡ a ∷ b ∷ c ∷ g ∷ i ∷ []
  five_words a b c g i d e f h j least most ea eb ec eg ei = ap words_of is ∙ five texts.now a b c g i d e f h j least most ea eb ec eg ei

head_same : (v w : Word) → v ∷ [] ≡ w ∷ [] → v ≡ w
head_same v w e = cc

-- the number of the one text is the limit
pub limit_given : (limits : List Word) (word : Word) (r : Option ℕ) → limits ≡ word ∷ [] → ((n : ℕ) → (r ≡ Some n) ↔ IsNumber 4000000 word n)
    → (n : ℕ) → (r ≡ Some n) ↔ IsLimitUpTo 4000000 limits n
limit_given limits word r are read n = (
  λ e. (let number = (read n).0 e in (inl (are ∙ ap (λ w. w ∷ []) number.0), number.1)),
  λ limit. elim limit.0 [
    | inl e ↦ (read n).1 (head_same word (decimal n) (sym are ∙ e), limit.1)
    | inr e ↦ absurd (let never : word ∷ [] ≡ [] = sym are ∙ e.0 in cc)
  ],
)
