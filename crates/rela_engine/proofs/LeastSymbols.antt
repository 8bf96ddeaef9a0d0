-- For each word of letters the word of the least symbols of their blocks.
use Rattle.std.proofs.Common.{◌≡◌, ◌≢◌, ◌⊎◌, ◌<◌, ℕ, zero, suc, List, [], ◌∷◌, length, map, refl, sym, ◌∙◌, subst, inl, inr, arith}
use Rattle.std.specs.List.{All}
use Rattle.std.proofs.lemmas.Bool.{cases_eq}
use Rattle.std.proofs.lemmas.List.Elements.{All-nil, All-cons, All-head, All-tail}
use Rattle.rela_build.specs.Reading.{read_by}
use Rattle.rela_labels.specs.Partition.{block_of, block_count, IsLeastOf, IsPartition}
use Rattle.rela_engine.specs.Seen.{AreLeast}
use Rattle.rela_engine.proofs.LetterLaws.{covered, is_symbol, read_symbol}

abbrev here_or_later : {P Q : Type 0} → P ⊎ Q → ℕ → ℕ
here_or_later (inl here) later = 0
here_or_later (inr other) later = suc later

-- the first symbol of the block
abbrev pub first_of : List ℕ → ℕ → ℕ
first_of [] k = 0
first_of (b ∷ blocks) k = here_or_later (cases_eq b k) (first_of blocks k)

-- it has the block, where some symbol has, and no symbol before it does
record IsFirstOf (blocks : List ℕ) (k s : ℕ) : Type 0 where
  within : s < length blocks
  member : block_of blocks s ≡ k
  least : (r : ℕ) → r < s → block_of blocks r ≢ k

none_before : (b k : ℕ) (blocks : List ℕ) (later : ℕ) → b ≢ k → ((r : ℕ) → r < later → block_of blocks r ≢ k) → (r : ℕ) → r < suc later → block_of (b ∷ blocks) r ≢ k
none_before b k blocks later other rest zero less = other
none_before b k blocks later other rest (suc r) less = rest r (omega (arith, less))

by_case : (b k : ℕ) (blocks : List ℕ) (later : ℕ) (d : (b ≡ k) ⊎ (b ≡ k → ⊥)) → (s : ℕ) → s < length (b ∷ blocks) → block_of (b ∷ blocks) s ≡ k
    → ((t : ℕ) → t < length blocks → block_of blocks t ≡ k → IsFirstOf blocks k later) → IsFirstOf (b ∷ blocks) k (here_or_later d later)
by_case b k blocks later (inl here) s within member rest = record { within = omega arith; member = here; least = λ r less. absurd (omega (arith, less)) }
by_case b k blocks later (inr other) zero within member rest = absurd (other member)
by_case b k blocks later (inr other) (suc t) within member rest =
    let found = rest t (omega (arith, within)) member in record {
      within = omega (arith, found.within);
      member = found.member;
      least = none_before b k blocks later other found.least;
    }

is_first : (blocks : List ℕ) (k s : ℕ) → s < length blocks → block_of blocks s ≡ k → IsFirstOf blocks k (first_of blocks k)
is_first [] k s within member = absurd (omega (arith, within))
is_first (b ∷ blocks) k s within member = by_case b k blocks (first_of blocks k) (cases_eq b k) s within member (is_first blocks k)

module _ (blocks : List ℕ) (is : IsPartition blocks) where
  least_symbol : (k : ℕ) → k < block_count blocks → IsLeastOf blocks k (first_of blocks k)
  least_symbol k below =
      let some = covered blocks is k below in
      let symbol = is_symbol blocks some.0 (omega (arith, below, some.1)) in
      let found = is_first blocks k some.0 symbol (sym (read_symbol blocks some.0 symbol) ∙ some.1) in
      record { within = found.within; member = found.member; least = found.least }

  abbrev pub least_word : List ℕ → List ℕ
  least_word letters = map (first_of blocks) letters

  pub least_words : (letters : List ℕ) → All (λ k. k < block_count blocks) letters → AreLeast blocks letters (least_word letters)
  least_words [] below = record { read = refl; least = All-nil (λ s. IsLeastOf blocks (block_of blocks s) s) }
  least_words (k ∷ letters) below =
      let first = least_symbol k (All-head (λ k. k < block_count blocks) k letters below) in
      let rest = least_words letters (All-tail (λ k. k < block_count blocks) k letters below) in
      let read : read_by blocks (first_of blocks k) ≡ k = read_symbol blocks (first_of blocks k) first.within ∙ first.member in record {
        read = λ i. read i ∷ rest.read i;
        least = All-cons (λ s. IsLeastOf blocks (block_of blocks s) s) (first_of blocks k) (least_word letters)
            (subst (λ (b : ℕ). IsLeastOf blocks b (first_of blocks k)) (sym first.member) first) rest.least;
      }
