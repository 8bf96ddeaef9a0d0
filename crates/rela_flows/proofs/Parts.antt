-- The parts of a text between separators.
use Rattle.std.proofs.Common.{◌≡◌, ◌≢◌, ℕ, ◌+◌, ◌<◌, List, [], ◌∷◌, length, get_or, take, drop, refl, sym, ◌∙◌, ap, arith, eq-eqb, nat_eq}
use Rattle.std.proofs.lemmas.Bool.{ne_eqb}
use Rattle.std.proofs.lemmas.List.Splits.{slice_split_first, slice_split_none, slice_split_at, join_with_byte-slice_split}
use Rattle.std.proofs.lemmas.List.Sums.{position_or_len_is}
use Rattle.std.specs.List.{slice_split, position_or_len, All, AllByRecursion, join_with_byte}

abbrev pub IsNot : ℕ → ℕ → Type 0
IsNot s x = x ≢ s

abbrev pub splits : ℕ → List ℕ → List (List ℕ)
splits s text = slice_split (λ b. nat_eq b s) text

pub splits_none : (s : ℕ) (text : List ℕ) → All (IsNot s) text → splits s text ≡ text ∷ []
splits_none s text none = slice_split_none (λ b. nat_eq b s) text (λ k d inside. ne_eqb (get_or text k d) s (none k d inside))

pub splits_at : (s : ℕ) (text : List ℕ) (i : ℕ) → i < length text → get_or text i 0 ≡ s → ((k : ℕ) → k < i → get_or text k 0 ≢ s) → splits s text ≡ take i text ∷ splits s (drop (i + 1) text)
splits_at s text i inside here before =
    let first : position_or_len (λ b. nat_eq b s) text ≡ i =
    position_or_len_is (λ b. nat_eq b s) text i 0 (omega arith)
    (λ k under. ne_eqb (get_or text k 0) s (before k under))
    (λ _. eq-eqb (get_or text i 0) s here) in
    slice_split_first (λ b. nat_eq b s) text 0 (omega arith)
    ∙ ap (λ j. take j text ∷ splits s (drop (j + 1) text)) first

-- parts that hold no separator are those of their joined text
pub splits_joined : (s : ℕ) (part : List ℕ) (parts : List (List ℕ)) → AllByRecursion (All (IsNot s)) (part ∷ parts) → splits s (join_with_byte s (part ∷ parts)) ≡ part ∷ parts
splits_joined s part [] apart = splits_none s part apart.0
splits_joined s part (next ∷ more) apart =
    slice_split_at (λ b. nat_eq b s) part s (join_with_byte s (next ∷ more)) (λ k d inside. ne_eqb (get_or part k d) s (apart.0 k d inside)) (eq-eqb s s refl)
    ∙ ap (λ rest. part ∷ rest) (splits_joined s next more apart.1)

pub joined_splits : (s : ℕ) (text : List ℕ) → text ≡ join_with_byte s (splits s text)
joined_splits s text = sym (join_with_byte-slice_split s text)
