-- Moves of each kind that stand in lists of their own, state after state.
use Rattle.std.proofs.Common.{◌≡◌, ℕ, zero, suc, ◌<◌, List, [], ◌∷◌, ◌++◌, length, get_or, refl, ap, arith}
use Rattle.rela_letter_image.specs.LetterMoves.{Laid, laid_side_by_side}
use Rattle.rela_letter_image.specs.declared.letter_moves.AloneMove.{AloneMove}
use Rattle.rela_letter_image.specs.declared.letter_moves.LetterMove.{LetterMove}
use Rattle.rela_letter_image.specs.declared.letter_moves.SetMove.{SetMove}

pub side_length : (alones : List (List AloneMove)) (sets : List (List SetMove)) (letters : List (List LetterMove)) → length sets ≡ length alones → length letters ≡ length alones
    → length (laid_side_by_side alones sets letters) ≡ length alones
side_length [] sets letters two three = refl
side_length (a ∷ alones) [] letters two three = absurd (omega (arith, two))
side_length (a ∷ alones) (s ∷ sets) [] two three = absurd (omega (arith, three))
side_length (a ∷ alones) (s ∷ sets) (l ∷ letters) two three = ap suc (side_length alones sets letters (omega (arith, two)) (omega (arith, three)))

pub side_more : (alones : List (List AloneMove)) (sets : List (List SetMove)) (letters : List (List LetterMove)) (a : List AloneMove) (s : List SetMove) (l : List LetterMove)
    → length sets ≡ length alones → length letters ≡ length alones
    → laid_side_by_side (alones ++ a ∷ []) (sets ++ s ∷ []) (letters ++ l ∷ []) ≡ laid_side_by_side alones sets letters ++ record { alone = a; by_set = s; by_letter = l } ∷ []
side_more [] [] [] a s l two three = refl
side_more [] (x ∷ sets) letters a s l two three = absurd (omega (arith, two))
side_more [] [] (x ∷ letters) a s l two three = absurd (omega (arith, three))
side_more (x ∷ alones) [] letters a s l two three = absurd (omega (arith, two))
side_more (x ∷ alones) (y ∷ sets) [] a s l two three = absurd (omega (arith, three))
side_more (x ∷ alones) (y ∷ sets) (z ∷ letters) a s l two three =
    ap (λ (r : List Laid). record { alone = x; by_set = y; by_letter = z } ∷ r) (side_more alones sets letters a s l (omega (arith, two)) (omega (arith, three)))

pub side_at : (alones : List (List AloneMove)) (sets : List (List SetMove)) (letters : List (List LetterMove)) (q : ℕ) (none : Laid) → length sets ≡ length alones → length letters ≡ length alones
    → q < length alones → record { alone = get_or alones q []; by_set = get_or sets q []; by_letter = get_or letters q [] } ≡ get_or (laid_side_by_side alones sets letters) q none
side_at [] sets letters q none two three below = absurd (omega (arith, below))
side_at (x ∷ alones) [] letters q none two three below = absurd (omega (arith, two))
side_at (x ∷ alones) (y ∷ sets) [] q none two three below = absurd (omega (arith, three))
side_at (x ∷ alones) (y ∷ sets) (z ∷ letters) zero none two three below = refl
side_at (x ∷ alones) (y ∷ sets) (z ∷ letters) (suc q) none two three below = side_at alones sets letters q none (omega (arith, two)) (omega (arith, three)) (omega (arith, below))
