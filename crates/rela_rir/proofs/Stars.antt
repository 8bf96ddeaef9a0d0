-- Words one after another: none, or one and then more.
use Rattle.std.proofs.Common.{◌≡◌, ◌∙◌, ℕ, ◌⊎◌, inl, inr, List, [], ◌∷◌, ◌++◌, refl, ap, zero, suc, arith}
use Rattle.std.specs.Prelude.{◌↔◌}
use Rattle.std.specs.List.{All, concat}
use Rattle.rela_rir.specs.Words.{WordSet, Concatenation, Star}

from_pieces : (X : WordSet) (w : List ℕ) (pieces : List (List ℕ)) → w ≡ concat pieces → All X pieces → (w ≡ []) ⊎ Concatenation X (Star X) w
from_pieces X w [] joined each = inl joined
from_pieces X w (piece ∷ pieces) joined each =
    inr (record {
      front = piece;
      rest = concat pieces;
      split = joined;
      in_front = each 0 [] (omega arith);
      in_rest = record { pieces = pieces; joined = refl; each = λ k d inside. each (suc k) d (omega arith) };
    })

with_piece : (X : WordSet) (piece : List ℕ) (pieces : List (List ℕ)) → X piece → All X pieces → All X (piece ∷ pieces)
with_piece X piece pieces has each zero d inside = has
with_piece X piece pieces has each (suc k) d inside = each k d (omega arith)

pub star_unfolds : (X : WordSet) (w : List ℕ) → Star X w ↔ ((w ≡ []) ⊎ Concatenation X (Star X) w)
star_unfolds X w = (
  (λ star. from_pieces X w star.pieces star.joined star.each),
  λ cases. elim cases [
    | inl none ↦ record { pieces = []; joined = none; each = λ k d inside. absurd (omega arith) }
    | inr parts ↦ record {
      pieces = parts.front ∷ parts.in_rest.pieces;
      joined = parts.split ∙ ap (λ rest. parts.front ++ rest) parts.in_rest.joined;
      each = with_piece X parts.front parts.in_rest.pieces parts.in_front parts.in_rest.each;
    }
  ],
)
