-- Words of letters in pieces, where each letter is that of a symbol.
use Rattle.std.proofs.Common.{◌≡◌, ℕ, suc, List, [], ◌∷◌, ◌++◌, map, refl, sym, ap, ◌∙◌, arith}
use Rattle.std.specs.List.{All, concat}
use Rattle.std.proofs.lemmas.List.{map-append}
use Rattle.std.proofs.lemmas.List.Elements.{All-nil, All-cons}

-- a word of symbols in two, and how both parts are read
pub record IsCut (f : ℕ → ℕ) (w front rest : List ℕ) : Type 0 where
  pub head : List ℕ
  pub tail : List ℕ
  pub joined : w ≡ head ++ tail
  pub front_is : map f head ≡ front
  pub rest_is : map f tail ≡ rest

pub cut : (f : ℕ → ℕ) (w front rest : List ℕ) → front ++ rest ≡ map f w → IsCut f w front rest
cut f w [] rest e = record { head = []; tail = w; joined = refl; front_is = refl; rest_is = sym e }
cut f [] (k ∷ front) rest e = absurd cc
cut f (s ∷ w) (k ∷ front) rest e =
    let here : k ≡ f s = cc in
    let later : front ++ rest ≡ map f w = cc in
    let inner = cut f w front rest later in record {
      head = s ∷ inner.head;
      tail = inner.tail;
      joined = ap (λ (l : List ℕ). s ∷ l) inner.joined;
      front_is = ap (λ (l : List ℕ). f s ∷ l) inner.front_is ∙ ap (λ (j : ℕ). j ∷ front) (sym here);
      rest_is = inner.rest_is;
    }

-- a word of symbols in pieces, and how each is read
pub record AreCut (f : ℕ → ℕ) (w : List ℕ) (pieces : List (List ℕ)) : Type 0 where
  pub parts : List (List ℕ)
  pub joined : w ≡ concat parts
  pub read : map (map f) parts ≡ pieces

no_word : (f : ℕ → ℕ) (w : List ℕ) → [] ≡ map f w → w ≡ []
no_word f [] e = refl
no_word f (s ∷ w) e = absurd cc

pub cut_all : (f : ℕ → ℕ) (pieces : List (List ℕ)) (w : List ℕ) → concat pieces ≡ map f w → AreCut f w pieces
cut_all f [] w e = record { parts = []; joined = no_word f w e; read = refl }
cut_all f (piece ∷ pieces) w e =
    let both = cut f w piece (concat pieces) e in
    let inner = cut_all f pieces both.tail (sym both.rest_is) in record {
      parts = both.head ∷ inner.parts;
      joined = both.joined ∙ ap (λ (l : List ℕ). both.head ++ l) inner.joined;
      read = ap (λ (l : List ℕ). l ∷ map (map f) inner.parts) both.front_is ∙ ap (λ (ls : List (List ℕ)). piece ∷ ls) inner.read;
    }

pub read_pieces : (f : ℕ → ℕ) (parts : List (List ℕ)) → concat (map (map f) parts) ≡ map f (concat parts)
read_pieces f [] = refl
read_pieces f (part ∷ parts) =
    ap (λ (l : List ℕ). map f part ++ l) (read_pieces f parts) ∙ sym (map-append f part (concat parts))

pub unmapped : {X Y : Type 0} (P : Y → Type 0) (f : X → Y) (xs : List X) → All P (map f xs) → All (λ x. P (f x)) xs
unmapped P f [] each = All-nil (λ x. P (f x))
unmapped P f (x ∷ xs) each =
    All-cons (λ y. P (f y)) x xs (each 0 (f x) (omega arith)) (unmapped P f xs (λ i d inside. each (suc i) d (omega (arith, inside))))
