-- How words go on from the places of each form of path term, from how they do at its parts.
use Rattle.std.proofs.Common.{◌≡◌, ◌∙◌, ℕ, ◌<◌, ◌⊎◌, inl, inr, List, [], ◌∷◌, ◌++◌, refl, sym, ap, subst, append_assoc}
use Rattle.std.specs.List.{All, concat}
use Rattle.std.proofs.lemmas.List.{append-nil}
use Rattle.std.proofs.lemmas.List.Elements.{All-append, All-nil, All-cons, All-head, All-tail}
use Rattle.rela_rir.specs.Words.{WordSet, Concatenation, Star}
use Rattle.rela_rir.specs.Meaning.{IsPathWord}
use Rattle.rela_rir.specs.Places.{Place, Start, End, Begin, Left, Right, Inner, Both, Seen, Places, EmptyPlaces, LetterPlaces, UnionPlaces, ConcatPlaces, StarPlaces, MeetPlaces, ComplementPlaces}
use Rattle.rela_rir.specs.Following.{Follows}
use Rattle.rela_rir.proofs.Splits.{two_splits, no_front, no_rest, all_front, all_rest, regroup}

pub none : Follows (λ w. ⊥) EmptyPlaces
none w z never = absurd never

pub empty : Follows (λ w. w ≡ []) EmptyPlaces
empty w z is = record {
  place = Start;
  reached = no_front w z is;
  onward = λ u same. ap (λ (front : List ℕ). front ++ z) same ∙ no_rest w z is;
}

pub letters : (member : ℕ → Type 0) → Follows (λ w. (s : ℕ) × (w ≡ s ∷ []) × member s) (LetterPlaces member)
letters member [] z letter = record {
  place = Start;
  reached = refl;
  onward = λ u same. (letter.0, ap (λ (front : List ℕ). front ++ z) same ∙ letter.1, letter.2);
}
letters member (x ∷ w) z letter =
    let is : x ∷ (w ++ z) ≡ letter.0 ∷ [] = letter.1 in
    let first : x ≡ letter.0 = cc in
    let others : w ++ z ≡ [] = cc in
    let front : w ≡ [] = no_front w z others in
    record {
      place = End;
      reached = (letter.0, cc, letter.2);
      onward = λ u end. (end.0, ap (λ (rest : List ℕ). u ++ rest) (no_rest w z others) ∙ append-nil u ∙ end.1, end.2);
    }

pub one : (s : ℕ) → Follows (λ w. w ≡ s ∷ []) (LetterPlaces (λ t. t ≡ s))
one s w z is =
    let passes = letters (λ t. t ≡ s) w z (s, is, refl) in
    record {
      place = passes.place;
      reached = passes.reached;
      onward = λ u at. (let letter = passes.onward u at in letter.1 ∙ ap (λ (t : ℕ). t ∷ []) letter.2);
    }

pub union : (X Y : WordSet) (x y : Places) → Follows X x → Follows Y y → Follows (λ w. X w ⊎ Y w) (UnionPlaces x y)
union X Y x y one two w z (inl has) =
    let passes = one w z has in
    record { place = Left passes.place; reached = passes.reached; onward = λ u at. inl (passes.onward u at) }
union X Y x y one two w z (inr has) =
    let passes = two w z has in
    record { place = Right passes.place; reached = passes.reached; onward = λ u at. inr (passes.onward u at) }

pub meet : (X Y : WordSet) (x y : Places) → Follows X x → Follows Y y → Follows (λ w. X w × Y w) (MeetPlaces x y)
meet X Y x y one two w z has =
    let first = one w z has.0 in
    let second = two w z has.1 in
    record {
      place = Both first.place second.place;
      reached = (first.reached, second.reached);
      onward = λ u at. (first.onward u at.0, second.onward u at.1);
    }

pub joined : (X Y : WordSet) (x y : Places) → Follows X x → Follows Y y → Follows (Concatenation X Y) (ConcatPlaces X x y)
joined X Y x y one two w z c =
    elim (two_splits w z c.front c.rest c.split) [
      | inl r ↦
          let passes = one w r.0 (subst X r.1 c.in_front) in
          record {
            place = Left passes.place;
            reached = passes.reached;
            onward = λ u at. record {
              front = u ++ r.0;
              rest = c.rest;
              split = ap (λ (rest : List ℕ). u ++ rest) r.2 ∙ sym (append_assoc u r.0 c.rest);
              in_front = passes.onward u at;
              in_rest = c.in_rest;
            };
          }
      | inr r ↦
          let passes = two r.0 z (subst Y r.2 c.in_rest) in
          record {
            place = Right passes.place;
            reached = record { front = c.front; rest = r.0; split = r.1; in_front = c.in_front; in_rest = passes.reached };
            onward = λ u at. record {
              front = at.front;
              rest = at.rest ++ z;
              split = ap (λ (front : List ℕ). front ++ z) at.split ∙ append_assoc at.front at.rest z;
              in_front = at.in_front;
              in_rest = passes.onward at.rest at.in_rest;
            };
          }
    ]

pub complement : (n : ℕ) (X : WordSet) (x : Places) → Follows X x → Follows (λ w. IsPathWord n w × (¬ X w)) (ComplementPlaces n x)
complement n X x part w z has = record {
  place = Seen w;
  reached = (front_path, front_path, λ p. ((λ at. at), λ at. at));
  onward = λ u at. (
    All-append (λ s. s < n) u z at.1 rest_path,
    λ bad.
        let passes = part u z bad in
        has.1 (passes.onward w ((at.2 passes.place).0 passes.reached)),
  );
} where
  front_path : IsPathWord n w
  front_path = all_front (λ s. s < n) w z has.0

  rest_path : IsPathWord n z
  rest_path = all_rest (λ s. s < n) w z has.0

-- what is seen of a star at a split: nothing before it, or words of the set and then a part of one more
record InStar (X : List ℕ → Type 0) (x : Place → List ℕ → Type 0) (w z : List ℕ) : Type 0 where
  pub place : Place
  pub reached : Concatenation (Star X) (x place) w
  pub onward : (u : List ℕ) → Concatenation (Star X) (x place) u → Star X (u ++ z)

-- the split lies in the first piece
in_piece : (X : WordSet) (x : Places) → Follows X x → (piece : List ℕ) (pieces : List (List ℕ)) → X piece → All X pieces →
    (w z k : List ℕ) → piece ≡ w ++ k → z ≡ k ++ concat pieces → InStar X x w z
in_piece X x part piece pieces has each w z k front rest =
    let passes = part w k (subst X front has) in
    record {
      place = passes.place;
      reached = record { front = []; rest = w; split = refl; in_front = record { pieces = []; joined = refl; each = All-nil X }; in_rest = passes.reached };
      onward = λ u at. record {
        pieces = at.in_front.pieces ++ ((at.rest ++ k) ∷ pieces);
        joined = regroup u at.front at.rest k z at.in_front.pieces pieces at.split at.in_front.joined rest;
        each = All-append X at.in_front.pieces ((at.rest ++ k) ∷ pieces) at.in_front.each (All-cons X (at.rest ++ k) pieces (passes.onward at.rest at.in_rest) each);
      };
    }

split_star : (X : WordSet) (x : Places) → Follows X x → (pieces : List (List ℕ)) → All X pieces → (w z : List ℕ) → w ++ z ≡ concat pieces →
    ((w ≡ []) × (z ≡ [])) ⊎ InStar X x w z
split_star X x part [] each w z same = inl (no_front w z same, no_rest w z same)
split_star X x part (piece ∷ pieces) each w z same =
    let has : X piece = All-head X piece pieces each in
    let others : All X pieces = All-tail X piece pieces each in
    elim (two_splits w z piece (concat pieces) same) [
      | inl r ↦ inr (in_piece X x part piece pieces has others w z r.0 r.1 r.2)
      | inr r ↦ elim (split_star X x part pieces others r.0 z (sym r.2)) [
        | inl nothing ↦
            let front : piece ≡ w ++ [] = sym (append-nil w ∙ r.1 ∙ ap (λ (v : List ℕ). piece ++ v) nothing.0 ∙ append-nil piece) in
            let rest : z ≡ concat pieces = sym (r.2 ∙ ap (λ (v : List ℕ). v ++ z) nothing.0) in
            inr (in_piece X x part piece pieces has others w z [] front rest)
        | inr inside ↦ inr (record {
          place = inside.place;
          reached = record {
            front = piece ++ inside.reached.front;
            rest = inside.reached.rest;
            split = r.1 ∙ ap (λ (v : List ℕ). piece ++ v) inside.reached.split ∙ sym (append_assoc piece inside.reached.front inside.reached.rest);
            in_front = record {
              pieces = piece ∷ inside.reached.in_front.pieces;
              joined = ap (λ (v : List ℕ). piece ++ v) inside.reached.in_front.joined;
              each = All-cons X piece inside.reached.in_front.pieces has inside.reached.in_front.each;
            };
            in_rest = inside.reached.in_rest;
          };
          onward = inside.onward;
        })
      ]
    ]

pub star : (X : WordSet) (x : Places) → Follows X x → Follows (Star X) (StarPlaces X x)
star X x part w z has =
    elim (split_star X x part has.pieces has.each w z has.joined) [
      | inl nothing ↦ record {
        place = Begin;
        reached = nothing.0;
        onward = λ u at. record { pieces = []; joined = ap (λ (front : List ℕ). front ++ z) at ∙ nothing.1; each = All-nil X };
      }
      | inr inside ↦ record { place = Inner inside.place; reached = inside.reached; onward = inside.onward }
    ]
