-- How pairs of words go on from the places of each form of relation term, from how they do at its parts.
use Rattle.std.proofs.Common.{◌≡◌, ◌∙◌, ℕ, ◌⊎◌, inl, inr, List, [], ◌∷◌, ◌++◌, refl, sym, ap, subst, append_assoc}
use Rattle.std.specs.List.{AllZip, concat}
use Rattle.std.proofs.lemmas.List.{append-nil}
use Rattle.rela_rir.specs.Words.{WordSet, Relation, ImageOf, PairConcatenation, PairStar, Composition}
use Rattle.rela_rir.specs.Places.{Place, Begin, Left, Right, Inner, Both, Places, PairPlaces, ImagePlaces, IdentityPlaces, ProductPlaces, PairUnionPlaces, PairConcatPlaces, PairStarPlaces, ComposePlaces}
use Rattle.rela_rir.specs.Following.{Follows}
use Rattle.rela_rir.proofs.Splits.{two_splits, no_front, no_rest, regroup}

-- some front of the source s, with v, reaches a place at which each pair that reaches it may go on by what is
-- left of s, and by z
pub record PairPasses (R : List ℕ → List ℕ → Type 0) (at : Place → List ℕ → List ℕ → Type 0) (s v z : List ℕ) : Type 0 where
  pub front : List ℕ
  pub rest : List ℕ
  pub split : s ≡ front ++ rest
  pub place : Place
  pub reached : at place front v
  pub onward : (u w : List ℕ) → at place u w → R (u ++ rest) (w ++ z)

abbrev pub PairFollows : Relation → PairPlaces → Type 0
PairFollows R at = (s v z : List ℕ) → R s (v ++ z) → PairPasses R at s v z

pub image : (X : WordSet) (R : Relation) (x : Places) (r : PairPlaces) → Follows X x → PairFollows R r → Follows (ImageOf X R) (ImagePlaces x r)
image X R x r set relation v z i =
    let pair = relation i.source v z i.related in
    let word = set pair.front pair.rest (subst X pair.split i.in_set) in
    record {
      place = Both word.place pair.place;
      reached = record { source = pair.front; in_set = word.reached; related = pair.reached };
      onward = λ u at. record {
        source = at.source ++ pair.rest;
        in_set = word.onward at.source at.in_set;
        related = pair.onward at.source u at.related;
      };
    }

pub identity : (X : WordSet) (x : Places) → Follows X x → PairFollows (λ u v. (u ≡ v) × X u) (IdentityPlaces x)
identity X x part s v z has =
    let passes = part v z (subst X has.0 has.1) in
    record {
      front = v;
      rest = z;
      split = has.0;
      place = passes.place;
      reached = (refl, passes.reached);
      onward = λ u w at. (ap (λ (front : List ℕ). front ++ z) at.0, passes.onward u at.1);
    }

pub product : (X Y : WordSet) (x y : Places) → Follows Y y → PairFollows (λ u v. X u × Y v) (ProductPlaces X x y)
product X Y x y second s v z has =
    let passes = second v z has.1 in
    record {
      front = s;
      rest = [];
      split = sym (append-nil s);
      place = Right passes.place;
      reached = (has.0, passes.reached);
      onward = λ u w at. (subst X (sym (append-nil u)) at.0, passes.onward w at.1);
    }

pub union : (R S : Relation) (r t : PairPlaces) → PairFollows R r → PairFollows S t → PairFollows (λ u v. R u v ⊎ S u v) (PairUnionPlaces r t)
union R S r t one two s v z (inl has) =
    let passes = one s v z has in
    record { front = passes.front; rest = passes.rest; split = passes.split; place = Left passes.place; reached = passes.reached; onward = λ u w at. inl (passes.onward u w at) }
union R S r t one two s v z (inr has) =
    let passes = two s v z has in
    record { front = passes.front; rest = passes.rest; split = passes.split; place = Right passes.place; reached = passes.reached; onward = λ u w at. inr (passes.onward u w at) }

pub joined : (R S : Relation) (r t : PairPlaces) → PairFollows R r → PairFollows S t → PairFollows (PairConcatenation R S) (PairConcatPlaces R r t)
joined R S r t one two s v z c =
    elim (two_splits v z c.front_out c.rest_out c.split_out) [
      | inl k ↦
          let passes = one c.front_in v k.0 (subst (λ (out : List ℕ). R c.front_in out) k.1 c.in_front) in
          record {
            front = passes.front;
            rest = passes.rest ++ c.rest_in;
            split = c.split_in ∙ ap (λ (front : List ℕ). front ++ c.rest_in) passes.split ∙ append_assoc passes.front passes.rest c.rest_in;
            place = Left passes.place;
            reached = passes.reached;
            onward = λ u w at. record {
              front_in = u ++ passes.rest;
              rest_in = c.rest_in;
              front_out = w ++ k.0;
              rest_out = c.rest_out;
              split_in = sym (append_assoc u passes.rest c.rest_in);
              split_out = ap (λ (rest : List ℕ). w ++ rest) k.2 ∙ sym (append_assoc w k.0 c.rest_out);
              in_front = passes.onward u w at;
              in_rest = c.in_rest;
            };
          }
      | inr k ↦
          let passes = two c.rest_in k.0 z (subst (λ (out : List ℕ). S c.rest_in out) k.2 c.in_rest) in
          record {
            front = c.front_in ++ passes.front;
            rest = passes.rest;
            split = c.split_in ∙ ap (λ (rest : List ℕ). c.front_in ++ rest) passes.split ∙ sym (append_assoc c.front_in passes.front passes.rest);
            place = Right passes.place;
            reached = record {
              front_in = c.front_in;
              rest_in = passes.front;
              front_out = c.front_out;
              rest_out = k.0;
              split_in = refl;
              split_out = k.1;
              in_front = c.in_front;
              in_rest = passes.reached;
            };
            onward = λ u w at. record {
              front_in = at.front_in;
              rest_in = at.rest_in ++ passes.rest;
              front_out = at.front_out;
              rest_out = at.rest_out ++ z;
              split_in = ap (λ (front : List ℕ). front ++ passes.rest) at.split_in ∙ append_assoc at.front_in at.rest_in passes.rest;
              split_out = ap (λ (front : List ℕ). front ++ z) at.split_out ∙ append_assoc at.front_out at.rest_out z;
              in_front = at.in_front;
              in_rest = passes.onward at.rest_in at.rest_out at.in_rest;
            };
          }
    ]

pub composed : (R S : Relation) (r t : PairPlaces) → PairFollows R r → PairFollows S t → PairFollows (Composition R S) (ComposePlaces r t)
composed R S r t one two s v z c =
    let later = two c.middle v z c.second in
    let earlier = one s later.front later.rest (subst (λ (middle : List ℕ). R s middle) later.split c.first) in
    record {
      front = earlier.front;
      rest = earlier.rest;
      split = earlier.split;
      place = Both earlier.place later.place;
      reached = record { middle = later.front; first = earlier.reached; second = later.reached };
      onward = λ u w at. record {
        middle = at.middle ++ later.rest;
        first = earlier.onward u at.middle at.first;
        second = later.onward at.middle w at.second;
      };
    }

-- what is seen of a star at a split: pairs of the relation, and then a part of one more
record InStar (R : List ℕ → List ℕ → Type 0) (r : Place → List ℕ → List ℕ → Type 0) (s v z : List ℕ) : Type 0 where
  pub front : List ℕ
  pub rest : List ℕ
  pub split : s ≡ front ++ rest
  pub place : Place
  pub reached : PairConcatenation (PairStar R) (r place) front v
  pub onward : (u w : List ℕ) → PairConcatenation (PairStar R) (r place) u w → PairStar R (u ++ rest) (w ++ z)

zip_append : (R : Relation) (xs ys us vs : List (List ℕ)) → AllZip R xs ys → AllZip R us vs → AllZip R (xs ++ us) (ys ++ vs)
zip_append R [] [] us vs first second = second
zip_append R [] (y ∷ ys) us vs first second = absurd first
zip_append R (x ∷ xs) [] us vs first second = absurd first
zip_append R (x ∷ xs) (y ∷ ys) us vs first second = (first.0, zip_append R xs ys us vs first.1 second)

-- the split lies in the first pair
in_pair : (R : Relation) (r : PairPlaces) → PairFollows R r → (s t : List ℕ) (ins outs : List (List ℕ)) → R s t → AllZip R ins outs →
    (v z k : List ℕ) → t ≡ v ++ k → z ≡ k ++ concat outs → InStar R r (s ++ concat ins) v z
in_pair R r part s t ins outs has each v z k front rest =
    let passes = part s v k (subst (λ (out : List ℕ). R s out) front has) in
    record {
      front = passes.front;
      rest = passes.rest ++ concat ins;
      split = ap (λ (start : List ℕ). start ++ concat ins) passes.split ∙ append_assoc passes.front passes.rest (concat ins);
      place = passes.place;
      reached = record {
        front_in = [];
        rest_in = passes.front;
        front_out = [];
        rest_out = v;
        split_in = refl;
        split_out = refl;
        in_front = record { pieces_in = []; pieces_out = []; joined_in = refl; joined_out = refl; each = tt };
        in_rest = passes.reached;
      };
      onward = λ u w at. record {
        pieces_in = at.in_front.pieces_in ++ ((at.rest_in ++ passes.rest) ∷ ins);
        pieces_out = at.in_front.pieces_out ++ ((at.rest_out ++ k) ∷ outs);
        joined_in = regroup u at.front_in at.rest_in passes.rest (passes.rest ++ concat ins) at.in_front.pieces_in ins at.split_in at.in_front.joined_in refl;
        joined_out = regroup w at.front_out at.rest_out k z at.in_front.pieces_out outs at.split_out at.in_front.joined_out rest;
        each = zip_append R at.in_front.pieces_in at.in_front.pieces_out ((at.rest_in ++ passes.rest) ∷ ins) ((at.rest_out ++ k) ∷ outs) at.in_front.each
            (passes.onward at.rest_in at.rest_out at.in_rest, each);
      };
    }

split_star : (R : Relation) (r : PairPlaces) → PairFollows R r → (ins outs : List (List ℕ)) → AllZip R ins outs → (v z : List ℕ) → v ++ z ≡ concat outs →
    ((v ≡ []) × (z ≡ []) × (concat ins ≡ [])) ⊎ InStar R r (concat ins) v z
split_star R r part [] [] each v z same = inl (no_front v z same, no_rest v z same, refl)
split_star R r part [] (t ∷ outs) each v z same = absurd each
split_star R r part (s ∷ ins) [] each v z same = absurd each
split_star R r part (s ∷ ins) (t ∷ outs) each v z same =
    elim (two_splits v z t (concat outs) same) [
      | inl k ↦ inr (in_pair R r part s t ins outs each.0 each.1 v z k.0 k.1 k.2)
      | inr k ↦ elim (split_star R r part ins outs each.1 k.0 z (sym k.2)) [
        | inl nothing ↦
            let front : t ≡ v ++ [] = sym (append-nil v ∙ k.1 ∙ ap (λ (w : List ℕ). t ++ w) nothing.0 ∙ append-nil t) in
            let rest : z ≡ concat outs = sym (k.2 ∙ ap (λ (w : List ℕ). w ++ z) nothing.0) in
            inr (in_pair R r part s t ins outs each.0 each.1 v z [] front rest)
        | inr inside ↦ inr (record {
          front = s ++ inside.front;
          rest = inside.rest;
          split = ap (λ (w : List ℕ). s ++ w) inside.split ∙ sym (append_assoc s inside.front inside.rest);
          place = inside.place;
          reached = record {
            front_in = s ++ inside.reached.front_in;
            rest_in = inside.reached.rest_in;
            front_out = t ++ inside.reached.front_out;
            rest_out = inside.reached.rest_out;
            split_in = ap (λ (w : List ℕ). s ++ w) inside.reached.split_in ∙ sym (append_assoc s inside.reached.front_in inside.reached.rest_in);
            split_out = k.1 ∙ ap (λ (w : List ℕ). t ++ w) inside.reached.split_out ∙ sym (append_assoc t inside.reached.front_out inside.reached.rest_out);
            in_front = record {
              pieces_in = s ∷ inside.reached.in_front.pieces_in;
              pieces_out = t ∷ inside.reached.in_front.pieces_out;
              joined_in = ap (λ (w : List ℕ). s ++ w) inside.reached.in_front.joined_in;
              joined_out = ap (λ (w : List ℕ). t ++ w) inside.reached.in_front.joined_out;
              each = (each.0, inside.reached.in_front.each);
            };
            in_rest = inside.reached.in_rest;
          };
          onward = inside.onward;
        })
      ]
    ]

pub star : (R : Relation) (r : PairPlaces) → PairFollows R r → PairFollows (PairStar R) (PairStarPlaces R r)
star R r part s v z has =
    elim (split_star R r part has.pieces_in has.pieces_out has.each v z has.joined_out) [
      | inl nothing ↦ record {
        front = [];
        rest = [];
        split = has.joined_in ∙ nothing.2;
        place = Begin;
        reached = (refl, nothing.0);
        onward = λ u w at. record {
          pieces_in = [];
          pieces_out = [];
          joined_in = append-nil u ∙ at.0;
          joined_out = ap (λ (front : List ℕ). front ++ z) at.1 ∙ nothing.1;
          each = tt;
        };
      }
      | inr inside ↦ record {
        front = inside.front;
        rest = inside.rest;
        split = has.joined_in ∙ inside.split;
        place = Inner inside.place;
        reached = inside.reached;
        onward = inside.onward;
      }
    ]
