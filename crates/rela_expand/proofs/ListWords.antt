-- The words of a list of parts: one after another, of some, of each; and trees that have the words of their lists.
use Rattle.std.proofs.Common.{◌≡◌, ℕ, ◌-◌, ◌≤◌, zero, suc, ◌⊎◌, inl, inr, List, [], ◌∷◌, ◌++◌, length, take, drop, map, replicate, refl, ap, sym, subst, ◌∙◌, arith, append_assoc, length-drop}
use Rattle.std.specs.List.{All, AllZip, concat}
use Rattle.std.proofs.lemmas.List.{append-nil, length-take-le, take-append-drop}
use Rattle.std.proofs.lemmas.List.Elements.{All-cons, All-head, All-tail, All-weaker}
use Rattle.rela_rir.specs.Words.{WordSet, Concatenation, Star}
use Rattle.rela_expand.specs.Expansions.{half, tree_within}
use Rattle.rela_expand.specs.LangW.{InOrder, OfSome, OfEach, Repeated}

-- each word of the one set is in the other
abbrev Within : WordSet → WordSet → Type 0
Within X Y = (w : List ℕ) → X w → Y w

joined_within : (X X' Y Y' : WordSet) → Within X X' → Within Y Y' → Within (Concatenation X Y) (Concatenation X' Y')
joined_within X X' Y Y' f g w c = record { front = c.front; rest = c.rest; split = c.split; in_front = f c.front c.in_front; in_rest = g c.rest c.in_rest }

either_within : (X X' Y Y' : WordSet) → Within X X' → Within Y Y' → Within (λ w. X w ⊎ Y w) (λ w. X' w ⊎ Y' w)
either_within X X' Y Y' f g w (inl x) = inl (f w x)
either_within X X' Y Y' f g w (inr y) = inr (g w y)

starred_within : (X X' : WordSet) → Within X X' → Within (Star X) (Star X')
starred_within X X' f w s = record { pieces = s.pieces; joined = s.joined; each = All-weaker X X' f s.pieces s.each }

-- the two sets have the same words
abbrev pub Equal : WordSet → WordSet → Type 0
Equal X Y = Within X Y × Within Y X

pub told : (X X' Y : WordSet) → X ≡ X' → Equal X' Y → Equal X Y
told X X' Y is same = subst (λ (Z : WordSet). Equal Z Y) (sym is) same

pub itself : (X : WordSet) → Equal X X
itself X = (λ w x. x, λ w x. x)

pub turned : (X Y : WordSet) → Equal X Y → Equal Y X
turned X Y e = (e.1, e.0)

pub through : (X Y Z : WordSet) → Equal X Y → Equal Y Z → Equal X Z
through X Y Z e f = (λ w x. f.0 w (e.0 w x), λ w z. e.1 w (f.1 w z))

pub joined : (X X' Y Y' : WordSet) → Equal X X' → Equal Y Y' → Equal (Concatenation X Y) (Concatenation X' Y')
joined X X' Y Y' e f = (joined_within X X' Y Y' e.0 f.0, joined_within X' X Y' Y e.1 f.1)

pub either : (X X' Y Y' : WordSet) → Equal X X' → Equal Y Y' → Equal (λ w. X w ⊎ Y w) (λ w. X' w ⊎ Y' w)
either X X' Y Y' e f = (either_within X X' Y Y' e.0 f.0, either_within X' X Y' Y e.1 f.1)

pub both : (X X' Y Y' : WordSet) → Equal X X' → Equal Y Y' → Equal (λ w. X w × Y w) (λ w. X' w × Y' w)
both X X' Y Y' e f = (λ w h. (e.0 w h.0, f.0 w h.1), λ w h. (e.1 w h.0, f.1 w h.1))

pub starred : (X X' : WordSet) → Equal X X' → Equal (Star X) (Star X')
starred X X' e = (starred_within X X' e.0, starred_within X' X e.1)

pub others : (P X X' : WordSet) → Equal X X' → Equal (λ w. P w × (¬ X w)) (λ w. P w × (¬ X' w))
others P X X' e = (λ w h. (h.0, λ x. h.1 (e.1 w x)), λ w h. (h.0, λ x. h.1 (e.0 w x)))

regrouped : (X Y Z : WordSet) → Equal (Concatenation (Concatenation X Y) Z) (Concatenation X (Concatenation Y Z))
regrouped X Y Z = (
  λ w c. record {
    front = c.in_front.front;
    rest = c.in_front.rest ++ c.rest;
    split = c.split ∙ ap (λ (v : List ℕ). v ++ c.rest) c.in_front.split ∙ append_assoc c.in_front.front c.in_front.rest c.rest;
    in_front = c.in_front.in_front;
    in_rest = record { front = c.in_front.rest; rest = c.rest; split = refl; in_front = c.in_front.in_rest; in_rest = c.in_rest };
  },
  λ w c. record {
    front = c.front ++ c.in_rest.front;
    rest = c.in_rest.rest;
    split = c.split ∙ ap (λ (v : List ℕ). c.front ++ v) c.in_rest.split ∙ sym (append_assoc c.front c.in_rest.front c.in_rest.rest);
    in_front = record { front = c.front; rest = c.in_rest.front; split = refl; in_front = c.in_front; in_rest = c.in_rest.in_front };
    in_rest = c.in_rest.in_rest;
  },
)

module _ {X : Type 0} (part : X → WordSet) where
  pub in_order_one : (x : X) → Equal (part x) (InOrder part (x ∷ []))
  in_order_one x = (
    λ w h. record { front = w; rest = []; split = sym (append-nil w); in_front = h; in_rest = refl },
    λ w c. subst (part x) (sym (c.split ∙ ap (λ (v : List ℕ). c.front ++ v) c.in_rest ∙ append-nil c.front)) c.in_front,
  )

  pub in_order_joined : (xs ys : List X) → Equal (Concatenation (InOrder part xs) (InOrder part ys)) (InOrder part (xs ++ ys))
  in_order_joined [] ys = (
    λ w c. subst (InOrder part ys) (sym (c.split ∙ ap (λ (v : List ℕ). v ++ c.rest) c.in_front)) c.in_rest,
    λ w h. record { front = []; rest = w; split = refl; in_front = refl; in_rest = h },
  )
  in_order_joined (x ∷ xs) ys =
      through (Concatenation (Concatenation (part x) (InOrder part xs)) (InOrder part ys)) (Concatenation (part x) (Concatenation (InOrder part xs) (InOrder part ys))) (Concatenation (part x) (InOrder part (xs ++ ys)))
      (regrouped (part x) (InOrder part xs) (InOrder part ys))
      (joined (part x) (part x) (Concatenation (InOrder part xs) (InOrder part ys)) (InOrder part (xs ++ ys)) (itself (part x)) (in_order_joined xs ys))

  pub of_some_one : (x : X) → Equal (part x) (OfSome part (x ∷ []))
  of_some_one x = (λ w h. inl h, λ w h. elim h [ inl a ↦ a | inr b ↦ absurd b ])

  some_front : (xs ys : List X) (w : List ℕ) → OfSome part xs w → OfSome part (xs ++ ys) w
  some_front [] ys w h = absurd h
  some_front (x ∷ xs) ys w (inl h) = inl h
  some_front (x ∷ xs) ys w (inr h) = inr (some_front xs ys w h)

  some_rest : (xs ys : List X) (w : List ℕ) → OfSome part ys w → OfSome part (xs ++ ys) w
  some_rest [] ys w h = h
  some_rest (x ∷ xs) ys w h = inr (some_rest xs ys w h)

  some_cases : (xs ys : List X) (w : List ℕ) → OfSome part (xs ++ ys) w → OfSome part xs w ⊎ OfSome part ys w
  some_cases [] ys w h = inr h
  some_cases (x ∷ xs) ys w (inl h) = inl (inl h)
  some_cases (x ∷ xs) ys w (inr h) = elim (some_cases xs ys w h) [ inl a ↦ inl (inr a) | inr b ↦ inr b ]

  pub of_some_joined : (xs ys : List X) → Equal (λ w. OfSome part xs w ⊎ OfSome part ys w) (OfSome part (xs ++ ys))
  of_some_joined xs ys = (λ w h. elim h [ inl a ↦ some_front xs ys w a | inr b ↦ some_rest xs ys w b ], some_cases xs ys)

  pub of_each_one : (x : X) → Equal (part x) (OfEach part (x ∷ []))
  of_each_one x = (λ w h. (h, tt), λ w h. h.0)

  each_all : (xs ys : List X) (w : List ℕ) → OfEach part xs w → OfEach part ys w → OfEach part (xs ++ ys) w
  each_all [] ys w h k = k
  each_all (x ∷ xs) ys w h k = (h.0, each_all xs ys w h.1 k)

  each_front : (xs ys : List X) (w : List ℕ) → OfEach part (xs ++ ys) w → OfEach part xs w
  each_front [] ys w h = tt
  each_front (x ∷ xs) ys w h = (h.0, each_front xs ys w h.1)

  each_rest : (xs ys : List X) (w : List ℕ) → OfEach part (xs ++ ys) w → OfEach part ys w
  each_rest [] ys w h = h
  each_rest (x ∷ xs) ys w h = each_rest xs ys w h.1

  pub of_each_joined : (xs ys : List X) → Equal (λ w. OfEach part xs w × OfEach part ys w) (OfEach part (xs ++ ys))
  of_each_joined xs ys = (λ w h. each_all xs ys w h.0 h.1, λ w h. (each_front xs ys w h, each_rest xs ys w h))

  to_pieces : (n : ℕ) (x : X) (w : List ℕ) → InOrder part (replicate n x) w → Repeated n (part x) w
  to_pieces zero x w h = record { pieces = []; many = refl; joined = h; each = λ k d inside. absurd (omega arith) }
  to_pieces (suc n) x w h =
      let r = to_pieces n x h.rest h.in_rest in record {
        pieces = h.front ∷ r.pieces;
        many = ap suc r.many;
        joined = h.split ∙ ap (λ (v : List ℕ). h.front ++ v) r.joined;
        each = All-cons (part x) h.front r.pieces h.in_front r.each;
      }

  from_pieces : (n : ℕ) (x : X) (pieces : List (List ℕ)) (w : List ℕ) → length pieces ≡ n → w ≡ concat pieces → All (part x) pieces → InOrder part (replicate n x) w
  from_pieces zero x [] w many is each = is
  from_pieces zero x (piece ∷ pieces) w many is each = absurd (omega arith)
  from_pieces (suc n) x [] w many is each = absurd (omega arith)
  from_pieces (suc n) x (piece ∷ pieces) w many is each = record {
    front = piece;
    rest = concat pieces;
    split = is;
    in_front = All-head (part x) piece pieces each;
    in_rest = from_pieces n x pieces (concat pieces) (omega arith) refl (All-tail (part x) piece pieces each);
  }

  pub repeated : (n : ℕ) (x : X) → Equal (InOrder part (replicate n x)) (Repeated n (part x))
  repeated n x = (to_pieces n x, λ w r. from_pieces n x r.pieces w r.many r.joined r.each)

pub repeated_same : (n : ℕ) (X Y : WordSet) → Equal X Y → Equal (Repeated n X) (Repeated n Y)
repeated_same n X Y e = (
  λ w r. record { pieces = r.pieces; many = r.many; joined = r.joined; each = λ k d inside. e.0 _ (r.each k d inside) },
  λ w r. record { pieces = r.pieces; many = r.many; joined = r.joined; each = λ k d inside. e.1 _ (r.each k d inside) },
)

-- what joining keeps is told of the tree of a list by the list
module _ {S : Type 0} (join : S → S → S) (none : S) (Tells : S → List S → Type 0)
    (single : (s : S) → Tells s (s ∷ []))
    (more : (s t : S) (xs ys : List S) → Tells s xs → Tells t ys → Tells (join s t) (xs ++ ys)) where
  pub tree_tells : (d : ℕ) (ss : List S) → 1 ≤ length ss → length ss ≤ d → Tells (tree_within d join none ss) ss
  tree_tells zero [] some few = absurd (omega arith)
  tree_tells zero (s ∷ ss) some few = absurd (omega arith)
  tree_tells (suc d) [] some few = absurd (omega arith)
  tree_tells (suc d) (s ∷ []) some few = single s
  tree_tells (suc d) (s ∷ t ∷ ss) some few =
      let k = length (s ∷ t ∷ ss) in
      let xs = take (half k) (s ∷ t ∷ ss) in
      let ys = drop (half k) (s ∷ t ∷ ss) in
      let h : half k ≤ k = omega arith in
      let lx : length xs ≡ half k = length-take-le (half k) (s ∷ t ∷ ss) h in
      let ly : length ys ≡ k - half k = length-drop (half k) (s ∷ t ∷ ss) in
      let whole : xs ++ ys ≡ s ∷ t ∷ ss = take-append-drop (half k) (s ∷ t ∷ ss) in
      subst (Tells (tree_within (suc d) join none (s ∷ t ∷ ss))) whole
      (more (tree_within d join none xs) (tree_within d join none ys) xs ys (tree_tells d xs (omega arith) (omega arith)) (tree_tells d ys (omega arith) (omega arith)))

-- parts of the same words, in the same order
module _ {S P : Type 0} (f : S → WordSet) (g : P → WordSet) where
  pub in_order_same : (ss : List S) (ps : List P) → AllZip (λ s p. Equal (f s) (g p)) ss ps → Equal (InOrder f ss) (InOrder g ps)
  in_order_same [] [] same = itself (λ w. w ≡ [])
  in_order_same [] (p ∷ ps) same = absurd same
  in_order_same (s ∷ ss) [] same = absurd same
  in_order_same (s ∷ ss) (p ∷ ps) same = joined (f s) (g p) (InOrder f ss) (InOrder g ps) same.0 (in_order_same ss ps same.1)

  pub of_some_same : (ss : List S) (ps : List P) → AllZip (λ s p. Equal (f s) (g p)) ss ps → Equal (OfSome f ss) (OfSome g ps)
  of_some_same [] [] same = itself (λ w. ⊥)
  of_some_same [] (p ∷ ps) same = absurd same
  of_some_same (s ∷ ss) [] same = absurd same
  of_some_same (s ∷ ss) (p ∷ ps) same = either (f s) (g p) (OfSome f ss) (OfSome g ps) same.0 (of_some_same ss ps same.1)

  pub of_each_same : (ss : List S) (ps : List P) → AllZip (λ s p. Equal (f s) (g p)) ss ps → Equal (OfEach f ss) (OfEach g ps)
  of_each_same [] [] same = itself (λ w. Unit {0})
  of_each_same [] (p ∷ ps) same = absurd same
  of_each_same (s ∷ ss) [] same = absurd same
  of_each_same (s ∷ ss) (p ∷ ps) same = both (f s) (g p) (OfEach f ss) (OfEach g ps) same.0 (of_each_same ss ps same.1)

-- naming the parts first, or their words
module _ {X Y : Type 0} (v : X → Y) (k : Y → WordSet) where
  pub in_order_map : (xs : List X) → InOrder (λ x. k (v x)) xs ≡ InOrder k (map v xs)
  in_order_map [] = refl
  in_order_map (x ∷ xs) = ap (λ (Z : WordSet). Concatenation (k (v x)) Z) (in_order_map xs)

  pub of_some_map : (xs : List X) → OfSome (λ x. k (v x)) xs ≡ OfSome k (map v xs)
  of_some_map [] = refl
  of_some_map (x ∷ xs) = ap {B = WordSet} (λ (Z : WordSet) (w : List ℕ). k (v x) w ⊎ Z w) (of_some_map xs)

  pub of_each_map : (xs : List X) → OfEach (λ x. k (v x)) xs ≡ OfEach k (map v xs)
  of_each_map [] = refl
  of_each_map (x ∷ xs) = ap {B = WordSet} (λ (Z : WordSet) (w : List ℕ). k (v x) w × Z w) (of_each_map xs)
