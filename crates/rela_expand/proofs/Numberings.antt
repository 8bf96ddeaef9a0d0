-- What is numbered once keeps its number.
use Rattle.std.proofs.Common.{◌≡◌, ℕ, ◌+◌, Bool, true, false, ◌||◌, ◌&&◌, cond, List, [], ◌∷◌, ◌++◌, refl, ap, sym, ◌∙◌, append_assoc}
use Rattle.std.proofs.Math.Bool.{beq}
use Rattle.std.specs.Prelude.{not}
use Rattle.std.proofs.lemmas.Slice.Eq.{bytes_eq-Decides}
use Rattle.std.proofs.lemmas.List.{append-nil}
use Rattle.std.specs.List.{list_any, position_or_len}
use Rattle.std.specs.Str.{bytes_eq}
use Rattle.rela_expand.specs.Numbering.{Listing, Numbering, Step, same_listing, with_class}
use Rattle.rela_expand.specs.Numbered.{listing, placed, one_part, two_parts, numbered}
use Rattle.rela_expand.specs.Places.{Place}
use Rattle.rela_expand.specs.Shapes.{Shape, Empty, Class, Seq, Alt, Meet, Not, Star}
use Rattle.rela_translate.specs.declared.body.Expr.{Expr}
use Rattle.rela_translate.specs.declared.body.Expr.TheVariants as x

pub itself : (c : Listing) → same_listing c c ≡ true
itself c = flag c.negated ∙ (bytes_eq-Decides c.members c.members).1 refl
  where
    flag : (b : Bool) → (beq b b && bytes_eq c.members c.members) ≡ bytes_eq c.members c.members
    flag true = refl
    flag false = refl

module _ {X : Type 0} (p : X → Bool) where
  position_more : (xs more : List X) → list_any p xs ≡ true → position_or_len p (xs ++ more) ≡ position_or_len p xs
  position_more [] more h = cc
  position_more (x ∷ xs) more h = by_test (p x) h (position_more xs more)
    where
      by_test : (b : Bool) → (b || list_any p xs) ≡ true → (list_any p xs ≡ true → position_or_len p (xs ++ more) ≡ position_or_len p xs)
          → cond (not b) (1 + position_or_len p (xs ++ more)) 0 ≡ cond (not b) (1 + position_or_len p xs) 0
      by_test true h later = refl
      by_test false h later = ap (λ (n : ℕ). 1 + n) (later h)

  position_new : (xs : List X) (y : X) (more : List X) → p y ≡ true → position_or_len p ((xs ++ y ∷ []) ++ more) ≡ position_or_len p xs
  position_new [] y more h = ap (λ (b : Bool). cond (not b) (1 + position_or_len p more) 0) h
  position_new (x ∷ xs) y more h = ap (λ (n : ℕ). cond (not (p x)) (1 + n) 0) (position_new xs y more h)

  any_more : (xs more : List X) → list_any p xs ≡ true → list_any p (xs ++ more) ≡ true
  any_more [] more h = cc
  any_more (x ∷ xs) more h = by_test (p x) h (any_more xs more)
    where
      by_test : (b : Bool) → (b || list_any p xs) ≡ true → (list_any p xs ≡ true → list_any p (xs ++ more) ≡ true) → (b || list_any p (xs ++ more)) ≡ true
      by_test true h later = refl
      by_test false h later = later h

  any_last : (xs : List X) (y : X) (more : List X) → p y ≡ true → list_any p ((xs ++ y ∷ []) ++ more) ≡ true
  any_last [] y more h = ap (λ (b : Bool). b || list_any p more) h
  any_last (x ∷ xs) y more h = by_test (p x) (any_last xs y more h)
    where
      by_test : (b : Bool) → list_any p ((xs ++ y ∷ []) ++ more) ≡ true → (b || list_any p ((xs ++ y ∷ []) ++ more)) ≡ true
      by_test true later = refl
      by_test false later = later

-- the table only grows at its end
pub record Grown (n m : Numbering) : Type 0 where
  pub more : List Listing
  pub is : m.classes ≡ n.classes ++ more

pub grown_same : (n : Numbering) → Grown n n
grown_same n = record { more = []; is = sym (append-nil n.classes) }

pub grown_twice : {n m k : Numbering} → Grown n m → Grown m k → Grown n k
grown_twice {n} {m} {k} a b = record {
  more = a.more ++ b.more;
  is = b.is ∙ ap (λ (cs : List Listing). cs ++ b.more) a.is ∙ append_assoc n.classes a.more b.more;
}

pub table_grows : (cs : List Listing) (c : Listing) → (more : List Listing) × (with_class cs c ≡ cs ++ more)
table_grows cs c = by_test (list_any (same_listing c) cs) refl
  where
    by_test : (b : Bool) → list_any (same_listing c) cs ≡ b → (more : List Listing) × (with_class cs c ≡ cs ++ more)
    by_test true h = ([], rw h (sym (append-nil cs)))
    by_test false h = (c ∷ [], rw h refl)

pub table_has : (cs : List Listing) (c : Listing) (more : List Listing) → list_any (same_listing c) (with_class cs c ++ more) ≡ true
table_has cs c more = by_test (list_any (same_listing c) cs) refl
  where
    by_test : (b : Bool) → list_any (same_listing c) cs ≡ b → list_any (same_listing c) (with_class cs c ++ more) ≡ true
    by_test true h = rw h (any_more (same_listing c) cs more h)
    by_test false h = rw h (any_last (same_listing c) cs c more (itself c))

pub place_stays : (cs : List Listing) (c : Listing) (more : List Listing) → position_or_len (same_listing c) (with_class cs c ++ more) ≡ position_or_len (same_listing c) cs
place_stays cs c more = by_test (list_any (same_listing c) cs) refl
  where
    by_test : (b : Bool) → list_any (same_listing c) cs ≡ b → position_or_len (same_listing c) (with_class cs c ++ more) ≡ position_or_len (same_listing c) cs
    by_test true h = rw h (position_more (same_listing c) cs more h)
    by_test false h = rw h (position_new (same_listing c) cs c more (itself c))

known : (cs : List Listing) (c : Listing) → list_any (same_listing c) cs ≡ true → with_class cs c ≡ cs
known cs c h = rw h refl

pub numbered_grows : (place : Place) (s : Shape) (n : Numbering) → Grown n (numbered place s n).after
numbered_grows place Empty n = grown_same n
numbered_grows place (Class negated members) n =
    let t = table_grows n.classes (listing place negated members) in record { more = t.0; is = t.1 }
numbered_grows place (Seq a b) n = grown_twice (numbered_grows place a n) (numbered_grows place b (numbered place a n).after)
numbered_grows place (Alt a b) n = grown_twice (numbered_grows place a n) (numbered_grows place b (numbered place a n).after)
numbered_grows place (Meet a b) n = grown_twice (numbered_grows place a n) (numbered_grows place b (numbered place a n).after)
numbered_grows place (Not a) n = numbered_grows place a n
numbered_grows place (Star a) n = numbered_grows place a n

abbrev Again : Place → Shape → Type 0
Again place s = (n m : Numbering) → Grown (numbered place s n).after m → numbered place s m ≡ record { value = (numbered place s n).value; after = m }

pub placed_again : (c : Listing) (n m : Numbering) → Grown (placed c n).after m → placed c m ≡ record { value = (placed c n).value; after = m }
placed_again c n m g =
    let has : list_any (same_listing c) m.classes ≡ true = ap (λ (cs : List Listing). list_any (same_listing c) cs) g.is ∙ table_has n.classes c g.more in
    let same : position_or_len (same_listing c) m.classes ≡ position_or_len (same_listing c) n.classes =
    ap (λ (cs : List Listing). position_or_len (same_listing c) cs) g.is ∙ place_stays n.classes c g.more in
    λ i. record { value = same i; after = record m { classes = known m.classes c has i } }

both_again : (place : Place) (f : Expr → Expr → Expr) (a b : Shape) → Again place a → Again place b
    → (n m : Numbering) → Grown (two_parts f (numbered place a n) (numbered place b)).after m
    → two_parts f (numbered place a m) (numbered place b) ≡ record { value = (two_parts f (numbered place a n) (numbered place b)).value; after = m }
both_again place f a b again_a again_b n m g =
    let first = again_a n m (grown_twice (numbered_grows place b (numbered place a n).after) g) in
    let second = again_b (numbered place a n).after m g in
    ap (λ (s : Step Expr). two_parts f s (numbered place b)) first
    ∙ ap (one_part (f (numbered place a n).value)) second

pub numbered_again : (place : Place) (s : Shape) → Again place s
numbered_again place Empty n m g = refl
numbered_again place (Class negated members) n m g = ap (one_part x.Class) (placed_again (listing place negated members) n m g)
numbered_again place (Seq a b) n m g = both_again place x.Seq a b (numbered_again place a) (numbered_again place b) n m g
numbered_again place (Alt a b) n m g = both_again place x.Alt a b (numbered_again place a) (numbered_again place b) n m g
numbered_again place (Meet a b) n m g = both_again place x.Meet a b (numbered_again place a) (numbered_again place b) n m g
numbered_again place (Not a) n m g = ap (one_part x.Not) (numbered_again place a n m g)
numbered_again place (Star a) n m g = ap (one_part x.Star) (numbered_again place a n m g)
