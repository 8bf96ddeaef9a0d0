-- The classes that a numbered body names are in its table.
use Rattle.std.proofs.Common.{zero, suc, ◌≡◌, ℕ, ◌+◌, ◌<◌, ◌≤◌, Bool, true, false, ◌||◌, cond, List, [], ◌∷◌, ◌++◌, length, refl, ap, sym, subst, ◌∙◌, arith, length-append}
use Rattle.std.proofs.lemmas.List.Elements.{All-append}
use Rattle.std.specs.Prelude.{not, if◌then◌else◌}
use Rattle.std.specs.List.{All, list_any, position_or_len}
use Rattle.rela_spec.specs.declared.tree.Modifier.{Modifier}
use Rattle.rela_spec.specs.declared.tree.Modifier.TheVariants as m
use Rattle.rela_translate.specs.Checked.{layer_entries, path_entries, change_entries, layer_body_entries, entries_of}
use Rattle.rela_expand.specs.Numbered.{listing, placed, numbered, numbered_change, numbered_body}
use Rattle.rela_expand.specs.Numbering.{Listing, Numbering, same_listing, with_class}
use Rattle.rela_expand.specs.Places.{Place}
use Rattle.rela_expand.specs.Shapes.{Shape, Empty, Class, Seq, Alt, Meet, Not, Star, BodyShape, Unit as Unit', Then, Else}
use Rattle.rela_translate.specs.declared.body.Change.{Change}
use Rattle.rela_translate.specs.declared.body.Core.{Core}
use Rattle.rela_translate.specs.declared.body.Core.TheOpen as C
use Rattle.rela_translate.specs.declared.body.Core.TheVariants as B
use Rattle.rela_translate.specs.declared.body.Core.TheFolds.{fold-roll-Core}
use Rattle.rela_translate.specs.declared.body.Expr.{Expr}
use Rattle.rela_translate.specs.declared.body.Expr.TheOpen as E
use Rattle.rela_translate.specs.declared.body.Expr.TheVariants as V
use Rattle.rela_translate.specs.declared.body.Expr.TheFolds.{fold-roll-Expr}
use Rattle.rela_expand.proofs.BodyUnfolding.{change_grows, body_grows}
use Rattle.rela_expand.proofs.Numberings.{Grown, numbered_grows}

entries_empty : path_entries V.Empty ≡ []
entries_empty = ap path_entries (sym V.rolls-Empty) ∙ fold-roll-Expr (List ℕ) layer_entries E.Empty

entries_class : (k : ℕ) → path_entries (V.Class k) ≡ k ∷ []
entries_class k = ap path_entries (sym (V.rolls-Class k)) ∙ fold-roll-Expr (List ℕ) layer_entries (E.Class k)

entries_seq : (a b : Expr) → path_entries (V.Seq a b) ≡ path_entries a ++ path_entries b
entries_seq a b = ap path_entries (sym (V.rolls-Seq a b)) ∙ fold-roll-Expr (List ℕ) layer_entries (E.Seq a b)

entries_alt : (a b : Expr) → path_entries (V.Alt a b) ≡ path_entries a ++ path_entries b
entries_alt a b = ap path_entries (sym (V.rolls-Alt a b)) ∙ fold-roll-Expr (List ℕ) layer_entries (E.Alt a b)

entries_meet : (a b : Expr) → path_entries (V.Meet a b) ≡ path_entries a ++ path_entries b
entries_meet a b = ap path_entries (sym (V.rolls-Meet a b)) ∙ fold-roll-Expr (List ℕ) layer_entries (E.Meet a b)

entries_not : (a : Expr) → path_entries (V.Not a) ≡ path_entries a
entries_not a = ap path_entries (sym (V.rolls-Not a)) ∙ fold-roll-Expr (List ℕ) layer_entries (E.Not a)

entries_star : (a : Expr) → path_entries (V.Star a) ≡ path_entries a
entries_star a = ap path_entries (sym (V.rolls-Star a)) ∙ fold-roll-Expr (List ℕ) layer_entries (E.Star a)

entries_unit : (z : Expr) (c : Change) → entries_of (B.Unit z c) ≡ path_entries z ++ change_entries c
entries_unit z c = ap entries_of (sym (B.rolls-Unit z c)) ∙ fold-roll-Core (List ℕ) layer_body_entries (C.Unit z c)

entries_then : (s t : Core) → entries_of (B.Then s t) ≡ entries_of s ++ entries_of t
entries_then s t = ap entries_of (sym (B.rolls-Then s t)) ∙ fold-roll-Core (List ℕ) layer_body_entries (C.Then s t)

entries_else : (s t : Core) → entries_of (B.Else s t) ≡ entries_of s ++ entries_of t
entries_else s t = ap entries_of (sym (B.rolls-Else s t)) ∙ fold-roll-Core (List ℕ) layer_body_entries (C.Else s t)

module _ {X : Type 0} (p : X → Bool) where
  position_le : (xs : List X) → position_or_len p xs ≤ length xs
  position_le [] = omega arith
  position_le (x ∷ xs) = by_test (p x) (position_le xs)
    where
      by_test : (b : Bool) → position_or_len p xs ≤ length xs → cond (not b) (1 + position_or_len p xs) 0 ≤ length (x ∷ xs)
      by_test true h = omega arith
      by_test false h = omega arith

  position_lt : (xs : List X) → list_any p xs ≡ true → position_or_len p xs < length xs
  position_lt [] h = absurd (cc)
  position_lt (x ∷ xs) h = by_test (p x) h (position_lt xs)
    where
      by_test : (b : Bool) → (b || list_any p xs) ≡ true → (list_any p xs ≡ true → position_or_len p xs < length xs) → cond (not b) (1 + position_or_len p xs) 0 < length (x ∷ xs)
      by_test true h later = omega arith
      by_test false h later = let x = later h in omega arith

place_below : (cs : List Listing) (c : Listing) → position_or_len (same_listing c) cs < length (with_class cs c)
place_below cs c = by_test (list_any (same_listing c) cs) refl
  where
    by_test : (b : Bool) → list_any (same_listing c) cs ≡ b → position_or_len (same_listing c) cs < length (if b then cs else cs ++ c ∷ [])
    by_test true h = position_lt (same_listing c) cs h
    by_test false h = let x = position_le (same_listing c) cs in omega (arith, length-append cs (c ∷ []))

abbrev Inside : ℕ → List ℕ → Type 0
Inside n ks = All (λ k. k < n) ks

none_inside : (n : ℕ) → Inside n []
none_inside n k d h = absurd (omega arith)

one_inside : (n k : ℕ) → k < n → Inside n (k ∷ [])
one_inside n k h zero d i = h
one_inside n k h (suc j) d i = absurd (omega arith)

longer : {n m : Numbering} → Grown n m → length n.classes ≤ length m.classes
longer {n} {m} g = let e : length m.classes ≡ length (n.classes ++ g.more) = ap length g.is in omega (arith, length-append n.classes g.more)

path_inside : (place : Place) (s : Shape) (n : Numbering) (bound : ℕ) → length (numbered place s n).after.classes ≤ bound → Inside bound (path_entries (numbered place s n).value)
path_inside place Empty n bound h = subst (Inside bound) (sym entries_empty) (none_inside bound)
path_inside place (Class negated members) n bound h =
    subst (Inside bound) (sym (entries_class (placed (listing place negated members) n).value))
    (one_inside bound (placed (listing place negated members) n).value (let x = place_below n.classes (listing place negated members) in omega arith))
path_inside place (Seq a b) n bound h =
    let x = longer (numbered_grows place b (numbered place a n).after) in
    subst (Inside bound) (sym (entries_seq (numbered place a n).value (numbered place b (numbered place a n).after).value))
    (All-append (λ k. k < bound) _ _ (path_inside place a n bound (omega arith)) (path_inside place b (numbered place a n).after bound h))
path_inside place (Alt a b) n bound h =
    let x = longer (numbered_grows place b (numbered place a n).after) in
    subst (Inside bound) (sym (entries_alt (numbered place a n).value (numbered place b (numbered place a n).after).value))
    (All-append (λ k. k < bound) _ _ (path_inside place a n bound (omega arith)) (path_inside place b (numbered place a n).after bound h))
path_inside place (Meet a b) n bound h =
    let x = longer (numbered_grows place b (numbered place a n).after) in
    subst (Inside bound) (sym (entries_meet (numbered place a n).value (numbered place b (numbered place a n).after).value))
    (All-append (λ k. k < bound) _ _ (path_inside place a n bound (omega arith)) (path_inside place b (numbered place a n).after bound h))
path_inside place (Not a) n bound h = subst (Inside bound) (sym (entries_not (numbered place a n).value)) (path_inside place a n bound h)
path_inside place (Star a) n bound h = subst (Inside bound) (sym (entries_star (numbered place a n).value)) (path_inside place a n bound h)

change_inside : (place : Place) (c : Modifier Shape) (n : Numbering) (bound : ℕ) → length (numbered_change place c n).after.classes ≤ bound → Inside bound (change_entries (numbered_change place c n).value)
change_inside place m.Preserve n bound h = none_inside bound
change_inside place (m.Add p) n bound h = path_inside place p n bound h
change_inside place (m.Remove p) n bound h = path_inside place p n bound h
change_inside place (m.Replace p q) n bound h =
    let x = longer (numbered_grows place q (numbered place p n).after) in
    All-append (λ k. k < bound) _ _ (path_inside place p n bound (omega arith)) (path_inside place q (numbered place p n).after bound h)
change_inside place m.Drop n bound h = none_inside bound
change_inside place (m.AnyOf p) n bound h = path_inside place p n bound h
change_inside place (m.Ignore p) n bound h = path_inside place p n bound h

-- each class of a numbered body is an entry of the table
pub body_inside : (place : Place) (s : BodyShape) (n : Numbering) (bound : ℕ) → length (numbered_body place s n).after.classes ≤ bound → All (λ k. k < bound) (entries_of (numbered_body place s n).value)
body_inside place (Unit' z c) n bound h =
    let x = longer (change_grows place c (numbered place z n).after) in
    subst (Inside bound) (sym (entries_unit (numbered place z n).value (numbered_change place c (numbered place z n).after).value))
    (All-append (λ k. k < bound) _ _ (path_inside place z n bound (omega arith)) (change_inside place c (numbered place z n).after bound h))
body_inside place (Then a b) n bound h =
    let x = longer (body_grows place b (numbered_body place a n).after) in
    subst (Inside bound) (sym (entries_then (numbered_body place a n).value (numbered_body place b (numbered_body place a n).after).value))
    (All-append (λ k. k < bound) _ _ (body_inside place a n bound (omega arith)) (body_inside place b (numbered_body place a n).after bound h))
body_inside place (Else a b) n bound h =
    let x = longer (body_grows place b (numbered_body place a n).after) in
    subst (Inside bound) (sym (entries_else (numbered_body place a n).value (numbered_body place b (numbered_body place a n).after).value))
    (All-append (λ k. k < bound) _ _ (body_inside place a n bound (omega arith)) (body_inside place b (numbered_body place a n).after bound h))
