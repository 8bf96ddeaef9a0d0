-- Bodies that treat both sides of a change alike have two relations with the same pairs.
use Rattle.std.proofs.Common.{◌≡◌, ◌∙◌, ℕ, suc, ◌↔◌, Bool, true, false, List, [], ◌∷◌, ◌++◌, inl, inr, refl, sym, ap, subst, arith}
use Rattle.std.specs.List.{All}
use Rattle.std.specs.Prelude.{IsTrue}
use Rattle.std.proofs.lemmas.Bool.{true≢false}
use Rattle.std.proofs.lemmas.List.Elements.{All-nil, All-cons, All-head, All-append}
use Rattle.rela_rir.specs.Words.{WordSet, Relation, ImageOf, PairConcatenation}
use Rattle.rela_rir.specs.declared.set.SymbolSet.{SymbolSet}
use Rattle.rela_translate.specs.Checked.{Checked}
use Rattle.rela_translate.specs.Verdict.{AreMet, Meets}
use Rattle.rela_translate.specs.Zones.{Meaning, EitherPair, Outside, Paths, unit_meaning, layer_meaning, meaning_of, Before, After}
use Rattle.rela_translate.specs.declared.body.Expr.{Expr}
use Rattle.rela_translate.specs.declared.body.Change.{Change}
use Rattle.rela_translate.specs.declared.body.Change.TheVariants.{Preserve, Add, Remove, Replace, Drop, AnyOf, Ignore}
use Rattle.rela_translate.specs.declared.body.Core.{Core}
use Rattle.rela_translate.specs.declared.body.Core.TheOpen as C
use Rattle.rela_translate.specs.declared.body.Core.TheVariants as B
use Rattle.rela_translate.specs.declared.body.Core.TheViews.{roll-Core}
use Rattle.rela_translate.specs.declared.body.Core.TheFolds.{map-Core, fold-roll-Core, rec-roll-Core, ind-Core}
use Rattle.rela_engine.specs.Sides.{layer_modifiers, modifiers_of, AsksNoChange, TreatsSidesAlike, SamePairs}

-- ---- which bodies do

modifiers_roll : (x : C.Core-F Core) → modifiers_of (roll-Core x) ≡ layer_modifiers (map-Core Core (List Change) modifiers_of x)
modifiers_roll x = fold-roll-Core (List Change) layer_modifiers x

all_front : {X : Type 0} (Q : X → Type 0) (xs ys : List X) → All Q (xs ++ ys) → All Q xs
all_front Q [] ys all = All-nil Q
all_front Q (x ∷ xs) ys all = All-cons Q x xs (all 0 x (omega arith)) (all_front Q xs ys (λ i d inside. all (suc i) d (omega (arith, inside))))

all_rest : {X : Type 0} (Q : X → Type 0) (xs ys : List X) → All Q (xs ++ ys) → All Q ys
all_rest Q [] ys all = all
all_rest Q (x ∷ xs) ys all = all_rest Q xs ys (λ i d inside. all (suc i) d (omega (arith, inside)))

all_of_one : {X : Type 0} (Q : X → Type 0) (x : X) → All Q (x ∷ []) ↔ Q x
all_of_one Q x = (λ all. All-head Q x [] all, λ q. All-cons Q x [] q (All-nil Q))

all_of_both : {X : Type 0} (Q : X → Type 0) (xs ys : List X) → All Q (xs ++ ys) ↔ (All Q xs × All Q ys)
all_of_both Q xs ys = (λ all. (all_front Q xs ys all, all_rest Q xs ys all), λ both. All-append Q xs ys both.0 both.1)

by_list : (body : Core) (cs : List Change) (P : Type 0) → modifiers_of body ≡ cs → All AsksNoChange cs ↔ P → TreatsSidesAlike body ↔ P
by_list body cs P is same = subst (λ (ds : List Change). All AsksNoChange ds ↔ P) (sym is) same

pub alike_unit : (body : Core) (z : Expr) (c : Change) → body ≡ B.Unit z c → TreatsSidesAlike body ↔ AsksNoChange c
alike_unit body z c is =
    by_list body (c ∷ []) (AsksNoChange c) (ap modifiers_of (is ∙ sym (B.rolls-Unit z c)) ∙ modifiers_roll (C.Unit z c)) (all_of_one AsksNoChange c)

pub alike_then : (body s t : Core) → body ≡ B.Then s t → TreatsSidesAlike body ↔ (TreatsSidesAlike s × TreatsSidesAlike t)
alike_then body s t is =
    by_list body (modifiers_of s ++ modifiers_of t) (TreatsSidesAlike s × TreatsSidesAlike t)
    (ap modifiers_of (is ∙ sym (B.rolls-Then s t)) ∙ modifiers_roll (C.Then s t)) (all_of_both AsksNoChange (modifiers_of s) (modifiers_of t))

pub alike_else : (body s t : Core) → body ≡ B.Else s t → TreatsSidesAlike body ↔ (TreatsSidesAlike s × TreatsSidesAlike t)
alike_else body s t is =
    by_list body (modifiers_of s ++ modifiers_of t) (TreatsSidesAlike s × TreatsSidesAlike t)
    (ap modifiers_of (is ∙ sym (B.rolls-Else s t)) ∙ modifiers_roll (C.Else s t)) (all_of_both AsksNoChange (modifiers_of s) (modifiers_of t))

-- what both parts tell of the whole: that of the second where the first does, and else that of the first
pub by_second : (body s t x y : Core) (told : Type 0) → TreatsSidesAlike body ↔ (TreatsSidesAlike s × TreatsSidesAlike t) → x ≡ s → y ≡ t
    → TreatsSidesAlike x → told ↔ TreatsSidesAlike y → told ↔ TreatsSidesAlike body
by_second body s t x y told both first second alike same = (
  λ is. both.1 (subst TreatsSidesAlike first alike, subst TreatsSidesAlike second (same.0 is)),
  λ is. same.1 (subst TreatsSidesAlike (sym second) (both.0 is).1),
)

pub by_first : (body s t x : Core) (told : Bool) → TreatsSidesAlike body ↔ (TreatsSidesAlike s × TreatsSidesAlike t) → x ≡ s
    → told ≡ false → IsTrue told ↔ TreatsSidesAlike x → IsTrue told ↔ TreatsSidesAlike body
by_first body s t x told both first fails same = (
  λ is. absurd (true≢false (sym is ∙ fails)),
  λ is. same.1 (subst TreatsSidesAlike (sym first) (both.0 is).0),
)

-- ---- their relations

turned_pairs : (R S : Relation) → SamePairs R S → SamePairs S R
turned_pairs R S same u v = ((same u v).1, (same u v).0)

joined : (R R' S S' : Relation) → SamePairs R R' → SamePairs S S' → (u v : List ℕ) → PairConcatenation R S u v → PairConcatenation R' S' u v
joined R R' S S' f g u v c = record {
  front_in = c.front_in;
  rest_in = c.rest_in;
  front_out = c.front_out;
  rest_out = c.rest_out;
  split_in = c.split_in;
  split_out = c.split_out;
  in_front = (f c.front_in c.front_out).0 c.in_front;
  in_rest = (g c.rest_in c.rest_out).0 c.in_rest;
}

joined_pairs : (R R' S S' : Relation) → SamePairs R R' → SamePairs S S' → SamePairs (PairConcatenation R S) (PairConcatenation R' S')
joined_pairs R R' S S' f g u v = (joined R R' S S' f g u v, joined R' R S' S (turned_pairs R R' f) (turned_pairs S S' g) u v)

either : (X : WordSet) (R R' S S' : Relation) → SamePairs R R' → SamePairs S S' → (u v : List ℕ) → EitherPair R (Outside X S) u v → EitherPair R' (Outside X S') u v
either X R R' S S' f g u v (inl r) = inl ((f u v).0 r)
either X R R' S S' f g u v (inr s) = inr ((g u v).0 s.0, s.1)

either_pairs : (X : WordSet) (R R' S S' : Relation) → SamePairs R R' → SamePairs S S' → SamePairs (EitherPair R (Outside X S)) (EitherPair R' (Outside X S'))
either_pairs X R R' S S' f g u v = (either X R R' S S' f g u v, either X R' R S' S (turned_pairs R R' f) (turned_pairs S S' g) u v)

module _ (classes : List SymbolSet) (n : ℕ) where
  -- what a body means is what its parts do, put together
  natural : (X : Type 0) (v : X → Core) (k : Core → Meaning) (x : C.Core-F X) → layer_meaning classes n (λ p. k (v p)) x ≡ layer_meaning classes n k (map-Core X Core v x)
  natural X v k (C.Unit z c) = refl
  natural X v k (C.Then s t) = refl
  natural X v k (C.Else s t) = refl

  meaning_roll : (x : C.Core-F Core) → meaning_of classes n (roll-Core x) ≡ layer_meaning classes n (meaning_of classes n) x
  meaning_roll x = rec-roll-Core Meaning (λ X _ part layer. layer_meaning classes n part layer) natural x

  unit_pairs : (Z : WordSet) (c : Change) → AsksNoChange c → SamePairs (unit_meaning classes n Z c).before (unit_meaning classes n Z c).after
  unit_pairs Z Preserve alike u v = (λ x. x, λ x. x)
  unit_pairs Z (Add p) alike u v = absurd alike
  unit_pairs Z (Remove p) alike u v = absurd alike
  unit_pairs Z (Replace p q) alike u v = absurd alike
  unit_pairs Z Drop alike u v = absurd alike
  unit_pairs Z (AnyOf p k) alike u v = absurd alike
  unit_pairs Z (Ignore p) alike u v = (λ x. x, λ x. x)

  abbrev HasSamePairs : Core → Type 0
  HasSamePairs body = TreatsSidesAlike body → SamePairs (Before classes n body) (After classes n body)

  by_meaning : (M N : Meaning) → M ≡ N → SamePairs N.before N.after → SamePairs M.before M.after
  by_meaning M N is same = subst (λ (m : Meaning). SamePairs m.before m.after) (sym is) same

  layer : (y : C.Core-F ((body : Core) × HasSamePairs body)) → HasSamePairs (roll-Core (map-Core ((body : Core) × HasSamePairs body) Core (λ e. e.0) y))
  layer (C.Unit z c) alike =
      by_meaning _ _ (meaning_roll (C.Unit z c))
      (unit_pairs (Paths classes n z) c ((alike_unit _ z c (B.rolls-Unit z c)).0 alike))
  layer (C.Then s t) alike =
      let both = (alike_then _ s.0 t.0 (B.rolls-Then s.0 t.0)).0 alike in
      by_meaning _ _ (meaning_roll (C.Then s.0 t.0))
      (joined_pairs (Before classes n s.0) (After classes n s.0) (Before classes n t.0) (After classes n t.0) (s.1 both.0) (t.1 both.1))
  layer (C.Else s t) alike =
      let both = (alike_else _ s.0 t.0 (B.rolls-Else s.0 t.0)).0 alike in
      by_meaning _ _ (meaning_roll (C.Else s.0 t.0))
      (either_pairs (meaning_of classes n s.0).zone (Before classes n s.0) (After classes n s.0) (Before classes n t.0) (After classes n t.0) (s.1 both.0) (t.1 both.1))

  pub same_pairs : (body : Core) → TreatsSidesAlike body → SamePairs (Before classes n body) (After classes n body)
  same_pairs = ind-Core HasSamePairs (λ x y is. subst (λ z. HasSamePairs (roll-Core z)) is (layer y))

-- ---- their verdict where the paths are the same

image_of_both : (X Y : WordSet) (R S : Relation) → ((w : List ℕ) → X w ↔ Y w) → SamePairs R S → (v : List ℕ) → ImageOf X R v ↔ ImageOf Y S v
image_of_both X Y R S words pairs v = (
  λ i. record { source = i.source; in_set = (words i.source).0 i.in_set; related = (pairs i.source v).0 i.related },
  λ i. record { source = i.source; in_set = (words i.source).1 i.in_set; related = (pairs i.source v).1 i.related },
)

met_by_same : (at_most : Bool) (X Y : WordSet) → ((w : List ℕ) → X w ↔ Y w) → AreMet at_most X Y
met_by_same false X Y same = same
met_by_same true X Y same = λ w y. (same w).1 y

-- a check is met by the same paths before and after the change where both relations have the same pairs
pub met_alike : (check : Checked) (n : ℕ) (pre post : WordSet) → SamePairs (Before check.classes n check.body) (After check.classes n check.body)
    → ((w : List ℕ) → pre w ↔ post w) → Meets check n pre post
met_alike check n pre post pairs words =
    met_by_same check.at_most (ImageOf pre (Before check.classes n check.body)) (ImageOf post (After check.classes n check.body))
    (image_of_both pre post (Before check.classes n check.body) (After check.classes n check.body) words pairs)
