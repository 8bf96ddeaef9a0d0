-- A body speaks of words of path symbols, and relates only words of its zone.
use Rattle.std.proofs.Common.{◌≡◌, ℕ, ◌+◌, ◌<◌, ◌⊎◌, inl, inr, suc, List, [], ◌∷◌, sym, subst, arith}
use Rattle.std.specs.List.{All, concat}
use Rattle.std.proofs.lemmas.List.Elements.{All-nil, All-cons, All-append, All-weaker}
use Rattle.rela_rir.specs.Words.{WordSet, Relation, Concatenation, Star, PairConcatenation}
use Rattle.rela_rir.specs.Meaning.{IsPathWord}
use Rattle.rela_translate.proofs.Inclusions.{Within}
use Rattle.rela_rir.specs.declared.set.SymbolSet.{SymbolSet}
use Rattle.rela_translate.specs.Lang.{Lang}
use Rattle.rela_translate.specs.Zones.{Meaning, path_symbols, drop_symbol, Paths, unit_meaning, meaning_of}
use Rattle.rela_translate.proofs.MeaningForms.{lang_roll, meaning_roll}
use Rattle.rela_translate.specs.declared.body.Expr.{Expr}
use Rattle.rela_translate.specs.declared.body.Expr.TheOpen as E
use Rattle.rela_translate.specs.declared.body.Expr.TheViews.{roll-Expr}
use Rattle.rela_translate.specs.declared.body.Expr.TheFolds.{map-Expr, ind-Expr}
use Rattle.rela_translate.specs.declared.body.Change.{Change}
use Rattle.rela_translate.specs.declared.body.Change.TheVariants.{Preserve, Add, Remove, Replace, Drop, AnyOf, Ignore}
use Rattle.rela_translate.specs.declared.body.Core.{Core}
use Rattle.rela_translate.specs.declared.body.Core.TheOpen as C
use Rattle.rela_translate.specs.declared.body.Core.TheViews.{roll-Core}
use Rattle.rela_translate.specs.declared.body.Core.TheFolds.{map-Core, ind-Core}

no_letters : (n : ℕ) → IsPathWord n []
no_letters n = All-nil (λ s. s < n)

one_letter : (n s : ℕ) → s < n → IsPathWord n (s ∷ [])
one_letter n s path = All-cons (λ r. r < n) s [] path (no_letters n)

joined_words : (n : ℕ) (X Y : WordSet) → Within X (IsPathWord n) → Within Y (IsPathWord n) → Within (Concatenation X Y) (IsPathWord n)
joined_words n X Y f g w c =
    subst (IsPathWord n) (sym c.split) (All-append (λ s. s < n) c.front c.rest (f c.front c.in_front) (g c.rest c.in_rest))

all_joined : (n : ℕ) (pieces : List (List ℕ)) → All (IsPathWord n) pieces → IsPathWord n (concat pieces)
all_joined n [] each = no_letters n
all_joined n (x ∷ xs) each =
    All-append (λ s. s < n) x (concat xs) (each 0 x (omega arith)) (all_joined n xs (λ i d inside. each (suc i) d (omega (arith, inside))))

some_words : (n : ℕ) (X : WordSet) → Within X (IsPathWord n) → Within (Star X) (IsPathWord n)
some_words n X f w s =
    subst (IsPathWord n) (sym s.joined) (all_joined n s.pieces (All-weaker X (IsPathWord n) f s.pieces s.each))

-- the expression has words of path symbols only
abbrev OfPaths : List SymbolSet → ℕ → Expr → Type 0
OfPaths classes n e = Within (Lang classes n e) (IsPathWord n)

by_lang : (n : ℕ) (X Y : WordSet) → X ≡ Y → Within Y (IsPathWord n) → Within X (IsPathWord n)
by_lang n X Y is f = subst (λ (Z : WordSet). Within Z (IsPathWord n)) (sym is) f

pub either_words : (n : ℕ) (X Y : WordSet) → Within X (IsPathWord n) → Within Y (IsPathWord n) → Within (λ w. X w ⊎ Y w) (IsPathWord n)
either_words n X Y f g w (inl x) = f w x
either_words n X Y f g w (inr y) = g w y

layer : (classes : List SymbolSet) (n : ℕ) (y : E.Expr-F ((e : Expr) × OfPaths classes n e)) →
    OfPaths classes n (roll-Expr (map-Expr ((e : Expr) × OfPaths classes n e) Expr (λ e. e.0) y))
layer classes n E.Empty = by_lang n _ _ (lang_roll classes n E.Empty) (λ w is. subst (IsPathWord n) (sym is) (no_letters n))
layer classes n (E.Class k) =
    by_lang n _ _ (lang_roll classes n (E.Class k)) (λ w has. subst (IsPathWord n) (sym has.1) (one_letter n has.0 has.2.2.path))
layer classes n (E.Seq a b) =
    by_lang n _ _ (lang_roll classes n (E.Seq a.0 b.0)) (joined_words n (Lang classes n a.0) (Lang classes n b.0) a.1 b.1)
layer classes n (E.Alt a b) = by_lang n _ _ (lang_roll classes n (E.Alt a.0 b.0)) (either_words n (Lang classes n a.0) (Lang classes n b.0) a.1 b.1)
layer classes n (E.Meet a b) = by_lang n _ _ (lang_roll classes n (E.Meet a.0 b.0)) (λ w has. a.1 w has.0)
layer classes n (E.Not a) = by_lang n _ _ (lang_roll classes n (E.Not a.0)) (λ w has. has.0)
layer classes n (E.Star a) = by_lang n _ _ (lang_roll classes n (E.Star a.0)) (some_words n (Lang classes n a.0) a.1)

pub of_paths : (classes : List SymbolSet) (n : ℕ) (e : Expr) → Within (Lang classes n e) (IsPathWord n)
of_paths classes n = ind-Expr (OfPaths classes n) (λ x y is. subst (λ z. OfPaths classes n (roll-Expr z)) is (layer classes n y))

-- the zone has words of path symbols only, and the relations relate only words of the zone
pub record Claims (n : ℕ) (zone : List ℕ → Type 0) (before after : List ℕ → List ℕ → Type 0) : Type 0 where
  pub words : (w : List ℕ) → zone w → IsPathWord n w
  pub before_in : (u v : List ℕ) → before u v → zone u
  pub after_in : (u v : List ℕ) → after u v → zone u

abbrev pub Claimed : ℕ → Meaning → Type 0
Claimed n m = Claims n m.zone m.before m.after

drop_word : (n : ℕ) → Within (λ w. w ≡ drop_symbol n ∷ []) (IsPathWord (path_symbols n))
drop_word n w is = subst (IsPathWord (path_symbols n)) (sym is) (one_letter (path_symbols n) (drop_symbol n) (omega arith))

unit_claims : (classes : List SymbolSet) (n : ℕ) (Z : WordSet) (c : Change) → Within Z (IsPathWord (path_symbols n)) →
    Claimed (path_symbols n) (unit_meaning classes n Z c)
unit_claims classes n Z Preserve f = record { words = f; before_in = λ u v r. r.1; after_in = λ u v r. r.1 }
unit_claims classes n Z (Add p) f = record {
  words = either_words (path_symbols n) Z (Paths classes n p) f (of_paths classes (path_symbols n) p);
  before_in = in_add;
  after_in = λ u v r. r.1;
} where
  in_add : (u v : List ℕ) → ((u ≡ v) × (Z u ⊎ Paths classes n p u)) ⊎ (Z u × Paths classes n p v) → Z u ⊎ Paths classes n p u
  in_add u v (inl r) = r.1
  in_add u v (inr r) = inl r.0
unit_claims classes n Z (Remove p) f = record { words = f; before_in = λ u v r. r.1.0; after_in = λ u v r. r.1 }
unit_claims classes n Z (Replace p q) f = record {
  words = either_words (path_symbols n) Z (Paths classes n q) f (of_paths classes (path_symbols n) q);
  before_in = in_replace;
  after_in = λ u v r. r.1;
} where
  in_replace : (u v : List ℕ) → ((u ≡ v) × ((Z u ⊎ Paths classes n q u) × (¬ (Paths classes n p u × Z u)))) ⊎ ((Paths classes n p u × Z u) × Paths classes n q v) → Z u ⊎ Paths classes n q u
  in_replace u v (inl r) = r.1.0
  in_replace u v (inr r) = inl r.0.1
unit_claims classes n Z Drop f = record {
  words = either_words (path_symbols n) Z (λ w. w ≡ drop_symbol n ∷ []) f (drop_word n);
  before_in = λ u v r. r.0;
  after_in = λ u v r. r.1;
}
unit_claims classes n Z (AnyOf p k) f = record {
  words = either_words (path_symbols n) Z (Paths classes n p) f (of_paths classes (path_symbols n) p);
  before_in = λ u v r. r.0;
  after_in = in_any;
} where
  in_any : (u v : List ℕ) → (Paths classes n p u × (v ≡ (n + 1 + k) ∷ [])) ⊎ ((u ≡ v) × (Z u × (¬ Paths classes n p u))) → Z u ⊎ Paths classes n p u
  in_any u v (inl r) = inr r.0
  in_any u v (inr r) = inl r.1.0
unit_claims classes n Z (Ignore p) f = record { words = f; before_in = λ u v r. r.1.0; after_in = λ u v r. r.1.0 }

then_in : (R S : Relation) (X Y : WordSet) → ((u v : List ℕ) → R u v → X u) → ((u v : List ℕ) → S u v → Y u) →
    (u v : List ℕ) → PairConcatenation R S u v → Concatenation X Y u
then_in R S X Y f g u v c = record {
  front = c.front_in;
  rest = c.rest_in;
  split = c.split_in;
  in_front = f c.front_in c.front_out c.in_front;
  in_rest = g c.rest_in c.rest_out c.in_rest;
}

else_in : (R S : Relation) (X Y : WordSet) → ((u v : List ℕ) → R u v → X u) → ((u v : List ℕ) → S u v → Y u) →
    (u v : List ℕ) → R u v ⊎ (S u v × (¬ X u)) → X u ⊎ Y u
else_in R S X Y f g u v (inl r) = inl (f u v r)
else_in R S X Y f g u v (inr s) = inr (g u v s.0)

abbrev BodyClaims : List SymbolSet → ℕ → Core → Type 0
BodyClaims classes n body = Claimed (path_symbols n) (meaning_of classes n body)

by_meaning : (n : ℕ) (M N : Meaning) → M ≡ N → Claimed n N → Claimed n M
by_meaning n M N is claims = subst (λ (m : Meaning). Claimed n m) (sym is) claims

layer_claims : (classes : List SymbolSet) (n : ℕ) (y : C.Core-F ((body : Core) × BodyClaims classes n body)) →
    BodyClaims classes n (roll-Core (map-Core ((body : Core) × BodyClaims classes n body) Core (λ e. e.0) y))
layer_claims classes n (C.Unit z c) =
    by_meaning (path_symbols n) _ _ (meaning_roll classes n (C.Unit z c)) (unit_claims classes n (Paths classes n z) c (of_paths classes (path_symbols n) z))
layer_claims classes n (C.Then s t) =
    let S : Meaning = meaning_of classes n s.0 in
    let T : Meaning = meaning_of classes n t.0 in
    by_meaning (path_symbols n) _ _ (meaning_roll classes n (C.Then s.0 t.0)) (record {
      words = joined_words (path_symbols n) S.zone T.zone s.1.words t.1.words;
      before_in = then_in S.before T.before S.zone T.zone s.1.before_in t.1.before_in;
      after_in = then_in S.after T.after S.zone T.zone s.1.after_in t.1.after_in;
    })
layer_claims classes n (C.Else s t) =
    let S : Meaning = meaning_of classes n s.0 in
    let T : Meaning = meaning_of classes n t.0 in
    by_meaning (path_symbols n) _ _ (meaning_roll classes n (C.Else s.0 t.0)) (record {
      words = either_words (path_symbols n) S.zone T.zone s.1.words t.1.words;
      before_in = else_in S.before T.before S.zone T.zone s.1.before_in t.1.before_in;
      after_in = else_in S.after T.after S.zone T.zone s.1.after_in t.1.after_in;
    })

pub claims : (classes : List SymbolSet) (n : ℕ) (body : Core) → Claimed (path_symbols n) (meaning_of classes n body)
claims classes n =
    ind-Core (BodyClaims classes n) (λ x y is. subst (λ z. BodyClaims classes n (roll-Core z)) is (layer_claims classes n y))
