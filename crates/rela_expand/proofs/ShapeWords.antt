-- The shape of a path expression has its words.
use Rattle.std.proofs.Common.{◌≡◌, ℕ, ◌≤◌, zero, suc, ◌⊎◌, Bool, true, false, List, [], ◌∷◌, ◌++◌, length, map, replicate, Option, Some, Result, Ok, refl, sym, subst, ◌∙◌, arith}
use Rattle.std.specs.Prelude.{nat_le}
use Rattle.std.specs.List.{AllZip, list_all}
use Rattle.rela_json.specs.Results.{◌>>=◌}
use Rattle.rela_lex.specs.declared.error.SpecError.{SpecError}
use Rattle.rela_lex.specs.declared.error.SpecError.TheVariants.{UnknownName}
use Rattle.rela_rir.specs.Words.{WordSet, Concatenation, Star as SomeOf}
use Rattle.rela_rir.specs.Meaning.{IsPathWord}
use Rattle.rela_spec.specs.Full.{are_full, full_path_layer, is_full_path}
use Rattle.rela_spec.specs.declared.tree.Member.{Member}
use Rattle.rela_spec.specs.declared.tree.PathExpr.{PathExpr}
use Rattle.rela_spec.specs.declared.tree.PathExpr.TheOpen as e
use Rattle.rela_spec.specs.declared.tree.PathExpr.TheViews.{roll-PathExpr}
use Rattle.rela_spec.specs.declared.tree.PathExpr.TheFolds.{map-PathExpr, fold-roll-PathExpr, rec-roll-PathExpr, ind-PathExpr}
use Rattle.rela_expand.specs.Expansions.{tree_of}
use Rattle.rela_expand.specs.LangW.{InOrder, OfSome, OfEach, Repeated, IsLetter, LayerLangW, LangW}
use Rattle.rela_expand.specs.Numbered.{listing}
use Rattle.rela_expand.specs.Places.{Place, in_some, listed, path_symbols_at}
use Rattle.rela_expand.specs.Shapes.{Shape, Empty, Class, Seq, Alt, Meet, Not, Star, all_of, sequence_shape, class_shape, layer_shape, shape_of}
use Rattle.rela_expand.proofs.Letters.{HasLetter, class_letters, none_listed}
use Rattle.rela_expand.proofs.ListWords as words
use Rattle.rela_expand.proofs.ListWords.{Equal, told, itself, through, turned}
use Rattle.rela_expand.proofs.Membership.{and_left, and_right, bound, from_ok, parts_of, present}

-- the words of a shape
abbrev pub WordsOf : Place → Shape → WordSet
WordsOf place Empty w = w ≡ []
WordsOf place (Class negated members) w = HasLetter place negated (listing place negated members).members w
WordsOf place (Seq a b) w = Concatenation (WordsOf place a) (WordsOf place b) w
WordsOf place (Alt a b) w = WordsOf place a w ⊎ WordsOf place b w
WordsOf place (Meet a b) w = WordsOf place a w × WordsOf place b w
WordsOf place (Not a) w = IsPathWord (path_symbols_at place) w × (¬ WordsOf place a w)
WordsOf place (Star a) w = SomeOf (WordsOf place a) w

full_roll : (y : e.PathExpr-F PathExpr) → is_full_path (roll-PathExpr y) ≡ full_path_layer (map-PathExpr PathExpr Bool is_full_path y)
unfolding is_full_path
full_roll y = fold-roll-PathExpr Bool full_path_layer y

shape_roll : (place : Place) (names : List ℕ → Option Shape) (y : e.PathExpr-F PathExpr)
    → shape_of place names (roll-PathExpr y) ≡ layer_shape place names (map-PathExpr PathExpr (Result Shape SpecError) (shape_of place names) y)
unfolding shape_of
shape_roll place names y = fold-roll-PathExpr (Result Shape SpecError) (layer_shape place names) y

natural : (place : Place) (named : List ℕ → List ℕ → Type 0) (X : Type 0) (v : X → PathExpr) (k : PathExpr → WordSet) (y : e.PathExpr-F X)
    → LayerLangW (λ p. k (v p)) place named y ≡ LayerLangW k place named (map-PathExpr X PathExpr v y)
natural place named X v k e.Any = refl
natural place named X v k e.Empty = refl
natural place named X v k (e.One member) = refl
natural place named X v k (e.Class negated members) = refl
natural place named X v k (e.Reference name at) = refl
natural place named X v k (e.Seq parts) = words.in_order_map v k parts
natural place named X v k (e.Alt parts) = words.of_some_map v k parts
natural place named X v k (e.And parts) = words.of_each_map v k parts
natural place named X v k (e.Not part) = refl
natural place named X v k (e.Star part) = refl
natural place named X v k (e.Plus part) = refl
natural place named X v k (e.Maybe part) = refl
natural place named X v k (e.Times part n) = refl

words_roll : (place : Place) (named : List ℕ → List ℕ → Type 0) (y : e.PathExpr-F PathExpr)
    → LangW place named (roll-PathExpr y) ≡ LayerLangW (LangW place named) place named y
words_roll place named y = rec-roll-PathExpr WordSet (λ X _ part layer. LayerLangW part place named layer) (natural place named) y

module _ (place : Place) where
  abbrev of : Shape → WordSet
  of = WordsOf place

  -- the tree of some shapes has the words of their list
  in_a_row : (ss : List Shape) → 1 ≤ length ss → Equal (of (sequence_shape ss)) (InOrder of ss)
  in_a_row ss some =
      words.tree_tells Seq Empty (λ s ts. Equal (of s) (InOrder of ts)) (words.in_order_one of)
      (λ s t xs ys same also.
      through (Concatenation (of s) (of t)) (Concatenation (InOrder of xs) (InOrder of ys)) (InOrder of (xs ++ ys))
      (words.joined (of s) (InOrder of xs) (of t) (InOrder of ys) same also) (words.in_order_joined of xs ys))
      (length ss) ss some (omega arith)

  of_some : (ss : List Shape) → 1 ≤ length ss → Equal (of (tree_of Alt Empty ss)) (OfSome of ss)
  of_some ss some =
      words.tree_tells Alt Empty (λ s ts. Equal (of s) (OfSome of ts)) (words.of_some_one of)
      (λ s t xs ys same also.
      through (λ w. of s w ⊎ of t w) (λ w. OfSome of xs w ⊎ OfSome of ys w) (OfSome of (xs ++ ys))
      (words.either (of s) (OfSome of xs) (of t) (OfSome of ys) same also) (words.of_some_joined of xs ys))
      (length ss) ss some (omega arith)

  of_each : (ss : List Shape) → 1 ≤ length ss → Equal (of (tree_of Meet Empty ss)) (OfEach of ss)
  of_each ss some =
      words.tree_tells Meet Empty (λ s ts. Equal (of s) (OfEach of ts)) (words.of_each_one of)
      (λ s t xs ys same also.
      through (λ w. of s w × of t w) (λ w. OfEach of xs w × OfEach of ys w) (OfEach of (xs ++ ys))
      (words.both (of s) (OfEach of xs) (of t) (OfEach of ys) same also) (words.of_each_joined of xs ys))
      (length ss) ss some (omega arith)

  copies : (n : ℕ) (s : Shape) → Equal (of (sequence_shape (replicate n s))) (Repeated n (of s))
  copies zero s = words.repeated of zero s
  copies (suc n) s =
      through (of (sequence_shape (replicate (suc n) s))) (InOrder of (replicate (suc n) s)) (Repeated (suc n) (of s))
      (in_a_row (replicate (suc n) s) (omega arith)) (words.repeated of (suc n) s)

  class_words : (negated : Bool) (members : List Member) (s : Shape) → class_shape place negated members ≡ Ok s → Equal (of s) (IsLetter place negated members)
  class_words negated members s is =
      let symbols = bound (listed place members) (λ symbols. Ok (Class negated members)) s is in
      subst (λ (t : Shape). Equal (of t) (IsLetter place negated members)) (from_ok (Class negated members) s symbols.2)
      (class_letters place negated members symbols.0 symbols.1)

  module _ (names : List ℕ → Option Shape) (named : List ℕ → List ℕ → Type 0)
      (agree : (name : List ℕ) (s : Shape) → names name ≡ Some s → Equal (WordsOf place s) (named name)) where
    abbrev written : PathExpr → WordSet
    written = LangW place named

    abbrev shaped : PathExpr → Result Shape SpecError
    shaped = shape_of place names

    abbrev Told : PathExpr → Type 0
    Told p = is_full_path p ≡ true → (s : Shape) → shaped p ≡ Ok s → Equal (of s) (written p)

    abbrev Part : Type 0
    Part = (p : PathExpr) × Told p

    abbrev plain : List Part → List PathExpr
    plain qs = map (λ q. q.0) qs

    parts_told : (qs : List Part) → list_all (λ (full : Bool). full) (map is_full_path (plain qs)) ≡ true → (ss : List Shape) → all_of (map shaped (plain qs)) ≡ Ok ss
        → AllZip (λ s p. Equal (of s) (written p)) ss (plain qs)
    parts_told [] full ss is = subst (λ (ts : List Shape). AllZip (λ s p. Equal (of s) (written p)) ts []) (from_ok [] ss is) tt
    parts_told (q ∷ qs) full ss is =
        let parts = parts_of (λ (r : Result Shape SpecError). r) (shaped q.0) (map shaped (plain qs)) ss is in
        subst (λ (ts : List Shape). AllZip (λ s p. Equal (of s) (written p)) ts (q.0 ∷ plain qs)) parts.4 (
          q.1 (and_left (is_full_path q.0) (list_all (λ (full : Bool). full) (map is_full_path (plain qs))) full) parts.0 parts.2,
          parts_told qs (and_right (is_full_path q.0) (list_all (λ (full : Bool). full) (map is_full_path (plain qs))) full) parts.1 parts.3,
        )

    some_part : (qs : List Part) (ss : List Shape) → AllZip (λ s p. Equal (of s) (written p)) ss (plain qs) → are_full (map is_full_path (plain qs)) ≡ true → 1 ≤ length ss
    some_part [] ss same full = absurd (cc)
    some_part (q ∷ qs) [] same full = absurd same
    some_part (q ∷ qs) (s ∷ ss) same full = omega arith

    of_list : (qs : List Part) → are_full (map is_full_path (plain qs)) ≡ true → (make : List Shape → Shape) (s : Shape)
        → (all_of (map shaped (plain qs)) >>= (λ ss. Ok (make ss))) ≡ Ok s → (X : WordSet)
        → ((ss : List Shape) → 1 ≤ length ss → AllZip (λ s p. Equal (of s) (written p)) ss (plain qs) → Equal (of (make ss)) X) → Equal (of s) X
    of_list qs full make s is X tells =
        let ss = bound (all_of (map shaped (plain qs))) (λ ss. Ok (make ss)) s is in
        let same = parts_told qs (and_right (nat_le 2 (length (map is_full_path (plain qs)))) (list_all (λ (full : Bool). full) (map is_full_path (plain qs))) full) ss.0 ss.1 in
        subst (λ (t : Shape). Equal (of t) X) (from_ok (make ss.0) s ss.2) (tells ss.0 (some_part qs ss.0 same full) same)

    of_part : (q : Part) → is_full_path q.0 ≡ true → (make : Shape → Shape) (s : Shape) → (shaped q.0 >>= (λ a. Ok (make a))) ≡ Ok s → (X : WordSet)
        → ((a : Shape) → Equal (of a) (written q.0) → Equal (of (make a)) X) → Equal (of s) X
    of_part q full make s is X tells =
        let a = bound (shaped q.0) (λ a. Ok (make a)) s is in
        subst (λ (t : Shape). Equal (of t) X) (from_ok (make a.0) s a.2) (tells a.0 (q.1 full a.0 a.1))

    abbrev LayerTold : e.PathExpr-F PathExpr → Type 0
    LayerTold y =
        full_path_layer (map-PathExpr PathExpr Bool is_full_path y) ≡ true → (s : Shape) →
        layer_shape place names (map-PathExpr PathExpr (Result Shape SpecError) shaped y) ≡ Ok s → Equal (of s) (LayerLangW written place named y)

    by_layer : (y : e.PathExpr-F Part) → LayerTold (map-PathExpr Part PathExpr (λ q. q.0) y)
    by_layer e.Any full s is =
        subst (λ (t : Shape). Equal (of t) (IsLetter place true [])) (from_ok (Class true []) s is) (class_letters place true [] (in_some place []) (none_listed place))
    by_layer e.Empty full s is = subst (λ (t : Shape). Equal (of t) (λ w. w ≡ [])) (from_ok Empty s is) (itself (λ w. w ≡ []))
    by_layer (e.One member) full s is = class_words false (member ∷ []) s is
    by_layer (e.Class negated members) full s is = class_words negated members s is
    by_layer (e.Reference name at) full s is = agree name s (present (UnknownName at) (names name) s is)
    by_layer (e.Seq qs) full s is =
        of_list qs full sequence_shape s is (InOrder written (plain qs))
        (λ ss some same. through (of (sequence_shape ss)) (InOrder of ss) (InOrder written (plain qs)) (in_a_row ss some) (words.in_order_same of written ss (plain qs) same))
    by_layer (e.Alt qs) full s is =
        of_list qs full (tree_of Alt Empty) s is (OfSome written (plain qs))
        (λ ss some same. through (of (tree_of Alt Empty ss)) (OfSome of ss) (OfSome written (plain qs)) (of_some ss some) (words.of_some_same of written ss (plain qs) same))
    by_layer (e.And qs) full s is =
        of_list qs full (tree_of Meet Empty) s is (OfEach written (plain qs))
        (λ ss some same. through (of (tree_of Meet Empty ss)) (OfEach of ss) (OfEach written (plain qs)) (of_each ss some) (words.of_each_same of written ss (plain qs) same))
    by_layer (e.Not q) full s is =
        of_part q full Not s is (LayerLangW written place named (e.Not q.0)) (λ a same. words.others (IsPathWord (path_symbols_at place)) (of a) (written q.0) same)
    by_layer (e.Star q) full s is = of_part q full Star s is (SomeOf (written q.0)) (λ a same. words.starred (of a) (written q.0) same)
    by_layer (e.Plus q) full s is =
        of_part q full (λ a. Seq a (Star a)) s is (Concatenation (written q.0) (SomeOf (written q.0)))
        (λ a same. words.joined (of a) (written q.0) (SomeOf (of a)) (SomeOf (written q.0)) same (words.starred (of a) (written q.0) same))
    by_layer (e.Maybe q) full s is =
        of_part q full (λ a. Alt Empty a) s is (λ w. (w ≡ []) ⊎ written q.0 w)
        (λ a same. words.either (λ w. w ≡ []) (λ w. w ≡ []) (of a) (written q.0) (itself (λ w. w ≡ [])) same)
    by_layer (e.Times q n) full s is =
        of_part q full (λ a. sequence_shape (replicate n a)) s is (Repeated n (written q.0))
        (λ a same. through (of (sequence_shape (replicate n a))) (Repeated n (of a)) (Repeated n (written q.0)) (copies n a) (words.repeated_same n (of a) (written q.0) same))

    told_layer : (y : e.PathExpr-F Part) → Told (roll-PathExpr (map-PathExpr Part PathExpr (λ q. q.0) y))
    told_layer y full s is =
        let z = map-PathExpr Part PathExpr (λ q. q.0) y in
        turned (written (roll-PathExpr z)) (of s)
        (told (written (roll-PathExpr z)) (LayerLangW written place named z) (of s) (words_roll place named z)
        (turned (of s) (LayerLangW written place named z) (by_layer y (sym (full_roll z) ∙ full) s (sym (shape_roll place names z) ∙ is))))

    -- the shape of a path expression has its words
    pub shape_words : (p : PathExpr) → is_full_path p ≡ true → (s : Shape) → shape_of place names p ≡ Ok s → Equal (WordsOf place s) (LangW place named p)
    shape_words = ind-PathExpr Told (λ p y is. subst (λ z. Told (roll-PathExpr z)) is (told_layer y))
