-- What the relations of a check make of paths is made of path symbols and markers, and each of those has a text.
use Rattle.std.proofs.Common.{◌≡◌, ℕ, ◌+◌, ◌<◌, ◌≤◌, ◌⊎◌, inl, inr, List, [], ◌∷◌, ◌++◌, length, refl, sym, subst, arith}
use Rattle.std.specs.List.{All}
use Rattle.std.proofs.lemmas.List.Elements.{All-nil, All-cons, All-head, All-tail, All-append, All-weaker}
use Rattle.rela_engine.specs.RowOf.{Says}
use Rattle.rela_blocks.specs.Scenes.{paths_of}
use Rattle.rela_graph.specs.Paths.{Paths as GraphPaths}
use Rattle.rela_graph.specs.Topology.{Topology}
use Rattle.rela_names.specs.declared.level.Level.{Level}
use Rattle.rela_report.specs.Text.{HasTexts, VerdictHasTexts}
use Rattle.rela_report.specs.declared.rows.Row.{Row}
use Rattle.rela_report.specs.declared.rows.Row.TheVariants.{Compliant, Violated, Undecided}
use Rattle.rela_report.specs.declared.rows.Side.TheVariants as side
use Rattle.rela_rir.specs.Words.{WordSet, Relation, PairConcatenation}
use Rattle.rela_rir.specs.Meaning.{IsPathWord}
use Rattle.rela_rir.specs.declared.set.SymbolSet.{SymbolSet}
use Rattle.rela_translate.specs.Checked.{Checked as Check, change_markers, layer_markers, markers_of}
use Rattle.rela_translate.specs.Settings.{IsMarker}
use Rattle.rela_translate.specs.Zones.{Meaning, path_symbols, drop_symbol, marker_symbol, Paths, unit_meaning, layer_meaning, meaning_of}
use Rattle.rela_translate.specs.declared.body.Expr.{Expr}
use Rattle.rela_translate.specs.declared.body.Change.{Change}
use Rattle.rela_translate.specs.declared.body.Change.TheVariants.{Preserve, Add, Remove, Replace, Drop, AnyOf, Ignore}
use Rattle.rela_translate.specs.declared.body.Core.{Core}
use Rattle.rela_translate.specs.declared.body.Core.TheOpen as C
use Rattle.rela_translate.specs.declared.body.Core.TheViews.{roll-Core}
use Rattle.rela_translate.specs.declared.body.Core.TheFolds.{map-Core, fold-roll-Core, rec-roll-Core, ind-Core}
use Rattle.rela_rows.proofs.PathWords.{of_paths}

front_markers : (xs ys : List ℕ) → All IsMarker (xs ++ ys) → All IsMarker xs
front_markers [] ys each = All-nil IsMarker
front_markers (x ∷ xs) ys each = All-cons IsMarker x xs (All-head IsMarker x (xs ++ ys) each) (front_markers xs ys (All-tail IsMarker x (xs ++ ys) each))

rest_markers : (xs ys : List ℕ) → All IsMarker (xs ++ ys) → All IsMarker ys
rest_markers [] ys each = each
rest_markers (x ∷ xs) ys each = rest_markers xs ys (All-tail IsMarker x (xs ++ ys) each)

module _ (classes : List SymbolSet) (n : ℕ) where
  abbrev pub HasText : ℕ → Type 0
  HasText s = s < path_symbols n + 20000

  abbrev pub IsShown : List ℕ → Type 0
  IsShown w = All HasText w

  abbrev pub ArePaths : WordSet → Type 0
  ArePaths X = (w : List ℕ) → X w → IsPathWord (path_symbols n) w

  abbrev pub AreShown : Relation → Type 0
  AreShown R = (u v : List ℕ) → R u v → IsShown v

  path_shown : (w : List ℕ) → IsPathWord (path_symbols n) w → IsShown w
  path_shown w path = All-weaker (λ (s : ℕ). s < path_symbols n) HasText (λ s less. omega (arith, less)) w path

  one_shown : (s : ℕ) (w : List ℕ) → HasText s → w ≡ s ∷ [] → IsShown w
  one_shown s w has is = subst IsShown (sym is) (All-cons HasText s [] has (All-nil HasText))

  same_shown : (X : WordSet) → ArePaths X → (u v : List ℕ) → u ≡ v → X u → IsShown v
  same_shown X paths u v is has = subst IsShown is (path_shown u (paths u has))

  -- what the two relations of a body make of a word
  pub record Outputs (before after : List ℕ → List ℕ → Type 0) : Type 0 where
    pub before_shown : (u v : List ℕ) → before u v → IsShown v
    pub after_shown : (u v : List ℕ) → after u v → IsShown v

  abbrev pub OutputsOf : Meaning → Type 0
  OutputsOf m = Outputs m.before m.after

  words_of : (p : Expr) → ArePaths (Paths classes n p)
  words_of p = of_paths classes (path_symbols n) p

  drop_shown : HasText (drop_symbol n)
  drop_shown = omega arith

  marker_shown : (k : ℕ) → k ≤ 20000 → HasText (marker_symbol n k)
  marker_shown k few = omega (arith, few)

  either_same : (X Y Z : WordSet) → ArePaths X → ArePaths Y → (u v : List ℕ) → ((u ≡ v) × X u) ⊎ (Z u × Y v) → IsShown v
  either_same X Y Z paths others u v (inl r) = same_shown X paths u v r.0 r.1
  either_same X Y Z paths others u v (inr r) = path_shown v (others v r.1)

  either_paths : (X Y : WordSet) → ArePaths X → ArePaths Y → ArePaths (λ w. X w ⊎ Y w)
  either_paths X Y f g w (inl has) = f w has
  either_paths X Y f g w (inr has) = g w has

  drop_paths : ArePaths (λ w. w ≡ drop_symbol n ∷ [])
  drop_paths w is =
      subst (IsPathWord (path_symbols n)) (sym is)
      (All-cons (λ (s : ℕ). s < path_symbols n) (drop_symbol n) [] (omega arith) (All-nil (λ (s : ℕ). s < path_symbols n)))

  any_shown : (Z P : WordSet) (k : ℕ) → k ≤ 20000 → ArePaths Z → (u v : List ℕ)
      → (P u × (v ≡ marker_symbol n k ∷ [])) ⊎ ((u ≡ v) × (Z u × (¬ P u))) → IsShown v
  any_shown Z P k few paths u v (inl r) = one_shown (marker_symbol n k) v (marker_shown k few) r.1
  any_shown Z P k few paths u v (inr r) = same_shown Z paths u v r.0 r.1.0

  unit_outputs : (Z : WordSet) (c : Change) → ArePaths Z → All IsMarker (change_markers c) → OutputsOf (unit_meaning classes n Z c)
  unit_outputs Z Preserve f few = record {
    before_shown = λ u v r. same_shown Z f u v r.0 r.1;
    after_shown = λ u v r. same_shown Z f u v r.0 r.1;
  }
  unit_outputs Z (Add p) f few = record {
    before_shown = either_same (λ w. Z w ⊎ Paths classes n p w) (Paths classes n p) Z (either_paths Z (Paths classes n p) f (words_of p)) (words_of p);
    after_shown = λ u v r. same_shown (λ w. Z w ⊎ Paths classes n p w) (either_paths Z (Paths classes n p) f (words_of p)) u v r.0 r.1;
  }
  unit_outputs Z (Remove p) f few = record {
    before_shown = λ u v r. same_shown Z f u v r.0 r.1.0;
    after_shown = λ u v r. same_shown Z f u v r.0 r.1;
  }
  unit_outputs Z (Replace p q) f few = record {
    before_shown = replaced;
    after_shown = λ u v r. same_shown (λ w. Z w ⊎ Paths classes n q w) (either_paths Z (Paths classes n q) f (words_of q)) u v r.0 r.1;
  } where
    replaced : (u v : List ℕ) → ((u ≡ v) × ((Z u ⊎ Paths classes n q u) × (¬ (Paths classes n p u × Z u)))) ⊎ ((Paths classes n p u × Z u) × Paths classes n q v) → IsShown v
    replaced u v (inl r) = same_shown (λ w. Z w ⊎ Paths classes n q w) (either_paths Z (Paths classes n q) f (words_of q)) u v r.0 r.1.0
    replaced u v (inr r) = path_shown v (words_of q v r.1)
  unit_outputs Z Drop f few = record {
    before_shown = λ u v r. one_shown (drop_symbol n) v drop_shown r.1;
    after_shown = λ u v r. same_shown (λ w. Z w ⊎ (w ≡ drop_symbol n ∷ [])) (either_paths Z (λ w. w ≡ drop_symbol n ∷ []) f drop_paths) u v r.0 r.1;
  }
  unit_outputs Z (AnyOf p k) f few = record {
    before_shown = λ u v r. one_shown (marker_symbol n k) v (marker_shown k (All-head IsMarker k [] few).1) r.1;
    after_shown = any_shown Z (Paths classes n p) k (All-head IsMarker k [] few).1 f;
  }
  unit_outputs Z (Ignore p) f few = record {
    before_shown = λ u v r. same_shown Z f u v r.0 r.1.0;
    after_shown = λ u v r. same_shown Z f u v r.0 r.1.0;
  }

  joined_shown : (R S : Relation) → AreShown R → AreShown S → AreShown (PairConcatenation R S)
  joined_shown R S f g u v c =
      subst IsShown (sym c.split_out)
      (All-append HasText c.front_out c.rest_out (f c.front_in c.front_out c.in_front) (g c.rest_in c.rest_out c.in_rest))

  else_shown : (R S : Relation) (X : WordSet) → AreShown R → AreShown S → (u v : List ℕ) → R u v ⊎ (S u v × (¬ X u)) → IsShown v
  else_shown R S X f g u v (inl r) = f u v r
  else_shown R S X f g u v (inr s) = g u v s.0

  abbrev pub BodyOutputs : Core → Type 0
  BodyOutputs body = All IsMarker (markers_of body) → OutputsOf (meaning_of classes n body)

  natural : (X : Type 0) (v : X → Core) (k : Core → Meaning) (x : C.Core-F X) → layer_meaning classes n (λ p. k (v p)) x ≡ layer_meaning classes n k (map-Core X Core v x)
  natural X v k (C.Unit z c) = refl
  natural X v k (C.Then s t) = refl
  natural X v k (C.Else s t) = refl

  meaning_roll : (x : C.Core-F Core) → meaning_of classes n (roll-Core x) ≡ layer_meaning classes n (meaning_of classes n) x
  meaning_roll x = rec-roll-Core Meaning (λ X _ part layer. layer_meaning classes n part layer) natural x

  markers_roll : (x : C.Core-F Core) → markers_of (roll-Core x) ≡ layer_markers (map-Core Core (List ℕ) markers_of x)
  markers_roll x = fold-roll-Core (List ℕ) layer_markers x

  by_meaning : (M N : Meaning) → M ≡ N → OutputsOf N → OutputsOf M
  by_meaning M N is outputs = subst (λ (m : Meaning). OutputsOf m) (sym is) outputs

  layer_outputs : (y : C.Core-F ((body : Core) × BodyOutputs body)) → BodyOutputs (roll-Core (map-Core ((body : Core) × BodyOutputs body) Core (λ e. e.0) y))
  layer_outputs (C.Unit z c) few =
      by_meaning _ _ (meaning_roll (C.Unit z c))
      (unit_outputs (Paths classes n z) c (words_of z) (subst (All IsMarker) (markers_roll (C.Unit z c)) few))
  layer_outputs (C.Then s t) few =
      let S : Meaning = meaning_of classes n s.0 in
      let T : Meaning = meaning_of classes n t.0 in
      let each : All IsMarker (markers_of s.0 ++ markers_of t.0) = subst (All IsMarker) (markers_roll (C.Then s.0 t.0)) few in
      let first = s.1 (front_markers (markers_of s.0) (markers_of t.0) each) in
      let second = t.1 (rest_markers (markers_of s.0) (markers_of t.0) each) in
      by_meaning _ _ (meaning_roll (C.Then s.0 t.0)) (record {
        before_shown = joined_shown S.before T.before first.before_shown second.before_shown;
        after_shown = joined_shown S.after T.after first.after_shown second.after_shown;
      })
  layer_outputs (C.Else s t) few =
      let S : Meaning = meaning_of classes n s.0 in
      let T : Meaning = meaning_of classes n t.0 in
      let each : All IsMarker (markers_of s.0 ++ markers_of t.0) = subst (All IsMarker) (markers_roll (C.Else s.0 t.0)) few in
      let first = s.1 (front_markers (markers_of s.0) (markers_of t.0) each) in
      let second = t.1 (rest_markers (markers_of s.0) (markers_of t.0) each) in
      by_meaning _ _ (meaning_roll (C.Else s.0 t.0)) (record {
        before_shown = else_shown S.before T.before S.zone first.before_shown second.before_shown;
        after_shown = else_shown S.after T.after S.zone first.after_shown second.after_shown;
      })

  pub outputs : (body : Core) → BodyOutputs body
  outputs = ind-Core BodyOutputs (λ x y is. subst (λ z. BodyOutputs (roll-Core z)) is (layer_outputs y))

-- each word that a verdict prints has a text, where each path of the two graphs has
pub verdict_texts : (names : List (List ℕ)) (check : Check) (level : Level) (before after : Topology) (limit : ℕ) (row : Row) → All IsMarker (markers_of check.body)
    → ((w : List ℕ) → GraphPaths before level names w → HasTexts names w) → ((w : List ℕ) → GraphPaths after level names w → HasTexts names w)
    → Says check (length names) (paths_of level names before after) limit row → VerdictHasTexts names row
verdict_texts names check level before after limit Compliant few old new is = tt
verdict_texts names check level before after limit (Violated word side.Before source) few old new is =
    ((outputs check.classes (length names) check.body few).before_shown is.in_image.source word is.in_image.related, old source is.first_source.member.0)
verdict_texts names check level before after limit (Violated word side.After source) few old new is =
    ((outputs check.classes (length names) check.body few).after_shown is.in_image.source word is.in_image.related, new source is.first_source.member.0)
verdict_texts names check level before after limit Undecided few old new is = tt
