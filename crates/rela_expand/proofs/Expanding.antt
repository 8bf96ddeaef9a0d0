-- Expanding is shaping, and then numbering what comes out.
use Rattle.std.proofs.Common.{zero, suc, ◌≡◌, ℕ, ◌-◌, ◌≤◌, Bool, true, false, List, [], ◌∷◌, ◌++◌, length, take, drop, map, replicate, Option, None, Some, Result, Ok, Err, refl, ap, sym, subst, ◌∙◌, arith, length-append, length-drop}
use Rattle.std.proofs.lemmas.List.{length-take-le, take-append-drop}
use Rattle.rela_json.specs.Results.{◌>>=◌, ok_or, try_map}
use Rattle.rela_lex.specs.declared.error.SpecError.{SpecError}
use Rattle.rela_lex.specs.declared.error.SpecError.TheVariants.{UnknownName}
use Rattle.rela_spec.specs.declared.tree.Member.{Member}
use Rattle.rela_spec.specs.declared.tree.Modifier.{Modifier}
use Rattle.rela_spec.specs.declared.tree.Modifier.TheVariants as m
use Rattle.rela_spec.specs.declared.tree.PathExpr.{PathExpr}
use Rattle.rela_spec.specs.declared.tree.PathExpr.TheOpen as e
use Rattle.rela_spec.specs.declared.tree.PathExpr.TheViews.{roll-PathExpr}
use Rattle.rela_spec.specs.declared.tree.PathExpr.TheFolds.{map-PathExpr, fold-roll-PathExpr, ind-PathExpr}
use Rattle.rela_spec.specs.declared.tree.SpecExpr.{SpecExpr}
use Rattle.rela_spec.specs.declared.tree.SpecExpr.TheOpen as s
use Rattle.rela_spec.specs.declared.tree.SpecExpr.TheViews.{roll-SpecExpr}
use Rattle.rela_spec.specs.declared.tree.SpecExpr.TheFolds.{map-SpecExpr, fold-roll-SpecExpr, ind-SpecExpr}
use Rattle.rela_expand.specs.Expansions.{half, tree_within, tree_of, sequence_of, named, class_of, emptied, times, layer_of_path, path_expansion, change_expansion, layer_of_spec, spec_expansion, nothing_asked}
use Rattle.rela_expand.specs.Numbering.{Expansion, Numbering, Step, each, gives, go_on, next_marker}
use Rattle.rela_expand.specs.Numbered.{found, or_none, placed, one_part, two_parts, numbered, numbered_change, numbered_body, expands, stands, expansions_of}
use Rattle.rela_expand.specs.Places.{Place, in_some, listed, symbols_of}
use Rattle.rela_expand.specs.Shapes.{Shape, Empty, Class, Seq, Alt, Meet, Not, Star, BodyShape, Unit as Unit', Then, Else, Shapes, all_of, sequence_shape, class_shape, layer_shape, shape_of, change_shape, no_body, layer_body_shape, body_shape_of}
use Rattle.rela_translate.specs.declared.body.Expr.{Expr}
use Rattle.rela_translate.specs.declared.body.Expr.TheVariants as x
use Rattle.rela_translate.specs.declared.body.Change.{Change}
use Rattle.rela_translate.specs.declared.body.Change.TheVariants as change
use Rattle.rela_translate.specs.declared.body.Core.{Core}
use Rattle.rela_translate.specs.declared.body.Core.TheVariants as core
use Rattle.rela_expand.proofs.Tries.{tried_are}
use Rattle.rela_expand.proofs.HalvedTrees.{tree_joins}
use Rattle.rela_expand.proofs.Numberings.{grown_same, numbered_again}

-- the expansion goes by way of the shape, whatever is numbered before
abbrev pub GoesBy : {S X : Type 0} → (S → Numbering → Step X) → Expansion X → Result S SpecError → Type 0
GoesBy number e r = (n : Numbering) → e n ≡ expands number r n

module _ {S T X Y : Type 0} (ns : S → Numbering → Step X) (nt : T → Numbering → Step Y) where
  -- one part
  by_one : (f : X → Y) (g : S → T) → ((s : S) (n : Numbering) → nt (g s) n ≡ one_part f (ns s n))
      → (e : Expansion X) (r : Result S SpecError) → GoesBy ns e r
      → (n : Numbering) → go_on (λ a. gives (f a)) (e n) ≡ expands nt (r >>= (λ s. Ok (g s))) n
  by_one f g is e (Ok s) h n = ap (go_on (λ a. gives (f a))) (h n) ∙ ap Ok (sym (is s n))
  by_one f g is e (Err b) h n = ap (go_on (λ a. gives (f a))) (h n)

module _ {S T U X Y Z : Type 0} (ns : S → Numbering → Step X) (nt : T → Numbering → Step Y) (nu : U → Numbering → Step Z) where
  -- two parts, one after the other
  by_two : (f : X → Y → Z) (g : S → T → U) → ((s : S) (t : T) (n : Numbering) → nu (g s t) n ≡ two_parts f (ns s n) (nt t))
      → (e : Expansion X) (r : Result S SpecError) → GoesBy ns e r → (e' : Expansion Y) (r' : Result T SpecError) → GoesBy nt e' r'
      → (n : Numbering) → go_on (λ a m. go_on (λ b. gives (f a b)) (e' m)) (e n) ≡ expands nu (r >>= (λ s. r' >>= (λ t. Ok (g s t)))) n
  by_two f g is e (Ok s) h e' (Ok t) h' n =
      ap (go_on (λ a m. go_on (λ b. gives (f a b)) (e' m))) (h n)
      ∙ ap (go_on (λ b. gives (f (ns s n).value b))) (h' (ns s n).after)
      ∙ ap Ok (sym (is s t n))
  by_two f g is e (Ok s) h e' (Err b) h' n =
      ap (go_on (λ a m. go_on (λ b. gives (f a b)) (e' m))) (h n) ∙ ap (go_on (λ b. gives (f (ns s n).value b))) (h' (ns s n).after)
  by_two f g is e (Err b) h e' r' h' n = ap (go_on (λ a m. go_on (λ b. gives (f a b)) (e' m))) (h n)

module _ {S X : Type 0} (number : S → Numbering → Step X) where
  -- each shape, one after another
  abbrev pub number_all : List S → Numbering → Step (List X)
  number_all [] n = record { value = []; after = n }
  number_all (s ∷ ss) n = two_parts (λ x xs. x ∷ xs) (number s n) (number_all ss)

  by_each : {A : Type 0} (e : A → Expansion X) (r : A → Result S SpecError) (qs : List ((a : A) × GoesBy number (e a) (r a)))
      → GoesBy number_all (each (map e (map (λ q. q.0) qs))) (all_of (map r (map (λ q. q.0) qs)))
  by_each e r [] n = refl
  by_each e r (q ∷ rest) n =
      by_two number number_all number_all (λ x xs. x ∷ xs) (λ s ss. s ∷ ss) (λ s ss k. refl) (e q.0) (r q.0) q.1
      (each (map e (map (λ q. q.0) rest))) (all_of (map r (map (λ q. q.0) rest))) (by_each e r rest) n

  all_append : (ss ts : List S) (n : Numbering) → number_all (ss ++ ts) n ≡ two_parts (λ xs ys. xs ++ ys) (number_all ss n) (number_all ts)
  all_append [] ts n = refl
  all_append (s ∷ ss) ts n = ap (one_part (λ xs. (number s n).value ∷ xs)) (all_append ss ts (number s n).after)

  all_length : (ss : List S) (n : Numbering) → length (number_all ss n).value ≡ length ss
  all_length [] n = refl
  all_length (s ∷ ss) n = ap suc (all_length ss (number s n).after)

  module _ (join : S → S → S) (none : S) (f : X → X → X) (empty : X)
      (joined : (s t : S) (n : Numbering) → number (join s t) n ≡ two_parts f (number s n) (number t))
      (nothing : (n : Numbering) → number none n ≡ record { value = empty; after = n }) where
    abbrev OfTree : ℕ → List S → Type 0
    OfTree d ss = (n : Numbering) → number (tree_within d join none ss) n ≡ one_part (tree_within d f empty) (number_all ss n)

    of_halves : (d : ℕ) (ss ts : List S) → 2 ≤ length (ss ++ ts) → length ss ≡ half (length (ss ++ ts)) → OfTree d ss → OfTree d ts → OfTree (suc d) (ss ++ ts)
    of_halves d ss ts two front first second n =
        let vs = (number_all ss n).value in
        let ws = (number_all ts (number_all ss n).after).value in
        let ends = (number_all ts (number_all ss n).after).after in
        let lv : length vs ≡ length ss = all_length ss n in
        let lw : length ws ≡ length ts = all_length ts (number_all ss n).after in
        let whole : length (vs ++ ws) ≡ length (ss ++ ts) = omega (arith, length-append vs ws, length-append ss ts) in
        let two' : 2 ≤ length (vs ++ ws) = omega arith in
        let front' : length vs ≡ half (length (vs ++ ws)) = lv ∙ front ∙ ap half (sym whole) in
        ap (λ (t : S). number t n) (tree_joins join none d ss ts two front)
        ∙ joined (tree_within d join none ss) (tree_within d join none ts) n
        ∙ ap (λ (a : Step X). two_parts f a (number (tree_within d join none ts))) (first n)
        ∙ ap (one_part (f (tree_within d f empty vs))) (second (number_all ss n).after)
        ∙ ap (λ (v : X). let step : Step X = record { value = v; after = ends } in step) (sym (tree_joins f empty d vs ws two' front'))
        ∙ ap (one_part (tree_within (suc d) f empty)) (sym (all_append ss ts n))

    pub of_tree : (d : ℕ) (ss : List S) → length ss ≤ d → OfTree d ss
    of_tree zero [] few n = nothing n
    of_tree zero (s ∷ ss) few n = absurd (omega arith)
    of_tree (suc d) [] few n = nothing n
    of_tree (suc d) (s ∷ []) few n = refl
    of_tree (suc d) (s ∷ t ∷ ss) few n =
        let k = length (s ∷ t ∷ ss) in
        let xs = take (half k) (s ∷ t ∷ ss) in
        let ys = drop (half k) (s ∷ t ∷ ss) in
        let h : half k ≤ k = omega arith in
        let lx : length xs ≡ half k = length-take-le (half k) (s ∷ t ∷ ss) h in
        let ly : length ys ≡ k - half k = length-drop (half k) (s ∷ t ∷ ss) in
        let whole : xs ++ ys ≡ s ∷ t ∷ ss = take-append-drop (half k) (s ∷ t ∷ ss) in
        let size : length (xs ++ ys) ≡ k = ap length whole in
        let two : 2 ≤ length (xs ++ ys) = omega arith in
        let front : length xs ≡ half (length (xs ++ ys)) = lx ∙ ap half (sym size) in
        subst (OfTree (suc d)) whole (of_halves d xs ys two front (of_tree d xs (omega arith)) (of_tree d ys (omega arith))) n

    pub of_all : (ss : List S) (n : Numbering) → number (tree_of join none ss) n ≡ one_part (tree_of f empty) (number_all ss n)
    of_all ss n =
        of_tree (length ss) ss (omega arith) n
        ∙ ap (λ (d : ℕ). one_part (tree_within d f empty) (number_all ss n)) (sym (all_length ss n))

    -- the parts of a list, as a tree
    by_tree : (es : Expansion (List X)) (rs : Result (List S) SpecError) → GoesBy number_all es rs
        → (n : Numbering) → go_on (λ xs. gives (tree_of f empty xs)) (es n) ≡ expands number (rs >>= (λ ss. Ok (tree_of join none ss))) n
    by_tree es rs h n = by_one number_all number (tree_of f empty) (tree_of join none) of_all es rs h n

module _ (place : Place) where
  -- copies are numbered like the first
  copies : (s : Shape) (k : ℕ) (n : Numbering) → number_all (numbered place) (replicate (suc k) s) n ≡ one_part (λ a. replicate (suc k) a) (numbered place s n)
  copies s zero n = refl
  copies s (suc k) n =
      let m = (numbered place s n).after in
      ap (one_part (λ xs. (numbered place s n).value ∷ xs)) (copies s k m ∙ ap (one_part (λ a. replicate (suc k) a)) (numbered_again place s n m (grown_same m)))

  twice : (s : Shape) (n : Numbering) → numbered place (Seq s (Star s)) n ≡ one_part (λ a. x.Seq a (x.Star a)) (numbered place s n)
  twice s n =
      let m = (numbered place s n).after in
      ap (one_part (λ b. x.Seq (numbered place s n).value (x.Star b))) (numbered_again place s n m (grown_same m))

  in_a_row : (s : Shape) (k : ℕ) (n : Numbering) → numbered place (sequence_shape (replicate (suc k) s)) n ≡ one_part (λ a. sequence_of (replicate (suc k) a)) (numbered place s n)
  in_a_row s k n =
      of_all (numbered place) Seq Empty x.Seq x.Empty (λ a b m. refl) (λ m. refl) (replicate (suc k) s) n
      ∙ ap (one_part (tree_of x.Seq x.Empty)) (copies s k n)

  by_times : (k : ℕ) (part : Expansion Expr) (r : Result Shape SpecError) → GoesBy (numbered place) part r
      → GoesBy (numbered place) (times k part) (r >>= (λ s. Ok (sequence_shape (replicate k s))))
  by_times zero part (Ok s) h n = ap (emptied n) (h n)
  by_times zero part (Err b) h n = ap (emptied n) (h n)
  by_times (suc k) part r h n =
      by_one (numbered place) (numbered place) (λ a. sequence_of (replicate (suc k) a)) (λ s. sequence_shape (replicate (suc k) s)) (λ s m. in_a_row s k m) part r h n

  found_is : (members : List Member) (symbols : List ℕ) → listed place members ≡ Ok symbols → symbols ≡ found place members
  unfolding listed
  found_is members symbols is = by_lists (try_map (symbols_of place) members) refl is
    where
      by_lists : (r : Result (List (List ℕ)) SpecError) → try_map (symbols_of place) members ≡ r → (r >>= (λ lists. Ok (in_some place lists))) ≡ Ok symbols → symbols ≡ found place members
      by_lists (Ok lists) are h =
          let same : symbols ≡ in_some place lists = cc in
          same ∙ ap (in_some place) (tried_are (symbols_of place) or_none (λ b. refl) members lists are)
      by_lists (Err b) are h = absurd (cc)

  by_class : (negated : Bool) (members : List Member) → GoesBy (numbered place) (class_of place negated members) (class_shape place negated members)
  by_class negated members n = by_result (listed place members) refl
    where
      by_result : (r : Result (List ℕ) SpecError) → listed place members ≡ r
          → class_of place negated members n ≡ expands (numbered place) (class_shape place negated members) n
      by_result (Ok symbols) is =
          rw is (ap (λ (ss : List ℕ). let step : Result (Step Expr) SpecError = Ok (one_part x.Class (placed (record { negated = negated; members = ss }) n)) in step) (found_is members symbols is))
      by_result (Err b) is = rw is refl

  any_shape : class_shape place true [] ≡ Ok (Class true [])
  unfolding listed
  any_shape = refl

  by_name : {S X : Type 0} (number : S → Numbering → Step X) (o : Option S) (at : ℕ) → GoesBy number (named (stands number o) at) (ok_or (UnknownName at) o)
  by_name number None at n = refl
  by_name number (Some s) at n = refl

  module _ (shapes : Shapes) where
    abbrev path_e : PathExpr → Expansion Expr
    path_e = path_expansion place (expansions_of place shapes)

    abbrev path_s : PathExpr → Result Shape SpecError
    path_s = shape_of place shapes.paths

    abbrev Told : PathExpr → Type 0
    Told p = GoesBy (numbered place) (path_e p) (path_s p)

    abbrev Part : Type 0
    Part = (p : PathExpr) × Told p

    abbrev plain : e.PathExpr-F Part → e.PathExpr-F PathExpr
    plain y = map-PathExpr Part PathExpr (λ q. q.0) y

    expansion_roll : (y : e.PathExpr-F PathExpr) → path_e (roll-PathExpr y) ≡ layer_of_path place (expansions_of place shapes) (map-PathExpr PathExpr (Expansion Expr) path_e y)
    unfolding path_expansion
    expansion_roll y = fold-roll-PathExpr (Expansion Expr) (layer_of_path place (expansions_of place shapes)) y

    shape_roll : (y : e.PathExpr-F PathExpr) → path_s (roll-PathExpr y) ≡ layer_shape place shapes.paths (map-PathExpr PathExpr (Result Shape SpecError) path_s y)
    unfolding shape_of
    shape_roll y = fold-roll-PathExpr (Result Shape SpecError) (layer_shape place shapes.paths) y

    of_part : (f : Expr → Expr) (g : Shape → Shape) → ((s : Shape) (n : Numbering) → numbered place (g s) n ≡ one_part f (numbered place s n))
        → (q : Part) (n : Numbering) → go_on (λ a. gives (f a)) (path_e q.0 n) ≡ expands (numbered place) (path_s q.0 >>= (λ s. Ok (g s))) n
    of_part f g is q n = by_one (numbered place) (numbered place) f g is (path_e q.0) (path_s q.0) q.1 n

    of_parts : (f : Expr → Expr → Expr) (join : Shape → Shape → Shape)
        → ((s t : Shape) (n : Numbering) → numbered place (join s t) n ≡ two_parts f (numbered place s n) (numbered place t))
        → (qs : List Part) (n : Numbering)
        → go_on (λ xs. gives (tree_of f x.Empty xs)) (each (map path_e (map (λ q. q.0) qs)) n)
        ≡ expands (numbered place) (all_of (map path_s (map (λ q. q.0) qs)) >>= (λ ss. Ok (tree_of join Empty ss))) n
    of_parts f join is qs n =
        by_tree (numbered place) join Empty f x.Empty is (λ k. refl) (each (map path_e (map (λ q. q.0) qs))) (all_of (map path_s (map (λ q. q.0) qs)))
        (by_each (numbered place) path_e path_s qs) n

    by_layer : (y : e.PathExpr-F Part)
        → GoesBy (numbered place) (layer_of_path place (expansions_of place shapes) (map-PathExpr PathExpr (Expansion Expr) path_e (plain y)))
        (layer_shape place shapes.paths (map-PathExpr PathExpr (Result Shape SpecError) path_s (plain y)))
    by_layer e.Any n = by_class true [] n ∙ ap (λ (r : Result Shape SpecError). expands (numbered place) r n) any_shape
    by_layer e.Empty n = refl
    by_layer (e.One member) n = by_class false (member ∷ []) n
    by_layer (e.Class negated members) n = by_class negated members n
    by_layer (e.Reference name at) n = by_name (numbered place) (shapes.paths name) at n
    by_layer (e.Seq qs) n = of_parts x.Seq Seq (λ s t k. refl) qs n
    by_layer (e.Alt qs) n = of_parts x.Alt Alt (λ s t k. refl) qs n
    by_layer (e.And qs) n = of_parts x.Meet Meet (λ s t k. refl) qs n
    by_layer (e.Not q) n = of_part x.Not Not (λ s k. refl) q n
    by_layer (e.Star q) n = of_part x.Star Star (λ s k. refl) q n
    by_layer (e.Plus q) n = of_part (λ a. x.Seq a (x.Star a)) (λ a. Seq a (Star a)) twice q n
    by_layer (e.Maybe q) n = of_part (λ a. x.Alt x.Empty a) (λ a. Alt Empty a) (λ s k. refl) q n
    by_layer (e.Times q k) n = by_times k (path_e q.0) (path_s q.0) q.1 n

    told_layer : (y : e.PathExpr-F Part) → Told (roll-PathExpr (plain y))
    told_layer y n =
        ap (λ (e : Expansion Expr). e n) (expansion_roll (plain y))
        ∙ by_layer y n
        ∙ ap (λ (r : Result Shape SpecError). expands (numbered place) r n) (sym (shape_roll (plain y)))

    -- a path expression is expanded by way of its shape
    pub path_goes_by : (p : PathExpr) → GoesBy (numbered place) (path_expansion place (expansions_of place shapes) p) (shape_of place shapes.paths p)
    path_goes_by = ind-PathExpr Told (λ p y is. subst (λ z. Told (roll-PathExpr z)) is (told_layer y))

    of_path : (f : Expr → Change) (g : Shape → Modifier Shape) → ((s : Shape) (n : Numbering) → numbered_change place (g s) n ≡ one_part f (numbered place s n))
        → (p : PathExpr) (n : Numbering) → go_on (λ a. gives (f a)) (path_e p n) ≡ expands (numbered_change place) (path_s p >>= (λ s. Ok (g s))) n
    of_path f g is p n = by_one (numbered place) (numbered_change place) f g is (path_e p) (path_s p) (path_goes_by p) n

    by_marker : (e : Expansion Expr) (r : Result Shape SpecError) → GoesBy (numbered place) e r
        → (n : Numbering) → go_on (λ a k. go_on (λ b. gives (change.AnyOf a b)) (next_marker k)) (e n) ≡ expands (numbered_change place) (r >>= (λ s. Ok (m.AnyOf s))) n
    by_marker e (Ok s) h n = ap (go_on (λ a k. go_on (λ b. gives (change.AnyOf a b)) (next_marker k))) (h n)
    by_marker e (Err b) h n = ap (go_on (λ a k. go_on (λ b. gives (change.AnyOf a b)) (next_marker k))) (h n)

    by_change : (c : Modifier PathExpr) → GoesBy (numbered_change place) (change_expansion place (expansions_of place shapes) c) (change_shape place shapes.paths c)
    by_change m.Preserve n = refl
    by_change (m.Add p) n = of_path change.Add m.Add (λ s k. refl) p n
    by_change (m.Remove p) n = of_path change.Remove m.Remove (λ s k. refl) p n
    by_change (m.Replace p q) n =
        by_two (numbered place) (numbered place) (numbered_change place) change.Replace m.Replace (λ s t k. refl)
        (path_e p) (path_s p) (path_goes_by p) (path_e q) (path_s q) (path_goes_by q) n
    by_change m.Drop n = refl
    by_change (m.AnyOf p) n = by_marker (path_e p) (path_s p) (path_goes_by p) n
    by_change (m.Ignore p) n = of_path change.Ignore m.Ignore (λ s k. refl) p n

    abbrev spec_e : SpecExpr → Expansion Core
    spec_e = spec_expansion place (expansions_of place shapes)

    abbrev spec_s : SpecExpr → Result BodyShape SpecError
    spec_s = body_shape_of place shapes

    abbrev ToldSpec : SpecExpr → Type 0
    ToldSpec p = GoesBy (numbered_body place) (spec_e p) (spec_s p)

    abbrev SpecPart : Type 0
    SpecPart = (p : SpecExpr) × ToldSpec p

    abbrev plain_spec : s.SpecExpr-F SpecPart → s.SpecExpr-F SpecExpr
    plain_spec y = map-SpecExpr SpecPart SpecExpr (λ q. q.0) y

    spec_expansion_roll : (y : s.SpecExpr-F SpecExpr) → spec_e (roll-SpecExpr y) ≡ layer_of_spec place (expansions_of place shapes) (map-SpecExpr SpecExpr (Expansion Core) spec_e y)
    unfolding spec_expansion
    spec_expansion_roll y = fold-roll-SpecExpr (Expansion Core) (layer_of_spec place (expansions_of place shapes)) y

    spec_shape_roll : (y : s.SpecExpr-F SpecExpr) → spec_s (roll-SpecExpr y) ≡ layer_body_shape place shapes (map-SpecExpr SpecExpr (Result BodyShape SpecError) spec_s y)
    unfolding body_shape_of
    spec_shape_roll y = fold-roll-SpecExpr (Result BodyShape SpecError) (layer_body_shape place shapes) y

    of_specs : (f : Core → Core → Core) (join : BodyShape → BodyShape → BodyShape)
        → ((a b : BodyShape) (n : Numbering) → numbered_body place (join a b) n ≡ two_parts f (numbered_body place a n) (numbered_body place b))
        → (qs : List SpecPart) (n : Numbering)
        → go_on (λ xs. gives (tree_of f nothing_asked xs)) (each (map spec_e (map (λ q. q.0) qs)) n)
        ≡ expands (numbered_body place) (all_of (map spec_s (map (λ q. q.0) qs)) >>= (λ ss. Ok (tree_of join no_body ss))) n
    of_specs f join is qs n =
        by_tree (numbered_body place) join no_body f nothing_asked is (λ k. refl) (each (map spec_e (map (λ q. q.0) qs))) (all_of (map spec_s (map (λ q. q.0) qs)))
        (by_each (numbered_body place) spec_e spec_s qs) n

    by_spec_layer : (y : s.SpecExpr-F SpecPart)
        → GoesBy (numbered_body place) (layer_of_spec place (expansions_of place shapes) (map-SpecExpr SpecExpr (Expansion Core) spec_e (plain_spec y)))
        (layer_body_shape place shapes (map-SpecExpr SpecExpr (Result BodyShape SpecError) spec_s (plain_spec y)))
    by_spec_layer (s.Unit zone c) n =
        by_two (numbered place) (numbered_change place) (numbered_body place) core.Unit Unit' (λ a b k. refl)
        (path_e zone) (path_s zone) (path_goes_by zone) (change_expansion place (expansions_of place shapes) c) (change_shape place shapes.paths c) (by_change c) n
    by_spec_layer (s.Reference name at) n = by_name (numbered_body place) (shapes.specs name) at n
    by_spec_layer (s.Then qs) n = of_specs core.Then Then (λ a b k. refl) qs n
    by_spec_layer (s.Else qs) n = of_specs core.Else Else (λ a b k. refl) qs n

    told_spec_layer : (y : s.SpecExpr-F SpecPart) → ToldSpec (roll-SpecExpr (plain_spec y))
    told_spec_layer y n =
        ap (λ (e : Expansion Core). e n) (spec_expansion_roll (plain_spec y))
        ∙ by_spec_layer y n
        ∙ ap (λ (r : Result BodyShape SpecError). expands (numbered_body place) r n) (sym (spec_shape_roll (plain_spec y)))

    -- a specification is expanded by way of its shape
    pub spec_goes_by : (p : SpecExpr) → GoesBy (numbered_body place) (spec_expansion place (expansions_of place shapes) p) (body_shape_of place shapes p)
    spec_goes_by = ind-SpecExpr ToldSpec (λ p y is. subst (λ z. ToldSpec (roll-SpecExpr z)) is (told_spec_layer y))
