-- What holds as bodies are gathered part by part.
use Rattle.std.proofs.Common.{suc, ◌≡◌, ℕ, ◌+◌, ◌<◌, ◌≤◌, List, [], ◌∷◌, ◌++◌, length, take, get_or, map, Option, Some, None, Result, Ok, Err, refl, ap, ap₂, sym, subst, ◌∙◌, arith, add-one}
use Rattle.std.specs.List.{fold}
use Rattle.std.specs.Prelude.{IfErr, OnOk}
use Rattle.rela_json.specs.Results.{◌>>=◌, try_map}
use Rattle.rela_lex.specs.declared.error.SpecError.{SpecError}
use Rattle.rela_spec.specs.declared.tree.Modifier.{Modifier}
use Rattle.rela_spec.specs.declared.tree.Modifier.TheVariants as m
use Rattle.rela_spec.specs.declared.tree.PathExpr.{PathExpr}
use Rattle.rela_spec.specs.declared.tree.SpecExpr.{SpecExpr}
use Rattle.rela_expand.specs.Bodies.{behind_paths, body_at, body_in, bodies_of, modifier_at, size_of_body, AreBodies, Grows, StandsFor}
use Rattle.rela_expand.specs.BodyGathers.{spec_at, specs_named, AreBodiesKnown, modifier_shape, unit_shape, spec_shape, IsModifier, IsBody, AreBodiesMade}
use Rattle.rela_expand.specs.Forms.{shape_at, Extends}
use Rattle.rela_expand.specs.Gathers.{path_shape}
use Rattle.rela_expand.specs.Scopes.{meaning_of, AreKnown, IsMade}
use Rattle.rela_expand.specs.Shapes.{Shape, BodyShape, Unit as Unit', all_of, change_shape, body_shape_of}
use Rattle.rela_expand.specs.declared.bodies.BodyForm.{BodyForm}
use Rattle.rela_expand.specs.declared.gathering.Scope.{Scope}
use Rattle.rela_expand.specs.declared.names.Definitions.{Definitions}
use Rattle.rela_expand.specs.declared.names.Meaning.{Meaning}
use Rattle.rela_expand.specs.declared.names.Meaning.TheVariants as meaning
use Rattle.rela_expand.proofs.BodyTrees.{layer_stays, bodies_stay}
use Rattle.rela_expand.proofs.PathGathering.{all_last, named_stays, shaped_stays}
use Rattle.rela_expand.proofs.Tries.{try_more, try_stops, try_of_map}

-- a modifier of two paths
module _ (scope : Scope) (old : List Shape) where
  pub modifier_of_two : (p q : PathExpr) (written : Modifier PathExpr) (mid new : List Shape) (k l : ℕ)
      → written ≡ m.Replace p q → AreKnown old scope.names.now → Extends old mid → Extends mid new
      → IsMade (path_shape scope old p) mid k → IsMade (path_shape scope mid q) new l → IsModifier (modifier_shape scope old written) new (m.Replace k l)
  modifier_of_two p q written mid new k l is known more more' one two = record {
    inside = let x = one.inside in let y = two.inside in let z = more'.longer in omega arith;
    is =
        ap (modifier_shape scope old) is
        ∙ ap (λ (r : Result Shape SpecError). r >>= (λ s. path_shape scope old q >>= (λ t. Ok (m.Replace s t)))) one.is
        ∙ ap (λ (r : Result Shape SpecError). r >>= (λ t. Ok (m.Replace (shape_at mid k) t))) (sym (shaped_stays scope old mid q more known) ∙ two.is)
        ∙ ap (λ (s : Shape). let r : Result (Modifier Shape) SpecError = Ok (m.Replace s (shape_at new l)) in r) (sym (more'.same k one.inside));
  }

  pub stopped_two : (p q : PathExpr) (written : Modifier PathExpr) (mid : List Shape) (k : ℕ) (e : SpecError)
      → written ≡ m.Replace p q → AreKnown old scope.names.now → Extends old mid → IsMade (path_shape scope old p) mid k → path_shape scope mid q ≡ Err e
      → modifier_shape scope old written ≡ Err e
  stopped_two p q written mid k e is known more one two =
      ap (modifier_shape scope old) is
      ∙ ap (λ (r : Result Shape SpecError). r >>= (λ s. path_shape scope old q >>= (λ t. Ok (m.Replace s t)))) one.is
      ∙ ap (λ (r : Result Shape SpecError). r >>= (λ t. Ok (m.Replace (shape_at mid k) t))) (sym (shaped_stays scope old mid q more known) ∙ two)

-- the bodies stay as more paths come
module _ (old new : List Shape) (more : Extends old new) where
  fold_stays : (seen : List BodyShape) (forms : List BodyForm) → ((k : ℕ) (d : BodyForm) → k < length forms → behind_paths (get_or forms k d).layer ≤ length old)
      → fold (λ (bodies : List BodyShape) (f : BodyForm). bodies ++ body_in new bodies f.layer ∷ []) seen forms
      ≡ fold (λ (bodies : List BodyShape) (f : BodyForm). bodies ++ body_in old bodies f.layer ∷ []) seen forms
  fold_stays seen [] zoned = refl
  fold_stays seen (f ∷ forms) zoned =
      ap (λ (s : BodyShape). fold (λ (bodies : List BodyShape) (f : BodyForm). bodies ++ body_in new bodies f.layer ∷ []) (seen ++ s ∷ []) forms)
      (layer_stays old new seen f.layer (zoned 0 f (omega arith)) more)
      ∙ fold_stays (seen ++ body_in old seen f.layer ∷ []) forms (λ k d h. zoned (suc k) d (omega arith))

  pub same_bodies : (forms : List BodyForm) → AreBodies old forms → bodies_of new forms ≡ bodies_of old forms
  unfolding bodies_of
  same_bodies forms are = fold_stays [] forms are.zoned

  pub still_bodies : (forms : List BodyForm) → AreBodies old forms → AreBodies new forms
  still_bodies forms are = record {
    below = are.below;
    zoned = λ k d h. let x = are.zoned k d h in let y = more.longer in omega arith;
    sizes = are.sizes ∙ ap (map size_of_body) (sym (same_bodies forms are));
  }

  pub grows_over : (forms all : List BodyForm) → AreBodies old forms → Grows (bodies_of new forms) (bodies_of new all) → Grows (bodies_of old forms) (bodies_of new all)
  grows_over forms all are grown = subst (λ (bodies : List BodyShape). Grows bodies (bodies_of new all)) (same_bodies forms are) grown

-- a unit, of its zone and its modifier
pub unit_made : (scope : Scope) (start mid new : List Shape) (bodies : List BodyShape) (zone : PathExpr) (c : Modifier PathExpr) (z k : ℕ) (made : Modifier ℕ)
    → AreKnown start scope.names.now → Extends start mid → Extends mid new
    → IsMade (path_shape scope start zone) mid z → IsModifier (modifier_shape scope mid c) new made
    → StandsFor bodies (Unit' (shape_at new z) (modifier_at new made)) k → IsBody (unit_shape scope start zone c) bodies k
unit_made scope start mid new bodies zone c z k made known more more' first second stands = record {
  inside = stands.inside;
  is =
      ap (λ (r : Result Shape SpecError). r >>= (λ s. modifier_shape scope start c >>= (λ m. Ok (Unit' s m)))) first.is
      ∙ ap (λ (r : Result (Modifier Shape) SpecError). r >>= (λ m. Ok (Unit' (shape_at mid z) m))) (modifier_stays scope start mid c more known ∙ second.is)
      ∙ ap (λ (s : Shape). let r : Result BodyShape SpecError = Ok (Unit' s (modifier_at new made)) in r) (sym (more'.same z first.inside))
      ∙ ap (λ (b : BodyShape). let r : Result BodyShape SpecError = Ok b in r) (sym stands.is);
}
  where
    modifier_stays : (scope : Scope) (start mid : List Shape) (c : Modifier PathExpr) → Extends start mid → AreKnown start scope.names.now → modifier_shape scope start c ≡ modifier_shape scope mid c
    modifier_stays scope start mid c more known =
        ap (λ (names : List ℕ → Option Shape). change_shape (record { network = scope.locations.now; level = scope.level }) names c) (sym (named_stays start mid scope.names.now more known))

pub unit_stops : (scope : Scope) (start mid : List Shape) (zone : PathExpr) (c : Modifier PathExpr) (z : ℕ) (e : SpecError)
    → AreKnown start scope.names.now → Extends start mid → IsMade (path_shape scope start zone) mid z → modifier_shape scope mid c ≡ Err e → unit_shape scope start zone c ≡ Err e
unit_stops scope start mid zone c z e known more first second =
    ap (λ (r : Result Shape SpecError). r >>= (λ s. modifier_shape scope start c >>= (λ m. Ok (Unit' s m)))) first.is
    ∙ ap (λ (r : Result (Modifier Shape) SpecError). r >>= (λ m. Ok (Unit' (shape_at mid z) m)))
    (ap (λ (names : List ℕ → Option Shape). change_shape (record { network = scope.locations.now; level = scope.level }) names c) (sym (named_stays start mid scope.names.now more known)) ∙ second)

-- what names stand for stays as forms and bodies are added
pub specs_stay : (old new : List BodyShape) (d : Definitions) → Grows old new → AreBodiesKnown old d → specs_named new d ≡ specs_named old d
specs_stay old new d more known = λ i name. by_meaning name (meaning_of d name) refl i
  where
    by_meaning : (name : List ℕ) (m : Option Meaning) → meaning_of d name ≡ m → spec_at new m ≡ spec_at old m
    by_meaning name None is = refl
    by_meaning name (Some (meaning.Path k)) is = refl
    by_meaning name (Some (meaning.Spec k)) is = ap (λ (s : BodyShape). Some s) (more.same k (known name k is))

pub spec_stays : (scope : Scope) (start new : List Shape) (old bodies : List BodyShape) (spec : SpecExpr) → Extends start new → AreKnown start scope.names.now
    → Grows old bodies → AreBodiesKnown old scope.names.now → spec_shape scope new bodies spec ≡ spec_shape scope start old spec
spec_stays scope start new old bodies spec more known grown known' =
    let d = scope.names.now in
    ap₂ (λ (p : List ℕ → Option Shape) (b : List ℕ → Option BodyShape). body_shape_of (record { network = scope.locations.now; level = scope.level }) (record { paths = p; specs = b }) spec)
    (named_stays start new d more known) (specs_stay old bodies d grown known')

pub known_more : (old new : List BodyShape) (d : Definitions) → Grows old new → AreBodiesKnown old d → AreBodiesKnown new d
known_more old new d more known name k is = let a = known name k is in let b = more.longer in omega arith

map_last : {A B : Type 0} (f : A → B) (xs : List A) (x : A) → map f (xs ++ x ∷ []) ≡ map f xs ++ f x ∷ []
map_last f [] x = refl
map_last {A} {B} f (y ∷ xs) x = ap (λ (zs : List B). f y ∷ zs) (map_last f xs x)

module _ (scope : Scope) (start mid : List Shape) (old here : List BodyShape) (parts : List SpecExpr) (i : ℕ) (d : SpecExpr) (ks : List ℕ)
    (known : AreKnown start scope.names.now) (specs_known : AreBodiesKnown old scope.names.now) (more : Extends start mid) (grown : Grows old here)
    (h : i < length parts) (made : AreBodiesMade (try_map (spec_shape scope start old) (take i parts)) here ks) where
  pub one_body_stops : (e : SpecError) → spec_shape scope mid here (get_or parts i d) ≡ Err e → all_of (map (spec_shape scope start old) parts) ≡ Err e
  one_body_stops e one =
      try_of_map (spec_shape scope start old) parts
      ∙ try_stops (spec_shape scope start old) parts i d (map (body_at here) ks) e h made.are
      (sym (spec_stays scope start mid old here (get_or parts i d) more known grown specs_known) ∙ one)

  pub one_body_made : (new : List BodyShape) (all : List ℕ) (k : ℕ) → Grows here new → IsBody (spec_shape scope mid here (get_or parts i d)) new k → all ≡ ks ++ k ∷ []
      → AreBodiesMade (try_map (spec_shape scope start old) (take (i + 1) parts)) new all
  one_body_made new all k grown' one pushed =
      subst (AreBodiesMade (try_map (spec_shape scope start old) (take (i + 1) parts)) new) (sym pushed) (record {
        inside = all_last (λ (n : ℕ). n < length new) ks k (λ n b inside. let x = made.inside n b inside in let y = grown'.longer in omega arith) one.inside;
        are =
            rw (add-one i)
            (try_more (spec_shape scope start old) parts i d (map (body_at here) ks) (body_at new k) h made.are
            (sym (spec_stays scope start mid old here (get_or parts i d) more known grown specs_known) ∙ one.is)
            ∙ ap (λ (xs : List BodyShape). let r : Result (List BodyShape) SpecError = Ok xs in r)
            (ap (λ (xs : List BodyShape). xs ++ body_at new k ∷ []) (sym (bodies_stay here new ks grown' made.inside)) ∙ sym (map_last (body_at new) ks k)));
      })

pub all_bodies_made : (f : SpecExpr → Result BodyShape SpecError) (bodies : List BodyShape) (parts rest : List SpecExpr) (ks : List ℕ) → rest ≡ parts
    → AreBodiesMade (try_map f rest) bodies ks → AreBodiesMade (all_of (map f parts)) bodies ks
all_bodies_made f bodies parts rest ks whole made = record { inside = made.inside; are = try_of_map f parts ∙ ap (try_map f) (sym whole) ∙ made.are }

pub on_ok : {T E : Type 0} (r : Result T E) (P : Type 0) → P → OnOk r P
on_ok (Ok x) P p = p
on_ok (Err e) P p = tt

pub if_err : {T E : Type 0} (r : Result T E) (P Q : E → Type 0) → ((e : E) → P e → Q e) → IfErr r P → IfErr r Q
if_err (Ok x) P Q f h = tt
if_err (Err e) P Q f h = f e h
