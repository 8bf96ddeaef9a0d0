-- What one item more does to what has been read.
use Rattle.std.proofs.Common.{◌≡◌, ℕ, ◌+◌, ◌<◌, Bool, List, [], ◌∷◌, ◌++◌, length, map, drop, drop-cons, get_or, Option, None, Result, Ok, Err, refl, ap, ap₂, sym, subst, ◌∙◌, add-one}
use Rattle.std.specs.List.{All}
use Rattle.rela_flows.specs.declared.predicate.Predicate.{Predicate}
use Rattle.rela_json.specs.Results.{◌>>=◌, try_fold}
use Rattle.rela_lex.specs.declared.error.SpecError.{SpecError}
use Rattle.rela_spec.specs.declared.tree.Item.{Item}
use Rattle.rela_spec.specs.declared.tree.Item.TheVariants.{Path, Spec, Check}
use Rattle.rela_spec.specs.declared.tree.PathExpr.{PathExpr}
use Rattle.rela_spec.specs.declared.tree.SpecExpr.{SpecExpr}
use Rattle.rela_expand.specs.Bodies.{AreBodies, Grows, bodies_of, body_at}
use Rattle.rela_expand.specs.BodyGathers.{AreBodiesKnown, IsBody, all_named, specs_named}
use Rattle.rela_translate.specs.Checked.{Checked}
use Rattle.rela_expand.specs.Expand.{Expanded, in_size, not_full, outcome_of, unused, with_name}
use Rattle.rela_expand.specs.Forms.{Extends, shape_at}
use Rattle.rela_expand.specs.Numbered.{numbered_body}
use Rattle.rela_expand.specs.Numbering.{Step, nothing_numbered}
use Rattle.rela_expand.specs.Places.{Place, locations_at}
use Rattle.rela_expand.specs.Scopes.{AreKnown, IsMade, meaning_of, paths_named}
use Rattle.rela_expand.specs.Shapes.{Shape, BodyShape, shape_of, body_shape_of}
use Rattle.rela_expand.specs.Walk.{Seen, at_start, seen_path, seen_spec, with_shaped}
use Rattle.rela_expand.specs.Walks.{AreTaken, IsWalk, names_of, seen_of, seen_with}
use Rattle.rela_translate.specs.declared.body.Core.{Core}
use Rattle.rela_expand.specs.declared.bodies.BodyForm.{BodyForm}
use Rattle.rela_expand.specs.declared.names.Definitions.{Definitions}
use Rattle.rela_expand.specs.declared.names.Meaning.TheVariants as meaning
use Rattle.rela_expand.specs.declared.walking.Walk.{Walk}
use Rattle.rela_expand.proofs.BodyGathering.{same_bodies, specs_stay}
use Rattle.rela_expand.proofs.PathGathering.{named_stays}
use Rattle.rela_expand.proofs.WalkNames.{Adds, paths_with_path, paths_with_spec, specs_with_path, specs_with_spec, taken_last}

map_last : {A B : Type 0} (f : A → B) (xs : List A) (x : A) → map f (xs ++ x ∷ []) ≡ map f xs ++ f x ∷ []
map_last f [] x = refl
map_last {A} {B} f (y ∷ xs) x = ap (λ (zs : List B). f y ∷ zs) (map_last f xs x)

module _ (place : Place) (seen : Seen) (name : List ℕ) (at : ℕ) where
  module _ (body : PathExpr) where
    abbrev path_shaped : List ℕ → Result Shape SpecError → Result Seen SpecError
    path_shaped new r = r >>= (λ shape. Ok (seen_path new shape seen))

    pub path_seen : (r : Result Shape SpecError) → unused seen.taken name at ≡ Ok name → shape_of place seen.names.paths body ≡ r → with_shaped place seen (Path name at body) ≡ path_shaped name r
    unfolding with_shaped
    path_seen r new is =
        ap (λ (u : Result (List ℕ) SpecError). u >>= (λ n. path_shaped n (shape_of place seen.names.paths body))) new
        ∙ ap (path_shaped name) is

    pub path_name_refused : (e : SpecError) → unused seen.taken name at ≡ Err e → with_shaped place seen (Path name at body) ≡ Err e
    unfolding with_shaped
    path_name_refused e old = ap (λ (u : Result (List ℕ) SpecError). u >>= (λ n. path_shaped n (shape_of place seen.names.paths body))) old

  module _ (body : SpecExpr) where
    abbrev spec_shaped : List ℕ → Result BodyShape SpecError → Result Seen SpecError
    spec_shaped new r = r >>= (λ shape. Ok (seen_spec new shape seen))

    pub spec_seen : (r : Result BodyShape SpecError) → unused seen.taken name at ≡ Ok name → body_shape_of place seen.names body ≡ r → with_shaped place seen (Spec name at body) ≡ spec_shaped name r
    unfolding with_shaped
    spec_seen r new is =
        ap (λ (u : Result (List ℕ) SpecError). u >>= (λ n. spec_shaped n (body_shape_of place seen.names body))) new
        ∙ ap (spec_shaped name) is

    pub spec_name_refused : (e : SpecError) → unused seen.taken name at ≡ Err e → with_shaped place seen (Spec name at body) ≡ Err e
    unfolding with_shaped
    spec_name_refused e old = ap (λ (u : Result (List ℕ) SpecError). u >>= (λ n. spec_shaped n (body_shape_of place seen.names body))) old

    module _ (at_most : Bool) (when : Predicate) where
      abbrev check_of : List ℕ → Step Core → Expanded
      check_of new step = record { name = new; at_most = at_most; when = when; classes = step.after.classes; body = step.value }

      abbrev check_sized : List ℕ → Result (Step Core) SpecError → Result Seen SpecError
      check_sized new r = r >>= (λ step. Ok (record seen { checks = seen.checks ++ check_of new step ∷ [] }))

      abbrev check_shaped : List ℕ → Result BodyShape SpecError → Result Seen SpecError
      check_shaped new r = r >>= (λ shape. check_sized new (in_size (locations_at place) at (numbered_body place shape nothing_numbered)))

      abbrev check_within : List ℕ → Result ℕ SpecError → Result Seen SpecError
      check_within new r = r >>= (λ within. check_shaped new (body_shape_of place seen.names body))

      pub check_name_refused : (e : SpecError) → unused (names_of seen.checks) name at ≡ Err e → with_shaped place seen (Check at_most name at when body) ≡ Err e
      unfolding with_shaped
      check_name_refused e old = ap (λ (u : Result (List ℕ) SpecError). u >>= (λ n. check_within n (not_full seen.checks at))) old

      pub check_named : unused (names_of seen.checks) name at ≡ Ok name → with_shaped place seen (Check at_most name at when body) ≡ check_within name (not_full seen.checks at)
      unfolding with_shaped
      check_named new = ap (λ (u : Result (List ℕ) SpecError). u >>= (λ n. check_within n (not_full seen.checks at))) new

      pub check_full : (e : SpecError) → unused (names_of seen.checks) name at ≡ Ok name → not_full seen.checks at ≡ Err e → with_shaped place seen (Check at_most name at when body) ≡ Err e
      check_full e new full = check_named new ∙ ap (check_within name) full

      pub check_seen : (r : Result BodyShape SpecError) → unused (names_of seen.checks) name at ≡ Ok name → not_full seen.checks at ≡ Ok at → body_shape_of place seen.names body ≡ r
          → with_shaped place seen (Check at_most name at when body) ≡ check_shaped name r
      check_seen r new room is = check_named new ∙ ap (check_within name) room ∙ ap (check_shaped name) is

module _ (place : Place) (start new : List Shape) (old : Definitions) (taken : List (List ℕ)) (checks : List Checked) (name : List ℕ) (at : ℕ)
    (known : AreKnown start old) (more : Extends start new) where
  -- a path more
  pub path_walked : (forms : List BodyForm) (next : Definitions) (k : ℕ) (body : PathExpr) → AreBodies start forms → meaning_of old name ≡ None → Adds old next name (meaning.Path k)
      → unused taken name at ≡ Ok name → IsMade (shape_of place (paths_named start old) body) new k
      → with_shaped place (seen_with start (bodies_of start forms) old taken (map outcome_of checks)) (Path name at body)
      ≡ Ok (seen_with new (bodies_of new forms) next (name ∷ taken) (map outcome_of checks))
  path_walked forms next k body are none adds fresh made =
      path_seen place (seen_with start (bodies_of start forms) old taken (map outcome_of checks)) name at body (Ok (shape_at new k)) fresh made.is
      ∙ ap₂ (λ (p : List ℕ → Option Shape) (s : List ℕ → Option BodyShape). let r : Result Seen SpecError = Ok (record { names = record { paths = p; specs = s }; taken = name ∷ taken; checks = map outcome_of checks }) in r)
      (sym (paths_with_path old next name k adds new ∙ ap (with_name name (shape_at new k)) (named_stays start new old more known)))
      (sym (specs_with_path old next name k adds (bodies_of new forms) none ∙ ap (λ (b : List BodyShape). specs_named b old) (same_bodies start new more forms are)))

  module _ (bodies all : List BodyShape) (specs_known : AreBodiesKnown bodies old) (grown : Grows bodies all) (k : ℕ) (body : SpecExpr)
      (made : IsBody (body_shape_of place (all_named start bodies old) body) all k) where
    -- a specification more
    pub spec_walked : (next : Definitions) → meaning_of old name ≡ None → Adds old next name (meaning.Spec k) → unused taken name at ≡ Ok name
        → with_shaped place (seen_with start bodies old taken (map outcome_of checks)) (Spec name at body) ≡ Ok (seen_with new all next (name ∷ taken) (map outcome_of checks))
    spec_walked next none adds fresh =
        spec_seen place (seen_with start bodies old taken (map outcome_of checks)) name at body (Ok (body_at all k)) fresh made.is
        ∙ ap₂ (λ (p : List ℕ → Option Shape) (s : List ℕ → Option BodyShape). let r : Result Seen SpecError = Ok (record { names = record { paths = p; specs = s }; taken = name ∷ taken; checks = map outcome_of checks }) in r)
        (sym (paths_with_spec old next name k adds new none ∙ named_stays start new old more known))
        (sym (specs_with_spec old next name k adds all ∙ ap (with_name name (body_at all k)) (specs_stay bodies all old grown specs_known)))

    module _ (at_most : Bool) (when : Predicate) (fresh : unused (names_of (map outcome_of checks)) name at ≡ Ok name) (room : not_full (map outcome_of checks) at ≡ Ok at) where
      abbrev seen : Seen
      seen = seen_with start bodies old taken (map outcome_of checks)

      shaped_there : with_shaped place seen (Check at_most name at when body) ≡ check_sized place seen name at body at_most when name (in_size (locations_at place) at (numbered_body place (body_at all k) nothing_numbered))
      shaped_there = check_seen place seen name at body at_most when (Ok (body_at all k)) fresh room made.is

      -- a check more
      pub check_walked : (check : Checked)
          → (step : Step Core) × (in_size (locations_at place) at (numbered_body place (body_at all k) nothing_numbered) ≡ Ok step)
          × (outcome_of check ≡ record { name = name; at_most = at_most; when = when; classes = step.after.classes; body = step.value })
          → with_shaped place seen (Check at_most name at when body) ≡ Ok (seen_with new all old taken (map outcome_of (checks ++ check ∷ [])))
      check_walked check fits =
          shaped_there
          ∙ ap (check_sized place seen name at body at_most when name) fits.1
          ∙ ap (λ (es : List Expanded). let r : Result Seen SpecError = Ok (record { names = seen.names; taken = seen.taken; checks = es }) in r)
          (ap (λ (e : Expanded). map outcome_of checks ++ e ∷ []) (sym fits.2) ∙ sym (map_last outcome_of checks check))
          ∙ ap₂ (λ (p : List ℕ → Option Shape) (s : List ℕ → Option BodyShape). let r : Result Seen SpecError = Ok (record { names = record { paths = p; specs = s }; taken = taken; checks = map outcome_of (checks ++ check ∷ []) }) in r)
          (sym (named_stays start new old more known)) (sym (specs_stay bodies all old grown specs_known))

      -- a check that is too deep or too large
      pub check_too_large : (e : SpecError) → in_size (locations_at place) at (numbered_body place (body_at all k) nothing_numbered) ≡ Err e
          → with_shaped place seen (Check at_most name at when body) ≡ Err e
      check_too_large e large = shaped_there ∙ ap (check_sized place seen name at body at_most when name) large

-- the names of the checks, with one more
pub named_more : (old next : Definitions) (checks : List Checked) (check : Checked) (k : ℕ) (name : List ℕ) → Adds old next name (meaning.Spec k) → check.name ≡ name
    → AreTaken old (names_of (map outcome_of checks)) → AreTaken next (names_of (map outcome_of (checks ++ check ∷ [])))
named_more old next checks check k name adds is taken =
    let names : names_of (map outcome_of (checks ++ check ∷ [])) ≡ names_of (map outcome_of checks) ++ name ∷ [] =
    ap names_of (map_last outcome_of checks check) ∙ map_last (λ (x : Expanded). x.name) (map outcome_of checks) (outcome_of check)
    ∙ ap (λ (n : List ℕ). names_of (map outcome_of checks) ++ n ∷ []) is in
    subst (AreTaken next) (sym names) (taken_last old next name (meaning.Spec k) adds (names_of (map outcome_of checks)) taken)

module _ {S A E : Type 0} (f : S → A → Result S E) (s : S) (xs : List A) (i : ℕ) (d : A) (h : i < length xs) where
  here : try_fold f s (drop i xs) ≡ (f s (get_or xs i d) >>= (λ t. try_fold f t (drop (i + 1) xs)))
  here = rw (add-one i) (ap (try_fold f s) (drop-cons xs i d h))

  pub fold_goes_on : (t : S) → f s (get_or xs i d) ≡ Ok t → try_fold f t (drop (i + 1) xs) ≡ try_fold f s (drop i xs)
  fold_goes_on t is = sym (here ∙ ap (λ (r : Result S E). r >>= (λ t. try_fold f t (drop (i + 1) xs))) is)

  pub fold_stops : (e : E) → f s (get_or xs i d) ≡ Err e → try_fold f s (drop i xs) ≡ Err e
  fold_stops e is = here ∙ ap (λ (r : Result S E). r >>= (λ t. try_fold f t (drop (i + 1) xs))) is

-- the walk has come to the item at this place
pub record IsWalked (place : Place) (items : List Item) (i : ℕ) (walk : Walk) : Type 0 where
  pub sound : IsWalk walk
  pub taken : List (List ℕ)
  pub are_taken : AreTaken walk.names taken
  pub rest : try_fold (with_shaped place) (seen_of walk taken) (drop i items) ≡ try_fold (with_shaped place) at_start items
  pub levels : All (λ check. check.level ≡ place.level) walk.checks.items
