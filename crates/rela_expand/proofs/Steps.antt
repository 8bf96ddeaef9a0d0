-- What each item adds, where no item is refused.
use Rattle.std.proofs.Common.{◌≡◌, ℕ, Bool, true, false, cond, List, [], ◌∷◌, ◌++◌, map, Option, Some, Result, Ok, Err, refl, ap, sym, ◌∙◌}
use Rattle.std.specs.Str.{bytes_eq}
use Rattle.rela_flows.specs.declared.predicate.Predicate.{Predicate}
use Rattle.rela_json.specs.Results.{◌>>=◌}
use Rattle.rela_lex.specs.declared.error.SpecError.{SpecError}
use Rattle.rela_lex.specs.declared.error.SpecError.TheVariants.{RepeatedName, TooDeep, TooLarge}
use Rattle.rela_locations.specs.Names.{has_name}
use Rattle.rela_spec.specs.declared.tree.Item.TheVariants.{Path, Spec, Check}
use Rattle.rela_spec.specs.declared.tree.PathExpr.{PathExpr}
use Rattle.rela_spec.specs.declared.tree.SpecExpr.{SpecExpr}
use Rattle.rela_expand.specs.Expand.{Expanded, Sofar, with_name, with_path, with_spec, unused, in_size, is_deep, is_large, not_full, with_item}
use Rattle.rela_expand.specs.Expansions.{path_expansion, spec_expansion}
use Rattle.rela_expand.specs.Numbering.{Expansion, Numbering, Step, nothing_numbered}
use Rattle.rela_expand.specs.Numbered.{numbered, numbered_body, expands, stands, expansions_of}
use Rattle.rela_expand.specs.Places.{Place, locations_at}
use Rattle.rela_expand.specs.Shapes.{Shape, BodyShape, Shapes, shape_of, body_shape_of}
use Rattle.rela_translate.specs.declared.body.Core.{Core}
use Rattle.rela_translate.specs.declared.body.Expr.{Expr}
use Rattle.rela_expand.proofs.Expanding.{path_goes_by, spec_goes_by}
use Rattle.rela_expand.proofs.Membership.{bound, from_ok}

-- the name is new
new_name : (names : List (List ℕ)) (name : List ℕ) (at : ℕ) (new : List ℕ) → unused names name at ≡ Ok new → (has_name names name ≡ false) × (name ≡ new)
new_name names name at new is = by_test (has_name names name) refl is
  where
    by_test : (b : Bool) → has_name names name ≡ b → cond b (Err (RepeatedName at)) (Ok name) ≡ Ok new → (has_name names name ≡ false) × (name ≡ new)
    by_test true h same = absurd (cc)
    by_test false h same = (h, from_ok name new same)

-- the size is within the limits
small : (locations at : ℕ) (whole step : Step Core) → in_size locations at whole ≡ Ok step → whole ≡ step
small locations at whole step is = by_tests (is_deep locations whole.value) (is_large locations whole) is
  where
    by_tests : (b c : Bool) → cond b (Err (TooDeep at)) (cond c (Err (TooLarge at)) (Ok whole)) ≡ Ok step → whole ≡ step
    by_tests true c same = absurd (cc)
    by_tests false true same = absurd (cc)
    by_tests false false same = from_ok whole step same

-- a path item: its name is new, and its body expands
pub record PathAdded (place : Place) (sofar : Sofar) (name : List ℕ) (body : PathExpr) (next : Sofar) : Type 0 where
  pub new : has_name sofar.taken name ≡ false
  pub step : Step Expr
  pub expands : path_expansion place sofar.names body nothing_numbered ≡ Ok step
  pub gives : with_path name (path_expansion place sofar.names body) sofar ≡ next

pub path_added : (place : Place) (sofar next : Sofar) (name : List ℕ) (at : ℕ) (body : PathExpr) → with_item place sofar (Path name at body) ≡ Ok next → PathAdded place sofar name body next
unfolding with_item
path_added place sofar next name at body is =
    let new = bound (unused sofar.taken name at) (λ new. path_expansion place sofar.names body nothing_numbered >>= (λ step. Ok (with_path new (path_expansion place sofar.names body) sofar))) next is in
    let step = bound (path_expansion place sofar.names body nothing_numbered) (λ step. Ok (with_path new.0 (path_expansion place sofar.names body) sofar)) next new.2 in
    let fresh = new_name sofar.taken name at new.0 new.1 in record {
      new = fresh.0;
      step = step.0;
      expands = step.1;
      gives = ap (λ (n : List ℕ). with_path n (path_expansion place sofar.names body) sofar) fresh.1 ∙ from_ok (with_path new.0 (path_expansion place sofar.names body) sofar) next step.2;
    }

-- a specification item, likewise
pub record SpecAdded (place : Place) (sofar : Sofar) (name : List ℕ) (body : SpecExpr) (next : Sofar) : Type 0 where
  pub new : has_name sofar.taken name ≡ false
  pub step : Step Core
  pub expands : spec_expansion place sofar.names body nothing_numbered ≡ Ok step
  pub gives : with_spec name (spec_expansion place sofar.names body) sofar ≡ next

pub spec_added : (place : Place) (sofar next : Sofar) (name : List ℕ) (at : ℕ) (body : SpecExpr) → with_item place sofar (Spec name at body) ≡ Ok next → SpecAdded place sofar name body next
unfolding with_item
spec_added place sofar next name at body is =
    let new = bound (unused sofar.taken name at) (λ new. spec_expansion place sofar.names body nothing_numbered >>= (λ step. Ok (with_spec new (spec_expansion place sofar.names body) sofar))) next is in
    let step = bound (spec_expansion place sofar.names body nothing_numbered) (λ step. Ok (with_spec new.0 (spec_expansion place sofar.names body) sofar)) next new.2 in
    let fresh = new_name sofar.taken name at new.0 new.1 in record {
      new = fresh.0;
      step = step.0;
      expands = step.1;
      gives = ap (λ (n : List ℕ). with_spec n (spec_expansion place sofar.names body) sofar) fresh.1 ∙ from_ok (with_spec new.0 (spec_expansion place sofar.names body) sofar) next step.2;
    }

-- a check: its body and classes are those of the expansion
pub record CheckAdded (place : Place) (sofar : Sofar) (body : SpecExpr) (next : Sofar) : Type 0 where
  pub step : Step Core
  pub expands : spec_expansion place sofar.names body nothing_numbered ≡ Ok step
  pub check : Expanded
  pub classes : check.classes ≡ step.after.classes
  pub body_is : check.body ≡ step.value
  pub gives : record sofar { checks = sofar.checks ++ check ∷ [] } ≡ next

module _ (place : Place) (sofar : Sofar) (at_most : Bool) (when : Predicate) where
  abbrev made : List ℕ → Step Core → Expanded
  made name step = record { name = name; at_most = at_most; when = when; classes = step.after.classes; body = step.value }

  abbrev with_check : List ℕ → Step Core → Result Sofar SpecError
  with_check name step = Ok (record sofar { checks = sofar.checks ++ made name step ∷ [] })

  made_of : (next : Sofar) (body : SpecExpr) (name : List ℕ) (step : Step Core) → spec_expansion place sofar.names body nothing_numbered ≡ Ok step
      → with_check name step ≡ Ok next → CheckAdded place sofar body next
  made_of next body name step expands is = record {
    step = step;
    expands = expands;
    check = made name step;
    classes = refl;
    body_is = refl;
    gives = from_ok (record sofar { checks = sofar.checks ++ made name step ∷ [] }) next is;
  }

  in_limits : (at : ℕ) (body : SpecExpr) (whole step : Step Core) → spec_expansion place sofar.names body nothing_numbered ≡ Ok whole
      → in_size (locations_at place) at whole ≡ Ok step → spec_expansion place sofar.names body nothing_numbered ≡ Ok step
  in_limits at body whole step expands within = expands ∙ ap Ok (small (locations_at place) at whole step within)

  pub check_added : (next : Sofar) (name : List ℕ) (at : ℕ) (body : SpecExpr) → with_item place sofar (Check at_most name at when body) ≡ Ok next → CheckAdded place sofar body next
  unfolding with_item
  check_added next name at body is =
      let new = bound (unused (map (λ check. check.name) sofar.checks) name at)
      (λ new. not_full sofar.checks at >>= (λ within. spec_expansion place sofar.names body nothing_numbered >>= (λ whole. in_size (locations_at place) at whole >>= (λ step. with_check new step)))) next is in
      let within = bound (not_full sofar.checks at)
      (λ within. spec_expansion place sofar.names body nothing_numbered >>= (λ whole. in_size (locations_at place) at whole >>= (λ step. with_check new.0 step))) next new.2 in
      let whole = bound (spec_expansion place sofar.names body nothing_numbered) (λ whole. in_size (locations_at place) at whole >>= (λ step. with_check new.0 step)) next within.2 in
      let step = bound (in_size (locations_at place) at whole.0) (λ step. with_check new.0 step) next whole.2 in
      made_of next body new.0 step.0 (in_limits at body whole.0 step.0 whole.1 step.1) step.2

-- what has been read, where names stand for shapes
abbrev pub state : Place → Shapes → List (List ℕ) → List Expanded → Sofar
state place shapes taken checks = record { names = expansions_of place shapes; taken = taken; checks = checks }

abbrev pub shapes_with_path : List ℕ → Shape → Shapes → Shapes
shapes_with_path name t shapes = record shapes { paths = with_name name t shapes.paths }

abbrev pub shapes_with_spec : List ℕ → BodyShape → Shapes → Shapes
shapes_with_spec name b shapes = record shapes { specs = with_name name b shapes.specs }

shape_behind : {S X : Type 0} (number : S → Numbering → Step X) (r : Result S SpecError) (n : Numbering) (step : Step X) → expands number r n ≡ Ok step → (t : S) × (r ≡ Ok t) × (number t n ≡ step)
shape_behind number (Ok t) n step is = (t, refl, from_ok (number t n) step is)
shape_behind number (Err e) n step is = absurd (cc)

-- one name more stands for an expansion, or for the shape behind it
one_more : {S X : Type 0} (number : S → Numbering → Step X) (names : List ℕ → Option S) (name : List ℕ) (e : Expansion X) (t : S) → ((n : Numbering) → e n ≡ expands number (Ok t) n)
    → (other : List ℕ) → with_name name e (λ n. stands number (names n)) other ≡ stands number (with_name name t names other)
one_more {S} {X} number names name e t is other = by_test (bytes_eq name other)
  where
    by_test : (b : Bool) → cond b (Some e) (stands number (names other)) ≡ stands number (cond b (Some t) (names other))
    by_test true = λ i. Some (λ n. is n i)
    by_test false = refl

module _ (place : Place) (shapes : Shapes) (taken : List (List ℕ)) (checks : List Expanded) where
  pub path_step : (next : Sofar) (name : List ℕ) (at : ℕ) (body : PathExpr) → with_item place (state place shapes taken checks) (Path name at body) ≡ Ok next
      → (t : Shape) × (has_name taken name ≡ false) × (shape_of place shapes.paths body ≡ Ok t) × (next ≡ state place (shapes_with_path name t shapes) (name ∷ taken) checks)
  path_step next name at body is =
      let added = path_added place (state place shapes taken checks) next name at body is in
      let t = shape_behind (numbered place) (shape_of place shapes.paths body) nothing_numbered added.step (sym (path_goes_by place shapes body nothing_numbered) ∙ added.expands) in
      let more = one_more (numbered place) shapes.paths name (path_expansion place (expansions_of place shapes) body) t.0
      (λ n. path_goes_by place shapes body n ∙ ap (λ (r : Result Shape SpecError). expands (numbered place) r n) t.1) in
      let same : with_path name (path_expansion place (expansions_of place shapes) body) (state place shapes taken checks) ≡ state place (shapes_with_path name t.0 shapes) (name ∷ taken) checks =
      λ i. record { names = record { paths = λ other. more other i; specs = (expansions_of place shapes).specs }; taken = name ∷ taken; checks = checks } in
      (t.0, added.new, t.1, sym added.gives ∙ same)

  pub spec_step : (next : Sofar) (name : List ℕ) (at : ℕ) (body : SpecExpr) → with_item place (state place shapes taken checks) (Spec name at body) ≡ Ok next
      → (b : BodyShape) × (has_name taken name ≡ false) × (body_shape_of place shapes body ≡ Ok b) × (next ≡ state place (shapes_with_spec name b shapes) (name ∷ taken) checks)
  spec_step next name at body is =
      let added = spec_added place (state place shapes taken checks) next name at body is in
      let b = shape_behind (numbered_body place) (body_shape_of place shapes body) nothing_numbered added.step (sym (spec_goes_by place shapes body nothing_numbered) ∙ added.expands) in
      let more = one_more (numbered_body place) shapes.specs name (spec_expansion place (expansions_of place shapes) body) b.0
      (λ n. spec_goes_by place shapes body n ∙ ap (λ (r : Result BodyShape SpecError). expands (numbered_body place) r n) b.1) in
      let same : with_spec name (spec_expansion place (expansions_of place shapes) body) (state place shapes taken checks) ≡ state place (shapes_with_spec name b.0 shapes) (name ∷ taken) checks =
      λ i. record { names = record { paths = (expansions_of place shapes).paths; specs = λ other. more other i }; taken = name ∷ taken; checks = checks } in
      (b.0, added.new, b.1, sym added.gives ∙ same)

  -- a check is the numbered shape of its body
  pub record CheckStep (body : SpecExpr) (next : Sofar) : Type 0 where
    pub shape : BodyShape
    pub shapes_to : body_shape_of place shapes body ≡ Ok shape
    pub check : Expanded
    pub classes : check.classes ≡ (numbered_body place shape nothing_numbered).after.classes
    pub body_is : check.body ≡ (numbered_body place shape nothing_numbered).value
    pub gives : next ≡ state place shapes taken (checks ++ check ∷ [])

  pub check_step : (next : Sofar) (at_most : Bool) (name : List ℕ) (at : ℕ) (when : Predicate) (body : SpecExpr)
      → with_item place (state place shapes taken checks) (Check at_most name at when body) ≡ Ok next → CheckStep body next
  check_step next at_most name at when body is =
      let added = check_added place (state place shapes taken checks) at_most when next name at body is in
      let b = shape_behind (numbered_body place) (body_shape_of place shapes body) nothing_numbered added.step (sym (spec_goes_by place shapes body nothing_numbered) ∙ added.expands) in record {
        shape = b.0;
        shapes_to = b.1;
        check = added.check;
        classes = added.classes ∙ ap (λ (s : Step Core). s.after.classes) (sym b.2);
        body_is = added.body_is ∙ ap (λ (s : Step Core). s.value) (sym b.2);
        gives = sym added.gives;
      }
