-- Reading the items by way of shapes gives the same checks and refusals.
use Rattle.std.proofs.Common.{◌≡◌, ℕ, Bool, true, false, List, [], ◌∷◌, ◌++◌, map, Option, Some, Result, Ok, Err, refl, ap, ◌∙◌}
use Rattle.std.specs.Prelude.{if◌then◌else◌}
use Rattle.std.specs.Str.{bytes_eq}
use Rattle.rela_json.specs.Results.{◌>>=◌, try_fold}
use Rattle.rela_lex.specs.declared.error.SpecError.{SpecError}
use Rattle.rela_locations.specs.Network.{Network}
use Rattle.rela_spec.specs.declared.tree.Item.{Item}
use Rattle.rela_spec.specs.declared.tree.Item.TheVariants.{Path, Spec, Check}
use Rattle.rela_spec.specs.declared.tree.PathExpr.{PathExpr}
use Rattle.rela_spec.specs.declared.tree.SpecExpr.{SpecExpr}
use Rattle.rela_spec.specs.declared.tree.SpecFile.{SpecFile}
use Rattle.rela_expand.specs.Expand.{Expanded, Sofar, with_name, with_path, with_spec, unused, in_size, not_full, with_item, expanded}
use Rattle.rela_expand.specs.Expansions.{Names, path_expansion, spec_expansion}
use Rattle.rela_expand.specs.Gathers.{made_of}
use Rattle.rela_expand.specs.Numbered.{numbered, numbered_body, expands, stands, expansions_of}
use Rattle.rela_expand.specs.Numbering.{Expansion, Numbering, Step, nothing_numbered}
use Rattle.rela_expand.specs.Places.{Place, locations_at}
use Rattle.rela_expand.specs.Shapes.{Shape, BodyShape, shape_of, body_shape_of}
use Rattle.rela_expand.specs.Walk.{Seen, at_start, seen_path, seen_spec, with_shaped, sofar_of, shaped}
use Rattle.rela_translate.specs.declared.body.Core.{Core}
use Rattle.rela_translate.specs.declared.body.Expr.{Expr}
use Rattle.rela_expand.proofs.Expanding.{GoesBy, path_goes_by, spec_goes_by}

-- a name with its shape stands for the expansion of the shape
named_with : {S X : Type 0} (number : S → Numbering → Step X) (name : List ℕ) (e : Expansion X) (s : S) (others : List ℕ → Option S) → e ≡ expands number (Ok s)
    → with_name name e (λ other. stands number (others other)) ≡ (λ (other : List ℕ). stands number (with_name name s others other))
named_with number name e s others is = λ i other. by_test other (bytes_eq name other) i
  where
    by_test : (other : List ℕ) (b : Bool) → (if b then Some e else stands number (others other)) ≡ stands number (if b then Some s else others other)
    by_test other true = ap (λ (x : Expansion _). Some x) is
    by_test other false = refl

module _ (place : Place) (seen : Seen) where
  abbrev names : Names
  names = expansions_of place seen.names

  path_then : (new : List ℕ) (body : PathExpr) (r : Result Shape SpecError) → GoesBy (numbered place) (path_expansion place names body) r
      → (path_expansion place names body nothing_numbered >>= (λ step. Ok (with_path new (path_expansion place names body) (sofar_of place seen))))
      ≡ made_of (sofar_of place) (r >>= (λ shape. Ok (seen_path new shape seen)))
  path_then new body (Ok s) h =
      let same : path_expansion place names body ≡ expands (numbered place) (Ok s) = λ i n. h n i in
      ap (λ (r : Result (Step Expr) SpecError). r >>= (λ step. Ok (with_path new (path_expansion place names body) (sofar_of place seen)))) (h nothing_numbered)
      ∙ ap (λ (paths : List ℕ → Option (Expansion Expr)). let r : Result Sofar SpecError = Ok (record { names = record { paths = paths; specs = names.specs }; taken = new ∷ seen.taken; checks = seen.checks }) in r)
      (named_with (numbered place) new (path_expansion place names body) s seen.names.paths same)
  path_then new body (Err e) h =
      ap (λ (r : Result (Step Expr) SpecError). r >>= (λ step. Ok (with_path new (path_expansion place names body) (sofar_of place seen)))) (h nothing_numbered)

  spec_then : (new : List ℕ) (body : SpecExpr) (r : Result BodyShape SpecError) → GoesBy (numbered_body place) (spec_expansion place names body) r
      → (spec_expansion place names body nothing_numbered >>= (λ step. Ok (with_spec new (spec_expansion place names body) (sofar_of place seen))))
      ≡ made_of (sofar_of place) (r >>= (λ shape. Ok (seen_spec new shape seen)))
  spec_then new body (Ok s) h =
      let same : spec_expansion place names body ≡ expands (numbered_body place) (Ok s) = λ i n. h n i in
      ap (λ (r : Result (Step Core) SpecError). r >>= (λ step. Ok (with_spec new (spec_expansion place names body) (sofar_of place seen)))) (h nothing_numbered)
      ∙ ap (λ (specs : List ℕ → Option (Expansion Core)). let r : Result Sofar SpecError = Ok (record { names = record { paths = names.paths; specs = specs }; taken = new ∷ seen.taken; checks = seen.checks }) in r)
      (named_with (numbered_body place) new (spec_expansion place names body) s seen.names.specs same)
  spec_then new body (Err e) h =
      ap (λ (r : Result (Step Core) SpecError). r >>= (λ step. Ok (with_spec new (spec_expansion place names body) (sofar_of place seen)))) (h nothing_numbered)

  check_then : (at : ℕ) (f : Step Core → Expanded) (e : Result (Step Core) SpecError) (r : Result BodyShape SpecError)
      → e ≡ expands (numbered_body place) r nothing_numbered
      → (e >>= (λ whole. in_size (locations_at place) at whole >>= (λ step. Ok (record (sofar_of place seen) { checks = seen.checks ++ f step ∷ [] }))))
      ≡ made_of (sofar_of place) (r >>= (λ shape. in_size (locations_at place) at (numbered_body place shape nothing_numbered) >>= (λ step. Ok (record seen { checks = seen.checks ++ f step ∷ [] }))))
  check_then at f e (Ok s) h =
      ap (λ (r : Result (Step Core) SpecError). r >>= (λ whole. in_size (locations_at place) at whole >>= (λ step. Ok (record (sofar_of place seen) { checks = seen.checks ++ f step ∷ [] })))) h
      ∙ by_size (in_size (locations_at place) at (numbered_body place s nothing_numbered))
    where
      by_size : (r : Result (Step Core) SpecError) → (r >>= (λ step. Ok (record (sofar_of place seen) { checks = seen.checks ++ f step ∷ [] })))
          ≡ made_of (sofar_of place) (r >>= (λ step. Ok (record seen { checks = seen.checks ++ f step ∷ [] })))
      by_size (Ok step) = refl
      by_size (Err b) = refl
  check_then at f e (Err b) h =
      ap (λ (r : Result (Step Core) SpecError). r >>= (λ whole. in_size (locations_at place) at whole >>= (λ step. Ok (record (sofar_of place seen) { checks = seen.checks ++ f step ∷ [] })))) h

  after : {A : Type 0} (r : Result A SpecError) (f : A → Result Sofar SpecError) (g : A → Result Seen SpecError) → ((a : A) → f a ≡ made_of (sofar_of place) (g a))
      → (r >>= f) ≡ made_of (sofar_of place) (r >>= g)
  after (Ok a) f g h = h a
  after (Err e) f g h = refl

  pub item_by_shapes : (item : Item) → with_item place (sofar_of place seen) item ≡ made_of (sofar_of place) (with_shaped place seen item)
  unfolding with_item with_shaped
  item_by_shapes (Path name at body) =
      after (unused seen.taken name at) _ _ (λ new. path_then new body (shape_of place seen.names.paths body) (path_goes_by place seen.names body))
  item_by_shapes (Spec name at body) =
      after (unused seen.taken name at) _ _ (λ new. spec_then new body (body_shape_of place seen.names body) (spec_goes_by place seen.names body))
  item_by_shapes (Check at_most name at when body) =
      after (unused (map (λ check. check.name) seen.checks) name at) _ _ (λ new.
      after (not_full seen.checks at) _ _ (λ within.
      check_then at (λ step. record { name = new; at_most = at_most; when = when; classes = step.after.classes; body = step.value })
      (spec_expansion place names body nothing_numbered) (body_shape_of place seen.names body) (spec_goes_by place seen.names body nothing_numbered)))

items_by_shapes : (place : Place) (seen : Seen) (items : List Item) → try_fold (with_item place) (sofar_of place seen) items ≡ made_of (sofar_of place) (try_fold (with_shaped place) seen items)
items_by_shapes place seen [] = refl
items_by_shapes place seen (item ∷ items) =
    ap (λ (r : Result Sofar SpecError). r >>= (λ s. try_fold (with_item place) s items)) (item_by_shapes place seen item)
    ∙ go_on (with_shaped place seen item) (λ s. items_by_shapes place s items)
  where
    go_on : (r : Result Seen SpecError) → ((s : Seen) → try_fold (with_item place) (sofar_of place s) items ≡ made_of (sofar_of place) (try_fold (with_shaped place) s items))
        → (made_of (sofar_of place) r >>= (λ s. try_fold (with_item place) s items)) ≡ made_of (sofar_of place) (r >>= (λ s. try_fold (with_shaped place) s items))
    go_on (Ok s) h = h s
    go_on (Err e) h = refl

-- the checks of a specification, by way of shapes
pub checks_by_shapes : (network : Network) (file : SpecFile) → expanded network file ≡ shaped network file
unfolding expanded shaped
checks_by_shapes network file =
    let place : Place = record { network = network; level = file.level } in
    ap (λ (r : Result Sofar SpecError). r >>= (λ sofar. Ok sofar.checks)) (items_by_shapes place at_start file.items)
    ∙ at_last place (try_fold (with_shaped place) at_start file.items)
  where
    at_last : (place : Place) (r : Result Seen SpecError) → (made_of (sofar_of place) r >>= (λ sofar. Ok sofar.checks)) ≡ (r >>= (λ seen. Ok seen.checks))
    at_last place (Ok s) = refl
    at_last place (Err e) = refl
