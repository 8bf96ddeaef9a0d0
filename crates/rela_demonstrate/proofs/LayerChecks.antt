-- The specification of the layered input expands to two checks.
use Rattle.std.proofs.Common.{◌≡◌, ◌∙◌, ℕ, zero, suc, ◌+◌, ◌<◌, ◌≤◌, ◌||◌, ◌⊎◌, inl, inr, Bool, true, false, List, [], ◌∷◌, ◌++◌, length, map, filter, Result, Ok, Err, refl, sym, ap, arith}
use Rattle.std.specs.Prelude.{cond, nat_eq, nat_lt, codes}
use Rattle.std.specs.BTreeSet.{insert_key}
use Rattle.std.specs.declared.cmp.Ordering.{Ordering}
use Rattle.std.specs.declared.cmp.Ordering.TheVariants.{Less, Equal, Greater}
use Rattle.std.specs.Ordering.{match_ordering}
use Rattle.std.proofs.lemmas.List.FromFn.{length-range_with_len}
use Rattle.rela_names.specs.Name.{bytes_cmp}
use Rattle.std.specs.List.{flat_map, list_any, position_or_len, range_with_len}
use Rattle.std.specs.Str.{bytes_eq}
use Rattle.std.proofs.lemmas.Slice.Eq.{bytes_eq-Decides}
use Rattle.rela_demo.specs.Locations.{network, device}
use Rattle.rela_demo.specs.Names.{Label, both, device_name, label_a, label_b}
use Rattle.rela_demo.specs.Specification.{specification, first_check, second_check, flow_seven, all_stay, last_b, cut_body}
use Rattle.rela_expand.specs.Expand.{Sofar, at_first, expanded, with_item, is_deep, symbols_in}
use Rattle.rela_expand.specs.Numbering.{Expansion, Listing, Numbering, Step, nothing_numbered, ◌>>=◌, each, gives, go_on, plainly, numbered_class, same_listing, with_class}
use Rattle.rela_expand.specs.Places.{Place, in_some, listed, symbols_of, path_symbols_at, locations_at}
use Rattle.rela_expand.specs.Expansions.{no_names, path_expansion, spec_expansion, layer_of_path, layer_of_spec, change_expansion, class_of, tree_of, nothing_asked}
use Rattle.rela_flows.specs.declared.predicate.Predicate.TheVariants as flows
use Rattle.rela_lex.specs.declared.error.SpecError.{SpecError}
use Rattle.rela_locations.specs.Names.{has_name, with_name, with_names}
use Rattle.rela_locations.specs.Network.{Device, names_by, members_of}
use Rattle.rela_locations.specs.declared.members.By.TheVariants as by
use Rattle.rela_names.specs.declared.level.Level.TheVariants as level
use Rattle.rela_spec.specs.declared.tree.Member.{Member}
use Rattle.rela_spec.specs.declared.tree.Modifier.{Modifier}
use Rattle.rela_spec.specs.declared.tree.Modifier.TheVariants as modifier
use Rattle.rela_spec.specs.declared.tree.Member.TheVariants as member
use Rattle.rela_spec.specs.declared.tree.PathExpr.{PathExpr}
use Rattle.rela_spec.specs.declared.tree.PathExpr.TheVariants as path
use Rattle.rela_spec.specs.declared.tree.PathExpr.TheOpen as path_layer
use Rattle.rela_spec.specs.declared.tree.PathExpr.TheFolds.{fold-roll-PathExpr}
use Rattle.rela_spec.specs.declared.tree.SpecExpr.{SpecExpr}
use Rattle.rela_spec.specs.declared.tree.SpecExpr.TheVariants as spec
use Rattle.rela_spec.specs.declared.tree.SpecExpr.TheOpen as spec_layer
use Rattle.rela_spec.specs.declared.tree.SpecExpr.TheFolds.{fold-roll-SpecExpr}
use Rattle.rela_translate.specs.declared.body.Expr.{Expr}
use Rattle.rela_translate.specs.declared.body.Expr.TheVariants as x
use Rattle.rela_translate.specs.declared.body.Change.TheVariants as change
use Rattle.rela_translate.specs.declared.body.Core.{Core}
use Rattle.rela_translate.specs.declared.body.Core.TheVariants as core
use Rattle.rela_rir.specs.Size.{nodes_of_rel, depth_of_rel}
use Rattle.rela_translate.specs.Terms.{Terms, path_of, unit_terms, layer_terms, terms_of}
use Rattle.rela_translate.specs.Zones.{drop_symbol}
use Rattle.rela_translate.specs.declared.body.Core.TheOpen as C
use Rattle.rela_rir.specs.declared.term.PathTerm.{PathTerm}
use Rattle.rela_rir.specs.declared.term.PathTerm.TheVariants as P
use Rattle.rela_rir.specs.declared.term.RelTerm.TheVariants as R
use Rattle.rela_demonstrate.proofs.Forms.{Sizes, path_class, path_star, terms_unit, terms_then, terms_else}

-- ---- the forms that the specification has

module _ (place : Place) where
  path_any : path_expansion place no_names path.Any ≡ class_of place true []
  unfolding path_expansion
  path_any = ap (path_expansion place no_names) (sym path.rolls-Any) ∙ fold-roll-PathExpr (Expansion Expr) (layer_of_path place no_names) path_layer.Any

  star_expanded : (p : PathExpr) → path_expansion place no_names (path.Star p) ≡ (path_expansion place no_names p >>= (λ a. gives (x.Star a)))
  unfolding path_expansion
  star_expanded p = ap (path_expansion place no_names) (sym (path.rolls-Star p)) ∙ fold-roll-PathExpr (Expansion Expr) (layer_of_path place no_names) (path_layer.Star p)

  path_one : (m : Member) → path_expansion place no_names (path.One m) ≡ class_of place false (m ∷ [])
  unfolding path_expansion
  path_one m = ap (path_expansion place no_names) (sym (path.rolls-One m)) ∙ fold-roll-PathExpr (Expansion Expr) (layer_of_path place no_names) (path_layer.One m)

  spec_unit : (zone : PathExpr) (m : Modifier PathExpr) → spec_expansion place no_names (spec.Unit zone m)
      ≡ (path_expansion place no_names zone >>= (λ a. change_expansion place no_names m >>= (λ c. gives (core.Unit a c))))
  unfolding spec_expansion
  spec_unit zone m = ap (spec_expansion place no_names) (sym (spec.rolls-Unit zone m)) ∙ fold-roll-SpecExpr (Expansion Core) (layer_of_spec place no_names) (spec_layer.Unit zone m)

  spec_then : (parts : List SpecExpr) → spec_expansion place no_names (spec.Then parts)
      ≡ (each (map (spec_expansion place no_names) parts) >>= (λ xs. gives (tree_of core.Then nothing_asked xs)))
  unfolding spec_expansion
  spec_then parts = ap (spec_expansion place no_names) (sym (spec.rolls-Then parts)) ∙ fold-roll-SpecExpr (Expansion Core) (layer_of_spec place no_names) (spec_layer.Then parts)

  spec_else : (parts : List SpecExpr) → spec_expansion place no_names (spec.Else parts)
      ≡ (each (map (spec_expansion place no_names) parts) >>= (λ xs. gives (tree_of core.Else nothing_asked xs)))
  unfolding spec_expansion
  spec_else parts = ap (spec_expansion place no_names) (sym (spec.rolls-Else parts)) ∙ fold-roll-SpecExpr (Expansion Core) (layer_of_spec place no_names) (spec_layer.Else parts)

  none_pass : (xs : List ℕ) → filter (λ s. false) xs ≡ []
  none_pass [] = refl
  none_pass (x ∷ xs) = none_pass xs

  abbrev any : Listing
  any = record { negated = true; members = [] }

  abbrev next_class : Listing → Numbering → Step Expr
  next_class c numbering = record {
    value = x.Class (position_or_len (same_listing c) numbering.classes);
    after = record numbering { classes = with_class numbering.classes c };
  }

  any_listed : listed place [] ≡ Ok []
  unfolding listed
  any_listed = ap (λ (l : List ℕ). Ok l) (none_pass (range_with_len 0 (path_symbols_at place)))

  classed : (negated : Bool) (ms : List Member) (ss : List ℕ) (numbering : Numbering) → listed place ms ≡ Ok ss
      → class_of place negated ms numbering ≡ Ok (next_class (record { negated = negated; members = ss }) numbering)
  classed negated ms ss numbering is =
      ap (λ (r : Result (List ℕ) SpecError). (plainly r >>= (λ symbols. numbered_class (record { negated = negated; members = symbols }) >>= (λ k. gives (x.Class k)))) numbering) is

  abbrev stay_after : Numbering → Step Core
  stay_after numbering = record {
    value = core.Unit (x.Star (next_class any numbering).value) change.Preserve;
    after = (next_class any numbering).after;
  }

  stays : (numbering : Numbering) → spec_expansion place no_names all_stay numbering ≡ Ok (stay_after numbering)
  stays numbering =
      ap (λ (e : Expansion Core). e numbering) (spec_unit (path.Star path.Any) _)
      ∙ (ap (λ (e : Expansion Expr). (e >>= (λ a. gives (core.Unit a change.Preserve))) numbering) (star_expanded path.Any ∙ ap (λ (e : Expansion Expr). e >>= (λ a. gives (x.Star a))) path_any)
      ∙ ap (λ (r : Result (Step Expr) SpecError). go_on (λ a. gives (core.Unit a change.Preserve)) (go_on (λ a. gives (x.Star a)) r)) (classed true [] [] numbering any_listed))

abbrev kept : ℕ → Core
kept k = core.Unit (x.Star (x.Class k)) change.Preserve

abbrev dropped : ℕ → Core
dropped k = core.Unit (x.Class k) change.Drop

abbrev first_part : Core
first_part = core.Then (kept 0) (dropped 1)

abbrev cut : Core
cut = core.Else first_part (kept 0)

module _ (l : ℕ) where
  abbrev all_paths : PathTerm
  all_paths = P.Star (P.Class 0)

  abbrev to_b : PathTerm
  to_b = P.Union (P.Class 1) (P.One (drop_symbol l))

  star_is : path_of (x.Star (x.Class 0)) ≡ all_paths
  star_is = path_star (x.Class 0) ∙ ap P.Star (path_class 0)

  kept_terms : terms_of l (kept 0) ≡ record { zone = all_paths; before = R.Identity all_paths; after = R.Identity all_paths }
  kept_terms = terms_unit l (x.Star (x.Class 0)) change.Preserve ∙ ap (λ (z : PathTerm). unit_terms l z change.Preserve) star_is

  dropped_terms : terms_of l (dropped 1) ≡ record { zone = to_b; before = R.Product to_b (P.One (drop_symbol l)); after = R.Identity to_b }
  dropped_terms = terms_unit l (x.Class 1) change.Drop ∙ ap (λ (z : PathTerm). unit_terms l z change.Drop) (path_class 1)

  cut_terms : terms_of l cut ≡ layer_terms l (C.Else (layer_terms l (C.Then (unit_terms l all_paths change.Preserve) (unit_terms l (P.Class 1) change.Drop))) (unit_terms l all_paths change.Preserve))
  cut_terms = terms_else l first_part (kept 0)
      ∙ (ap (λ (s : Terms). layer_terms l (C.Else s (terms_of l (kept 0)))) (terms_then l (kept 0) (dropped 1)
      ∙ (ap (λ (s : Terms). layer_terms l (C.Then s (terms_of l (dropped 1)))) kept_terms
      ∙ ap (λ (s : Terms). layer_terms l (C.Then (unit_terms l all_paths change.Preserve) s)) dropped_terms))
      ∙ ap (λ (s : Terms). layer_terms l (C.Else (layer_terms l (C.Then (unit_terms l all_paths change.Preserve) (unit_terms l (P.Class 1) change.Drop))) s)) kept_terms)

  abbrev kept_is : Terms
  kept_is = unit_terms l all_paths change.Preserve

  abbrev cut_is : Terms
  cut_is = layer_terms l (C.Else (layer_terms l (C.Then kept_is (unit_terms l (P.Class 1) change.Drop))) kept_is)

  abbrev deep : Terms → Bool
  deep t = nat_lt 1000 (depth_of_rel t.before) || nat_lt 1000 (depth_of_rel t.after)

  abbrev large : Terms → Bool
  large t = nat_lt 20000 (nodes_of_rel t.before + nodes_of_rel t.after)

  kept_shallow : Sizes → is_deep l (kept 0) ≡ false
  kept_shallow sizes = ap deep kept_terms ∙ simp (
    sizes.depth_of_class,
    sizes.depth_of_one,
    sizes.depth_of_union,
    sizes.depth_of_star,
    sizes.depth_of_complement,
    sizes.depth_of_concat,
    sizes.depth_of_identity,
    sizes.depth_of_product,
    sizes.depth_of_rel_union,
    sizes.depth_of_rel_concat,
    sizes.depth_of_compose,
  )

  kept_few : Sizes → large (terms_of l (kept 0)) ≡ false
  kept_few sizes = ap large kept_terms ∙ simp (
    sizes.nodes_of_class,
    sizes.nodes_of_one,
    sizes.nodes_of_union,
    sizes.nodes_of_star,
    sizes.nodes_of_complement,
    sizes.nodes_of_concat,
    sizes.nodes_of_identity,
    sizes.nodes_of_product,
    sizes.nodes_of_rel_union,
    sizes.nodes_of_rel_concat,
    sizes.nodes_of_compose,
  )

  cut_shallow : Sizes → is_deep l cut ≡ false
  cut_shallow sizes = ap deep cut_terms ∙ simp (
    sizes.depth_of_class,
    sizes.depth_of_one,
    sizes.depth_of_union,
    sizes.depth_of_star,
    sizes.depth_of_complement,
    sizes.depth_of_concat,
    sizes.depth_of_identity,
    sizes.depth_of_product,
    sizes.depth_of_rel_union,
    sizes.depth_of_rel_concat,
    sizes.depth_of_compose,
  )

  cut_few : Sizes → large (terms_of l cut) ≡ false
  cut_few sizes = ap large cut_terms ∙ simp (
    sizes.nodes_of_class,
    sizes.nodes_of_one,
    sizes.nodes_of_union,
    sizes.nodes_of_star,
    sizes.nodes_of_complement,
    sizes.nodes_of_concat,
    sizes.nodes_of_identity,
    sizes.nodes_of_product,
    sizes.nodes_of_rel_union,
    sizes.nodes_of_rel_concat,
    sizes.nodes_of_compose,
  )

-- ---- b of the last layer is a device

same_bytes : (name : List ℕ) → bytes_eq name name ≡ true
same_bytes name = (bytes_eq-Decides name name).1 refl

or_true : (b : Bool) → (b || true) ≡ true
or_true true = refl
or_true false = refl

abbrev named : List Label → List (List ℕ)
named labels = map (λ (d : Device). d.name) (map device labels ++ [])

either : (c d : Bool) → (c ≡ true) ⊎ (d ≡ true) → (c || d) ≡ true
either c d (inl e) = ap (λ (b : Bool). b || d) e
either c d (inr e) = ap (λ (b : Bool). c || b) e ∙ or_true c

le_or_eq : (a b : ℕ) → a ≤ b → (a ≡ b) ⊎ (a + 1 ≤ b)
le_or_eq a b less = cases (nat_lt a b) refl
  where
    cases : (t : Bool) → nat_lt a b ≡ t → (a ≡ b) ⊎ (a + 1 ≤ b)
    cases true e = inr (grind arith)
    cases false e = inl (grind arith)

module _ (i : ℕ) where
  abbrev has : ℕ → ℕ → Bool
  has first count = has_name (named (flat_map both (range_with_len first count))) (device_name (label_b i))

  here : (first : ℕ) (rest : Bool) → first ≡ i → (bytes_eq (device_name (label_b i)) (device_name (label_b first)) || rest) ≡ true
  here first rest e = either (bytes_eq (device_name (label_b i)) (device_name (label_b first))) rest
      (inl (ap (λ (k : ℕ). bytes_eq (device_name (label_b i)) (device_name (label_b k))) e ∙ same_bytes (device_name (label_b i))))

  has_b : (count first : ℕ) → first ≤ i → i < first + count → has first count ≡ true
  has_b zero first low high = absurd (omega (arith, low, high))
  has_b (suc count) first low high = by (le_or_eq first i low) (λ more. has_b count (first + 1) more (omega (arith, high)))
    where
      by : (first ≡ i) ⊎ (first + 1 ≤ i) → (first + 1 ≤ i → has (first + 1) count ≡ true) → has first (suc count) ≡ true
      by (inl e) later = either (bytes_eq (device_name (label_b i)) (device_name (label_a first))) (bytes_eq (device_name (label_b i)) (device_name (label_b first)) || has (first + 1) count)
          (inr (here first (has (first + 1) count) e))
      by (inr more) later = either (bytes_eq (device_name (label_b i)) (device_name (label_a first))) (bytes_eq (device_name (label_b i)) (device_name (label_b first)) || has (first + 1) count)
          (inr (either (bytes_eq (device_name (label_b i)) (device_name (label_b first))) (has (first + 1) count) (inr (later more))))

-- ---- the steps

module _ (place : Place) where
  first_done : Sofar
  first_done = record at_first { checks = record { name = codes "c1"; at_most = false; when = flows.Not flow_seven; classes = record { negated = true; members = [] } ∷ []; body = kept 0 } ∷ [] }

  first_step : Sizes → with_item place at_first first_check ≡ Ok first_done
  unfolding with_item first_done
  first_step sizes = rw (stays place nothing_numbered, kept_shallow (locations_at place) sizes, kept_few (locations_at place) sizes) refl

-- ---- the second check

module _ (n : ℕ) (some : 1 ≤ n) where
  abbrev here' : Place
  here' = record { network = network n; level = level.Device }

  abbrev to_b_member : Member
  to_b_member = member.Here (device_name (label_b n)) 108

  abbrev b_symbols : List ℕ
  b_symbols = in_some here' (members_of level.Device by.Device (device_name (label_b n)) (network n) ∷ [])

  abbrev b_class : Listing
  b_class = record { negated = false; members = b_symbols }

  b_listed : listed here' (to_b_member ∷ []) ≡ Ok b_symbols
  unfolding listed symbols_of
  b_listed =
      let there : has_name (names_by by.Device (network n)) (device_name (label_b n)) ≡ true = has_b n n 1 some (omega arith) in
      rw there refl

  abbrev after_any : Numbering
  after_any = record { classes = record { negated = true; members = [] } ∷ []; markers = 0 }

  abbrev after_b : Numbering
  after_b = record { classes = record { negated = true; members = [] } ∷ b_class ∷ []; markers = 0 }

  b_dropped : spec_expansion here' no_names (spec.Unit (last_b n) modifier.Drop) after_any ≡ Ok (record { value = dropped 1; after = after_b })
  b_dropped =
      ap (λ (e : Expansion Core). e after_any) (spec_unit here' (last_b n) modifier.Drop)
      ∙ (ap (λ (e : Expansion Expr). (e >>= (λ a. gives (core.Unit a change.Drop))) after_any) (path_one here' to_b_member)
      ∙ ap (λ (r : Result (Step Expr) SpecError). go_on (λ a. gives (core.Unit a change.Drop)) r) (classed here' false (to_b_member ∷ []) b_symbols after_any b_listed))

  then_done : spec_expansion here' no_names (spec.Then (all_stay ∷ spec.Unit (last_b n) modifier.Drop ∷ [])) nothing_numbered ≡ Ok (record { value = first_part; after = after_b })
  then_done = ap (λ (e : Expansion Core). e nothing_numbered) (spec_then here' (all_stay ∷ spec.Unit (last_b n) modifier.Drop ∷ []))
      ∙ rw (stays here' nothing_numbered, b_dropped) refl

  cut_done : spec_expansion here' no_names (cut_body n) nothing_numbered ≡ Ok (record { value = cut; after = after_b })
  cut_done = ap (λ (e : Expansion Core). e nothing_numbered) (spec_else here' (spec.Then (all_stay ∷ spec.Unit (last_b n) modifier.Drop ∷ []) ∷ all_stay ∷ []))
      ∙ rw (then_done, stays here' after_b) refl

-- ---- how many symbols are listed

insert_few : (xs : List (List ℕ)) (k : List ℕ) → length (insert_key bytes_cmp xs k) ≤ length xs + 1
insert_few [] k = omega arith
insert_few (x ∷ xs) k = by (bytes_cmp k x) (insert_few xs k)
  where
    by : (o : Ordering) → length (insert_key bytes_cmp xs k) ≤ length xs + 1
        → length (match_ordering o (k ∷ x ∷ xs) (x ∷ xs) (x ∷ insert_key bytes_cmp xs k)) ≤ length (x ∷ xs) + 1
    by Less few = omega (arith, few)
    by Equal few = omega (arith, few)
    by Greater few = omega (arith, few)

names_few : (more names : List (List ℕ)) → length (with_names names more) ≤ length names + length more
names_few [] names = omega arith
names_few (m ∷ more) names =
    let later = names_few more (with_name names m) in
    let one = insert_few names m in
    omega (arith, later, one)

filter_few : (p : ℕ → Bool) (xs : List ℕ) → length (filter p xs) ≤ length xs
filter_few p [] = omega arith
filter_few p (x ∷ xs) = by (p x) (filter_few p xs)
  where
    by : (b : Bool) → length (filter p xs) ≤ length xs → length (cond b (x ∷ filter p xs) (filter p xs)) ≤ length (x ∷ xs)
    by true few = omega (arith, few)
    by false few = omega (arith, few)

both_few : (count first : ℕ) → length (named (flat_map both (range_with_len first count))) ≡ count + count
both_few zero first = refl
both_few (suc count) first = (let more = both_few count (first + 1) in omega (arith, more))

symbols_few : (n : ℕ) → n ≤ 200 → (lists : List (List ℕ)) → length (in_some (record { network = network n; level = level.Device }) lists) ≤ 1000
symbols_few n few lists =
    let place : Place = record { network = network n; level = level.Device } in
    let locations : locations_at place ≤ 0 + length (named (flat_map both (range_with_len 1 n))) = names_few (named (flat_map both (range_with_len 1 n))) [] in
    let all : length (named (flat_map both (range_with_len 1 n))) ≡ n + n = both_few n 1 in
    let listed' = filter_few (λ s. list_any (λ list. list_any (nat_eq s) list) lists) (range_with_len 0 (path_symbols_at place)) in
    let range : length (range_with_len 0 (path_symbols_at place)) ≡ path_symbols_at place = length-range_with_len 0 (path_symbols_at place) in
    omega (arith, few, locations, all, listed', range)

module _ (sizes : Sizes) (n : ℕ) (some : 1 ≤ n) (few : n ≤ 200) where
  abbrev there : Place
  there = record { network = network n; level = level.Device }

  symbols_fit : nat_lt 4000000 (symbols_in (after_b n some).classes) ≡ false
  symbols_fit =
      let small = symbols_few n few (members_of level.Device by.Device (device_name (label_b n)) (network n) ∷ []) in
      grind (arith, small)

  second_done : Sofar
  second_done = record (first_done there) {
    checks = (first_done there).checks ++ record { name = codes "c2"; at_most = false; when = flow_seven; classes = (after_b n some).classes; body = cut } ∷ [];
  }

  second_step : with_item there (first_done there) (second_check n) ≡ Ok second_done
  unfolding with_item first_done second_done
  second_step = rw (cut_done n some, cut_shallow (locations_at there) sizes, cut_few (locations_at there) sizes, symbols_fit) refl

  expands : expanded (network n) (specification n) ≡ Ok second_done.checks
  unfolding expanded
  expands = rw (first_step there sizes, second_step) refl

  -- nothing of the specification is refused
  pub not_refused : (e : SpecError) → ¬ (expanded (network n) (specification n) ≡ Err e)
  not_refused e is = (let never = sym expands ∙ is in cc)
