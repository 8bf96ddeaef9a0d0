-- What a check is made of: a body whose terms are small, and its class table.
use Rattle.std.proofs.Common.{◌≡◌, ℕ, ◌+◌, ◌<◌, ◌≤◌, ◌^◌, ◌⊎◌, inl, inr, Bool, true, false, ◌||◌, List, length, map, Result, Ok, Err, refl, ap, sym, subst, ◌∙◌, arith}
use Rattle.std.proofs.lemmas.Bool.{le-ltb, lt-ltb}
use Rattle.std.proofs.lemmas.List.{length-map}
use Rattle.std.specs.Prelude.{nat_lt, if◌then◌else◌}
use Rattle.std.specs.List.{All, range_with_len}
use Rattle.rela_flows.specs.Selects.{depth}
use Rattle.rela_flows.specs.declared.predicate.Predicate.{Predicate}
use Rattle.rela_lex.specs.declared.error.SpecError.{SpecError}
use Rattle.rela_lex.specs.declared.error.SpecError.TheVariants.{Memory, TooDeep, TooLarge}
use Rattle.rela_rir.specs.Size.{nodes_of_rel, depth_of_rel}
use Rattle.rela_spec.specs.declared.tree.Modifier.{Modifier}
use Rattle.rela_spec.specs.declared.tree.Modifier.TheVariants as m
use Rattle.rela_translate.specs.Checked.{Checked, IsCheck, entries_of, markers_of}
use Rattle.rela_expand.specs.Expand.{in_size, listing_of, outcome_of, symbols_in}
use Rattle.rela_expand.specs.Measures.{Measures, measure_of, modifier_measures, unit_measures, body_measures, of_terms, weight_of, weight_of_modifier}
use Rattle.rela_expand.specs.Numbered.{numbered_body}
use Rattle.rela_expand.specs.Numbering.{Listing, Numbering, Step, nothing_numbered}
use Rattle.rela_expand.specs.Places.{Place, locations_at}
use Rattle.rela_expand.specs.Refusals.{refusal_at}
use Rattle.rela_expand.specs.declared.unfit.Unfit.{Unfit}
use Rattle.rela_expand.specs.declared.unfit.Unfit.TheVariants as unfit
use Rattle.rela_expand.specs.Shapes.{Shape, BodyShape, Unit as Unit', Then, Else, nodes_of_shape}
use Rattle.rela_translate.specs.Terms.{before_of, after_of, terms_of}
use Rattle.rela_translate.specs.declared.body.Core.{Core}
use Rattle.rela_expand.proofs.Entries.{body_inside}
use Rattle.rela_expand.proofs.Marks.{markers_counted}

unit_within : (z : Shape) (c : Modifier Shape) → nodes_of_shape z + weight_of_modifier c ≤ (unit_measures (measure_of z) (modifier_measures c)).before.nodes
unit_within z m.Preserve = omega arith
unit_within z (m.Add p) = omega arith
unit_within z (m.Remove p) = omega arith
unit_within z (m.Replace p q) = omega arith
unit_within z m.Drop = omega arith
unit_within z (m.AnyOf p) = omega arith
unit_within z (m.Ignore p) = omega arith

-- a body has no more weight than its before term has nodes
pub weight_within : (s : BodyShape) → weight_of s ≤ (body_measures s).before.nodes
weight_within (Unit' z c) = unit_within z c
weight_within (Then a b) = let x = weight_within a in let y = weight_within b in omega arith
weight_within (Else a b) = let x = weight_within a in let y = weight_within b in omega arith

or_true : (b : Bool) → (b || true) ≡ true
or_true true = refl
or_true false = refl

abbrev choice : {X : Type 0} → ℕ → ℕ → ℕ → ℕ → X → X → X → X
choice a b c d deep large fits = if nat_lt 1000 a || nat_lt 1000 b then deep else if nat_lt 20000 c || nat_lt 4000000 d then large else fits

fits_is : {X : Type 0} (a b c d : ℕ) (x y z : X) → a ≤ 1000 → b ≤ 1000 → c ≤ 20000 → d ≤ 4000000 → choice a b c d x y z ≡ z
fits_is a b c d x y z ha hb hc hd = rw (le-ltb 1000 a ha, le-ltb 1000 b hb, le-ltb 20000 c hc, le-ltb 4000000 d hd) refl

deep_is : {X : Type 0} (a b c d : ℕ) (x y z : X) → (1000 < a) ⊎ (1000 < b) → choice a b c d x y z ≡ x
deep_is a b c d x y z (inl h) = rw (lt-ltb 1000 a h) refl
deep_is a b c d x y z (inr h) = rw (lt-ltb 1000 b h, or_true (nat_lt 1000 a)) refl

large_is : {X : Type 0} (a b c d : ℕ) (x y z : X) → a ≤ 1000 → b ≤ 1000 → (20000 < c) ⊎ (4000000 < d) → choice a b c d x y z ≡ y
large_is a b c d x y z ha hb (inl h) = rw (le-ltb 1000 a ha, le-ltb 1000 b hb, lt-ltb 20000 c h) refl
large_is a b c d x y z ha hb (inr h) = rw (le-ltb 1000 a ha, le-ltb 1000 b hb, lt-ltb 4000000 d h, or_true (nat_lt 20000 c)) refl

-- what the law of the sizes of bodies says
abbrev pub AreMeasured : Type 0
AreMeasured = (place : Place) (locations : ℕ) (s : BodyShape) (n : Numbering) → of_terms (terms_of locations (numbered_body place s n).value) ≡ body_measures s

module _ (measured : AreMeasured) (place : Place) (s : BodyShape) where
  abbrev pub step_of : Step Core
  step_of = numbered_body place s nothing_numbered

  before_depth : (locations : ℕ) → depth_of_rel (before_of locations step_of.value) ≡ (body_measures s).before.depth
  before_depth locations = ap (λ (x : Measures). x.before.depth) (measured place locations s nothing_numbered)

  after_depth : (locations : ℕ) → depth_of_rel (after_of locations step_of.value) ≡ (body_measures s).after.depth
  after_depth locations = ap (λ (x : Measures). x.after.depth) (measured place locations s nothing_numbered)

  all_nodes : (locations : ℕ) → nodes_of_rel (before_of locations step_of.value) + nodes_of_rel (after_of locations step_of.value) ≡ (body_measures s).before.nodes + (body_measures s).after.nodes
  all_nodes locations = ap (λ (x : Measures). x.before.nodes + x.after.nodes) (measured place locations s nothing_numbered)

  abbrev at_locations : ℕ
  at_locations = locations_at place

  -- the check's body is in size, or it is the one refusal or the other
  pub is_sized : (at : ℕ) → (body_measures s).before.depth ≤ 1000 → (body_measures s).after.depth ≤ 1000
      → (body_measures s).before.nodes + (body_measures s).after.nodes ≤ 20000 → symbols_in step_of.after.classes ≤ 4000000
      → in_size (locations_at place) at step_of ≡ Ok step_of
  is_sized at before after few listed =
      fits_is (depth_of_rel (before_of at_locations step_of.value)) (depth_of_rel (after_of at_locations step_of.value))
      (nodes_of_rel (before_of at_locations step_of.value) + nodes_of_rel (after_of at_locations step_of.value)) (symbols_in step_of.after.classes)
      (Err (TooDeep at)) (Err (TooLarge at)) (Ok step_of)
      (subst (λ (n : ℕ). n ≤ 1000) (sym (before_depth at_locations)) before) (subst (λ (n : ℕ). n ≤ 1000) (sym (after_depth at_locations)) after)
      (subst (λ (n : ℕ). n ≤ 20000) (sym (all_nodes at_locations)) few) listed

  pub is_too_deep : (at : ℕ) → (1000 < (body_measures s).before.depth) ⊎ (1000 < (body_measures s).after.depth)
      → in_size (locations_at place) at step_of ≡ Err (TooDeep at)
  is_too_deep at deep =
      deep_is (depth_of_rel (before_of at_locations step_of.value)) (depth_of_rel (after_of at_locations step_of.value))
      (nodes_of_rel (before_of at_locations step_of.value) + nodes_of_rel (after_of at_locations step_of.value)) (symbols_in step_of.after.classes)
      (Err (TooDeep at)) (Err (TooLarge at)) (Ok step_of)
      (subst (λ (n : ℕ). (1000 < n) ⊎ (1000 < depth_of_rel (after_of at_locations step_of.value))) (sym (before_depth at_locations))
      (subst (λ (n : ℕ). (1000 < (body_measures s).before.depth) ⊎ (1000 < n)) (sym (after_depth at_locations)) deep))

  pub is_too_large : (at : ℕ) → (body_measures s).before.depth ≤ 1000 → (body_measures s).after.depth ≤ 1000
      → (20000 < (body_measures s).before.nodes + (body_measures s).after.nodes) ⊎ (4000000 < symbols_in step_of.after.classes)
      → in_size (locations_at place) at step_of ≡ Err (TooLarge at)
  is_too_large at before after large =
      large_is (depth_of_rel (before_of at_locations step_of.value)) (depth_of_rel (after_of at_locations step_of.value))
      (nodes_of_rel (before_of at_locations step_of.value) + nodes_of_rel (after_of at_locations step_of.value)) (symbols_in step_of.after.classes)
      (Err (TooDeep at)) (Err (TooLarge at)) (Ok step_of)
      (subst (λ (n : ℕ). n ≤ 1000) (sym (before_depth at_locations)) before) (subst (λ (n : ℕ). n ≤ 1000) (sym (after_depth at_locations)) after)
      (subst (λ (n : ℕ). (20000 < n) ⊎ (4000000 < symbols_in step_of.after.classes)) (sym (all_nodes at_locations)) large)

  pub is_check : (check : Checked) → step_of.value ≡ check.body → step_of.after.classes ≡ map listing_of check.classes → depth check.when ≤ 1000
      → (body_measures s).before.depth ≤ 1000 → (body_measures s).after.depth ≤ 1000 → (body_measures s).before.nodes + (body_measures s).after.nodes ≤ 20000
      → IsCheck check
  is_check check body classes low before after few = record {
    entries = subst (λ (b : Core). All (λ k. k < length check.classes) (entries_of b)) body
        (body_inside place s nothing_numbered (length check.classes) (omega (arith, ap length classes, length-map check.classes listing_of)));
    numbered = subst (λ (b : Core). markers_of b ≡ range_with_len 1 (length (markers_of b))) body (markers_counted place s);
    shallow_predicate = low;
    few_nodes = λ locations. subst (λ (b : Core). nodes_of_rel (before_of locations b) + nodes_of_rel (after_of locations b) ≤ 20000) body
        (subst (λ (n : ℕ). n ≤ 20000) (sym (all_nodes locations)) few);
    shallow_before = λ locations. subst (λ (b : Core). depth_of_rel (before_of locations b) ≤ 1000) body
        (subst (λ (n : ℕ). n ≤ 1000) (sym (before_depth locations)) before);
    shallow_after = λ locations. subst (λ (b : Core). depth_of_rel (after_of locations b) ≤ 1000) body
        (subst (λ (n : ℕ). n ≤ 1000) (sym (after_depth locations)) after);
  }

  -- what is refused as too deep or too large before it is unfolded
  pub is_refused : (at : ℕ) (e : SpecError) → (e ≡ TooDeep at) ⊎ (e ≡ TooLarge at)
      → (e ≡ TooDeep at → (1000 < (body_measures s).before.depth) ⊎ (1000 < (body_measures s).after.depth))
      → (e ≡ TooLarge at → ((body_measures s).before.depth ≤ 1000) × ((body_measures s).after.depth ≤ 1000) × (20000 < (body_measures s).before.nodes + (body_measures s).after.nodes))
      → in_size (locations_at place) at step_of ≡ Err e
  is_refused at e (inl is) deep large = is_too_deep at (deep is) ∙ ap (λ (x : SpecError). let r : Result (Step Core) SpecError = Err x in r) (sym is)
  is_refused at e (inr is) deep large =
      let h = large is in
      is_too_large at h.0 h.1 (inl h.2) ∙ ap (λ (x : SpecError). let r : Result (Step Core) SpecError = Err x in r) (sym is)

  pub is_light : (body_measures s).before.nodes + (body_measures s).after.nodes ≤ 20000 → weight_of s < 2 ^ 32
  is_light few = let h = weight_within s in omega arith

-- the error of a body that isn't unfolded, where one that is too large is refused so
pub unfit_refused : {X : Type 0} (at : ℕ) (u : Unfit) (r : Result X SpecError) → (u ≡ unfit.TooLarge → r ≡ Err (TooLarge at)) → (e : SpecError) → e ≡ refusal_at at u → (e ≡ Memory → ⊥) → r ≡ Err e
unfit_refused at unfit.TooLarge r large e is apart = subst (λ (x : SpecError). r ≡ Err x) (sym is) (large refl)
unfit_refused at unfit.Memory r large e is apart = absurd (apart is)

outcome_parts : (check : Checked) {name : List ℕ} {at_most : Bool} {when : Predicate} {classes : List Listing} {body : Core}
    → check.name ≡ name → check.at_most ≡ at_most → check.when ≡ when → map listing_of check.classes ≡ classes → check.body ≡ body
    → outcome_of check ≡ record { name = name; at_most = at_most; when = when; classes = classes; body = body }
outcome_parts check a b c d e = λ i. record { name = a i; at_most = b i; when = c i; classes = d i; body = e i }

pub check_is_made : AreMeasured → (place : Place) (s : BodyShape) (at : ℕ) (check : Checked) (name : List ℕ) (at_most : Bool) (when : Predicate)
    → check.name ≡ name → check.at_most ≡ at_most → check.when ≡ when
    → (numbered_body place s nothing_numbered).value ≡ check.body → (numbered_body place s nothing_numbered).after.classes ≡ map listing_of check.classes
    → (body_measures s).before.depth ≤ 1000 → (body_measures s).after.depth ≤ 1000 → (body_measures s).before.nodes + (body_measures s).after.nodes ≤ 20000
    → symbols_in (numbered_body place s nothing_numbered).after.classes ≤ 4000000
    → (step : Step Core) × (in_size (locations_at place) at (numbered_body place s nothing_numbered) ≡ Ok step)
    × (outcome_of check ≡ record { name = name; at_most = at_most; when = when; classes = step.after.classes; body = step.value })
check_is_made measured place s at check name at_most when a b c body classes before after few listed =
    (numbered_body place s nothing_numbered, is_sized measured place s at before after few listed, outcome_parts check a b c (sym classes) (sym body))
