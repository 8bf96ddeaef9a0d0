-- The checks of an expanded specification have the alternatives that are written.
use Rattle.std.proofs.Common.{◌≡◌, ℕ, ◌-◌, ◌≤◌, Bool, true, false, ◌&&◌, ◌||◌, List, [], ◌∷◌, ◌++◌, length, get_or, map, Option, Some, Result, Ok, Err, refl, ap, sym, subst, ◌∙◌, arith, length-drop, append_assoc, inl, inr}
use Rattle.std.specs.Prelude.{if◌then◌else◌}
use Rattle.std.specs.List.{All, list_all, list_any}
use Rattle.std.specs.Str.{bytes_eq}
use Rattle.std.proofs.lemmas.Bool.{cases_Bool}
use Rattle.std.proofs.lemmas.List.{append-nil, map-append}
use Rattle.std.proofs.lemmas.List.Elements.{All-nil, All-cons}
use Rattle.std.proofs.lemmas.List.Folds.{list_any-append}
use Rattle.std.proofs.lemmas.Slice.Eq.{bytes_eq-Decides}
use Rattle.rela_flows.specs.declared.predicate.Predicate.{Predicate}
use Rattle.rela_json.specs.Results.{◌>>=◌, try_fold}
use Rattle.rela_lex.specs.declared.error.SpecError.{SpecError}
use Rattle.rela_lex.specs.declared.error.SpecError.TheVariants.{RepeatedName, TooDeep, TooLarge}
use Rattle.rela_locations.specs.Names.{has_name}
use Rattle.rela_locations.specs.Network.{Network}
use Rattle.rela_lex.specs.declared.token.Token.{Token}
use Rattle.rela_spec.specs.Full.{IsFull, is_full_item, is_full_path, is_full_predicate, is_full_spec}
use Rattle.rela_spec.specs.Grammar.{Spells}
use Rattle.rela_spec.specs.declared.tree.Item.{Item}
use Rattle.rela_spec.specs.declared.tree.Item.TheVariants.{Path, Spec, Check}
use Rattle.rela_spec.specs.declared.tree.PathExpr.{PathExpr}
use Rattle.rela_spec.specs.declared.tree.SpecExpr.{SpecExpr}
use Rattle.rela_spec.specs.declared.tree.SpecFile.{SpecFile}
use Rattle.rela_expand.specs.Expand.{Expanded, Sofar, at_first, expanded, in_size, is_deep, is_large, not_full, unused, with_item, with_name, with_path, with_spec}
use Rattle.rela_expand.specs.Expansions.{Names, path_expansion, spec_expansion}
use Rattle.rela_expand.specs.Numbering.{Expansion, Numbering, Step, nothing_numbered}
use Rattle.rela_expand.specs.Places.{Place, locations_at}
use Rattle.rela_translate.specs.declared.body.Core.{Core}
use Rattle.rela_branches.specs.Alternatives.{alternatives_of}
use Rattle.rela_blame.specs.Alternatives.{check_leads, leads_from, leads_of}
use Rattle.rela_blame.specs.Alternatives.{with_name as leading_name}
use Rattle.rela_blame.specs.Units.{unit_offsets}
use Rattle.rela_blame.specs.Written.{units_in, units_in_item, units_in_items}
use Rattle.rela_blame.proofs.Expanded.{Agree, alternatives_told, and_left, and_right, count, from_ok, left_of}
use Rattle.rela_blame.proofs.Openings.{as_many_units, sum_more}

-- steps that succeed
bound : {A B E : Type 0} (r : Result A E) (f : A → Result B E) (b : B) → (r >>= f) ≡ Ok b → (a : A) × (r ≡ Ok a) × (f a ≡ Ok b)
bound (Ok a) f b is = (a, refl, is)
bound (Err e) f b is = absurd (cc)

abbrev names_of : List Expanded → List (List ℕ)
names_of checks = map (λ (check : Expanded). check.name) checks

unused_is : (names : List (List ℕ)) (name : List ℕ) (at : ℕ) (new : List ℕ) → unused names name at ≡ Ok new → (new ≡ name) × (has_name names name ≡ false)
unused_is names name at new is = by_test (has_name names name) refl is
  where
    by_test : (b : Bool) → has_name names name ≡ b → ◌≡◌ {A = Result (List ℕ) SpecError} (if b then Err (RepeatedName at) else Ok name) (Ok new)
        → (new ≡ name) × (has_name names name ≡ false)
    by_test true has is = absurd (cc)
    by_test false has is = (sym (from_ok name new is), has)

in_size_is : (n at : ℕ) (step kept : Step Core) → in_size n at step ≡ Ok kept → kept ≡ step
in_size_is n at step kept is = by_tests (is_deep n step.value) (is_large n step) is
  where
    by_tests : (deep large : Bool) → ◌≡◌ {A = Result (Step Core) SpecError} (if deep then Err (TooDeep at) else if large then Err (TooLarge at) else Ok step) (Ok kept) → kept ≡ step
    by_tests true large is = absurd (cc)
    by_tests false true is = absurd (cc)
    by_tests false false is = sym (from_ok step kept is)

module _ (place : Place) (sofar next : Sofar) where
  pub record SameChecks (specs : List ℕ → Option (Expansion Core)) : Type 0 where
    pub specs_are : next.names.specs ≡ specs
    pub checks_are : next.checks ≡ sofar.checks

  path_item : (name : List ℕ) (at : ℕ) (body : PathExpr) → with_item place sofar (Path name at body) ≡ Ok next → SameChecks sofar.names.specs
  unfolding with_item
  path_item name at body is =
      let a = bound (unused sofar.taken name at) (λ new. path_expansion place sofar.names body nothing_numbered >>= (λ step. Ok (with_path new (path_expansion place sofar.names body) sofar))) next is in
      let b = bound (path_expansion place sofar.names body nothing_numbered) (λ step. Ok (with_path a.0 (path_expansion place sofar.names body) sofar)) next a.2 in
      let same = from_ok (with_path a.0 (path_expansion place sofar.names body) sofar) next b.2 in
      record { specs_are = ap (λ (x : Sofar). x.names.specs) (sym same); checks_are = ap (λ (x : Sofar). x.checks) (sym same) }

  spec_item : (name : List ℕ) (at : ℕ) (body : SpecExpr) → with_item place sofar (Spec name at body) ≡ Ok next
      → SameChecks (with_name name (spec_expansion place sofar.names body) sofar.names.specs)
  unfolding with_item
  spec_item name at body is =
      let a = bound (unused sofar.taken name at) (λ new. spec_expansion place sofar.names body nothing_numbered >>= (λ step. Ok (with_spec new (spec_expansion place sofar.names body) sofar))) next is in
      let b = bound (spec_expansion place sofar.names body nothing_numbered) (λ step. Ok (with_spec a.0 (spec_expansion place sofar.names body) sofar)) next a.2 in
      let same = from_ok (with_spec a.0 (spec_expansion place sofar.names body) sofar) next b.2 in
      let new = (unused_is sofar.taken name at a.0 a.1).0 in
      record {
        specs_are = ap (λ (x : Sofar). x.names.specs) (sym same) ∙ ap (λ (x : List ℕ). with_name x (spec_expansion place sofar.names body) sofar.names.specs) new;
        checks_are = ap (λ (x : Sofar). x.checks) (sym same);
      }

  pub record NewCheck (name : List ℕ) (body : SpecExpr) : Type 0 where
    pub check : Expanded
    pub step : Step Core
    pub names_are : next.names ≡ sofar.names
    pub checks_are : next.checks ≡ sofar.checks ++ check ∷ []
    pub named : check.name ≡ name
    pub fresh : has_name (names_of sofar.checks) name ≡ false
    pub expands : spec_expansion place sofar.names body nothing_numbered ≡ Ok step
    pub body_is : check.body ≡ step.value

  pub check_item : (at_most : Bool) (name : List ℕ) (at : ℕ) (when : Predicate) (body : SpecExpr) → with_item place sofar (Check at_most name at when body) ≡ Ok next
      → NewCheck name body
  unfolding with_item
  check_item at_most name at when body is =
      let made : List ℕ → Step Core → Sofar = λ new step. record sofar {
        checks = sofar.checks ++ record { name = new; at_most = at_most; when = when; classes = step.after.classes; body = step.value } ∷ [];
      } in
      let whole = spec_expansion place sofar.names body nothing_numbered in
      let a = bound (unused (map (λ check. check.name) sofar.checks) name at)
      (λ new. not_full sofar.checks at >>= (λ within. whole >>= (λ step. in_size (locations_at place) at step >>= (λ kept. Ok (made new kept))))) next is in
      let b = bound (not_full sofar.checks at) (λ within. whole >>= (λ step. in_size (locations_at place) at step >>= (λ kept. Ok (made a.0 kept)))) next a.2 in
      let c = bound whole (λ step. in_size (locations_at place) at step >>= (λ kept. Ok (made a.0 kept))) next b.2 in
      let d = bound (in_size (locations_at place) at c.0) (λ kept. Ok (made a.0 kept)) next c.2 in
      let same = from_ok (made a.0 d.0) next d.2 in
      let new = unused_is (map (λ check. check.name) sofar.checks) name at a.0 a.1 in
      record {
        check = record { name = a.0; at_most = at_most; when = when; classes = d.0.after.classes; body = d.0.value };
        step = c.0;
        names_are = ap (λ (x : Sofar). x.names) (sym same);
        checks_are = ap (λ (x : Sofar). x.checks) (sym same);
        named = new.0;
        fresh = new.1;
        expands = c.1;
        body_is = ap (λ (x : Step Core). x.value) (in_size_is (locations_at place) at c.0 d.0 d.1);
      }

-- a name that stands for one more body
pub one_more : (b : Bool) (found old : List ℕ) (e : Expansion Core) (o : Option (Expansion Core)) (f : Expansion Core)
    → ◌≡◌ {A = Option (Expansion Core)} (if b then Some e else o) (Some f)
    → ((n : Numbering) (step : Step Core) → e n ≡ Ok step → length found ≡ count step.value)
    → (o ≡ Some f → (n : Numbering) (step : Step Core) → f n ≡ Ok step → length old ≡ count step.value)
    → (n : Numbering) (step : Step Core) → f n ≡ Ok step → length (if b then found else old) ≡ count step.value
one_more true found old e o f is here there n step made =
    let same : e ≡ f = cc in here n step (ap (λ (g : Expansion Core). g n) same ∙ made)
one_more false found old e o f is here there n step made = there is n step made

pub any_pushed : (p : List ℕ → Bool) (xs : List (List ℕ)) (x : List ℕ) → list_any p (xs ++ x ∷ []) ≡ false → (list_any p xs ≡ false) × (p x ≡ false)
any_pushed p xs x none =
    let both = neither (list_any p xs) (list_any p (x ∷ [])) (sym (list_any-append p xs (x ∷ [])) ∙ none) in (both.0, (neither (p x) false both.1).0)
  where
    neither : (a b : Bool) → (a || b) ≡ false → (a ≡ false) × (b ≡ false)
    neither true b none = absurd (cc)
    neither false b none = (refl, none)

-- of a check that is still to come: no earlier one has its name, and its alternatives are as many as those that are written
record IsCounted (items : List Item) (leads : List ℕ → List ℕ) (units : List ℕ) (sofar : Sofar) (check : Expanded) : Type 0 where
  pub fresh : has_name (names_of sofar.checks) check.name ≡ false
  pub same : length (leads_from leads units items check.name) ≡ count check.body

record Goes (items : List Item) (leads : List ℕ → List ℕ) (units : List ℕ) (sofar final : Sofar) : Type 0 where
  pub checks : List Expanded
  pub all : final.checks ≡ sofar.checks ++ checks
  pub each : All (IsCounted items leads units sofar) checks

-- a name that neither the earlier checks have nor this one
other_name : (other : List ℕ) (mine : Expanded) (name : List ℕ) (old new : List Expanded) → mine.name ≡ name → new ≡ old ++ mine ∷ []
    → has_name (names_of new) other ≡ false → (has_name (names_of old) other ≡ false) × (bytes_eq name other ≡ false)
other_name other mine name old new is more fresh =
    let all : names_of new ≡ names_of old ++ mine.name ∷ [] = ap names_of more ∙ map-append (λ (check : Expanded). check.name) old (mine ∷ []) in
    let both = any_pushed (bytes_eq other) (names_of old) mine.name (subst (λ (names : List (List ℕ)). has_name names other ≡ false) all fresh) in (
      both.0,
      elim (cases_Bool (bytes_eq name other)) [
        | inl same ↦
            let equal : name ≡ other = (bytes_eq-Decides name other).0 same in
            let again : bytes_eq other mine.name ≡ true = (bytes_eq-Decides other mine.name).1 (sym equal ∙ sym is) in
            let clash : true ≡ false = sym again ∙ both.1 in absurd (cc)
        | inr differ ↦ differ
      ],
    )

goes : (place : Place) (items : List Item) (leads : List ℕ → List ℕ) (units : List ℕ) (sofar final : Sofar) → list_all is_full_item items ≡ true → Agree sofar.names leads
    → units_in_items items ≤ length units → try_fold (with_item place) sofar items ≡ Ok final → Goes items leads units sofar final
goes place [] leads units sofar final full agree enough is = record {
  checks = [];
  all = ap (λ (x : Sofar). x.checks) (sym (from_ok sofar final is)) ∙ sym (append-nil sofar.checks);
  each = All-nil (IsCounted [] leads units sofar);
}
goes place (Path name at body ∷ items) leads units sofar final full agree enough is =
    let first = bound (with_item place sofar (Path name at body)) (λ next. try_fold (with_item place) next items) final is in
    let same = path_item place sofar first.0 name at body first.1 in
    let sums = sum_more 0 (map units_in_item items) in
    let rest = goes place items leads units first.0 final (and_right (is_full_path body) (list_all is_full_item items) full)
    (λ other e has. agree other e (ap (λ (f : List ℕ → Option (Expansion Core)). f other) (sym same.specs_are) ∙ has)) (omega arith) first.2 in record {
      checks = rest.checks;
      all = rest.all ∙ ap (λ (cs : List Expanded). cs ++ rest.checks) same.checks_are;
      each = λ k d inside.
          let c = get_or rest.checks k d in
          let x = rest.each k d inside in
          record { fresh = subst (λ (cs : List Expanded). has_name (names_of cs) c.name ≡ false) same.checks_are x.fresh; same = x.same };
    }
goes place (Spec name at body ∷ items) leads units sofar final full agree enough is =
    let first = bound (with_item place sofar (Spec name at body)) (λ next. try_fold (with_item place) next items) final is in
    let same = spec_item place sofar first.0 name at body first.1 in
    let sums = sum_more (units_in body) (map units_in_item items) in
    let full_body = and_left (is_full_spec body) (list_all is_full_item items) full in
    let found = (leads_of leads body units).at in
    let left = left_of place sofar.names leads agree body units in
    let long : length (leads_of leads body units).left ≡ length units - units_in body = ap length left ∙ length-drop (units_in body) units in
    let agree_next : Agree first.0.names (leading_name name found leads) = λ other e has n step made.
    one_more (bytes_eq name other) found (leads other) (spec_expansion place sofar.names body) (sofar.names.specs other) e
    (ap (λ (f : List ℕ → Option (Expansion Core)). f other) (sym same.specs_are) ∙ has)
    (λ n step made. alternatives_told place sofar.names leads agree body full_body units (omega arith) n step made) (λ is. agree other e is) n step made in
    let rest = goes place items (leading_name name found leads) (leads_of leads body units).left first.0 final (and_right (is_full_spec body) (list_all is_full_item items) full) agree_next
    (omega arith) first.2 in record {
      checks = rest.checks;
      all = rest.all ∙ ap (λ (cs : List Expanded). cs ++ rest.checks) same.checks_are;
      each = λ k d inside.
          let c = get_or rest.checks k d in
          let x = rest.each k d inside in
          record { fresh = subst (λ (cs : List Expanded). has_name (names_of cs) c.name ≡ false) same.checks_are x.fresh; same = x.same };
    }
goes place (Check at_most name at when body ∷ items) leads units sofar final full agree enough is =
    let first = bound (with_item place sofar (Check at_most name at when body)) (λ next. try_fold (with_item place) next items) final is in
    let new = check_item place sofar first.0 at_most name at when body first.1 in
    let sums = sum_more (units_in body) (map units_in_item items) in
    let whole = list_all is_full_item items in
    let full_body = and_right (is_full_predicate when) (is_full_spec body) (and_left (is_full_predicate when && is_full_spec body) whole full) in
    let found = (leads_of leads body units).at in
    let units_left = (leads_of leads body units).left in
    let left = left_of place sofar.names leads agree body units in
    let long : length units_left ≡ length units - units_in body = ap length left ∙ length-drop (units_in body) units in
    let told = alternatives_told place sofar.names leads agree body full_body units (omega arith) nothing_numbered new.step new.expands in
    let agree_next : Agree first.0.names leads = subst (λ (names : Names). Agree names leads) (sym new.names_are) agree in
    let rest = goes place items leads units_left first.0 final (and_right (is_full_predicate when && is_full_spec body) whole full) agree_next (omega arith) first.2 in
    let here : bytes_eq name new.check.name ≡ true = (bytes_eq-Decides name new.check.name).1 (sym new.named) in record {
      checks = new.check ∷ rest.checks;
      all = rest.all ∙ ap (λ (cs : List Expanded). cs ++ rest.checks) new.checks_are ∙ append_assoc sofar.checks (new.check ∷ []) rest.checks;
      each = All-cons (IsCounted (Check at_most name at when body ∷ items) leads units sofar) new.check rest.checks (record {
        fresh = subst (λ (x : List ℕ). has_name (names_of sofar.checks) x ≡ false) (sym new.named) new.fresh;
        same = ap (λ (b : Bool). length (if b then found else leads_from leads units_left items new.check.name)) here ∙ told ∙ ap count (sym new.body_is);
      }) (λ k d inside.
          let c = get_or rest.checks k d in
          let x = rest.each k d inside in
          let apart = other_name c.name new.check name sofar.checks first.0.checks new.named new.checks_are x.fresh in record {
            fresh = apart.0;
            same = ap (λ (b : Bool). length (if b then found else leads_from leads units_left items c.name)) apart.1 ∙ x.same;
          });
    }

pub counted : (network : Network) (file : SpecFile) (tokens : List Token) (checks : List Expanded) → Spells tokens file → IsFull file → expanded network file ≡ Ok checks
    → All (λ check. length (check_leads file tokens check.name) ≡ length (alternatives_of check.body)) checks
unfolding expanded
counted network file tokens checks spells full is =
    let place : Place = record { network = network; level = file.level } in
    let a = bound (try_fold (with_item place) at_first file.items) (λ sofar. Ok sofar.checks) checks is in
    let units = as_many_units tokens file spells.grammar in
    let all = goes place file.items (λ _. []) (unit_offsets tokens) at_first a.0 full (λ name e has. absurd (cc)) (omega arith) a.1 in
    subst (All (λ check. length (check_leads file tokens check.name) ≡ length (alternatives_of check.body))) (sym all.all ∙ from_ok a.0.checks checks a.2)
    (λ k d inside. (all.each k d inside).same)
