-- A name that stands for something stands for the same after further items, since names are not repeated.
use Rattle.std.proofs.Common.{◌≡◌, ◌≢◌, ℕ, ◌⊎◌, inl, inr, Bool, true, false, ◌||◌, cond, List, [], ◌∷◌, Option, Some, Ok, refl, ap, sym, ◌∙◌}
use Rattle.std.specs.Prelude.{fold}
use Rattle.std.specs.Str.{bytes_eq}
use Rattle.std.proofs.lemmas.Slice.Eq.{bytes_eq-Decides}
use Rattle.rela_json.specs.Results.{try_fold}
use Rattle.rela_locations.specs.Names.{has_name}
use Rattle.rela_rir.specs.Words.{WordSet}
use Rattle.rela_spec.specs.declared.tree.Item.{Item}
use Rattle.rela_spec.specs.declared.tree.Item.TheVariants.{Path, Spec, Check}
use Rattle.rela_spec.specs.declared.tree.SpecExpr.{SpecExpr}
use Rattle.rela_expand.specs.Expand.{Sofar, with_name, with_item}
use Rattle.rela_expand.specs.LangW.{LangW}
use Rattle.rela_expand.specs.Places.{Place}
use Rattle.rela_expand.specs.ZonesW.{NamesW, UnitW, ZoneW, names_from, with_item_units, with_item_w, with_words, units_w}
use Rattle.rela_expand.proofs.ListWords.{Equal, itself, through}
use Rattle.rela_expand.proofs.Membership.{bound}
use Rattle.rela_expand.proofs.Steps.{path_added, spec_added, check_added}

-- the words that the name stands for now
pub these_words : (name : List ℕ) (X : WordSet) (others : List ℕ → WordSet) → Equal (with_words name X others name) X
these_words name X others = (λ w h. elim h [ inl has ↦ has.1 | inr has ↦ absurd (has.0 refl) ], λ w x. inl (refl, x))

-- those that another name stands for
pub other_words : (name : List ℕ) (X : WordSet) (others : List ℕ → WordSet) (other : List ℕ) → other ≢ name → Equal (with_words name X others other) (others other)
other_words name X others other apart = (λ w h. elim h [ inl has ↦ absurd (apart has.0) | inr has ↦ has.1 ], λ w h. inr (apart, h))

-- a name that stands for something after one more: it is the new one, or it stood for it before
pub either_name : {X : Type 0} (name : List ℕ) (x : X) (others : List ℕ → Option X) (other : List ℕ) (y : X) → with_name name x others other ≡ Some y
    → ((name ≡ other) × (x ≡ y)) ⊎ ((other ≢ name) × (others other ≡ Some y))
either_name {X} name x others other y is = by_test (bytes_eq name other) refl is
  where
    by_test : (b : Bool) → bytes_eq name other ≡ b → cond b (Some x) (others other) ≡ Some y → ((name ≡ other) × (x ≡ y)) ⊎ ((other ≢ name) × (others other ≡ Some y))
    by_test true h same = inl ((bytes_eq-Decides name other).0 h, cc)
    by_test false h same = inr (λ e. let also : bytes_eq name other ≡ true = (bytes_eq-Decides name other).1 (sym e) in absurd (cc), same)

pub not_taken : (taken : List (List ℕ)) (name other : List ℕ) → has_name taken name ≡ false → has_name taken other ≡ true → other ≢ name
not_taken taken name other new old same = let also : has_name taken name ≡ true = ap (has_name taken) (sym same) ∙ old in cc

pub still_taken : (taken : List (List ℕ)) (name other : List ℕ) → has_name taken other ≡ true → has_name (name ∷ taken) other ≡ true
still_taken taken name other old = by_test (bytes_eq other name) old
  where
    by_test : (b : Bool) → has_name taken other ≡ true → (b || has_name taken other) ≡ true
    by_test true h = refl
    by_test false h = h

pub now_taken : (taken : List (List ℕ)) (name : List ℕ) → has_name (name ∷ taken) name ≡ true
now_taken taken name = ap (λ (b : Bool). b || has_name taken name) ((bytes_eq-Decides name name).1 refl)

pub these_units : (name : List ℕ) (body : SpecExpr) (units_for : List ℕ → List UnitW) (at : ℕ) → with_item_units units_for (Spec name at body) name ≡ units_w units_for body
these_units name body units_for at = ap (λ (b : Bool). cond b (units_w units_for body) (units_for name)) ((bytes_eq-Decides name name).1 refl)

pub other_units : (name : List ℕ) (body : SpecExpr) (units_for : List ℕ → List UnitW) (at : ℕ) (other : List ℕ) → other ≢ name → with_item_units units_for (Spec name at body) other ≡ units_for other
other_units name body units_for at other apart = by_test (bytes_eq name other) refl
  where
    by_test : (b : Bool) → bytes_eq name other ≡ b → cond b (units_w units_for body) (units_for other) ≡ units_for other
    by_test true h = absurd (apart (sym ((bytes_eq-Decides name other).0 h)))
    by_test false h = refl

-- further items do not change what the name stands for
pub record Lasts (place : Place) (names : NamesW) (units_for : List ℕ → List UnitW) (items : List Item) (name : List ℕ) : Type 0 where
  pub paths : Equal ((names_from place names items).paths name) (names.paths name)
  pub zones : Equal ((names_from place names items).zones name) (names.zones name)
  pub units : fold with_item_units units_for items name ≡ units_for name

module _ (place : Place) where
  pub lasts : (items : List Item) (sofar final : Sofar) → try_fold (with_item place) sofar items ≡ Ok final → (name : List ℕ) → has_name sofar.taken name ≡ true
      → (names : NamesW) (units_for : List ℕ → List UnitW) → Lasts place names units_for items name
  lasts [] sofar final is name old names units_for = record { paths = itself (names.paths name); zones = itself (names.zones name); units = refl }
  lasts (Path n at body ∷ items) sofar final is name old names units_for =
      let next = bound (with_item place sofar (Path n at body)) (λ t. try_fold (with_item place) t items) final is in
      let added = path_added place sofar next.0 n at body next.1 in
      let taken : has_name next.0.taken name ≡ true = ap (λ (s : Sofar). has_name s.taken name) (sym added.gives) ∙ still_taken sofar.taken n name old in
      let later = lasts items next.0 final next.2 name taken (with_item_w place names (Path n at body)) units_for in record {
        paths = through ((names_from place names (Path n at body ∷ items)).paths name) (with_words n (LangW place names.paths body) names.paths name) (names.paths name) later.paths
            (other_words n (LangW place names.paths body) names.paths name (not_taken sofar.taken n name added.new old));
        zones = later.zones;
        units = later.units;
      }
  lasts (Spec n at body ∷ items) sofar final is name old names units_for =
      let next = bound (with_item place sofar (Spec n at body)) (λ t. try_fold (with_item place) t items) final is in
      let added = spec_added place sofar next.0 n at body next.1 in
      let taken : has_name next.0.taken name ≡ true = ap (λ (s : Sofar). has_name s.taken name) (sym added.gives) ∙ still_taken sofar.taken n name old in
      let apart = not_taken sofar.taken n name added.new old in
      let later = lasts items next.0 final next.2 name taken (with_item_w place names (Spec n at body)) (with_item_units units_for (Spec n at body)) in record {
        paths = later.paths;
        zones = through ((names_from place names (Spec n at body ∷ items)).zones name) (with_words n (ZoneW place names body) names.zones name) (names.zones name) later.zones
            (other_words n (ZoneW place names body) names.zones name apart);
        units = later.units ∙ other_units n body units_for at name apart;
      }
  lasts (Check at_most n at when body ∷ items) sofar final is name old names units_for =
      let next = bound (with_item place sofar (Check at_most n at when body)) (λ t. try_fold (with_item place) t items) final is in
      let added = check_added place sofar at_most when next.0 n at body next.1 in
      let taken : has_name next.0.taken name ≡ true = ap (λ (s : Sofar). has_name s.taken name) (sym added.gives) ∙ old in
      let later = lasts items next.0 final next.2 name taken names units_for in record { paths = later.paths; zones = later.zones; units = later.units }
