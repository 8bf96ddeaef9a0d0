-- A class has the symbols that its members name.
use Rattle.std.proofs.Common.{◌≡◌, ℕ, ◌<◌, ◌↔◌, Bool, true, false, List, [], ◌∷◌, None, Result, Ok, refl, ap, sym, subst, ◌∙◌, arith}
use Rattle.std.specs.Prelude.{nat_eq, MatchBool}
use Rattle.std.specs.List.{Contains, list_any, range_with_len}
use Rattle.std.proofs.lemmas.Bool.Decides.{Decides-eqb}
use Rattle.rela_json.specs.Results.{try_map}
use Rattle.rela_lex.specs.declared.error.SpecError.{SpecError}
use Rattle.rela_spec.specs.declared.tree.Member.{Member}
use Rattle.rela_expand.specs.LangW.{IsLetter, IsNamed}
use Rattle.rela_expand.specs.Expansions.{class_of, layer_of_path, path_expansion}
use Rattle.rela_expand.specs.Numbered.{expands, expansions_of, listing, numbered, one_part, placed}
use Rattle.rela_expand.specs.Numbering.{Expansion, Listing, Step, nothing_numbered}
use Rattle.rela_expand.specs.Shapes.{Shape, Class, Shapes, class_shape, layer_shape, shape_of}
use Rattle.rela_translate.specs.declared.body.Expr.{Expr}
use Rattle.rela_translate.specs.declared.body.Expr.TheVariants as x
use Rattle.rela_spec.specs.declared.tree.PathExpr.TheOpen as e
use Rattle.rela_spec.specs.declared.tree.PathExpr.TheVariants as V
use Rattle.rela_spec.specs.declared.tree.PathExpr.TheFolds.{fold-roll-PathExpr}
use Rattle.rela_expand.proofs.Expanding.{path_goes_by}
use Rattle.rela_expand.specs.Places.{Place, in_some, listed, path_symbols_at, symbols_of}
use Rattle.rela_expand.proofs.Membership.{Has, has, contains, bound, from_ok, image_of, has_image, kept, keeps, passes_some, range_has, some_passes}
use Rattle.rela_expand.proofs.ListWords.{Equal}

-- the word is one path symbol that is listed, or, where negated, that is not
pub record HasLetter (place : Place) (negated : Bool) (symbols : List ℕ) (w : List ℕ) : Type 0 where
  pub symbol : ℕ
  pub only : w ≡ symbol ∷ []
  pub path : symbol < path_symbols_at place
  pub chosen : MatchBool negated (¬ Contains symbols symbol) (Contains symbols symbol)

module _ (place : Place) (members : List Member) (lists : List (List ℕ)) (are : try_map (symbols_of place) members ≡ Ok lists) (s : ℕ) where
  abbrev in_list : List ℕ → Bool
  in_list list = list_any (nat_eq s) list

  abbrev in_lists : Bool
  in_lists = list_any in_list lists

  to_named : in_lists ≡ true → IsNamed place members s
  to_named h =
      let list = some_passes in_list lists h in
      let t = some_passes (nat_eq s) list.0 list.2 in
      let same : s ≡ t.0 = (Decides-eqb s t.0).0 t.2 in
      let member = image_of (symbols_of place) members lists are list.0 list.1 in
      (member.0, contains members member.0 member.1, (list.0, member.2, contains list.0 s (subst (Has list.0) (sym same) t.1)))

  from_named : IsNamed place members s → in_lists ≡ true
  from_named (member, inside, (symbols, is, at)) =
      let list = has_image (symbols_of place) members lists are member (has members member inside) in
      let same : symbols ≡ list.0 = from_ok symbols list.0 (sym is ∙ list.2) in
      passes_some in_list lists list.0 list.1
      (passes_some (nat_eq s) list.0 s (subst (λ (l : List ℕ). Has l s) same (has symbols s at)) ((Decides-eqb s s).1 refl))

  to_listed : s < path_symbols_at place → in_lists ≡ true → Contains (in_some place lists) s
  to_listed path h =
      contains (in_some place lists) s
      (keeps (λ (t : ℕ). list_any (λ list. list_any (nat_eq t) list) lists) (range_with_len 0 (path_symbols_at place)) s
      (range_has 0 (path_symbols_at place) s (omega arith) (omega arith)) h)

  from_listed : Contains (in_some place lists) s → in_lists ≡ true
  from_listed h =
      (kept (λ (t : ℕ). list_any (λ list. list_any (nat_eq t) list) lists) (range_with_len 0 (path_symbols_at place)) s (has (in_some place lists) s h)).1

listed_names : (place : Place) (members : List Member) (symbols : List ℕ) → listed place members ≡ Ok symbols → (s : ℕ) → s < path_symbols_at place → Contains symbols s ↔ IsNamed place members s
unfolding listed
listed_names place members symbols is s path =
    let lists = bound (try_map (symbols_of place) members) (λ lists. Ok (in_some place lists)) symbols is in
    let same : in_some place lists.0 ≡ symbols = from_ok (in_some place lists.0) symbols lists.2 in (
      λ h. to_named place members lists.0 lists.1 s (from_listed place members lists.0 lists.1 s (subst (λ (l : List ℕ). Contains l s) (sym same) h)),
      λ h. subst (λ (l : List ℕ). Contains l s) same (to_listed place members lists.0 lists.1 s path (from_named place members lists.0 lists.1 s h)),
    )

chosen : (b : Bool) {P Q : Type 0} → (P → Q) → (Q → P) → MatchBool b (¬ P) P → MatchBool b (¬ Q) Q
chosen true f g h = λ q. h (g q)
chosen false f g h = f h

pub letters : (place : Place) (negated : Bool) (members : List Member) (symbols : List ℕ) → listed place members ≡ Ok symbols
    → Equal (HasLetter place negated symbols) (IsLetter place negated members)
letters place negated members symbols is = (
  λ w h. let named = listed_names place members symbols is h.symbol h.path in
      record { symbol = h.symbol; only = h.only; path = h.path; chosen = chosen negated named.0 named.1 h.chosen },
  λ w h. let named = listed_names place members symbols is h.symbol h.path in
      record { symbol = h.symbol; only = h.only; path = h.path; chosen = chosen negated named.1 named.0 h.chosen },
)

pub none_listed : (place : Place) → listed place [] ≡ Ok (in_some place [])
unfolding listed
none_listed place = refl

-- the class of a shape lists what is listed
module _ (place : Place) (negated : Bool) (members : List Member) (symbols : List ℕ) (is : listed place members ≡ Ok symbols) where
  abbrev no_shapes : Shapes
  no_shapes = record { paths = λ _. None; specs = λ _. None }

  abbrev listed_class : Listing
  listed_class = record { negated = negated; members = symbols }

  expanded_class : path_expansion place (expansions_of place no_shapes) (V.Class negated members) ≡ class_of place negated members
  unfolding path_expansion
  expanded_class =
      ap (path_expansion place (expansions_of place no_shapes)) (sym (V.rolls-Class negated members))
      ∙ fold-roll-PathExpr (Expansion Expr) (layer_of_path place (expansions_of place no_shapes)) (e.Class negated members)

  shaped_class : shape_of place no_shapes.paths (V.Class negated members) ≡ class_shape place negated members
  unfolding shape_of
  shaped_class =
      ap (shape_of place no_shapes.paths) (sym (V.rolls-Class negated members))
      ∙ fold-roll-PathExpr (Result Shape SpecError) (layer_shape place no_shapes.paths) (e.Class negated members)

  class_listed : class_of place negated members nothing_numbered ≡ Ok (one_part x.Class (placed listed_class nothing_numbered))
  class_listed = rw is refl

  class_shaped : class_shape place negated members ≡ Ok (Class negated members)
  class_shaped = rw is refl

  one_class : (c d : Listing) → c ∷ [] ≡ d ∷ [] → c ≡ d
  one_class c d same = cc

  pub class_lists : listed_class ≡ listing place negated members
  class_lists =
      let steps = sym class_listed
      ∙ ap (λ (e : Expansion Expr). e nothing_numbered) (sym expanded_class)
      ∙ path_goes_by place no_shapes (V.Class negated members) nothing_numbered
      ∙ ap (λ (r : Result Shape SpecError). expands (numbered place) r nothing_numbered) (shaped_class ∙ class_shaped) in
      one_class listed_class (listing place negated members)
      (ap (λ (s : Step Expr). s.after.classes)
      (from_ok (one_part x.Class (placed listed_class nothing_numbered)) (one_part x.Class (placed (listing place negated members) nothing_numbered)) steps))

  pub class_letters : Equal (HasLetter place negated (listing place negated members).members) (IsLetter place negated members)
  class_letters =
      subst (λ (c : Listing). Equal (HasLetter place negated c.members) (IsLetter place negated members)) class_lists (letters place negated members symbols is)
