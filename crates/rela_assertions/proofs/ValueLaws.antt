-- What is known of trees that are put together.
use Rattle.std.proofs.Common.{◌≡◌, ◌∙◌, List, [], ◌∷◌, ◌++◌, ℕ, map, refl, sym, ap, subst, append_assoc}
use Rattle.std.specs.List.{AllZip}
use Rattle.std.proofs.lemmas.List.{map-append}
use Rattle.rela_engine.specs.Leaves.{LeafOf, value_of}
use Rattle.rela_engine.specs.declared.leaf.Leaf.{Leaf}
use Rattle.rela_rir.specs.Assertions.{both_of, either_of, opposite_of}
use Rattle.rela_rir.specs.NamedSymbols.{symbols_of_terms}
use Rattle.rela_rir.specs.Places.{Scene}
use Rattle.rela_rir.specs.declared.assertion.Assertion.{Assertion}
use Rattle.rela_rir.specs.declared.value.Value.{Value}
use Rattle.rela_claims.specs.Named.{symbols_in_tree, tree_layer_symbols}
use Rattle.rela_claims.specs.declared.claim.Tree.{Tree}
use Rattle.rela_claims.specs.declared.claim.Tree.TheVariants as B
use Rattle.rela_claims.specs.declared.claim.Tree.TheOpen as T
use Rattle.rela_claims.specs.declared.claim.Tree.TheViews.{roll-Tree}
use Rattle.rela_claims.specs.declared.claim.Tree.TheFolds.{map-Tree, fold-roll-Tree, rec-roll-Tree}
use Rattle.rela_assertions.specs.Rows.{IsDecided}
use Rattle.rela_assertions.specs.Values.{HasValue, IsJoined, layer_leaves, layer_value, leaves_of}
use Rattle.rela_assertions.proofs.Zips.{zip_append}

leaves_roll : (y : T.Tree-F Tree) → leaves_of (roll-Tree y) ≡ layer_leaves (map-Tree Tree (List Assertion) leaves_of y)
leaves_roll y = fold-roll-Tree (List Assertion) layer_leaves y

natural : (X : Type 0) (v : X → Tree) (k : Tree → List Value → Value → Type 0) (y : T.Tree-F X) → layer_value (λ p. k (v p)) y ≡ layer_value k (map-Tree X Tree v y)
natural X v k (T.Leaf assertion) = refl
natural X v k (T.And a b) = refl
natural X v k (T.Or a b) = refl
natural X v k (T.Not a) = refl

-- what a tree of a form has, by the form
pub value_roll : (y : T.Tree-F Tree) → HasValue (roll-Tree y) ≡ layer_value HasValue y
value_roll y = rec-roll-Tree (List Value → Value → Type 0) (λ X _ part layer. layer_value part layer) natural y

-- what a tree of this form has
by_form : (tree : Tree) (y : T.Tree-F Tree) (values : List Value) (value : Value) → tree ≡ roll-Tree y → layer_value HasValue y values value → HasValue tree values value
by_form tree y values value is has =
    subst (λ (t : Tree). HasValue t values value) (sym is) (subst (λ (H : List Value → Value → Type 0). H values value) (sym (value_roll y)) has)

module _ (m : Scene) (states : ℕ) where
  abbrev Decided : Tree → List Leaf → List Leaf → Value → Type 0
  Decided = IsDecided m states

  abbrev Told : List Assertion → List Leaf → Type 0
  Told = AllZip (λ leaf told. LeafOf m leaf states told)

  pub leaf_decided : (tree : Tree) (assertion : Assertion) (old new : List Leaf) (leaf : Leaf) (value : Value) → tree ≡ B.Leaf assertion → new ≡ old ++ leaf ∷ [] → LeafOf m assertion states leaf
      → value ≡ value_of leaf → Decided tree old new value
  leaf_decided tree assertion old new leaf value form is told known =
      let rolled : tree ≡ roll-Tree (T.Leaf assertion) = form ∙ sym (B.rolls-Leaf assertion) in
      record {
        told = record {
          made = leaf ∷ [];
          is = is;
          each = subst (λ (ls : List Assertion). Told ls (leaf ∷ [])) (sym (ap leaves_of rolled ∙ leaves_roll (T.Leaf assertion))) (told, tt);
        };
        is = by_form tree (T.Leaf assertion) (value_of leaf ∷ []) value rolled (ap (λ v. v ∷ []) (sym known));
      }

  module _ (a b : Tree) (old middle new : List Leaf) (first second : Value) (one : IsDecided m states a old middle first) (two : IsDecided m states b middle new second) where
    abbrev made : List Leaf
    made = one.told.made ++ two.told.made

    made_is : new ≡ old ++ made
    made_is = two.told.is ∙ ap (λ l. l ++ two.told.made) one.told.is ∙ append_assoc old one.told.made two.told.made

    joined : (join : Value → Value → Value) → IsJoined join (HasValue a) (HasValue b) (map value_of made) (join first second)
    joined join = record {
      front = map value_of one.told.made;
      back = map value_of two.told.made;
      first = first;
      second = second;
      split = map-append value_of one.told.made two.told.made;
      of_first = one.is;
      of_second = two.is;
      is = refl;
    }

    put_together : (tree : Tree) (y : T.Tree-F Tree) (join : Value → Value → Value) → tree ≡ roll-Tree y → leaves_of (roll-Tree y) ≡ leaves_of a ++ leaves_of b
        → (layer_value HasValue y (map value_of made) (join first second)) → Decided tree old new (join first second)
    put_together tree y join rolled leaves has = record {
      told = record {
        made = made;
        is = made_is;
        each = subst (λ (ls : List Assertion). Told ls made) (sym (ap leaves_of rolled ∙ leaves))
            (zip_append (λ leaf told. LeafOf m leaf states told) (leaves_of a) (leaves_of b) one.told.made two.told.made one.told.each two.told.each);
      };
      is = by_form tree y (map value_of made) (join first second) rolled has;
    }

    pub and_decided : (tree : Tree) → tree ≡ B.And a b → Decided tree old new (both_of first second)
    and_decided tree form = put_together tree (T.And a b) both_of (form ∙ sym (B.rolls-And a b)) (leaves_roll (T.And a b)) (joined both_of)

    pub or_decided : (tree : Tree) → tree ≡ B.Or a b → Decided tree old new (either_of first second)
    or_decided tree form = put_together tree (T.Or a b) either_of (form ∙ sym (B.rolls-Or a b)) (leaves_roll (T.Or a b)) (joined either_of)

  pub not_decided : (tree a : Tree) (old new : List Leaf) (value : Value) → tree ≡ B.Not a → Decided a old new value → Decided tree old new (opposite_of value)
  not_decided tree a old new value form one =
      let rolled : tree ≡ roll-Tree (T.Not a) = form ∙ sym (B.rolls-Not a) in
      record {
        told = record {
          made = one.told.made;
          is = one.told.is;
          each = subst (λ (ls : List Assertion). Told ls one.told.made) (sym (ap leaves_of rolled ∙ leaves_roll (T.Not a))) one.told.each;
        };
        is = by_form tree (T.Not a) (map value_of one.told.made) (opposite_of value) rolled (value, one.is, refl);
      }

-- ---- which symbols a tree names by themselves

named_roll : (y : T.Tree-F Tree) → symbols_in_tree (roll-Tree y) ≡ tree_layer_symbols (map-Tree Tree (List ℕ) symbols_in_tree y)
named_roll y = fold-roll-Tree (List ℕ) tree_layer_symbols y

both_empty : (xs ys : List ℕ) → xs ++ ys ≡ [] → (xs ≡ []) × (ys ≡ [])
both_empty [] ys none = (refl, none)
both_empty (x ∷ xs) ys none = absurd (cc)

by_shape : (tree : Tree) (y : T.Tree-F Tree) → tree ≡ roll-Tree y → symbols_in_tree tree ≡ [] → tree_layer_symbols (map-Tree Tree (List ℕ) symbols_in_tree y) ≡ []
by_shape tree y is none = sym (ap symbols_in_tree is ∙ named_roll y) ∙ none

pub leaf_plain : (tree : Tree) (assertion : Assertion) → tree ≡ B.Leaf assertion → symbols_in_tree tree ≡ [] → symbols_of_terms assertion ≡ []
leaf_plain tree assertion form none = by_shape tree (T.Leaf assertion) (form ∙ sym (B.rolls-Leaf assertion)) none

pub and_plain : (tree a b : Tree) → tree ≡ B.And a b → symbols_in_tree tree ≡ [] → (symbols_in_tree a ≡ []) × (symbols_in_tree b ≡ [])
and_plain tree a b form none = both_empty (symbols_in_tree a) (symbols_in_tree b) (by_shape tree (T.And a b) (form ∙ sym (B.rolls-And a b)) none)

pub or_plain : (tree a b : Tree) → tree ≡ B.Or a b → symbols_in_tree tree ≡ [] → (symbols_in_tree a ≡ []) × (symbols_in_tree b ≡ [])
or_plain tree a b form none = both_empty (symbols_in_tree a) (symbols_in_tree b) (by_shape tree (T.Or a b) (form ∙ sym (B.rolls-Or a b)) none)

pub not_plain : (tree a : Tree) → tree ≡ B.Not a → symbols_in_tree tree ≡ [] → symbols_in_tree a ≡ []
not_plain tree a form none = by_shape tree (T.Not a) (form ∙ sym (B.rolls-Not a)) none
