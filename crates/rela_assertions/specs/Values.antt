-- What is known of a tree of assertions, by what is known of each of them.
use Rattle.std.specs.Prelude.{◌≡◌, List, [], ◌∷◌, ◌++◌}
use Rattle.rela_rir.specs.Assertions.{both_of, either_of, opposite_of}
use Rattle.rela_rir.specs.declared.assertion.Assertion.{Assertion}
use Rattle.rela_rir.specs.declared.value.Value.{Value}
use Rattle.rela_claims.specs.declared.claim.Tree.{Tree}
use Rattle.rela_claims.specs.declared.claim.Tree.TheOpen.{Tree-F, Leaf, And, Or, Not}
use Rattle.rela_claims.specs.declared.claim.Tree.TheFolds.{fold-Tree, rec-Tree}

abbrev pub layer_leaves : Tree-F (List Assertion) → List Assertion
layer_leaves (Leaf assertion) = assertion ∷ []
layer_leaves (And a b) = a ++ b
layer_leaves (Or a b) = a ++ b
layer_leaves (Not a) = a

-- the assertions of a tree, from left to right
abbrev pub leaves_of : Tree → List Assertion
leaves_of = fold-Tree (List Assertion) layer_leaves

-- the values of two trees, one behind the other, are split between them, and what is known of each is joined
pub record IsJoined (join : Value → Value → Value) (A B : List Value → Value → Type 0)
    (values : List Value) (value : Value) : Type 0 where
  pub front : List Value
  pub back : List Value
  pub first : Value
  pub second : Value
  pub split : values ≡ front ++ back
  pub of_first : A front first
  pub of_second : B back second
  pub is : value ≡ join first second

abbrev pub IsTurned : (List Value → Value → Type 0) → List Value → Value → Type 0
IsTurned A values value = (inner : Value) × A values inner × (value ≡ opposite_of inner)

module _ {X : Type 0} (part : X → List Value → Value → Type 0) where
  abbrev pub layer_value : Tree-F X → List Value → Value → Type 0
  layer_value (Leaf assertion) values value = values ≡ value ∷ []
  layer_value (And a b) values value = IsJoined both_of (part a) (part b) values value
  layer_value (Or a b) values value = IsJoined either_of (part a) (part b) values value
  layer_value (Not a) values value = IsTurned (part a) values value

-- where these are known of the leaves of a tree, from left to right, this is known of the tree
abbrev pub HasValue : Tree → List Value → Value → Type 0
HasValue = rec-Tree (List Value → Value → Type 0) (λ X _ part layer. layer_value part layer)
