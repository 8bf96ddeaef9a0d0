-- How the states of an automaton or a transducer stand for the places of a term. Of the machine only
-- this is given: which words, or pairs of words, reach each of its states.
use Rattle.std.specs.Prelude.{◌≡◌, ◌≢◌, ℕ, ◌<◌, ◌↔◌, List, length, Option, Some, All, AllPairs}
use Rattle.rela_rir.specs.Places.{Place, Tells, Scene, At, AtR, Apart, ApartR, JustOne}
use Rattle.rela_rir.specs.Limit.{IsCheckWord}
use Rattle.rela_rir.specs.declared.term.PathTerm.{PathTerm}
use Rattle.rela_rir.specs.declared.term.RelTerm.{RelTerm}

-- a place to which the table gives the state, and which is reached
pub record StandsAt {Q I : Type 0} (table : Place → Option Q) (at : Place → I → Type 0)
    (q : Q) (i : I) : Type 0 where
  pub place : Place
  pub entry : table place ≡ Some q
  pub reached : at place i

-- The table tells which places each state stands for: a state is reached by just what reaches one of its
-- places, and places with different states are apart. Some places may have no state.
pub record IsTable {Q I : Type 0} (reach : Q → I → Type 0) (at : Place → I → Type 0)
    (tells : Tells) (table : Place → Option Q) : Type 0 where
  pub reached : (q : Q) (i : I) → reach q i ↔ StandsAt table at q i
  pub apart : (p r : Place) (k l : Q) → table p ≡ Some k → table r ≡ Some l → k ≢ l → tells p r

-- The table is exact over n states: each place that is reached has a state, and a state is reached by just
-- what reaches any of its places.
pub record IsExact {I : Type 0} (n : ℕ) (reach : ℕ → I → Type 0) (at : Place → I → Type 0)
    (table : Place → Option ℕ) : Type 0 where
  pub below : (p : Place) (q : ℕ) → table p ≡ Some q → q < n
  pub entered : (p : Place) (i : I) → at p i → (q : ℕ) × (table p ≡ Some q)
  pub only : (p : Place) (q : ℕ) (i : I) → table p ≡ Some q → reach q i → at p i

-- a relation of states to pairs of words, of the pairs as one
abbrev pub OnPairs : {Q : Type 0} → (Q → List ℕ → List ℕ → Type 0) → Q → List ℕ × List ℕ → Type 0
OnPairs reach q x = reach q x.0 x.1

-- states that are reached so stand for places of the path term
pub record IsPlaced (m : Scene) (x : PathTerm) (reach : ℕ → List ℕ → Type 0) : Type 0 where
  pub table : Place → Option ℕ
  pub is_table : IsTable reach (At m x) (Apart m x) table

-- states that are reached so stand for places of the relation term
pub record IsPlacedR (m : Scene) (r : RelTerm) (reach : ℕ → List ℕ → List ℕ → Type 0) : Type 0 where
  pub table : Place → Option ℕ
  pub is_table : IsTable (OnPairs reach) (OnPairs (AtR m r)) (ApartR m r) table

-- they do so by a table that is exact over n states where `exactly` holds
pub record IsPlacedWhere (exactly : Type 0) (n : ℕ) (m : Scene) (x : PathTerm)
    (reach : ℕ → List ℕ → Type 0) : Type 0 where
  pub table : Place → Option ℕ
  pub is_table : IsTable reach (At m x) (Apart m x) table
  pub exact : exactly → IsExact n reach (At m x) table

-- likewise of a relation term
pub record IsPlacedWhereR (exactly : Type 0) (n : ℕ) (m : Scene) (r : RelTerm)
    (reach : ℕ → List ℕ → List ℕ → Type 0) : Type 0 where
  pub table : Place → Option ℕ
  pub is_table : IsTable (OnPairs reach) (OnPairs (AtR m r)) (ApartR m r) table
  pub exact : exactly → IsExact n (OnPairs reach) (OnPairs (AtR m r)) table

-- some word of path symbols and markers reaches the state
abbrev pub IsStateReached : {Q : Type 0} → Scene → (Q → List ℕ → Type 0) → Q → Type 0
IsStateReached m reach q = (w : List ℕ) × IsCheckWord m w × reach q w

-- some pair of such words reaches the state
abbrev pub IsStateReachedR : {Q : Type 0} → Scene → (Q → List ℕ → List ℕ → Type 0) → Q → Type 0
IsStateReachedR m reach q = (u v : List ℕ) × IsCheckWord m u × IsCheckWord m v × reach q u v

-- one word reaches both states of a pair
abbrev pub ReachTogether : (ℕ → List ℕ → Type 0) → (ℕ → List ℕ → Type 0) → ℕ × ℕ → List ℕ → Type 0
ReachTogether first second q w = first q.0 w × second q.1 w

-- some source reaches the first state of a pair, and from it the word is written to the second
abbrev pub ReachFromSource : (ℕ → List ℕ → Type 0) → (ℕ → List ℕ → List ℕ → Type 0) →
    ℕ × ℕ → List ℕ → Type 0
ReachFromSource first second q v = (source : List ℕ) × first q.0 source × second q.1 source v

-- some word in the middle is written to the first state of a pair, and read to the second
abbrev pub ReachByMiddle : (ℕ → List ℕ → List ℕ → Type 0) → (ℕ → List ℕ → List ℕ → Type 0) →
    ℕ × ℕ → List ℕ → List ℕ → Type 0
ReachByMiddle first second q u v = (middle : List ℕ) × first q.0 u middle × second q.1 middle v

-- k states, no two of which are equal, and each has P
pub record ManyStates {Q : Type 0} (P : Q → Type 0) (k : ℕ) : Type 0 where
  pub states : List Q
  pub many : length states ≡ k
  pub different : AllPairs ◌≢◌ states
  pub each : All P states

-- some state is reached by just one of the two words
abbrev pub ToldByState : (ℕ → List ℕ → Type 0) → List ℕ → List ℕ → Type 0
ToldByState reach w z = (q : ℕ) × JustOne (reach q w) (reach q z)

-- k words with P, of which each two are told apart
pub record ManyWords (P : List ℕ → Type 0) (told : List ℕ → List ℕ → Type 0) (k : ℕ) : Type 0 where
  pub words : List (List ℕ)
  pub many : length words ≡ k
  pub each : All P words
  pub apart : AllPairs told words
