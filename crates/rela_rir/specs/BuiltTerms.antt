-- The states of what is built of the machines of a term's parts stand for the places of the term, form by form, by a
-- table. It is exact over as many states as are added up, where those of the parts are exact.
use Rattle.std.specs.Prelude.{◌≡◌, ℕ, ◌+◌, ◌<◌, ◌↔◌, Option, List, [], length}
use Rattle.rela_rir.specs.Words.{Concatenation, Star, PairConcatenation, PairStar}
use Rattle.rela_rir.specs.Meaning.{In, InR, IsInClass}
use Rattle.rela_rir.specs.Places.{Place, NoParts, PartsApart, PathSetPlaces}
use Rattle.rela_rir.specs.Tables.{IsTable, IsExact, OnPairs, IsPlacedWhere, IsPlacedWhereR, ReachTogether, ReachFromSource, ReachByMiddle}
use Rattle.rela_rir.specs.Built.{IsEmptyPair, OneState, LetterStates, SideBySide, UnionStates, StarStates, NumberedPairs, PathStates, ComplementStates, TellsAll}
use Rattle.rela_rir.specs.Machines.{Machines}
use Rattle.rela_rir.specs.declared.term.PathTerm.{PathTerm}
use Rattle.rela_rir.specs.declared.term.RelTerm.{RelTerm}
use Rattle.rela_rir.specs.declared.term.PathTerm.TheVariants as P
use Rattle.rela_rir.specs.declared.term.RelTerm.TheVariants as R

-- The n states of the automaton stand for places of the path term in the scene.
abbrev pub Stand : (M : Machines) → M.scene.Name → PathTerm → ℕ → M.Automaton → Type 0
Stand M at x n a = IsPlacedWhere M.exactly n (M.scene.of at) x (M.reach a)

-- The n states of the transducer stand for places of the relation term in the scene.
abbrev pub StandR : (M : Machines) → M.scene.Name → RelTerm → ℕ → M.Transducer → Type 0
StandR M at r n t = IsPlacedWhereR M.exactly n (M.scene.of at) r (M.reach_pair t)

-- Path terms that have no parts.
pub record ArePlacedLeaves (M : Machines) (at : M.scene.Name) (u : M.Automaton) : Type 0 where
  pub none : OneState (M.reach u) → Stand M at P.None 1 u
  pub empty : OneState (M.reach u) → Stand M at P.Empty 1 u
  pub class : (entry : ℕ) → LetterStates (IsInClass (M.scene.of at).setting entry) (M.reach u) →
      Stand M at (P.Class entry) 2 u
  pub one : (s : ℕ) → LetterStates (λ t. t ≡ s) (M.reach u) → Stand M at (P.One s) 2 u
  pub before : (n : ℕ) → PathStates n (M.scene.of at).pre (M.reach u) →
      (M.exactly → (k : ℕ) (w : List ℕ) → (M.scene.of at).pre.at_node k w → k < n) →
      Stand M at P.Pre (2 + n) u
  pub after : (n : ℕ) → PathStates n (M.scene.of at).post (M.reach u) →
      (M.exactly → (k : ℕ) (w : List ℕ) → (M.scene.of at).post.at_node k w → k < n) →
      Stand M at P.Post (2 + n) u

-- Path terms that are built of an automaton a for x, and of another for y or a transducer for r. That of the whole is
-- u.
pub record ArePlacedSets (M : Machines) (at : M.scene.Name) (x : PathTerm) (n : ℕ)
    (a u : M.Automaton) : Type 0 where
  pub star : StarStates (λ w. w ≡ [])
      (λ q. Concatenation (Star (In (M.scene.of at).setting x)) (M.reach a q)) (M.reach u) →
      Stand M at (P.Star x) (1 + n) u
  pub complement : (count : ℕ) →
      (states : ComplementStates (M.scene.of at).setting.path_symbols (M.reach a) (M.reach u)) →
      (M.exactly → TellsAll (M.scene.of at).setting.path_symbols count states.after (M.reach a)) →
      Stand M at (P.Complement x) count u
  pub union : (y : PathTerm) (k : ℕ) (b : M.Automaton) → Stand M at y k b →
      UnionStates (λ w. w ≡ []) n (M.reach a) (M.reach b) (M.reach u) →
      Stand M at (P.Union x y) (1 + (n + k)) u
  pub concat : (y : PathTerm) (k : ℕ) (b : M.Automaton) → Stand M at y k b →
      SideBySide n (M.reach a)
      (λ q. Concatenation (In (M.scene.of at).setting x) (M.reach b q)) (M.reach u) →
      Stand M at (P.Concat x y) (n + k) u
  pub meet : (y : PathTerm) (k : ℕ) (b : M.Automaton) → Stand M at y k b →
      (pairs : List (ℕ × ℕ)) →
      NumberedPairs pairs (ReachTogether (M.reach a) (M.reach b)) (M.reach u) →
      Stand M at (P.Meet x y) (length pairs) u
  pub image : (r : RelTerm) (k : ℕ) (t : M.Transducer) → StandR M at r k t →
      (pairs : List (ℕ × ℕ)) →
      NumberedPairs pairs (ReachFromSource (M.reach a) (M.reach_pair t)) (M.reach u) →
      Stand M at (P.Image x r) (length pairs) u

-- Relation terms that are built of an automaton a for x, and of another for y, likewise.
pub record ArePlacedProducts (M : Machines) (at : M.scene.Name) (x : PathTerm) (n : ℕ)
    (a : M.Automaton) (u : M.Transducer) : Type 0 where
  pub identity : ((q : ℕ) (v w : List ℕ) → M.reach_pair u q v w ↔ ((v ≡ w) × M.reach a q v)) →
      StandR M at (R.Identity x) n u
  pub product : (y : PathTerm) (k : ℕ) (b : M.Automaton) → Stand M at y k b →
      SideBySide n (OnPairs (λ q v w. M.reach a q v × (w ≡ [])))
      (OnPairs (λ q v w. In (M.scene.of at).setting x v × M.reach b q w))
      (OnPairs (M.reach_pair u)) →
      StandR M at (R.Product x y) (n + k) u

-- Relation terms that are built of a transducer t for r, and of another for s, likewise.
pub record ArePlacedRelations (M : Machines) (at : M.scene.Name) (r : RelTerm) (n : ℕ)
    (t u : M.Transducer) : Type 0 where
  pub star : StarStates IsEmptyPair (OnPairs
      (λ q. PairConcatenation (PairStar (InR (M.scene.of at).setting r)) (M.reach_pair t q)))
      (OnPairs (M.reach_pair u)) →
      StandR M at (R.Star r) (1 + n) u
  pub union : (s : RelTerm) (k : ℕ) (b : M.Transducer) → StandR M at s k b →
      UnionStates IsEmptyPair n (OnPairs (M.reach_pair t)) (OnPairs (M.reach_pair b))
      (OnPairs (M.reach_pair u)) →
      StandR M at (R.Union r s) (1 + (n + k)) u
  pub concat : (s : RelTerm) (k : ℕ) (b : M.Transducer) → StandR M at s k b →
      SideBySide n (OnPairs (M.reach_pair t)) (OnPairs
      (λ q. PairConcatenation (InR (M.scene.of at).setting r) (M.reach_pair b q)))
      (OnPairs (M.reach_pair u)) →
      StandR M at (R.Concat r s) (n + k) u
  pub compose : (s : RelTerm) (k : ℕ) (b : M.Transducer) → StandR M at s k b →
      (pairs : List (ℕ × ℕ)) →
      NumberedPairs pairs (OnPairs (ReachByMiddle (M.reach_pair t) (M.reach_pair b)))
      (OnPairs (M.reach_pair u)) →
      StandR M at (R.Compose r s) (length pairs) u

-- All of these, for each scene and each machine that has a name.
pub record BuiltTerms (M : Machines) : Type 0 where
  pub leaves : (at : M.scene.Name) (u : M.Automaton) → ArePlacedLeaves M at u
  pub sets : (at : M.scene.Name) (x : PathTerm) (n : ℕ) (a u : M.Automaton) → Stand M at x n a →
      ArePlacedSets M at x n a u
  pub products : (at : M.scene.Name) (x : PathTerm) (n : ℕ) (a : M.Automaton) (u : M.Transducer) →
      Stand M at x n a → ArePlacedProducts M at x n a u
  pub relations : (at : M.scene.Name) (r : RelTerm) (n : ℕ) (t u : M.Transducer) →
      StandR M at r n t → ArePlacedRelations M at r n t u

-- The states of an automaton of the paths before a change stand for the places of a path set.
pub record ArePathPlaces (M : Machines) (at : M.scene.Name) (n : ℕ) (u : M.Automaton) : Type 0 where
  pub table : Place → Option ℕ
  pub is_table : IsTable (M.reach u) (PathSetPlaces (M.scene.of at).pre)
      (PartsApart NoParts NoParts) table
  pub exact : ((k : ℕ) (w : List ℕ) → (M.scene.of at).pre.at_node k w → k < n) →
      IsExact (2 + n) (M.reach u) (PathSetPlaces (M.scene.of at).pre) table

-- These, for each scene and each automaton that has a name.
abbrev pub PathPlaces : Machines → Type 0
PathPlaces M = (at : M.scene.Name) (n : ℕ) (u : M.Automaton) →
    PathStates n (M.scene.of at).pre (M.reach u) → ArePathPlaces M at n u
