-- How many reached places a term has, by the reached states that stand for them, and which states stand for the
-- same places.
use Rattle.std.specs.Prelude.{ℕ, ◌↔◌, ◌⊎◌, Option, List}
use Rattle.std.specs.Option.{ForSome}
use Rattle.rela_names.specs.Shortlex.{IsBefore}
use Rattle.rela_rir.specs.Agreement.{AgreeOn, AgreeOnR}
use Rattle.rela_rir.specs.Limit.{IsCheckWord, Reached, ReachedR, ReachedPair}
use Rattle.rela_rir.specs.Machines.{Machines}
use Rattle.rela_rir.specs.Meaning.{IsPathWord}
use Rattle.rela_rir.specs.Places.{At, AtR, Place}
use Rattle.rela_rir.specs.Tables.{IsExact, IsPlaced, IsPlacedR, IsPlacedWhere, IsPlacedWhereR, IsStateReached, IsStateReachedR, ReachTogether, ReachFromSource, ReachByMiddle, ManyStates, OnPairs, ToldByState, ManyWords}
use Rattle.rela_rir.specs.declared.term.PathTerm.{PathTerm}
use Rattle.rela_rir.specs.declared.term.RelTerm.{RelTerm}
use Rattle.rela_rir.specs.declared.term.PathTerm.TheVariants as P
use Rattle.rela_rir.specs.declared.term.RelTerm.TheVariants as R

-- the states of the automaton, or of the transducer, stand for places of the term in the scene
abbrev pub StandFor : (M : Machines) → M.scene.Name → PathTerm → M.Automaton → Type 0
StandFor M at x a = IsPlaced (M.scene.of at) x (M.reach a)

abbrev pub StandForR : (M : Machines) → M.scene.Name → RelTerm → M.Transducer → Type 0
StandForR M at r t = IsPlacedR (M.scene.of at) r (M.reach_pair t)

-- A term has as many reached places as there are reached states. A meet, an image or a composition has as many as
-- there are pairs of states of its parts that are reached by one word, from one source or by one word in the middle.
-- A complement has as many as there are words of path symbols, each two of which are told apart by a state of its
-- part. Words that are told apart by states of two automata are told apart by places of the two terms.
pub record ReachedTerms (M : Machines) (at : M.scene.Name) : Type 0 where
  pub paths : (x : PathTerm) (a : M.Automaton) → StandFor M at x a → (k : ℕ) →
      ManyStates (IsStateReached (M.scene.of at) (M.reach a)) k → Reached (M.scene.of at) x k
  pub relations : (r : RelTerm) (t : M.Transducer) → StandForR M at r t → (k : ℕ) →
      ManyStates (IsStateReachedR (M.scene.of at) (M.reach_pair t)) k → ReachedR (M.scene.of at) r k
  pub meet : (x y : PathTerm) (a b : M.Automaton) →
      StandFor M at x a → StandFor M at y b → (k : ℕ) →
      ManyStates (IsStateReached (M.scene.of at) (ReachTogether (M.reach a) (M.reach b))) k →
      Reached (M.scene.of at) (P.Meet x y) k
  pub image : (x : PathTerm) (r : RelTerm) (a : M.Automaton) (t : M.Transducer) →
      StandFor M at x a → StandForR M at r t → (k : ℕ) →
      ManyStates (IsStateReached (M.scene.of at) (ReachFromSource (M.reach a) (M.reach_pair t))) k →
      Reached (M.scene.of at) (P.Image x r) k
  pub compose : (r s : RelTerm) (t u : M.Transducer) →
      StandForR M at r t → StandForR M at s u → (k : ℕ) →
      ManyStates (IsStateReachedR (M.scene.of at)
      (ReachByMiddle (M.reach_pair t) (M.reach_pair u))) k →
      ReachedR (M.scene.of at) (R.Compose r s) k
  pub complement : (x : PathTerm) (a : M.Automaton) → StandFor M at x a → (k : ℕ) →
      ManyWords (IsPathWord (M.scene.of at).setting.path_symbols) (ToldByState (M.reach a)) k →
      Reached (M.scene.of at) (P.Complement x) k
  pub comparison : (last : Option (List ℕ)) (x y : PathTerm) (a b : M.Automaton) →
      StandFor M at x a → StandFor M at y b → (k : ℕ) →
      ManyWords (λ w. IsCheckWord (M.scene.of at) w × ForSome last (λ end. ¬ IsBefore end w))
      (λ w z. ToldByState (M.reach a) w z ⊎ ToldByState (M.reach b) w z) k →
      ReachedPair (M.scene.of at) last x y k

-- Two scenes that agree on what a term names have the same tables for it: by the same states, exact or not. States
-- that are reached by the same words, or pairs of words, stand for the same places.
pub record CarriedTables (M : Machines) : Type 0 where
  pub paths : (at other : M.scene.Name) (x : PathTerm) (a : M.Automaton) →
      AgreeOn (M.scene.of at) (M.scene.of other) x → StandFor M at x a ↔ StandFor M other x a
  pub relations : (at other : M.scene.Name) (r : RelTerm) (t : M.Transducer) →
      AgreeOnR (M.scene.of at) (M.scene.of other) r → StandForR M at r t ↔ StandForR M other r t
  pub counted : (at other : M.scene.Name) (x : PathTerm) (n : ℕ) (a : M.Automaton) →
      AgreeOn (M.scene.of at) (M.scene.of other) x →
      IsPlacedWhere M.exactly n (M.scene.of at) x (M.reach a)
      ↔ IsPlacedWhere M.exactly n (M.scene.of other) x (M.reach a)
  pub counted_relations : (at other : M.scene.Name) (r : RelTerm) (n : ℕ) (t : M.Transducer) →
      AgreeOnR (M.scene.of at) (M.scene.of other) r →
      IsPlacedWhereR M.exactly n (M.scene.of at) r (M.reach_pair t)
      ↔ IsPlacedWhereR M.exactly n (M.scene.of other) r (M.reach_pair t)
  pub exact : (at other : M.scene.Name) (x : PathTerm) (n : ℕ) (a : M.Automaton)
      (table : Place → Option ℕ) → AgreeOn (M.scene.of at) (M.scene.of other) x →
      IsExact n (M.reach a) (At (M.scene.of at) x) table
      ↔ IsExact n (M.reach a) (At (M.scene.of other) x) table
  pub exact_relations : (at other : M.scene.Name) (r : RelTerm) (n : ℕ) (t : M.Transducer)
      (table : Place → Option ℕ) → AgreeOnR (M.scene.of at) (M.scene.of other) r →
      IsExact n (OnPairs (M.reach_pair t)) (OnPairs (AtR (M.scene.of at) r)) table
      ↔ IsExact n (OnPairs (M.reach_pair t)) (OnPairs (AtR (M.scene.of other) r)) table
  pub alike : (at : M.scene.Name) (x : PathTerm) (a b : M.Automaton) →
      ((q : ℕ) (w : List ℕ) → M.reach a q w ↔ M.reach b q w) →
      StandFor M at x a → StandFor M at x b
  pub relations_alike : (at : M.scene.Name) (r : RelTerm) (t u : M.Transducer) →
      ((q : ℕ) (v w : List ℕ) → M.reach_pair t q v w ↔ M.reach_pair u q v w) →
      StandForR M at r t → StandForR M at r u
