-- Classes of states in the course of their refinement.
use Rattle.std.specs.Prelude.{◌≡◌, ◌≢◌, ℕ, ◌+◌, ◌<◌, ◌≤◌, ◌⊎◌, ◌==◌, Bool, true, false, List, [], ◌∷◌, ◌++◌, length, map, replicate, Contains, slice_index, slice_index_or, if◌then◌else◌}
use Rattle.std.specs.List.{All}
use Rattle.rela_labels.specs.Letters.{has}
use Rattle.rela_subset.specs.Deterministic.{Deterministic, IsDeterministic, moves_of, next, states}
use Rattle.rela_nfa.specs.Automaton.{Move}
use Rattle.rela_minimise.specs.Classes.{AcceptSame, finality}

-- from each state the two letters lead to the same state
abbrev pub LeadAlike : Deterministic → ℕ → ℕ → Type 0
LeadAlike d j k = (q : ℕ) → q < states d → next d q j ≡ next d q k

-- a state for each state
pub record IsMap (n : ℕ) (column : List ℕ) : Type 0 where
  pub each : length column ≡ n
  pub within : All (λ q. q < n) column

-- the state to which the letter leads from each state
pub record IsColumn (d : Deterministic) (k : ℕ) (column : List ℕ) : Type 0 where
  pub map_of : IsMap (states d) column
  pub leads : (q : ℕ) → q < states d → slice_index column q ≡ next d q k

-- where letters lead that are read; each such letter leads as one of the columns says
pub record AreColumns (d : Deterministic) (columns : List (List ℕ)) : Type 0 where
  pub maps : All (IsMap (states d)) columns
  pub own : All (λ column. (k : ℕ) × (has d.over k ≡ true) × IsColumn d k column) columns
  pub each : (k : ℕ) → has d.over k ≡ true → (column : List ℕ) × Contains columns column
      × IsColumn d k column

-- whether the state is final, and the class of the state to which each column leads from it
abbrev pub signature : Deterministic → List (List ℕ) → List ℕ → ℕ → List ℕ
signature d columns classes q = (if finality d q then 1 else 0) ∷ map (λ column.
    slice_index classes (slice_index column q)) columns

-- the number of each state's class, states of each class, the signature of each class, and for each state whether it is
-- stale, since its signature may no longer be that of its class
pub record Stage : Type 0 where
  pub classes : List ℕ
  pub members : List (List ℕ)
  pub signatures : List (List ℕ)
  pub stale : List Bool

abbrev pub class_of : Stage → ℕ → ℕ
class_of s q = slice_index s.classes q

abbrev pub is_stale : List Bool → ℕ → Bool
is_stale stale q = slice_index_or stale q false

-- a state of the class that is not stale
pub record IsSettledIn (classes : List ℕ) (stale : List Bool) (class q : ℕ) : Type 0 where
  pub state : q < length classes
  pub own : slice_index classes q ≡ class
  pub fresh : is_stale stale q ≡ false

-- each list is as long as it should be, each state that is not stale has its class's signature, and is among the members of its class
pub record IsSound (d : Deterministic) (columns : List (List ℕ)) (s : Stage) : Type 0 where
  pub each : length s.classes ≡ states d
  pub flagged : length s.stale ≡ states d
  pub signed : length s.signatures ≡ length s.members
  pub counted : (q : ℕ) → q < states d → class_of s q < length s.members
  pub within : (c : ℕ) → All (λ q. q < states d) (slice_index_or s.members c [])
  pub held : (q : ℕ) → q < states d → is_stale s.stale q ≡ false →
      Contains (slice_index_or s.members (class_of s q) []) q
  pub settled : (q : ℕ) → q < states d → is_stale s.stale q ≡ false →
      signature d columns s.classes q ≡ slice_index_or s.signatures (class_of s q) []

-- states that accept the same words, or have the same signature, are in one class, and each class has a state
pub record IsCoarse (d : Deterministic) (columns : List (List ℕ)) (s : Stage) : Type 0 where
  pub accepting : (p q : ℕ) → p < states d → q < states d → AcceptSame d p q →
      class_of s p ≡ class_of s q
  pub signing : (p q : ℕ) → p < states d → q < states d → signature d columns s.classes p
      ≡ signature d columns s.classes q → class_of s p ≡ class_of s q
  pub met : (c : ℕ) → c < length s.members → (q : ℕ) × (q < states d) × (class_of s q ≡ c)

-- the states of one class have one signature
abbrev pub IsStable : Deterministic → List (List ℕ) → Stage → Type 0
IsStable d columns s = (p q : ℕ) → p < states d → q < states d → class_of s p ≡ class_of s q →
    signature d columns s.classes p ≡ signature d columns s.classes q

-- each stale state is in the list, which has states alone
pub record AreWaiting (n : ℕ) (stale : List Bool) (waiting : List ℕ) : Type 0 where
  pub listed : (q : ℕ) → is_stale stale q ≡ true → Contains waiting q
  pub states : All (λ q. q < n) waiting

-- a state stays in its class if it has the signature of the class, and goes to the new class of its signature otherwise
abbrev pub Goes : Deterministic → List (List ℕ) → Stage → List (List ℕ) → ℕ → ℕ → Type 0
Goes d columns s found q class =
    ((signature d columns s.classes q ≡ slice_index_or s.signatures (class_of s q) [])
    × (class ≡ class_of s q))
    ⊎ ((signature d columns s.classes q ≢ slice_index_or s.signatures (class_of s q) [])
    × ((j : ℕ) × (j < length found) × (slice_index_or found j [] ≡ signature d columns s.classes q)
    × (class ≡ length s.members + j)))

-- for each state, the states from which an edge leads to it
pub record ArePredecessors (d : Deterministic) (lists : List (List ℕ)) : Type 0 where
  pub each : length lists ≡ states d
  pub all : (p : ℕ) (move : Move) → p < states d → Contains (moves_of d p) move →
      Contains (slice_index_or lists move.to []) p
  pub within : (q : ℕ) → All (λ p. p < states d) (slice_index_or lists q [])

-- the state has been put into the list of the end of each of the edges
pub record HasAdded (moves : List Move) (p : ℕ) (lists lists' : List (List ℕ)) : Type 0 where
  pub each : length lists' ≡ length lists
  pub kept : (q r : ℕ) → Contains (slice_index_or lists q []) r →
      Contains (slice_index_or lists' q []) r
  pub added : (move : Move) → Contains moves move → Contains (slice_index_or lists' move.to []) p
  pub only : (q r : ℕ) → Contains (slice_index_or lists' q []) r →
      Contains (slice_index_or lists q []) r ⊎ (r ≡ p)

-- the class of the state has a state that is not stale
abbrev pub HasSettled : Stage → ℕ → Type 0
HasSettled s q = (r : ℕ) × IsSettledIn s.classes s.stale (class_of s q) r

-- some states that were stale are no longer, and no class has changed
pub record Settles (d : Deterministic) (columns : List (List ℕ)) (s s' : Stage) : Type 0 where
  pub sound : IsSound d columns s'
  pub classes : s'.classes ≡ s.classes
  pub count : length s'.members ≡ length s.members
  pub fewer : (q : ℕ) → is_stale s.stale q ≡ false → is_stale s'.stale q ≡ false

-- the signatures that have been found stay, and each new one is that of the new class
pub record HasFound (count : ℕ) (found found' : List (List ℕ)) (class : ℕ) : Type 0 where
  pub longer : length found ≤ length found'
  pub kept : (j : ℕ) → j < length found → slice_index_or found' j [] ≡ slice_index_or found j []
  pub used : (j : ℕ) → j < length found' → (j < length found) ⊎ (class ≡ count + j)

-- each of the signatures has an empty class behind the others
pub record IsOpened (s : Stage) (found : List (List ℕ)) (s' : Stage) : Type 0 where
  pub classes : s'.classes ≡ s.classes
  pub stale : s'.stale ≡ s.stale
  pub signatures : s'.signatures ≡ s.signatures ++ found
  pub count : length s'.members ≡ length s.members + length found
  pub members : (c : ℕ) → slice_index_or s'.members c [] ≡ slice_index_or s.members c []

-- the state is in the class, and is not stale
pub record IsAssigned (q class : ℕ) (s s' : Stage) : Type 0 where
  pub each : length s'.classes ≡ length s.classes
  pub flagged : length s'.stale ≡ length s.stale
  pub signatures : s'.signatures ≡ s.signatures
  pub count : length s'.members ≡ length s.members
  pub goes : class_of s' q ≡ class
  pub others : (r : ℕ) → r ≢ q → class_of s' r ≡ class_of s r
  pub fresh : is_stale s'.stale q ≡ false
  pub others_stale : (r : ℕ) → r ≢ q → is_stale s'.stale r ≡ is_stale s.stale r
  pub held : Contains (slice_index_or s'.members class []) q
  pub kept : (c r : ℕ) → Contains (slice_index_or s.members c []) r →
      Contains (slice_index_or s'.members c []) r
  pub only : (c r : ℕ) → Contains (slice_index_or s'.members c []) r →
      Contains (slice_index_or s.members c []) r ⊎ (r ≡ q)

-- each state has gone where its signature says, and none is stale
pub record IsSplit (d : Deterministic) (columns : List (List ℕ)) (s : Stage)
    (found : List (List ℕ)) (s' : Stage) : Type 0 where
  pub each : length s'.classes ≡ states d
  pub flagged : length s'.stale ≡ states d
  pub signatures : s'.signatures ≡ s.signatures ++ found
  pub count : length s'.members ≡ length s.members + length found
  pub goes : (q : ℕ) → q < states d → Goes d columns s found q (class_of s' q)
  pub fresh : (q : ℕ) → q < states d → is_stale s'.stale q ≡ false
  pub held : (q : ℕ) → q < states d → Contains (slice_index_or s'.members (class_of s' q) []) q
  pub within : (c : ℕ) → All (λ q. q < states d) (slice_index_or s'.members c [])

-- the first i of the states are in their classes, and are not stale
pub record AreAssigned (waiting targets : List ℕ) (i : ℕ) (s s' : Stage) : Type 0 where
  pub each : length s'.classes ≡ length s.classes
  pub flagged : length s'.stale ≡ length s.stale
  pub signatures : s'.signatures ≡ s.signatures
  pub count : length s'.members ≡ length s.members
  pub kept : (c r : ℕ) → Contains (slice_index_or s.members c []) r →
      Contains (slice_index_or s'.members c []) r
  pub only : (c r : ℕ) → Contains (slice_index_or s'.members c []) r →
      Contains (slice_index_or s.members c []) r ⊎ Contains waiting r
  pub done : (k : ℕ) → k < i → is_stale s'.stale (slice_index waiting k) ≡ false
  pub goes : (r : ℕ) → ((class_of s' r ≡ class_of s r) × (is_stale s'.stale r ≡ is_stale s.stale r))
      ⊎ ((k : ℕ) × (k < i) × (slice_index waiting k ≡ r) × (class_of s' r ≡ slice_index targets k)
      × (is_stale s'.stale r ≡ false) × Contains (slice_index_or s'.members (class_of s' r) []) r)

-- each state has the signature that it had as that of its class, none is stale, states of old numbers have stayed, and
-- where no class is new the states of each class have one signature
pub record IsAfter (d : Deterministic) (columns : List (List ℕ)) (s s' : Stage) : Type 0 where
  pub each : length s'.classes ≡ states d
  pub flagged : length s'.stale ≡ states d
  pub signed : length s'.signatures ≡ length s'.members
  pub counted : (q : ℕ) → q < states d → class_of s' q < length s'.members
  pub within : (c : ℕ) → All (λ q. q < states d) (slice_index_or s'.members c [])
  pub held : (q : ℕ) → q < states d → Contains (slice_index_or s'.members (class_of s' q) []) q
  pub fresh : (q : ℕ) → q < states d → is_stale s'.stale q ≡ false
  pub settled : (q : ℕ) → q < states d → signature d columns s.classes q
      ≡ slice_index_or s'.signatures (class_of s' q) []
  pub kept : (q : ℕ) → q < states d → class_of s' q < length s.members →
      class_of s' q ≡ class_of s q
  pub grown : length s.members ≤ length s'.members
  pub coarse : IsCoarse d columns s'
  pub stable : length s'.members ≡ length s.members → IsStable d columns s'

-- the states of P are stale, none is no longer, and those that are stale are waiting
pub record Marks (P : ℕ → Type 0) (stale : List Bool)
    (waiting : List ℕ) (stale' : List Bool) (waiting' : List ℕ) : Type 0 where
  pub each : length stale' ≡ length stale
  pub kept : (q : ℕ) → is_stale stale q ≡ true → is_stale stale' q ≡ true
  pub marked : (q : ℕ) → P q → is_stale stale' q ≡ true
  pub listed : ((q : ℕ) → is_stale stale q ≡ true → Contains waiting q) → (q : ℕ) →
      is_stale stale' q ≡ true → Contains waiting' q
  pub states : All (λ q. q < length stale) waiting → All (λ q. q < length stale') waiting'

-- the state is in the list of a member of one of the classes from the first on
abbrev pub PrecedesNew : List (List ℕ) → List (List ℕ) → ℕ → ℕ → ℕ → Type 0
PrecedesNew lists members first end p =
    (c : ℕ) × (first ≤ c) × (c < end) × ((q : ℕ) × Contains (slice_index_or members c []) q
    × Contains (slice_index_or lists q []) p)

-- one class of n states, each of which is stale
pub record IsStart (n : ℕ) (s : Stage) : Type 0 where
  pub classes : s.classes ≡ replicate n 0
  pub members : s.members ≡ [] ∷ []
  pub signatures : s.signatures ≡ [] ∷ []
  pub stale : s.stale ≡ replicate n true

-- what is known before each round, where there were `before` classes before the last
pub record IsRefining (d : Deterministic) (columns : List (List ℕ)) (before : ℕ) (s : Stage)
    (waiting : List ℕ) : Type 0 where
  pub sound : IsSound d columns s
  pub coarse : IsCoarse d columns s
  pub waits : AreWaiting (states d) s.stale waiting
  pub grown : before ≤ length s.members
  pub stable : before ≡ length s.members → IsStable d columns s

-- one of the two for the other
abbrev pub other_of : ℕ → ℕ → ℕ → ℕ
other_of a b c = if c == a then b else if c == b then a else c

-- each state is among the members of its class
pub record IsHeld (n : ℕ) (s : Stage) : Type 0 where
  pub each : length s.classes ≡ n
  pub signed : length s.signatures ≡ length s.members
  pub within : (c : ℕ) → All (λ q. q < n) (slice_index_or s.members c [])
  pub held : (q : ℕ) → q < n → Contains (slice_index_or s.members (class_of s q) []) q

-- the numbers of two classes have been swapped
pub record IsSwapped (n a b : ℕ) (s s' : Stage) : Type 0 where
  pub holds : IsHeld n s'
  pub stale : s'.stale ≡ s.stale
  pub count : length s'.members ≡ length s.members
  pub classes : (q : ℕ) → q < n → class_of s' q ≡ other_of a b (class_of s q)
  pub signatures : (c : ℕ) → slice_index_or s'.signatures (other_of a b c) []
      ≡ slice_index_or s.signatures c []

-- the class of which each new class was a part
pub record AreOrigins (s : Stage) (waiting targets : List ℕ) (count : ℕ)
    (origins : List ℕ) : Type 0 where
  pub each : length origins ≡ count
  pub own : (j : ℕ) → j < count → (i : ℕ) × (i < length waiting)
      × (slice_index targets i ≡ length s.members + j)
      × (slice_index origins j ≡ class_of s (slice_index waiting i))

-- the states of each new class were of the class that is named for it
abbrev pub AreFrom : ℕ → ℕ → List ℕ → Stage → Stage → Type 0
AreFrom n first origins start s = (q j : ℕ) → q < n → j < length origins → class_of s q
    ≡ first + j → class_of start q ≡ slice_index origins j

-- what holds after states have gone by their signatures holds too where some new classes have been given the numbers of those of which they were parts
abbrev pub KeepsAfter : ℕ → List ℕ → Stage → Stage → Type 0
KeepsAfter first origins s s' = (d : Deterministic) (columns : List (List ℕ)) (start : Stage) →
    IsDeterministic d → AreColumns d columns → first ≡ length start.members
    → AreFrom (states d) first origins start s → IsAfter d columns start s →
    AreFrom (states d) first origins start s' × IsAfter d columns start s'
