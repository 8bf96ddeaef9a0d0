-- The words that the walks of a graph give.
use Rattle.std.specs.Prelude.{◌≡◌, ◌≢◌, ℕ, ◌+◌, ◌⊎◌, ◌==◌, if◌then◌else◌, List, [], ◌∷◌, ◌++◌, length, map, slice_index}
use Rattle.rela_names.specs.declared.level.Level.{Level}
use Rattle.rela_graph.specs.Topology.{Topology, IsDelivered, symbol_at}
use Rattle.rela_graph.specs.Walk.{IsWalk, IsCyclic, IsDropNode}

-- what is left of a list after x, where each run of equal neighbours is written once
abbrev pub squeeze_after : ℕ → List ℕ → List ℕ
squeeze_after x [] = []
squeeze_after x (y ∷ ys) = if x == y then squeeze_after y ys else y ∷ squeeze_after y ys

-- the list with each run of equal neighbours written once
abbrev pub squeeze : List ℕ → List ℕ
squeeze [] = []
squeeze (x ∷ xs) = x ∷ squeeze_after x xs

-- the location of each node at the level
abbrev pub locations : Topology → Level → List ℕ
locations g level = map (symbol_at level) g.nodes

-- the locations of a walk's nodes, each run of equal neighbours written once
abbrev pub base : List ℕ → List ℕ → List ℕ
base places walk = squeeze (map (λ n. slice_index places n) walk)

-- some walk ends at n and has this base word
abbrev pub Arrives : Topology → List ℕ → ℕ → List ℕ → Type 0
Arrives g places n word = (before : List ℕ) × IsWalk g (before ++ n ∷ [])
    × (base places (before ++ n ∷ []) ≡ word)

-- what may follow the base word of a walk that ends at n: nothing where n delivers, `drop` where it
-- drops, and `loop` where it lies on a cycle
abbrev pub IsEnding : Topology → List (List ℕ) → ℕ → List ℕ → Type 0
IsEnding g alphabet n ending =
    (IsDelivered g n × (ending ≡ []))
    ⊎ ((IsDropNode g n × (ending ≡ length alphabet ∷ []))
    ⊎ (IsCyclic g n × (ending ≡ (length alphabet + 1) ∷ [])))

-- the word is the base word of some walk, and then what its last node lets follow
abbrev pub Paths : Topology → Level → List (List ℕ) → List ℕ → Type 0
Paths g level alphabet word =
    (n : ℕ) × (front : List ℕ) × (ending : List ℕ) × Arrives g (locations g level) n front
    × IsEnding g alphabet n ending × (word ≡ front ++ ending)

-- the paths that don't deliver: the base word of some walk, and then the `drop` or `loop` that its last
-- node lets follow
abbrev pub Undelivered : Topology → Level → List (List ℕ) → List ℕ → Type 0
Undelivered g level alphabet word =
    (n : ℕ) × (front : List ℕ) × (ending : List ℕ) × Arrives g (locations g level) n front
    × IsEnding g alphabet n ending × (ending ≢ []) × (word ≡ front ++ ending)
