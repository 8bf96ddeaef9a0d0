-- Where the two relations of a check may differ.
use Rattle.std.specs.Prelude.{◌≡◌, ℕ, ◌+◌, ◌↔◌, List, [], ◌∷◌, ◌++◌, map}
use Rattle.rela_graph.specs.Topology.{symbol_at}
use Rattle.rela_graph.specs.declared.node.Node.{Node}
use Rattle.rela_names.specs.declared.level.Level.{Level}
use Rattle.rela_build.specs.Reading.{read_by}
use Rattle.rela_labels.specs.Partition.{block_count}
use Rattle.rela_restriction.specs.Excess.{Covers, Excess, IsInExcess, IsReadAs}
use Rattle.rela_rir.specs.Words.{Relation}

-- what the first of two relations may have beyond the second, and the second beyond the first
pub record Differences : Type 0 where
  pub lost : Excess
  pub added : Excess

-- each pair that one of the relations alone has is among these; letters are blocks
pub record AreDifferences (blocks : List ℕ) (R S : Relation) (d : Differences) : Type 0 where
  pub lost_letters : d.lost.letters ≡ block_count blocks
  pub added_letters : d.added.letters ≡ block_count blocks
  pub lost : Covers (read_by blocks) R S d.lost
  pub added : Covers (read_by blocks) S R d.added

-- none of them has a first word that is read as these letters alone
abbrev pub HaveNoneOn : List ℕ → Differences → Type 0
HaveNoneOn inputs d =
    (read : ℕ → ℕ) (u v : List ℕ) → IsReadAs read inputs u →
    (¬ IsInExcess read d.lost u v) × (¬ IsInExcess read d.added u v)

-- the two relations have the same pairs among those whose first word has symbols of these blocks alone
abbrev pub SamePairsOn : List ℕ → List ℕ → Relation → Relation → Type 0
SamePairsOn blocks inputs R S = (u v : List ℕ) → IsReadAs (read_by blocks) inputs u → R u v ↔ S u v

-- the symbols that paths of a graph with these nodes may have: the nodes' locations, `drop` and `loop`
abbrev pub path_symbols_of : Level → ℕ → List Node → List ℕ
path_symbols_of level locations nodes =
    map (symbol_at level) nodes ++ locations ∷ (locations + 1) ∷ []
