-- Words of symbols that are told by their blocks.
use Rattle.std.proofs.Common.{◌≡◌, ℕ, ◌<◌, List, [], ◌∷◌, length, get_or, map, refl, sym, ap, ◌∙◌, subst, arith}
use Rattle.std.specs.List.{All}
use Rattle.std.proofs.lemmas.List.{get_or-map}
use Rattle.std.proofs.lemmas.List.Elements.{All-head, All-tail}
use Rattle.rela_names.specs.declared.level.Level.{Level}
use Rattle.rela_labels.specs.Partition.{block_of}
use Rattle.rela_nfa.specs.Relabelling.{blocks_of}
use Rattle.rela_graph.specs.Alone.{StandsAlone}
use Rattle.rela_graph.specs.Paths.{locations}
use Rattle.rela_graph.specs.Topology.{Topology, symbol_at}
use Rattle.rela_graph.specs.declared.node.Node.{Node}

-- a word of symbols that stand alone is the only one with its blocks
pub same_word : (blocks u v : List ℕ) → All (StandsAlone blocks) u → All (λ s. s < length blocks) v → blocks_of blocks u ≡ blocks_of blocks v → u ≡ v
same_word blocks [] [] alone within same = refl
same_word blocks [] (t ∷ v) alone within same = let never = same in cc
same_word blocks (s ∷ u) [] alone within same = let never = same in cc
same_word blocks (s ∷ u) (t ∷ v) alone within same =
    let together : block_of blocks s ≡ block_of blocks t = let all = same in cc in
    let rest : blocks_of blocks u ≡ blocks_of blocks v = let all = same in cc in
    let first : s ≡ t = All-head (StandsAlone blocks) s u alone t (All-head (λ s. s < length blocks) t v within) together in
    let others : u ≡ v = same_word blocks u v (All-tail (StandsAlone blocks) s u alone) (All-tail (λ s. s < length blocks) t v within) rest in
    cc

-- the locations of nodes
module _ (g : Topology) (level : Level) where
  abbrev nowhere : Node
  nowhere = record { interface = 0; device = 0; group = 0 }

  location_is : (n : ℕ) → n < length g.nodes → get_or (locations g level) n 0 ≡ symbol_at level (get_or g.nodes n nowhere)
  location_is n within = get_or-map (symbol_at level) g.nodes n nowhere 0 within

  pub location_alone : (blocks : List ℕ) → All (λ node. StandsAlone blocks (symbol_at level node)) g.nodes → (n : ℕ) → n < length g.nodes → StandsAlone blocks (get_or (locations g level) n 0)
  location_alone blocks alone n within = subst (StandsAlone blocks) (sym (location_is n within)) (alone n nowhere within)

  pub location_below : (size : ℕ) → All (λ node. symbol_at level node < size) g.nodes → (n : ℕ) → n < length g.nodes → get_or (locations g level) n 0 < size
  location_below size placed n within = omega (arith, placed n nowhere within, location_is n within)

  pub letter_is : (blocks labels : List ℕ) → labels ≡ map (λ node. block_of blocks (symbol_at level node)) g.nodes → (n : ℕ) → n < length g.nodes
      → get_or labels n 0 ≡ block_of blocks (get_or (locations g level) n 0)
  letter_is blocks labels is n within =
      ap (λ l. get_or l n 0) is ∙ get_or-map (λ node. block_of blocks (symbol_at level node)) g.nodes n nowhere 0 within
      ∙ ap (block_of blocks) (sym (location_is n within))
