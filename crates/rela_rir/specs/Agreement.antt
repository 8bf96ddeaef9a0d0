-- When two scenes agree on all that a term names.
use Rattle.std.specs.Prelude.{◌≡◌, ℕ, ◌⊎◌, ◌↔◌, List}
use Rattle.rela_rir.specs.Words.{WordSet}
use Rattle.rela_rir.specs.Places.{Arrivals, Scene}
use Rattle.rela_rir.specs.Fixed.{Alike, IsFixed, IsFixedR}
use Rattle.rela_rir.specs.declared.term.PathTerm.{PathTerm}
use Rattle.rela_rir.specs.declared.term.RelTerm.{RelTerm}

-- the two sets have the same words
abbrev pub SameWords : WordSet → WordSet → Type 0
SameWords X Y = (w : List ℕ) → X w ↔ Y w

-- each node of a path set, and its end, is reached by the same words
pub record SameArrivals (a b : Arrivals) : Type 0 where
  pub at_node : (n : ℕ) → SameWords (a.at_node n) (b.at_node n)
  pub at_end : SameWords a.at_end b.at_end

-- both path sets have the same words in the two scenes, and their places are reached by the same words
pub record SamePaths (m n : Scene) : Type 0 where
  pub pre : SameWords m.setting.pre n.setting.pre
  pub post : SameWords m.setting.post n.setting.post
  pub pre_places : SameArrivals m.pre n.pre
  pub post_places : SameArrivals m.post n.post

-- scenes with one class table, one number of path symbols and one number of markers
pub record SameSymbols (m n : Scene) : Type 0 where
  pub setting : Alike m.setting n.setting
  pub markers : m.markers ≡ n.markers

-- The two scenes agree on all that the path term names: on the symbols, and on the path sets, unless the
-- term names neither of them.
pub record AgreeOn (m n : Scene) (x : PathTerm) : Type 0 where
  pub symbols : SameSymbols m n
  pub paths : IsFixed x ⊎ SamePaths m n

-- The two scenes agree on all that the relation term names, likewise.
pub record AgreeOnR (m n : Scene) (r : RelTerm) : Type 0 where
  pub symbols : SameSymbols m n
  pub paths : IsFixedR r ⊎ SamePaths m n
