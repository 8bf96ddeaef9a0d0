-- Scenes and machines that are told by names, so that one law can speak of all of them. What a name stands for is
-- given to the law.
use Rattle.std.specs.Prelude.{ℕ, List}
use Rattle.rela_rir.specs.Meaning.{Setting}
use Rattle.rela_rir.specs.Places.{Scene}

-- settings, each told by a name
pub record Settings : Type 1 where
  pub Name : Type 0
  pub of : Name → Setting

-- scenes, each told by a name
pub record Scenes : Type 1 where
  pub Name : Type 0
  pub of : Name → Scene

-- Scenes, automata and transducers, each told by a name. Of a machine only this is given: which words, or pairs of
-- words, reach each of its states. Where `exactly` holds, tables are exact.
pub record Machines : Type 1 where
  pub scene : Scenes
  pub Automaton : Type 0
  pub reach : Automaton → ℕ → List ℕ → Type 0
  pub Transducer : Type 0
  pub reach_pair : Transducer → ℕ → List ℕ → List ℕ → Type 0
  pub exactly : Type 0
