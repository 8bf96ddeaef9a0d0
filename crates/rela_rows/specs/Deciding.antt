-- What decides flows one after the other, and keeps automata of the paths of one of them.
use Rattle.std.specs.Prelude.{◌≡◌, ℕ, List, IfSome, slice_get}
use Rattle.rela_engine.specs.FlowLetters.{AreLettersOf}
use Rattle.rela_names.specs.Alphabet.{path_symbols}
use Rattle.rela_snapshot.specs.declared.pairing.FlowPair.{FlowPair}
use Rattle.rela_rows.specs.declared.verdict.Decider.{Decider}

-- it makes automata for these locations, and what it keeps are those of the flow that has its number
pub record IsDecider (names : List (List ℕ)) (pairs : List FlowPair)
    (decider : Decider) : Type 0 where
  pub maker : decider.maker ≡ path_symbols names
  pub letters : IfSome (slice_get pairs decider.flow) (λ pair.
      AreLettersOf names pair decider.letters)
