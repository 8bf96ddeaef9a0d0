-- What is made of the terms that are built of others, by what their parts were made into.
use Rattle.std.specs.Prelude.{◌≡◌, ℕ, ◌+◌}
use Rattle.rela_nfa.specs.Automaton.{Automaton}
use Rattle.rela_pairs.specs.declared.errors.BuildError.{BuildError}
use Rattle.rela_pairs.specs.declared.errors.BuildError.TheVariants as B
use Rattle.rela_rir.specs.Limit.{ReachedInside, ReachedInsideR}
use Rattle.rela_rir.specs.declared.term.PathTerm.{PathTerm}
use Rattle.rela_rir.specs.declared.term.RelTerm.{RelTerm}
use Rattle.rela_trans.specs.Machine.{Machine}
use Rattle.rela_build.specs.Lettering.{Lettering}
use Rattle.rela_build.specs.Made.{IsMade, IsMadeR}
use Rattle.rela_build.specs.PathSets.{Paths, scene_of}

-- Over these letters, where the path sets are these: whatever terms the parts are made of, the whole is made of F of them.
module _ (exactly : Type 0) (l : Lettering) (paths : Paths) where
  -- an automaton by that of one path term, or those of two
  abbrev pub FromOne : (PathTerm → PathTerm) → Automaton → Automaton → Type 0
  FromOne F a u = (x : PathTerm) → IsMade exactly l paths x a → IsMade exactly l paths (F x) u

  abbrev pub FromTwo : (PathTerm → PathTerm → PathTerm) → Automaton → Automaton → Automaton → Type 0
  FromTwo F a b u = (x y : PathTerm) → IsMade exactly l paths x a → IsMade exactly l paths y b →
      IsMade exactly l paths (F x y) u

  -- an automaton by that of a path term and the transducer of a relation term
  abbrev pub FromBoth : (PathTerm → RelTerm → PathTerm) → Automaton → Machine → Automaton → Type 0
  FromBoth F a t u = (x : PathTerm) (r : RelTerm) → IsMade exactly l paths x a →
      IsMadeR exactly l paths r t → IsMade exactly l paths (F x r) u

  -- a transducer by the automaton of one path term, or those of two
  abbrev pub FromWords : (PathTerm → RelTerm) → Automaton → Machine → Type 0
  FromWords F a u = (x : PathTerm) → IsMade exactly l paths x a → IsMadeR exactly l paths (F x) u

  abbrev pub FromSides : (PathTerm → PathTerm → RelTerm) → Automaton → Automaton → Machine → Type 0
  FromSides F a b u = (x y : PathTerm) → IsMade exactly l paths x a → IsMade exactly l paths y b →
      IsMadeR exactly l paths (F x y) u

  -- a transducer by that of one relation term, or those of two
  abbrev pub FromOneR : (RelTerm → RelTerm) → Machine → Machine → Type 0
  FromOneR F t u = (r : RelTerm) → IsMadeR exactly l paths r t → IsMadeR exactly l paths (F r) u

  abbrev pub FromTwoR : (RelTerm → RelTerm → RelTerm) → Machine → Machine → Machine → Type 0
  FromTwoR F s t u = (q r : RelTerm) → IsMadeR exactly l paths q s → IsMadeR exactly l paths r t →
      IsMadeR exactly l paths (F q r) u

  -- Where the construction of F of two terms passed the limit, there are terms inside with more reached places than that.
  abbrev pub PassesTwo : (PathTerm → PathTerm → PathTerm) → ℕ → Automaton → Automaton →
      BuildError → Type 0
  PassesTwo F limit a b e = e ≡ B.Limit → (x y : PathTerm) → IsMade exactly l paths x a →
      IsMade exactly l paths y b → ReachedInside (scene_of l paths) (limit + 1) (F x y)

  abbrev pub PassesBoth : (PathTerm → RelTerm → PathTerm) → ℕ → Automaton → Machine →
      BuildError → Type 0
  PassesBoth F limit a t e = e ≡ B.Limit → (x : PathTerm) (r : RelTerm) →
      IsMade exactly l paths x a → IsMadeR exactly l paths r t →
      ReachedInside (scene_of l paths) (limit + 1) (F x r)

  abbrev pub PassesTwoR : (RelTerm → RelTerm → RelTerm) → ℕ → Machine → Machine →
      BuildError → Type 0
  PassesTwoR F limit s t e = e ≡ B.Limit → (q r : RelTerm) → IsMadeR exactly l paths q s →
      IsMadeR exactly l paths r t → ReachedInsideR (scene_of l paths) (limit + 1) (F q r)
