-- A place tells how a word that reaches it may go on.
use Rattle.std.specs.Prelude.{ℕ, List, ◌++◌}
use Rattle.rela_rir.specs.Words.{WordSet}
use Rattle.rela_rir.specs.Places.{Place, Places, PathSetPlaces, Scene}

-- the word w reaches a place at which each word that reaches it may go on by z to a word of X
pub record Passes (X : List ℕ → Type 0) (at : Place → List ℕ → Type 0) (w z : List ℕ) : Type 0 where
  pub place : Place
  pub reached : at place w
  pub onward : (u : List ℕ) → at place u → X (u ++ z)

-- wherever a word of X is split in two, its front reaches such a place for its rest
abbrev pub Follows : WordSet → Places → Type 0
Follows X at = (w z : List ℕ) → X (w ++ z) → Passes X at w z

-- the places that a scene gives to the two path sets tell how their words may go on
pub record PathsFollow (m : Scene) : Type 0 where
  pub pre : Follows m.setting.pre (PathSetPlaces m.pre)
  pub post : Follows m.setting.post (PathSetPlaces m.post)
