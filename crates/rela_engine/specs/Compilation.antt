-- A compiled check as data, and what each keeps.
use Rattle.std.specs.Prelude.{◌≡◌, ℕ, ◌+◌, ◌≤◌, ◌⊎◌, ◌↔◌, List, Option, None}
use Rattle.std.specs.Option.{ForSome}
use Rattle.rela_build.specs.Made.{IsMadeR}
use Rattle.rela_build.specs.PathSets.{no_paths}
use Rattle.rela_rir.specs.Limit.{ReachedInsideR, ForcedInsideR}
use Rattle.rela_rir.specs.declared.term.RelTerm.{RelTerm}
use Rattle.rela_trans.specs.Machine.{Machine}
use Rattle.rela_trans.specs.Runs.{Relates}
use Rattle.rela_translate.specs.Checked.{Checked}
use Rattle.rela_translate.specs.Terms.{before_of, after_of}
use Rattle.rela_translate.specs.Zones.{Before, After}
use Rattle.rela_blocks.specs.Blocks.{AreBlocks}
use Rattle.rela_engine.specs.Reading.{Realises}
use Rattle.rela_blocks.specs.Scenes.{lettering_of}
use Rattle.rela_engine.specs.Scenes.{bare_scene}

-- a relation twice: as it was built, so that its states stand for places, and made small for many walks
pub record Twofold : Type 0 where
  pub plain : Machine
  pub small : Machine

-- the two have as many letters, and relate the same words, however symbols are read
pub record RelateAlike (t other : Machine) : Type 0 where
  pub letters : t.letters ≡ other.letters
  pub relation : (read : ℕ → ℕ) (u v : List ℕ) → Relates read t u v ↔ Relates read other u v

-- the relations that the paths before and after the change are seen through
pub record Relations : Type 0 where
  pub before : Twofold
  pub after : Twofold

-- a check, the number of locations of its level, how many states a construction may have, the block of each of
-- the check's symbols, and its two relations where they were made
pub record Compilation : Type 0 where
  pub check : Checked
  pub locations : ℕ
  pub states : ℕ
  pub blocks : List ℕ
  pub relations : Option Relations

-- some counted term in one of the two relations has more reached places than the limit
abbrev pub PassesLimit : Compilation → Type 0
PassesLimit c =
    ReachedInsideR (bare_scene c.check c.locations) (c.states + 1)
    (before_of c.locations c.check.body)
    ⊎ ReachedInsideR (bare_scene c.check c.locations) (c.states + 1)
    (after_of c.locations c.check.body)

-- some complement in one of the two relations has a part that tells more words than the limit
abbrev pub MustPassLimit : Compilation → Type 0
MustPassLimit c =
    ForcedInsideR (bare_scene c.check c.locations) (c.states + 1)
    (before_of c.locations c.check.body)
    ⊎ ForcedInsideR (bare_scene c.check c.locations) (c.states + 1)
    (after_of c.locations c.check.body)

-- both machines have the pairs of the relation, and the states of the plain one stand for places of its term
pub record IsTwofold (c : Compilation) (term : RelTerm) (pairs : List ℕ → List ℕ → Type 0)
    (r : Twofold) : Type 0 where
  pub plain : IsMadeR ⊥ (lettering_of c.check c.locations c.blocks) no_paths term r.plain
  pub small : Realises c.blocks pairs r.small

-- the letters are the blocks of the check's symbols, and the relations are those of its body
pub record AreRelations (c : Compilation) (relations : Relations) : Type 0 where
  pub before : IsTwofold c (before_of c.locations c.check.body) (Before c.check.classes c.locations
      c.check.body) relations.before
  pub after : IsTwofold c (after_of c.locations c.check.body) (After c.check.classes c.locations
      c.check.body) relations.after
  pub within : ¬ MustPassLimit c

-- The relations are those of the check's body, over the blocks of its symbols. There are none only where some counted
-- term in them has more reached places than the limit, and always where a complement in them tells more words.
pub record IsCompiled (c : Compilation) : Type 0 where
  pub some : 1 ≤ c.states
  pub blocks : AreBlocks c.check c.locations c.blocks
  pub made : ForSome c.relations (AreRelations c)
  pub past : c.relations ≡ None → PassesLimit c
