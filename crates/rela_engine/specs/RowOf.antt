-- What a row has to say of a check, for the paths before and after a change.
use Rattle.std.specs.Prelude.{◌≡◌, ℕ, List, Option, Some, None}
use Rattle.rela_build.specs.PathSets.{Paths}
use Rattle.rela_names.specs.Shortlex.{First}
use Rattle.rela_report.specs.declared.rows.Row.{Row}
use Rattle.rela_report.specs.declared.rows.Row.TheVariants.{Compliant, Violated, Undecided}
use Rattle.rela_report.specs.declared.rows.Side.{Side}
use Rattle.rela_report.specs.declared.rows.Side.TheVariants as side
use Rattle.rela_rir.specs.Limit.{Licensed, Forced}
use Rattle.rela_rir.specs.Words.{WordSet, Relation, ImageOf}
use Rattle.rela_translate.specs.Checked.{Checked}
use Rattle.rela_translate.specs.Verdict.{Meets, Offending}
use Rattle.rela_translate.specs.Zones.{Before, After}
use Rattle.rela_blocks.specs.Scenes.{scene, before_image, after_image}

-- of two sets of words, for before and after the change, the one of this side
abbrev pub words_of : Side → WordSet → WordSet → WordSet
words_of side.Before pre post = pre
words_of side.After pre post = post

-- the relation that the paths of this side are seen through
abbrev pub relation_of : Side → Checked → ℕ → Relation
relation_of side.Before check locations = Before check.classes locations check.body
relation_of side.After check locations = After check.classes locations check.body

-- the word is the first that offends, the image of this side has it, and the source is the first path of the
-- side that is related to it
pub record IsOffence (check : Checked) (locations : ℕ) (pre post : List ℕ → Type 0) (word : List ℕ)
    (of : Side) (source : List ℕ) : Type 0 where
  pub first : First (Offending check locations pre post) word
  pub in_image : ImageOf (words_of of pre post) (relation_of of check locations) word
  pub first_source : First (λ path. words_of of pre post path
      × relation_of of check locations path word) source

-- the word, if any, at which a comparison of the two images ends: the first that offends, or none where the check is met
abbrev pub IsLast : Checked → ℕ → Paths → Option (List ℕ) → Type 0
IsLast check locations paths None = Meets check locations paths.pre paths.post
IsLast check locations paths (Some word) =
    First (Offending check locations paths.pre paths.post) word

-- the check may be left open for these paths under the limit, wherever the comparison of its images ends
abbrev pub MayBeOpen : Checked → ℕ → Paths → ℕ → Type 0
MayBeOpen check locations paths limit =
    (last : Option (List ℕ)) → IsLast check locations paths last →
    Licensed (scene check locations paths) last (before_image check locations)
    (after_image check locations) limit

-- the check has to be left open for these paths under the limit
abbrev pub MustBeOpen : Checked → ℕ → Paths → ℕ → Type 0
MustBeOpen check locations paths limit =
    Forced (scene check locations paths) (before_image check locations)
    (after_image check locations) limit

-- a compliant row says that the check is met, a violated one tells of an offence, and an undecided one has its licence
abbrev pub Says : Checked → ℕ → Paths → ℕ → Row → Type 0
Says check locations paths limit Compliant = Meets check locations paths.pre paths.post
Says check locations paths limit (Violated word of source) =
    IsOffence check locations paths.pre paths.post word of source
Says check locations paths limit Undecided = MayBeOpen check locations paths limit

-- the row is right, and where the check has to be left open it does so
pub record RowOf (check : Checked) (locations : ℕ) (paths : Paths) (limit : ℕ)
    (row : Row) : Type 0 where
  pub says : Says check locations paths limit row
  pub forced : MustBeOpen check locations paths limit → row ≡ Undecided
