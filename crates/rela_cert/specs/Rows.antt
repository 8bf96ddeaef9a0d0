-- What the blocks of a listed row are judged for, and what is found of them.
use Rattle.std.specs.Prelude.{◌≡◌, ℕ, ◌⊎◌, Option, Some, List, [], ◌∷◌, ◌++◌, Contains, slice_get}
use Rattle.std.specs.List.{slice_index_or}
use Rattle.rela_blocks.specs.RowBlocks.{symbols_of}
use Rattle.rela_blocks.specs.Scenes.{after_image, before_image, scene}
use Rattle.rela_build.specs.PathSets.{Paths}
use Rattle.rela_certfile.specs.Listed.{words_of}
use Rattle.rela_certfile.specs.declared.rows.Step.{Step}
use Rattle.rela_rir.specs.Complements.{complemented_parts}
use Rattle.rela_rir.specs.Limit.{Licensed}
use Rattle.rela_rir.specs.declared.term.PathTerm.{PathTerm}
use Rattle.rela_translate.specs.Checked.{Checked}
use Rattle.rela_translate.specs.Verdict.{Meets, Offending}
use Rattle.rela_translate.specs.Zones.{path_symbols}
use Rattle.rela_cert.specs.Closed.{Closed}
use Rattle.rela_cert.specs.declared.judgement.Judgement.{Judgement}
use Rattle.rela_cert.specs.declared.judgement.Judgement.TheVariants.{Met, OpenComplement, BadImages, TooLarge}

-- the terms of the check's two images
abbrev pub images_of : Checked → ℕ → List PathTerm
images_of check locations = before_image check locations ∷ after_image check locations ∷ []

-- the parts that are complemented in them, those of the image before first
abbrev pub parts_of : Checked → ℕ → List PathTerm
parts_of check locations =
    complemented_parts (before_image check locations)
    ++ complemented_parts (after_image check locations)

-- a check, the number of locations of its level, and the paths of a flow at that level
module _ (check : Checked) (locations : ℕ) (paths : Paths) where
  -- the list of words is closed for the part, over the path symbols
  abbrev pub IsPartClosed : PathTerm → List (List ℕ) → Type 0
  IsPartClosed part words =
      Closed (scene check locations paths) (path_symbols locations) (part ∷ []) words

  -- the list of words is closed for the two images, over all symbols of the check
  abbrev pub AreImagesClosed : List (List ℕ) → Type 0
  AreImagesClosed words =
      Closed (scene check locations paths) (symbols_of check locations)
      (images_of check locations) words

  -- the list of words is closed for the image of the paths before the change alone
  abbrev pub IsImageClosed : List (List ℕ) → Type 0
  IsImageClosed words =
      Closed (scene check locations paths) (symbols_of check locations)
      (before_image check locations ∷ []) words

  -- one of the words offends against the check
  abbrev pub SomeOffends : List (List ℕ) → Type 0
  SomeOffends words =
      (word : List ℕ) × Contains words word × Offending check locations paths.pre paths.post word

  -- the words of the complement block with this number are not closed for its part
  abbrev pub IsOpenAt : List (List Step) → ℕ → Type 0
  IsOpenAt complements number =
      (part : PathTerm) × (slice_get (parts_of check locations) number ≡ Some part)
      × (¬ IsPartClosed part (words_of (slice_index_or complements number [])))

  -- the comparison of the two images may be left open under the limit, whatever the order of words
  abbrev pub MayPass : ℕ → Type 0
  MayPass limit =
      (last : Option (List ℕ)) → Licensed (scene check locations paths) last
      (before_image check locations) (after_image check locations) limit

  -- a row that is met says so of the check; else a complement block is open, or the images block is open or has a
  -- word that offends; or the images have more places than the limit
  abbrev pub Judges : ℕ → List (List Step) → List Step → Judgement → Type 0
  Judges limit complements images Met = Meets check locations paths.pre paths.post
  Judges limit complements images (OpenComplement number) = IsOpenAt complements number
  Judges limit complements images BadImages =
      (¬ AreImagesClosed (words_of images)) ⊎ SomeOffends (words_of images)
  Judges limit complements images TooLarge = MayPass limit
