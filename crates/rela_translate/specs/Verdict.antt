-- When a check is met, and which words offend against it.
use Rattle.std.specs.Prelude.{ℕ, ◌⊎◌, ◌↔◌, Bool, true, false, List}
use Rattle.rela_rir.specs.Words.{WordSet, ImageOf}
use Rattle.rela_translate.specs.Zones.{Before, After}
use Rattle.rela_translate.specs.Checked.{Checked}

-- the image of the paths before the change under the check's before relation
abbrev pub BeforeImage : Checked → ℕ → WordSet → WordSet
BeforeImage check locations paths = ImageOf paths (Before check.classes locations check.body)

-- the image of the paths after the change under the check's after relation
abbrev pub AfterImage : Checked → ℕ → WordSet → WordSet
AfterImage check locations paths = ImageOf paths (After check.classes locations check.body)

-- the two images have the same words, or, where only added paths offend, each word of the image after is in
-- the image before
abbrev pub AreMet : Bool → WordSet → WordSet → Type 0
AreMet false X Y = (w : List ℕ) → X w ↔ Y w
AreMet true X Y = (w : List ℕ) → Y w → X w

-- the word is in just one of the two images, or, where only added paths offend, in the image after alone
abbrev pub Offends : Bool → WordSet → WordSet → WordSet
Offends false X Y w = (X w × (¬ Y w)) ⊎ ((¬ X w) × Y w)
Offends true X Y w = Y w × (¬ X w)

-- the check is met by the paths before and after the change
abbrev pub Meets : Checked → ℕ → WordSet → WordSet → Type 0
Meets check locations pre post =
    AreMet check.at_most (BeforeImage check locations pre) (AfterImage check locations post)

-- the word offends against the check
abbrev pub Offending : Checked → ℕ → WordSet → WordSet → WordSet
Offending check locations pre post =
    Offends check.at_most (BeforeImage check locations pre) (AfterImage check locations post)
