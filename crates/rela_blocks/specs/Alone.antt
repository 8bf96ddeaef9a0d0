-- Which symbols of a check are blocks of their own.
use Rattle.std.specs.Prelude.{ℕ, List, Contains}
use Rattle.rela_build.specs.Lettering.{IsAlone}
use Rattle.rela_translate.specs.Checked.{markers_of}
use Rattle.rela_translate.specs.Zones.{drop_symbol, marker_symbol}
use Rattle.rela_translate.specs.declared.body.Core.{Core}

-- `drop` and each marker of the body are blocks of their own, under a number of locations
pub record AreOthersAlone (blocks : List ℕ) (locations : ℕ) (body : Core) : Type 0 where
  pub drop : IsAlone blocks (drop_symbol locations)
  pub markers : (k : ℕ) → Contains (markers_of body) k → IsAlone blocks (marker_symbol locations k)
