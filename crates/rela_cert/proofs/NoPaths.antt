-- Terms that name no path set, in the scene of a check that has no paths and in one that has some.
use Rattle.std.proofs.Common.{inl, refl}
use Rattle.rela_rir.specs.Agreement.{AgreeOn, AgreeOnR, SameSymbols}
use Rattle.rela_rir.specs.Fixed.{IsFixed, IsFixedR}
use Rattle.rela_rir.specs.declared.term.PathTerm.{PathTerm}
use Rattle.rela_rir.specs.declared.term.RelTerm.{RelTerm}
use Rattle.rela_cert.specs.RowNames.{RowName, no_flow, row_scenes}

module _ (at : RowName) where
  same_symbols : SameSymbols (row_scenes.of (no_flow at.check at.locations)) (row_scenes.of at)
  same_symbols = record { setting = record { classes = refl; path_symbols = refl }; markers = refl }

  pub agree : (x : PathTerm) → IsFixed x → AgreeOn (row_scenes.of (no_flow at.check at.locations)) (row_scenes.of at) x
  agree x fixed = record { symbols = same_symbols; paths = inl fixed }

  pub agree_r : (r : RelTerm) → IsFixedR r → AgreeOnR (row_scenes.of (no_flow at.check at.locations)) (row_scenes.of at) r
  agree_r r fixed = record { symbols = same_symbols; paths = inl fixed }
