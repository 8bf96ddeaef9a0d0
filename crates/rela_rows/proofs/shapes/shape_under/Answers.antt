use Rattle.std.proofs.Common.{◌<◌, ℕ, List, length, sym, subst}
use Rattle.std.specs.List.{All}
use Rattle.std.specs.Prelude.{IfOk}
use Rattle.rela_names.specs.declared.level.Level.{Level}
use Rattle.rela_shape.specs.Shape.{IsShape, places_of}
use Rattle.rela_rows.proofs.OneShape.{places_below}
use Rattle.rela_rows.proofs.shapes.shape_under.Goals as goal

pub of-requires : goal.of-requires
of-requires c =
    subst (λ (b : List ℕ). All (λ s. s < length b) (places_of c.level.result c.args.pair.now)) (sym c.blocks-2.ensures.blocks)
    (places_below c.args.alphabet.now c.args.by.now c.args.pair.now c.level.result c.level.ensures c.requires.locations c.blocks-2.ensures.together c.requires.located)

pub returns : goal.returns
returns c =
    subst (λ (b : List ℕ). IfOk c.of.result (IsShape b c.args.by.now.check.level c.args.pair.now)) c.blocks-2.ensures.blocks
    (subst (λ (l : Level). IfOk c.of.result (IsShape c.blocks-2.result.now l c.args.pair.now)) c.level.ensures c.of.ensures)
