use Rattle.std.proofs.Common.{◌<◌, ◌∙◌, get_or, length, ap, arith}
use Rattle.rela_letter_image.specs.LetterMoves.{none_laid}
use Rattle.rela_letter_image.proofs.SideBySide.{side_at, side_length}
use Rattle.rela_letter_image.proofs.move_lists.MoveLists.get.Goals as goal

pub list-requires : goal.list-requires
list-requires c =
    let inside = c.self.inside in
    omega (arith, c.requires, ap (λ v. length v.0) c.self.view_is, side_length inside.alone.0 inside.by_set.0 inside.by_letter.0 c.self.invariant.0 c.self.invariant.1)

pub list-requires-2 : goal.list-requires-2
list-requires-2 c =
    let inside = c.self.inside in
    omega (arith, c.requires, ap (λ v. length v.0) c.self.view_is, side_length inside.alone.0 inside.by_set.0 inside.by_letter.0 c.self.invariant.0 c.self.invariant.1, c.self.invariant.0)

pub list-requires-3 : goal.list-requires-3
list-requires-3 c =
    let inside = c.self.inside in
    omega (arith, c.requires, ap (λ v. length v.0) c.self.view_is, side_length inside.alone.0 inside.by_set.0 inside.by_letter.0 c.self.invariant.0 c.self.invariant.1, c.self.invariant.1)

pub returns : goal.returns
returns c =
    let inside = c.self.inside in
    let below : c.args.q < length inside.alone.0 =
    omega (arith, c.requires, ap (λ v. length v.0) c.self.view_is, side_length inside.alone.0 inside.by_set.0 inside.by_letter.0 c.self.invariant.0 c.self.invariant.1) in
    (λ i. record { alone = c.list.ensures i; by_set = c.list-2.ensures i; by_letter = c.list-3.ensures i })
    ∙ side_at inside.alone.0 inside.by_set.0 inside.by_letter.0 c.args.q none_laid c.self.invariant.0 c.self.invariant.1 below
    ∙ ap (λ v. get_or v.0 c.args.q none_laid) c.self.view_is
