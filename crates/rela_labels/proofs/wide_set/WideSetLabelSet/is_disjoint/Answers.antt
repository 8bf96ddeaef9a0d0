use Rattle.std.proofs.Common.{sym}
use Rattle.rela_labels.specs.Letters.{has}
use Rattle.rela_labels.specs.WideSets.{has_letter}
use Rattle.rela_labels.proofs.LoneLetters.{disjoint_as}
use Rattle.rela_labels.proofs.WideLetters.{has_wide, sized_alike, sized_other}
use Rattle.rela_labels.proofs.wide_set.WideSetLabelSet.is_disjoint.Goals as goal

pub is_disjoint-requires : goal.is_disjoint-requires
is_disjoint-requires c =
    sized_alike c.self.inside.size c.self.inside.letters c.other.inside.letters c.self.invariant
    (sized_other _ _ _ _ _ _ c.self.view_is c.other.view_is c.requires c.other.invariant)

pub returns : goal.returns
returns c =
    disjoint_as (has c.args.self.now) (has c.args.other.now) (has_letter c.self.inside.letters) (has_letter c.other.inside.letters) _
    (λ k. sym (has_wide c.self.inside.size c.self.inside.letters _ c.self.invariant c.self.view_is k))
    (λ k. sym (has_wide c.other.inside.size c.other.inside.letters _ c.other.invariant c.other.view_is k)) c.is_disjoint.ensures
