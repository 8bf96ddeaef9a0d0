use Rattle.std.proofs.Common.{◌∙◌, ap}
use Rattle.rela_prefixes.specs.Leaves.{cells}
use Rattle.rela_prefixes.proofs.Order.{all_whole, are_classes}
use Rattle.rela_prefixes.proofs.classes.classes_of.Goals as goal

pub returns : goal.returns
returns c =
    let are = are_classes c.prefixes_of_one_length_are_apart.ensures.ipv4 _ _ _ c.in_ok-leaves.ensures (c.in_ok-classes.ensures ∙ ap cells c.as_slice.ensures.value) in
    record { classes = are; whole = all_whole _ _ are }
