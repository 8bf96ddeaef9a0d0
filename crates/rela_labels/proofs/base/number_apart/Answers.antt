use Rattle.std.proofs.Common.{sym, ◌∙◌}
use Rattle.rela_labels.proofs.ApartLeast.{few_least, first_there, second_there, made_layers}
use Rattle.rela_labels.proofs.base.number_apart.Goals as goal

pub places_in-requires-clause-few : goal.places_in-requires-clause-few
places_in-requires-clause-few c =
    few_least _ _ _ _ _ _ _ c.requires.shared c.requires.within c.in_ok-leads.ensures.len c.in_ok-leads.ensures.each c.in_ok-least.ensures.ascending
    c.in_ok-least.ensures.members c.deref.ensures.value c.deref-2.ensures.value

pub places_in-requires-clause-there : goal.places_in-requires-clause-there
places_in-requires-clause-there c = first_there _ _ _ _ c.in_ok-least.ensures.members c.deref-2.ensures.value

pub places_in-requires-2-clause-few : goal.places_in-requires-2-clause-few
places_in-requires-2-clause-few c =
    few_least _ _ _ _ _ _ _ c.requires.shared c.requires.within c.in_ok-leads.ensures.len c.in_ok-leads.ensures.each c.in_ok-least.ensures.ascending
    c.in_ok-least.ensures.members c.deref.ensures.value c.deref-3.ensures.value

pub places_in-requires-2-clause-there : goal.places_in-requires-2-clause-there
places_in-requires-2-clause-there c =
    second_there _ _ _ _ _ c.in_ok-least.ensures.members c.deref-3.ensures.value (c.deref-4.ensures.value ∙ sym c.deref.ensures.value)

pub returns : goal.returns
returns c =
    made_layers _ _ _ _ _ _ _ _ _ _ _ _ c.requires.shared c.requires.linked c.requires.ascending c.requires.within c.in_ok-leads.ensures.len
    c.in_ok-leads.ensures.each c.in_ok-least.ensures.ascending c.in_ok-least.ensures.members c.deref.ensures.value c.deref-2.ensures.value
    c.in_ok-beside.ensures c.deref-3.ensures.value c.deref-4.ensures.value c.in_ok-numbers.ensures
