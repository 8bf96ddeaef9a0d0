use Rattle.rela_build.specs.Lettering.{IsAlone}
use Rattle.rela_blocks.proofs.NamedByChecks.{after_names, before_names, zone_names}
use Rattle.rela_blocks.proofs.laws.named_symbols_are_alone.Goals as goal
use Rattle.rela_rir.specs.declared.term.PathTerm.TheVariants as P

pub returns-clause-zone : goal.returns-clause-zone
returns-clause-zone c blocks n body alone = zone_names (IsAlone blocks) (c.named_symbols_by_form.ensures blocks) n alone.drop body alone.markers

pub returns-clause-before : goal.returns-clause-before
returns-clause-before c blocks n body alone = before_names (IsAlone blocks) (c.named_symbols_by_form.ensures blocks) n alone.drop body alone.markers

pub returns-clause-after : goal.returns-clause-after
returns-clause-after c blocks n body alone = after_names (IsAlone blocks) (c.named_symbols_by_form.ensures blocks) n alone.drop body alone.markers

pub returns-clause-before_image : goal.returns-clause-before_image
returns-clause-before_image c blocks r named = ((c.named_symbols_by_form.ensures blocks).image P.Pre r).1 ((c.named_symbols_by_form.ensures blocks).before, named)

pub returns-clause-after_image : goal.returns-clause-after_image
returns-clause-after_image c blocks r named = ((c.named_symbols_by_form.ensures blocks).image P.Post r).1 ((c.named_symbols_by_form.ensures blocks).after, named)
