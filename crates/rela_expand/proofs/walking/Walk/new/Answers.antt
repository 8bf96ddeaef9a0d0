use Rattle.std.proofs.Common.{List, map, is_some, ap, sym, subst, ◌∙◌}
use Rattle.rela_locations.specs.Names.{has_name}
use Rattle.rela_expand.specs.Bodies.{AreBodies}
use Rattle.rela_translate.specs.Checked.{Checked}
use Rattle.rela_expand.specs.Expand.{outcome_of}
use Rattle.rela_expand.specs.Forms.{shapes_of}
use Rattle.rela_expand.specs.Walks.{names_of}
use Rattle.rela_expand.proofs.BodyLaws.{no_bodies}
use Rattle.rela_expand.proofs.walking.Walk.new.Goals as goal

pub returns-clause-walk : goal.returns-clause-walk
returns-clause-walk c = record {
  known = λ name k is. let none = c.new-3.ensures name in absurd (cc);
  specs_known = λ name k is. let none = c.new-3.ensures name in absurd (cc);
  are = subst (AreBodies (shapes_of c.new.result.forms.items)) (sym c.new-2.ensures) (no_bodies (shapes_of c.new.result.forms.items));
  named = λ name. ap is_some (c.new-4.ensures name) ∙ ap (λ (checks : List Checked). has_name (names_of (map outcome_of checks)) name) (sym c.new-5.ensures.items);
}
