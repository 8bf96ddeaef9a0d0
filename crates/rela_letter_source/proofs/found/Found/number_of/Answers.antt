use Rattle.std.proofs.Common.{◌≡◌, List, Some, sym, subst, ◌∙◌}
use Rattle.std.specs.List.{slice_get}
use Rattle.rela_letter_source.specs.declared.configuration.Configuration.{Configuration}
use Rattle.rela_letter_source.proofs.FoundAt.{found_at}
use Rattle.rela_letter_source.proofs.found.Found.number_of.Goals as goal

pub returns-in-Some-clause-number : goal.returns-in-Some-clause-number
returns-in-Some-clause-number c =
    subst (λ (l : List Configuration). slice_get l c.in-Some.number ≡ Some c.args.x) c.self.view_is
    (found_at c.self.inside.all.keys c.args.x c.in-Some.number (sym c.get_index_of.ensures.index ∙ c.in-Some.is))
