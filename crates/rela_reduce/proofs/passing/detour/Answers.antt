use Rattle.std.proofs.Common.{sym, ◌∙◌}
use Rattle.std.proofs.lemmas.Bool.{both_ways}
use Rattle.rela_reduce.proofs.passing.detour.Goals as goal

pub returns : goal.returns
returns g c r = (
  λ is. (λ final. both_ways c.is_final.result c.if-is_final.false (c.is_final.ensures.1 final), sym c.edges.ensures.moves ∙ (c.only_silent.ensures r).0 is),
  λ detour. (c.only_silent.ensures r).1 (c.edges.ensures.moves ∙ detour.1),
)
