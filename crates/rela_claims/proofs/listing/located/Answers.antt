use Rattle.std.proofs.Common.{◌<◌, All, subst, sym, ◌∙◌}
use Rattle.std.specs.List.Sorted.{IsStrictlyIncreasing}
use Rattle.rela_locations.specs.Network.{alphabet_of}
use Rattle.rela_names.specs.Alphabet.{path_symbols}
use Rattle.rela_claims.proofs.Members.{members_are_below, members_rise}
use Rattle.rela_claims.proofs.listing.located.Goals as goal

pub invariant_of-result : goal.invariant_of-result
invariant_of-result c = record {
  ascending = subst IsStrictlyIncreasing (sym (c.from_symbols.ensures ∙ c.in-Ok.ensures.members))
      (members_rise c.args.level c.args.by c.args.name.now c.args.locations.now);
}

pub returns-in-Ok-clause-below : goal.returns-in-Ok-clause-below
returns-in-Ok-clause-below c =
    subst (All (λ s. s < path_symbols (alphabet_of c.args.level c.args.locations.now))) (sym (c.from_symbols.ensures ∙ c.in-Ok.ensures.members))
    (members_are_below c.args.level c.args.by c.args.name.now c.args.locations.now)
