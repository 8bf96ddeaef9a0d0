use Rattle.std.proofs.Common.{ap₂, ◌∙◌}
use Rattle.std.specs.Option.{unwrap_or}
use Rattle.rela_claims.proofs.Keys.{number_is}
use Rattle.rela_claims.proofs.numbers.Numbers.of.Goals as goal

pub returns : goal.returns
returns c =
    c.unwrap_or-place.ensures
    ∙ ap₂ unwrap_or c.get_index_of.ensures.index c.len.ensures.len
    ∙ number_is c.args.self.now.table.now.keys c.args.class
