use Rattle.rela_branches.proofs.Told.{member_told}
use Rattle.rela_branches.proofs.walk.has_member.Goals as goal

pub returns : goal.returns
returns c =
    member_told c.args.set.now.members c.as_slice.result.now c.args.symbol c.binary_search.result c.is_ok.result c.args.set.now.negated c.as_slice.ensures c.args.set.now.ascending
    c.binary_search.ensures.position c.is_ok.ensures.value
