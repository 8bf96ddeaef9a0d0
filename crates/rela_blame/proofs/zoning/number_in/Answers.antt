use Rattle.std.proofs.Common.{◌≡◌, true, sym, ◌∙◌, arith}
use Rattle.std.proofs.lemmas.Slice.Eq.{bytes_eq-Decides}
use Rattle.std.specs.Str.{bytes_eq}
use Rattle.rela_blame.proofs.Zoned.{number_told}
use Rattle.rela_blame.proofs.zoning.number_in.Goals as goal

pub returns : goal.returns
returns c =
    let branches = c.args.branches.now in
    let same : bytes_eq c.as_bytes.result.now c.as_bytes-2.result.now ≡ true = grind arith in
    let named : branches.check.now.name ≡ c.args.name.now =
    sym (c.as_bytes.ensures.bytes ∙ c.name.ensures) ∙ (bytes_eq-Decides c.as_bytes.result.now c.as_bytes-2.result.now).0 same ∙ c.as_bytes-2.ensures.bytes in
    number_told branches.check.now branches.locations c.args.name.now c.args.source.now c.claiming.result named c.alternatives_share_the_zone.ensures c.claiming.ensures.blame
