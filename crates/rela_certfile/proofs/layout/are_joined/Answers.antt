use Rattle.std.proofs.lemmas.Bool.Decides.{Decides-eqb}
use Rattle.std.proofs.lemmas.Slice.Eq.{slice_eq-Decides}
use Rattle.rela_certfile.proofs.Joined.{joined, unblanked}
use Rattle.rela_certfile.proofs.layout.are_joined.Goals as goal

pub returns-in_default-after_prefix : goal.returns-in_default-after_prefix
returns-in_default-after_prefix c =
    unblanked c.args.text.now c.args.first.now c.args.second.now _ c.in-Some.ensures c.in_default-after_prefix.ensures

pub returns : goal.returns
returns c =
    joined c.args.text.now c.args.first.now c.args.second.now _ c.in-Some-after_prefix.last.now c.eq.result c.in-Some.ensures c.in-Some-after_prefix.ensures
    (slice_eq-Decides Decides-eqb _ _ _ c.eq.ensures)
