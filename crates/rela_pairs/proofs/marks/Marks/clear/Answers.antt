use Rattle.std.proofs.Common.{◌+◌, arith}
use Rattle.std.specs.Vec.{vec_len}
use Rattle.rela_pairs.proofs.Stamps.{first_stamp, next_stamp}
use Rattle.rela_pairs.proofs.marks.Marks.clear.Goals as goal

pub returns-then-self-lt4294967295 : goal.returns-then-self-lt4294967295
returns-then-self-lt4294967295 c = rw (← c.self.view_is) (next_stamp c.self.inside.stamps.items c.self.inside.stamp (c.self.inside.stamp + 1) c.self.invariant (omega arith))

pub returns : goal.returns
returns c =
    rw (← c.self.view_is)
    (first_stamp c.self.inside.stamps.items c.fill.new.self.items c.self.inside.stamp (vec_len c.self.inside.stamps) (c.fill.ensures.items (λ y same. same)) (omega (arith, c.self.inside.stamps.ok.0)))
