use Rattle.std.proofs.Common.{◌≡◌, false, List, ℕ, get_or, map, subst}
use Rattle.std.proofs.lemmas.List.{take_all}
use Rattle.rela_closed.proofs.Accepting.{flags_at}
use Rattle.rela_closed.proofs.acceptance.finals_at.Goals as goal

pub returns : goal.returns
returns g c =
    flags_at c.args.a.now c.args.n c.args.table.now c.args.numbers.now c.in_ok-finals.finals.items c.loop-number.flags.items c.in_ok-finals.ensures.final_states c.requires.within
    (subst (λ (l : List ℕ). c.loop-number.flags.items ≡ map (λ number. get_or c.in_ok-finals.finals.items number false) l)
    (take_all c.loop-number.number-index c.args.numbers.now c.loop-number-test.false) c.loop-number.invariant)
