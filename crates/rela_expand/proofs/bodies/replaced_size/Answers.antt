use Rattle.rela_expand.specs.Measures.{over, over_two, over_without}
use Rattle.rela_expand.proofs.bodies.replaced_size.Goals as goal

pub returns : goal.returns
returns c = λ z p q hz hp hq.
    let all = c.of_two-all.ensures.measure z q hz hq in
    let gone = c.of_two-gone.ensures.measure p z hp hz in
    let kept = c.size_without.ensures (over_two z q) (over_two p z) all gone in
    let come = c.of_two.ensures.measure (over_two p z) q gone hq in
    let before = c.of_two-2.ensures.measure (over (over_without (over_two z q) (over_two p z))) (over_two (over_two p z) q) kept come in
    let after = c.of_one.ensures.measure (over_two z q) all in
    λ i. record { zone = all i; before = before i; after = after i }
