use Rattle.std.proofs.Common.{◌≡◌, ◌↔◌, true, Some, sym, subst}
use Rattle.std.specs.Option.{option_map}
use Rattle.rela_restriction.specs.Emptiness.{IsOpen}
use Rattle.rela_restriction.proofs.Searching.{common_open}
use Rattle.rela_restriction.proofs.emptiness.is_open.Goals as goal

pub returns-in_ok-common-in-Some : goal.returns-in_ok-common-in-Some
returns-in_ok-common-in-Some g c =
    let letters = g.L.LabelSet.letters in
    let over = letters c.args.over.now in
    subst (λ l. (c.is_some.result ≡ true) ↔ IsOpen over (option_map letters l)) (sym c.in-Some.is)
    (subst (λ b. (b ≡ true) ↔ IsOpen over (Some (letters c.in-Some.label))) (sym c.is_some.ensures)
    (common_open over (letters c.in-Some.label) (letters c.in_ok-common-in-Some.common) c.least.result c.in_ok-common-in-Some.ensures.both c.least.ensures.none c.least.ensures.member))
