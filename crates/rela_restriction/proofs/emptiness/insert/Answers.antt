use Rattle.std.proofs.Common.{◌≡◌, true, set, sym, subst}
use Rattle.rela_restriction.specs.Emptiness.{Finds}
use Rattle.rela_restriction.proofs.Searching.{one_found}
use Rattle.rela_restriction.proofs.emptiness.insert.Goals as goal

pub returns-clause-finds : goal.returns-clause-finds
returns-clause-finds c =
    subst (Finds (λ p. p ≡ c.args.q) c.args.found.now c.args.waiting.now.items (set c.args.found.now c.args.q true)) (sym c.in_ok-push.ensures.items)
    (one_found c.args.found.now c.args.waiting.now.items c.args.q c.requires.state c.requires.lacking)
