use Rattle.std.proofs.Common.{◌≡◌, ◌++◌, ◌∷◌, [], ◌⊎◌, List, length, subst}
use Rattle.rela_minimise.proofs.Paired.{pair_at, pair_grown, pairs_apart}
use Rattle.rela_minimise.specs.declared.class_pairs.ClassPair.{ClassPair}
use Rattle.rela_minimise.proofs.class_pairs.ClassPairs.number.Goals as goal

pub invariant_of-self-in_err-note : goal.invariant_of-self-in_err-note
invariant_of-self-in_err-note c = pairs_apart c.self.inside.found.keys c.insert_full.new.self.keys c.args.pair c.self.invariant c.in_ok-number.ensures.keys

pub invariant_of-self-2 : goal.invariant_of-self-2
invariant_of-self-2 c = pairs_apart c.self.inside.found.keys c.insert_full.new.self.keys c.args.pair c.self.invariant c.in_ok-number.ensures.keys

pub returns-clause-at : goal.returns-clause-at
returns-clause-at c = pair_at c.insert_full.new.self.keys c.in_ok-number.number c.args.pair c.in_ok-number.ensures.stored

pub returns-clause-grown : goal.returns-clause-grown
returns-clause-grown c =
    let new = c.insert_full.new.self.keys in
    subst (λ (old : List ClassPair). (new ≡ old) ⊎ ((new ≡ old ++ c.args.pair ∷ []) × (c.in_ok-number.number ≡ length old))) c.self.view_is
    (pair_grown c.self.inside.found.keys new c.args.pair c.self.invariant c.in_ok-number.ensures.keys c.in_ok-number.number c.in_ok-number.ensures.within
    (pair_at new c.in_ok-number.number c.args.pair c.in_ok-number.ensures.stored))
