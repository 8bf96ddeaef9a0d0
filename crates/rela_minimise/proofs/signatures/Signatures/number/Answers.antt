use Rattle.std.proofs.Common.{◌≡◌, ◌++◌, ◌∷◌, [], ◌⊎◌, length, subst}
use Rattle.rela_minimise.specs.Stored.{lists_of}
use Rattle.rela_minimise.proofs.ListsFound.{distinct_lists, number_at, number_grown}
use Rattle.rela_minimise.proofs.signatures.Signatures.number.Goals as goal

pub invariant_of-self-2 : goal.invariant_of-self-2
invariant_of-self-2 c = distinct_lists c.insert_full.new.self.keys c.insert_full.ensures.unique

pub returns-clause-at : goal.returns-clause-at
returns-clause-at c = number_at c.insert_full.new.self.keys c.in_ok-number.number c.args.signature c.in_ok-number.ensures.within c.in_ok-number.ensures.stored

pub returns-clause-grown : goal.returns-clause-grown
returns-clause-grown c =
    let new = c.insert_full.new.self.keys in
    subst (λ old. (lists_of new ≡ old) ⊎ ((lists_of new ≡ old ++ c.args.signature.items ∷ []) × (c.in_ok-number.number ≡ length old))) c.self.view_is
    (number_grown c.self.inside.found.keys new c.in_ok-number.number c.args.signature c.in_ok-number.ensures.keys c.insert_full.ensures.unique c.in_ok-number.ensures.within
    (number_at new c.in_ok-number.number c.args.signature c.in_ok-number.ensures.within c.in_ok-number.ensures.stored))
