use Rattle.std.proofs.Common.{◌≡◌, ℕ, ◌↔◌, [], ◌∷◌, Some, subst, sym}
use Rattle.std.proofs.lemmas.Bool.{both_ways}
use Rattle.rela_nfa.specs.Construction.{silent}
use Rattle.rela_nfa.proofs.Detouring.{IsNext, next_below, next_is}
use Rattle.rela_nfa.proofs.detours.next.Given.{Over}
use Rattle.rela_nfa.proofs.detours.next.Goals as goal

module _ (g : Over) (c : goal.After-unwrap_or g) where
  is_next : IsNext c.args.nfa.now c.args.q c.unwrap_or.result
  is_next =
      subst (IsNext c.args.nfa.now c.args.q) (sym c.unwrap_or.ensures)
      (next_is c.args.nfa.now c.args.q c.only_silent.result (λ final. both_ways c.is_final.result c.if-is_final.false (c.is_final.ensures.1 final))
      (subst (λ l. (r : ℕ) → (c.only_silent.result ≡ Some r) ↔ (l ≡ silent r ∷ [])) c.edges.ensures.moves c.only_silent.ensures))

pub returns-clause-state : goal.returns-clause-state
returns-clause-state g c =
    next_below c.args.nfa.now c.edges.ensures.automaton c.args.q c.unwrap_or.result c.requires (is_next g c)

pub returns-clause-next : goal.returns-clause-next
returns-clause-next g c = is_next g c
