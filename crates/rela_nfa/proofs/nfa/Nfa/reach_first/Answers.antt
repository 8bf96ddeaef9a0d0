use Rattle.std.proofs.Common.{◌≡◌, ◌<◌, List, ℕ, [], ◌∷◌, sym, ap, ◌∙◌, subst}
use Rattle.std.specs.List.{All}
use Rattle.std.proofs.lemmas.List.Elements.{All-cons, All-nil}
use Rattle.std.proofs.lemmas.Result.{on_ok_weaker}
use Rattle.rela_nfa.specs.Automaton.{states}
use Rattle.rela_nfa.specs.Reading.{Closes}
use Rattle.rela_nfa.specs.StateSet.{Inserts}
use Rattle.rela_nfa.proofs.Growing.{first_reached, one_inserted}
use Rattle.rela_nfa.proofs.nfa.Nfa.reach_first.Goals as goal

pub close-requires-clause-states : goal.close-requires-clause-states
close-requires-clause-states g c =
    subst (All (λ q. q < states c.args.self.now))
    (sym (one_inserted c.insert.new.self.states c.start.result (subst (λ (l : List ℕ). Inserts l c.insert.new.self.states c.start.result) c.clear.ensures.empty c.in_ok-insert.ensures.inserted)))
    (All-cons (λ q. q < states c.args.self.now) c.start.result [] c.start.ensures.state (All-nil (λ q. q < states c.args.self.now)))

pub returns-clause-reached : goal.returns-clause-reached
returns-clause-reached g c =
    let only : c.insert.new.self.states ≡ c.args.self.now.start ∷ [] =
    one_inserted c.insert.new.self.states c.start.result
    (subst (λ (l : List ℕ). Inserts l c.insert.new.self.states c.start.result) c.clear.ensures.empty c.in_ok-insert.ensures.inserted)
    ∙ ap (λ n. n ∷ []) c.start.ensures.start in
    on_ok_weaker c.close.result (λ closes. first_reached c.args.self.now c.close.new.set.states (subst (λ (l : List ℕ). Closes c.args.self.now l c.close.new.set.states) only closes)) c.close.ensures.closes
