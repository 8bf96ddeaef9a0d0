-- An automaton that is told by its fields.
use Rattle.std.proofs.Common.{◌≡◌, ℕ, Bool, List, length, ap, ◌∙◌}
use Rattle.rela_nfa.specs.Automaton.{Automaton, Move}
use Rattle.rela_subset.specs.Deterministic.{Deterministic, automaton_of}

pub automaton_is : (n : Automaton) (d : Deterministic) → n.letters ≡ length d.over → n.start ≡ d.start → n.finals ≡ d.finals → n.edges ≡ d.edges → n ≡ automaton_of d
automaton_is n d letters start finals edges =
    let make = λ (w x : ℕ) (y : List Bool) (z : List (List Move)). let made : Automaton = record { letters = w; start = x; finals = y; edges = z } in made in
    ap (λ w. make w n.start n.finals n.edges) letters
    ∙ ap (λ x. make (length d.over) x n.finals n.edges) start
    ∙ ap (λ y. make (length d.over) d.start y n.edges) finals
    ∙ ap (λ z. make (length d.over) d.start d.finals z) edges
