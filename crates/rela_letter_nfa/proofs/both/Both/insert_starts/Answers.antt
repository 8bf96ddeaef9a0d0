use Rattle.std.proofs.Common.{◌≡◌, ◌+◌, List, ℕ, [], ◌∷◌, subst}
use Rattle.std.specs.List.{Contains}
use Rattle.std.specs.Result.{OnOk}
use Rattle.std.proofs.lemmas.Result.{on_ok_weaker}
use Rattle.rela_letter_nfa.specs.LetterAutomaton.{states}
use Rattle.rela_letter_nfa.specs.Pair.{starts_of}
use Rattle.rela_letter_nfa.specs.Sets.{Adds}
use Rattle.rela_letter_nfa.proofs.Growing.{adds_two}
use Rattle.rela_letter_nfa.proofs.both.Both.insert_starts.Goals as goal

pub returns-clause-adds : goal.returns-clause-adds
returns-clause-adds c =
    let old = c.args.visited.now.states in
    let mid = c.insert.new.self.states in
    let new = c.insert-2.new.self.states in
    let s : ℕ = c.start.result in
    let t : ℕ = c.self.inside.split + c.start-2.result in
    let starts : List ℕ = s ∷ t ∷ [] in
    let same : starts ≡ c.self.inside.first.now.start ∷ (states c.self.inside.first.now + c.self.inside.second.now.start) ∷ [] =
    (λ i. c.start.ensures.start i ∷ (c.self.invariant.0 i + c.start-2.ensures.start i) ∷ []) in
    subst (λ pair. OnOk c.insert-2.result (Adds (Contains (starts_of pair)) old new)) c.self.view_is
    (subst (λ (l : List ℕ). OnOk c.insert-2.result (Adds (Contains l) old new)) same
    (on_ok_weaker c.insert-2.result (λ last. adds_two s t old mid new c.in_ok-insert.ensures.inserted last) c.insert-2.ensures.inserted))
