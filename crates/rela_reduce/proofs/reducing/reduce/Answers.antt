use Rattle.std.proofs.Common.{◌≡◌, ℕ, length, sym, ap, ◌∙◌, subst}
use Rattle.std.specs.List.{All}
use Rattle.std.proofs.lemmas.List.{length-map}
use Rattle.rela_nfa.specs.Automaton.{Automaton, IsAutomaton}
use Rattle.rela_reduce.specs.Numbered.{automaton_of, edges_by}
use Rattle.rela_reduce.specs.Simulation.{IsWidened}
use Rattle.rela_reduce.specs.Stored.{lists_of, plain}
use Rattle.rela_reduce.proofs.Labelling.{IsKnown}
use Rattle.rela_reduce.proofs.Reduced.{reduced_automaton, reduced_known, reduces}
use Rattle.rela_reduce.proofs.reducing.reduce.Goals as goal

pub edge_lists-requires : goal.edge_lists-requires
edge_lists-requires g c =
    let n = plain c.in_ok-whole.whole in
    let lists = lists_of c.in_ok-lists.lists.items in
    let relation = lists_of c.in_ok-relation.relation.items in
    let each : length lists ≡ length n.finals = length-map c.in_ok-lists.lists.items (λ v. v.items) ∙ c.in_ok-lists.ensures.each in
    let widened : IsWidened relation (length n.finals) n.arrows lists =
    subst (λ rows. IsWidened (lists_of rows) (length n.finals) n.arrows lists) c.deref.ensures.value c.in_ok-lists.ensures.widened in
    let known : All (All (IsKnown n.labels)) lists =
    reduced_known c.args.a.now.letters c.with_numbers.new.labels n c.in_ok-whole.ensures.plain lists relation each widened c.in_ok-relation.ensures in
    subst (λ rows. All (All (IsKnown (length c.with_numbers.new.labels))) (lists_of rows)) (sym c.deref-2.ensures.value)
    (subst (λ (k : ℕ). All (All (IsKnown k)) lists) c.in_ok-whole.ensures.labels known)

pub from_lists-requires-clause-automaton : goal.from_lists-requires-clause-automaton
from_lists-requires-clause-automaton g c =
    let n = plain c.in_ok-whole.whole in
    let lists = lists_of c.in_ok-lists.lists.items in
    let relation = lists_of c.in_ok-relation.relation.items in
    let each : length lists ≡ length n.finals = length-map c.in_ok-lists.lists.items (λ v. v.items) ∙ c.in_ok-lists.ensures.each in
    let widened : IsWidened relation (length n.finals) n.arrows lists =
    subst (λ rows. IsWidened (lists_of rows) (length n.finals) n.arrows lists) c.deref.ensures.value c.in_ok-lists.ensures.widened in
    let whole : IsAutomaton (automaton_of c.args.a.now.letters c.with_numbers.new.labels n) = subst IsAutomaton (sym c.in_ok-whole.ensures.same) c.letters.ensures.automaton in
    let made = reduced_automaton c.args.a.now.letters c.with_numbers.new.labels n c.in_ok-whole.ensures.plain lists relation each widened c.in_ok-relation.ensures whole in
    subst (λ edges. IsAutomaton (record { letters = c.letters.result; start = c.in_ok-whole.whole.start; finals = c.in_ok-whole.whole.finals.items; edges = edges }))
    (sym (c.in_ok-edges.ensures ∙ ap (λ rows. edges_by c.with_numbers.new.labels (lists_of rows)) c.deref-2.ensures.value))
    (subst (λ (k : ℕ). IsAutomaton (record { letters = k; start = c.in_ok-whole.whole.start; finals = c.in_ok-whole.whole.finals.items; edges = edges_by c.with_numbers.new.labels lists })) (sym c.letters.ensures.letters) made)

pub returns : goal.returns
returns g c =
    let n = plain c.in_ok-whole.whole in
    let lists = lists_of c.in_ok-lists.lists.items in
    let relation = lists_of c.in_ok-relation.relation.items in
    let each : length lists ≡ length n.finals = length-map c.in_ok-lists.lists.items (λ v. v.items) ∙ c.in_ok-lists.ensures.each in
    let widened : IsWidened relation (length n.finals) n.arrows lists =
    subst (λ rows. IsWidened (lists_of rows) (length n.finals) n.arrows lists) c.deref.ensures.value c.in_ok-lists.ensures.widened in
    let all =
    reduces c.args.a.now c.from_lists.result c.with_numbers.new.labels n c.in_ok-whole.ensures.plain lists relation each widened c.in_ok-relation.ensures c.in_ok-whole.ensures.same
    (c.from_lists.ensures.letters ∙ c.letters.ensures.letters) c.from_lists.ensures.start c.from_lists.ensures.finals
    (c.from_lists.ensures.edges ∙ c.in_ok-edges.ensures ∙ ap (λ rows. edges_by c.with_numbers.new.labels (lists_of rows)) c.deref-2.ensures.value) in
    record {
      letters = c.from_lists.ensures.letters ∙ c.letters.ensures.letters;
      states = ap length (c.from_lists.ensures.finals ∙ ap (λ (a : Automaton). a.finals) c.in_ok-whole.ensures.same);
      language = all.language;
      reached = all.reached;
      same = all.same;
      apart = all.apart;
    }
