use Rattle.std.proofs.Common.{◌≡◌, ℕ, ◌<◌, ◌↔◌, List, Some, map, ◌∙◌, sym, ap, subst, refl}
use Rattle.std.specs.List.{All, Contains}
use Rattle.std.proofs.lemmas.Result.{err_from_is_err_and}
use Rattle.rela_pairs.specs.Reachable.{Reachable, MoreThan}
use Rattle.rela_pairs.specs.declared.pair.Pair.{Pair}
use Rattle.rela_nfa.specs.Automaton.{Automaton, states}
use Rattle.rela_nfa.specs.Meeting.{pair_of}
use Rattle.rela_trans.specs.Composition.{next_pairs, final_both}
use Rattle.rela_trans.specs.ImageMoves.{source_of, product_of}
use Rattle.rela_trans.specs.Images.{IsWritten}
use Rattle.rela_trans.specs.Machine.{Machine, machine_states}
use Rattle.rela_trans.proofs.ImageMade.{image_more, image_reachable, image_states, image_ok, image_pairs, image_words}
use Rattle.rela_trans.proofs.imaging.image.Goals as goal

-- the pair of the two starts
abbrev start_is : (a : Automaton) (t : Machine) (p q : ℕ) → p ≡ a.start → q ≡ t.start → pair_of p q ≡ pair_of a.start t.start
start_is a t p q left right = λ i. pair_of (left i) (right i)

pub returns-in_err-explored-clause-limit : goal.returns-in_err-explored-clause-limit
returns-in_err-explored-clause-limit g c =
    let a = c.args.a.now in
    let t = c.args.transducer.now in
    let e = start_is a t c.start.result c.start-2.result c.start.ensures.start c.start-2.ensures.start in
    let p = err_from_is_err_and c.from_residual.result c.from_residual.ensures.1 in
    rw (p.1, p.2) (λ is. image_more a t c.start.ensures.automaton c.args.limit (subst (λ s. MoreThan c.args.limit (Reachable (next_pairs (source_of a) t) s)) e (c.in_err-explored.ensures.limit is)))

pub image_finals-requires : goal.image_finals-requires
image_finals-requires g c =
    let a = c.args.a.now in
    let t = c.args.transducer.now in
    let e = start_is a t c.start.result c.start-2.result c.start.ensures.start c.start-2.ensures.start in
    subst (λ (l : List Pair). All (λ x. (x.left < states a) × (x.right < machine_states t)) l) (sym c.pairs.ensures)
    (image_states a t c.start.ensures.automaton c.start-2.ensures.machine c.in_ok-explored.explored.pairs
    (λ x. subst (λ s. Contains c.in_ok-explored.explored.pairs x ↔ Reachable (next_pairs (source_of a) t) s x) e (c.in_ok-explored.ensures.reachable x)))

pub image_edges-requires-clause-pairs : goal.image_edges-requires-clause-pairs
image_edges-requires-clause-pairs g c =
    let a = c.args.a.now in
    let t = c.args.transducer.now in
    let e = start_is a t c.start.result c.start-2.result c.start.ensures.start c.start-2.ensures.start in
    image_states a t c.start.ensures.automaton c.start-2.ensures.machine c.in_ok-explored.explored.pairs
    (λ x. subst (λ s. Contains c.in_ok-explored.explored.pairs x ↔ Reachable (next_pairs (source_of a) t) s x) e (c.in_ok-explored.ensures.reachable x))

pub from_lists-requires-clause-automaton : goal.from_lists-requires-clause-automaton
from_lists-requires-clause-automaton g c =
    let a = c.args.a.now in
    let t = c.args.transducer.now in
    let x = c.in_ok-explored.explored in
    let e = start_is a t c.start.result c.start-2.result c.start.ensures.start c.start-2.ensures.start in
    let r : Automaton = record {
      letters = c.letters.result;
      start = 0;
      finals = c.in_ok-finals.finals.items;
      edges = c.in_ok-edges.edges;
    } in
    let written : IsWritten (product_of (source_of a) t x) r = record {
      letters = c.letters.ensures.letters;
      start = refl;
      finals = c.in_ok-finals.ensures ∙ ap (λ (l : List Pair). map (final_both (source_of a) t) l) c.pairs.ensures;
      edges = c.in_ok-edges.ensures;
    } in
    let first = c.in_ok-explored.ensures.first ∙ ap Some e in
    let each : (y : Pair) → Contains x.pairs y ↔ Reachable (next_pairs (source_of a) t) (pair_of a.start t.start) y =
    λ y. subst (λ s. Contains x.pairs y ↔ Reachable (next_pairs (source_of a) t) s y) e (c.in_ok-explored.ensures.reachable y) in
    image_ok a t c.start.ensures.automaton x r written c.start-2.ensures.machine c.requires.letters c.in_ok-explored.ensures.distinct first each c.in_ok-explored.ensures.targets

pub returns-clause-pairs : goal.returns-clause-pairs
returns-clause-pairs g c =
    let a = c.args.a.now in
    let t = c.args.transducer.now in
    let x = c.in_ok-explored.explored in
    let e = start_is a t c.start.result c.start-2.result c.start.ensures.start c.start-2.ensures.start in
    let r = c.from_lists.result in
    let written : IsWritten (product_of (source_of a) t x) r = record {
      letters = c.from_lists.ensures.letters ∙ c.letters.ensures.letters;
      start = c.from_lists.ensures.start;
      finals = c.from_lists.ensures.finals ∙ c.in_ok-finals.ensures ∙ ap (λ (l : List Pair). map (final_both (source_of a) t) l) c.pairs.ensures;
      edges = c.from_lists.ensures.edges ∙ c.in_ok-edges.ensures;
    } in
    let first = c.in_ok-explored.ensures.first ∙ ap Some e in
    let each : (y : Pair) → Contains x.pairs y ↔ Reachable (next_pairs (source_of a) t) (pair_of a.start t.start) y =
    λ y. subst (λ s. Contains x.pairs y ↔ Reachable (next_pairs (source_of a) t) s y) e (c.in_ok-explored.ensures.reachable y) in
    (x.pairs, image_pairs a t c.start.ensures.automaton x r written c.start-2.ensures.machine c.requires.letters c.in_ok-explored.ensures.distinct first each c.in_ok-explored.ensures.targets)

pub returns-clause-language : goal.returns-clause-language
returns-clause-language g c =
    let a = c.args.a.now in
    let t = c.args.transducer.now in
    let x = c.in_ok-explored.explored in
    let e = start_is a t c.start.result c.start-2.result c.start.ensures.start c.start-2.ensures.start in
    let r = c.from_lists.result in
    let written : IsWritten (product_of (source_of a) t x) r = record {
      letters = c.from_lists.ensures.letters ∙ c.letters.ensures.letters;
      start = c.from_lists.ensures.start;
      finals = c.from_lists.ensures.finals ∙ c.in_ok-finals.ensures ∙ ap (λ (l : List Pair). map (final_both (source_of a) t) l) c.pairs.ensures;
      edges = c.from_lists.ensures.edges ∙ c.in_ok-edges.ensures;
    } in
    let first = c.in_ok-explored.ensures.first ∙ ap Some e in
    let each : (y : Pair) → Contains x.pairs y ↔ Reachable (next_pairs (source_of a) t) (pair_of a.start t.start) y =
    λ y. subst (λ s. Contains x.pairs y ↔ Reachable (next_pairs (source_of a) t) s y) e (c.in_ok-explored.ensures.reachable y) in
    image_words a t c.start.ensures.automaton x r written c.start-2.ensures.machine c.requires.letters c.in_ok-explored.ensures.distinct first each c.in_ok-explored.ensures.targets

pub returns-clause-within : goal.returns-clause-within
returns-clause-within g c =
    let a = c.args.a.now in
    let t = c.args.transducer.now in
    let e = start_is a t c.start.result c.start-2.result c.start.ensures.start c.start-2.ensures.start in
    λ more. c.in_ok-explored.ensures.within (subst (λ s. MoreThan c.args.limit (Reachable (next_pairs (source_of a) t) s)) (sym e) (image_reachable a t c.start.ensures.automaton c.args.limit more))
