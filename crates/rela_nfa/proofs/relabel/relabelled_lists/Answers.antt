use Rattle.std.proofs.Common.{◌≡◌, List, length, map, sym, ap, ◌∙◌, subst, arith}
use Rattle.std.proofs.lemmas.List.{length-map}
use Rattle.rela_pairs.specs.Parting.{parts, Rises}
use Rattle.rela_nfa.specs.Automaton.{Move}
use Rattle.rela_nfa.specs.Relabelling.{relabelled_move}
use Rattle.rela_nfa.specs.Stored.{move_of}
use Rattle.rela_nfa.proofs.Parted.{parts_mapped}
use Rattle.rela_nfa.proofs.relabel.relabelled_lists.Given.{Over}
use Rattle.rela_nfa.proofs.relabel.relabelled_lists.Goals as goal

module _ (g : Over) (c : goal.In_ok-starts g) where
  edges_are : map (move_of g.M.LabelSet.letters) c.in_ok-edges.edges.items ≡ map (relabelled_move c.args.parents.now) (map (move_of g.L.LabelSet.letters) c.lists.inside.edges.items)
  edges_are = c.in_ok-edges.ensures ∙ ap (λ l. map (relabelled_move c.args.parents.now) (map (move_of g.L.LabelSet.letters) l)) c.deref.ensures.value

  starts_are : c.in_ok-starts.starts.items ≡ c.lists.inside.starts.items
  starts_are = c.in_ok-starts.ensures.items ∙ c.deref-2.ensures.value

pub invariant_of-result : goal.invariant_of-result
invariant_of-result g c =
    subst (Rises (length c.in_ok-edges.edges.items)) (sym (starts_are g c))
    (subst (λ n. Rises n c.lists.inside.starts.items)
    (omega (
      arith,
      ap length (edges_are g c),
      length-map c.in_ok-edges.edges.items (move_of g.M.LabelSet.letters),
      length-map (map (move_of g.L.LabelSet.letters) c.lists.inside.edges.items) (relabelled_move c.args.parents.now),
      length-map c.lists.inside.edges.items (move_of g.L.LabelSet.letters),
    ))
    c.lists.invariant)

pub returns : goal.returns
returns g c =
    (λ i. parts (edges_are g c i) (starts_are g c i)) ∙ parts_mapped (relabelled_move c.args.parents.now) (map (move_of g.L.LabelSet.letters) c.lists.inside.edges.items) c.lists.inside.starts.items
    ∙ ap (λ (l : List (List Move)). map (map (relabelled_move c.args.parents.now)) l) c.lists.view_is
