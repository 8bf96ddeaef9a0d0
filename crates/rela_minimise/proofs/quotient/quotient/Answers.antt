use Rattle.std.proofs.Common.{length, map, ap, sym, subst, ◌∙◌}
use Rattle.rela_nfa.specs.Stored.{moves_in}
use Rattle.rela_minimise.specs.Classes.{finality}
use Rattle.rela_minimise.specs.Joining.{HaveEdgesOnto, IsQuotient}
use Rattle.rela_minimise.proofs.Heads.{start_class}
use Rattle.rela_minimise.proofs.Quotients.{quotient_alike, quotient_arrival, quotient_deterministic, quotient_language, quotient_reachable}
use Rattle.rela_minimise.proofs.quotient.quotient.Goals as goal
use Rattle.rela_minimise.proofs.quotient.quotient.Goals.{After-drop-finals-2}

pub from_parts-requires : goal.from_parts-requires
from_parts-requires g c =
    let d = c.args.dfa.now in
    let numbers = c.args.classes.now.numbers.items in
    let heads = c.args.classes.now.heads.items in
    quotient_deterministic d c.requires.deterministic numbers heads c.requires.classes c.requires.heads _ (record {
      over = c.over.ensures;
      start = start_class d c.requires.deterministic (length heads) numbers c.requires.classes c.start.result c.start.ensures.start c.index-start.result.now c.index-start.ensures;
      finals = c.deref-4.ensures.value ∙ c.in_ok-finals.ensures ∙ ap (map (finality d)) c.deref.ensures.value;
      edges = subst (λ cs. HaveEdgesOnto d cs heads (moves_in g.L.LabelSet.letters c.in_ok-edges.edges.items)) c.deref-2.ensures.value
          (subst (λ hs. HaveEdgesOnto d c.deref-2.result.now hs (moves_in g.L.LabelSet.letters c.in_ok-edges.edges.items)) c.deref-3.ensures.value c.in_ok-edges.ensures);
    })

module _ (g : Rattle.rela_minimise.proofs.quotient.quotient.Given.Over) (c : After-drop-finals-2 g) where
  made_is : IsQuotient c.args.dfa.now c.args.classes.now.numbers.items c.args.classes.now.heads.items c.in_ok-made.made
  made_is =
      let d = c.args.dfa.now in
      let numbers = c.args.classes.now.numbers.items in
      let heads = c.args.classes.now.heads.items in
      record {
        over = c.in_ok-made.ensures.over ∙ c.over.ensures;
        start = c.in_ok-made.ensures.start ∙ start_class d c.requires.deterministic (length heads) numbers c.requires.classes c.start.result c.start.ensures.start c.index-start.result.now c.index-start.ensures;
        finals = c.in_ok-made.ensures.finals ∙ c.deref-4.ensures.value ∙ c.in_ok-finals.ensures ∙ ap (map (finality d)) c.deref.ensures.value;
        edges = subst (HaveEdgesOnto d numbers heads) (sym c.in_ok-made.ensures.edges)
            (subst (λ cs. HaveEdgesOnto d cs heads (moves_in g.L.LabelSet.letters c.in_ok-edges.edges.items)) c.deref-2.ensures.value
            (subst (λ hs. HaveEdgesOnto d c.deref-2.result.now hs (moves_in g.L.LabelSet.letters c.in_ok-edges.edges.items)) c.deref-3.ensures.value c.in_ok-edges.ensures));
      }

pub returns-clause-language : goal.returns-clause-language
returns-clause-language g c =
    quotient_language c.args.dfa.now c.requires.deterministic c.args.classes.now.numbers.items c.args.classes.now.heads.items c.requires.classes c.requires.heads c.in_ok-made.made (made_is g c)

pub returns-clause-alike : goal.returns-clause-alike
returns-clause-alike g c =
    quotient_alike c.args.dfa.now c.requires.deterministic c.args.classes.now.numbers.items c.args.classes.now.heads.items c.requires.classes c.requires.heads c.in_ok-made.made (made_is g c)

pub returns-clause-reachable : goal.returns-clause-reachable
returns-clause-reachable g c =
    quotient_reachable c.args.dfa.now c.requires.deterministic c.args.classes.now.numbers.items c.args.classes.now.heads.items c.requires.classes c.requires.heads c.in_ok-made.made (made_is g c)

pub returns-clause-arrival : goal.returns-clause-arrival
returns-clause-arrival g c =
    quotient_arrival c.args.dfa.now c.requires.deterministic c.args.classes.now.numbers.items c.args.classes.now.heads.items c.requires.classes c.requires.heads c.in_ok-made.made (made_is g c)
