use Rattle.std.proofs.Common.{◌≡◌, ◌++◌, List, [], ◌∷◌, length, map, sym, ap, ◌∙◌, subst, arith, length-append}
use Rattle.rela_pairs.specs.Parting.{parts, Rises}
use Rattle.rela_nfa.specs.Automaton.{Move}
use Rattle.rela_nfa.specs.Stored.{move_of}
use Rattle.rela_nfa.proofs.Parted.{rises_more, lists_more}
use Rattle.rela_nfa.proofs.edge_lists.EdgeLists.push.Goals as goal

pub invariant_of-self-in_err-append : goal.invariant_of-self-in_err-append
invariant_of-self-in_err-append g c =
    let edges = c.self.inside.edges.items in
    let starts = c.self.inside.starts.items in
    let all : c.len.result ≡ length edges = c.len.ensures ∙ c.self.inside.edges.ok.0 in
    let pushed : c.push.new.self.items ≡ starts ++ length edges ∷ [] = c.in_ok-push.ensures.items ∙ ap (λ n. starts ++ n ∷ []) all in
    subst (Rises (length c.append.new.self.items)) (sym pushed)
    (rises_more (length edges) (length c.append.new.self.items) starts c.self.invariant (omega (arith, ap length c.in_err-append.ensures.items)))

pub invariant_of-self-2 : goal.invariant_of-self-2
invariant_of-self-2 g c =
    let edges = c.self.inside.edges.items in
    let starts = c.self.inside.starts.items in
    let all : c.len.result ≡ length edges = c.len.ensures ∙ c.self.inside.edges.ok.0 in
    let pushed : c.push.new.self.items ≡ starts ++ length edges ∷ [] = c.in_ok-push.ensures.items ∙ ap (λ n. starts ++ n ∷ []) all in
    subst (Rises (length c.append.new.self.items)) (sym pushed)
    (rises_more (length edges) (length c.append.new.self.items) starts c.self.invariant
    (omega (arith, ap length c.in_ok-append.ensures.items, length-append edges c.args.edges.now.items)))

pub returns-clause-list : goal.returns-clause-list
returns-clause-list g c =
    let move = move_of g.L.LabelSet.letters in
    let edges = c.self.inside.edges.items in
    let starts = c.self.inside.starts.items in
    let list = c.args.edges.now.items in
    let all : c.len.result ≡ length edges = c.len.ensures ∙ c.self.inside.edges.ok.0 in
    let pushed : c.push.new.self.items ≡ starts ++ length edges ∷ [] = c.in_ok-push.ensures.items ∙ ap (λ n. starts ++ n ∷ []) all in
    let extended : c.append.new.self.items ≡ edges ++ list = c.in_ok-append.ensures.items in
    (λ i. parts (map move (extended i)) (pushed i)) ∙ lists_more move edges list starts c.self.invariant ∙ ap (λ (l : List (List Move)). l ++ map move list ∷ []) c.self.view_is
