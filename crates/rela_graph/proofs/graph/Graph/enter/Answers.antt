use Rattle.std.proofs.Common.{◌≡◌, ◌++◌, ◌∷◌, [], map, ap, ◌∙◌}
use Rattle.std.specs.List.{Contains}
use Rattle.std.proofs.lemmas.Bool.{both_ways}
use Rattle.rela_graph.specs.declared.leaving.Visit.TheVariants.{Enter, Leave}
use Rattle.rela_graph.proofs.Entering.{visits_nodes, less_work}
use Rattle.rela_graph.proofs.graph.Graph.enter.Goals as goal

pub returns : goal.returns
returns c =
    let before = c.args.visits.now.items in
    let out = c.edges_from.result.now in
    let after = c.enter_all.new.visits.items in
    let entered : after ≡ (before ++ Leave c.args.n ∷ []) ++ map (λ link. Enter link.b) out =
    c.in_ok-enter_all.ensures ∙ ap (λ l. l ++ map (λ link. Enter link.b) out) c.in_ok-push.ensures.items in
    let lacking : ¬ Contains c.args.entered.now.nodes c.args.n = λ h. both_ways _ c.if-contains.false (c.contains.ensures.1 h) in
    record {
      count = c.insert.ensures.count ∙ c.requires.count;
      visits = visits_nodes c.args.self.now c.args.n out before after entered c.requires.node c.edges_from.ensures.each c.requires.visits;
      work = less_work c.args.self.now c.args.n out before after entered c.args.entered.now c.insert.new.self c.insert.ensures.count c.in_ok-insert.ensures.ok lacking
          c.insert.ensures.few c.edges_from.ensures.few;
    }
