use Rattle.std.proofs.Common.{◌∷◌, [], ◌++◌, map, ap, ◌∙◌}
use Rattle.std.proofs.lemmas.List.{map-append}
use Rattle.rela_reduce.proofs.labels.Labels.number.Goals as goal

pub returns-clause-grown : goal.returns-clause-grown
returns-clause-grown g c = (
  g.L.LabelSet.letters c.args.label.now ∷ [],
  ap (map (λ label. g.L.LabelSet.letters label.now)) c.in_ok-push.ensures.items
      ∙ map-append (λ label. g.L.LabelSet.letters label.now) c.self.inside.found.items (c.args.label ∷ [])
      ∙ ap (λ known. known ++ g.L.LabelSet.letters c.args.label.now ∷ []) c.self.view_is,
)
