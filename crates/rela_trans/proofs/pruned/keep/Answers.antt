use Rattle.std.proofs.Common.{false, get_or, map, ap, ◌∙◌, rules}
use Rattle.std.proofs.lemmas.Fn.{filter_same}
use Rattle.rela_trans.specs.Stored.{move_of}
use Rattle.rela_trans.proofs.Coaccessible.{map-filter}
use Rattle.rela_trans.proofs.pruned.keep.Goals as goal

pub returns : goal.returns
returns g c =
    let flags = c.args.flags.now in
    let kept = filter_same _ (λ edge. get_or flags edge.to false) _ (λ x b f' k. search rules) c.args.moves.now.items c.retain.new.self.items c.retain.ensures.filtered in
    ap (map (move_of g.L.LabelSet.letters)) kept ∙ map-filter (move_of g.L.LabelSet.letters) (λ move. get_or flags move.to false) c.args.moves.now.items
