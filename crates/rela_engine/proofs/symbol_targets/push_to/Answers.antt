use Rattle.std.proofs.Common.{[], ◌∷◌, ◌++◌, set, ap, sym, ◌∙◌, map}
use Rattle.std.proofs.lemmas.List.{get_or-map, map-set}
use Rattle.rela_engine.proofs.symbol_targets.push_to.Goals as goal

pub returns : goal.returns
returns c =
    let lists = c.args.lists.now.items in
    map-set (λ list. list.items) lists c.args.at c.push.new.self
    ∙ ap (λ list. set (map (λ v. v.items) lists) c.args.at list)
    (c.in_ok-push.ensures.items
    ∙ ap (λ list. list ++ c.args.symbol ∷ []) (ap (λ list. list.items) c.index_mut.ensures.value ∙ sym (get_or-map (λ list. list.items) lists c.args.at c.index_mut.result.now [] c.requires)))
