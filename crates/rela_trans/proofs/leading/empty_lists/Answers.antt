use Rattle.std.proofs.Common.{◌+◌, [], ◌∷◌, ◌++◌, length, get_or, ◌∙◌, ap}
use Rattle.std.proofs.lemmas.List.{length_push, map_push}
use Rattle.rela_trans.specs.Stored.{lists_of}
use Rattle.rela_trans.proofs.Coaccessible.{empty_more}
use Rattle.rela_trans.proofs.leading.empty_lists.Goals as goal

pub loop-state-preserved : goal.loop-state-preserved
loop-state-preserved c =
    let lists = c.loop-state.lists.items in record {
      each = ap length c.in_ok-push.ensures.items ∙ length_push lists c.new.result ∙ ap (λ n. n + 1) c.loop-state.invariant.each;
      empty =
          λ q. ap (λ l. get_or (lists_of l) q []) c.in_ok-push.ensures.items
          ∙ ap (λ l. get_or l q []) (map_push (λ v. v.items) lists c.new.result ∙ ap (λ items. lists_of lists ++ items ∷ []) c.new.ensures.items)
          ∙ empty_more (lists_of lists) c.loop-state.invariant.empty q;
    }
