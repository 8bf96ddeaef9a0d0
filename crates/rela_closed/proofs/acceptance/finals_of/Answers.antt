use Rattle.std.proofs.Common.{◌<◌, ◌↔◌, [], ◌∷◌, length, get_or, subst, sym, arith}
use Rattle.std.specs.Bool.{IsTrue}
use Rattle.std.proofs.lemmas.List.Elements.{All-get_or}
use Rattle.rela_closed.specs.Sets.{AreMet, HasFinal}
use Rattle.rela_closed.proofs.Accepting.{flags_longer, flags_more, set_at}
use Rattle.rela_closed.proofs.acceptance.finals_of.Goals as goal

pub has_final-requires : goal.has_final-requires
has_final-requires g c =
    let within : c.loop-number.number < length c.args.table.now = omega arith in
    let sets = get_or c.args.table.now c.loop-number.number [] in
    subst (λ set. AreMet (c.args.a.now ∷ []) (set ∷ []))
    (set_at (λ set. set.items) c.get.result.now c.args.n c.index-get-n.result sets c.deref.result.now c.get.ensures
    (All-get_or (λ sets. c.args.n < length sets) c.args.table.now c.loop-number.number [] within c.requires.some) c.index-get-n.is c.deref.ensures.value)
    (All-get_or (λ sets. AreMet (c.args.a.now ∷ []) (get_or sets c.args.n [] ∷ [])) c.args.table.now c.loop-number.number [] within c.requires.met)

pub loop-number-preserved : goal.loop-number-preserved
loop-number-preserved g c =
    let within : c.loop-number.number < length c.args.table.now = omega arith in
    let sets = get_or c.args.table.now c.loop-number.number [] in
    record {
      each = flags_longer c.loop-number.flags.items c.push.new.self.items c.loop-number.number c.has_final.result c.loop-number.invariant.each c.in_ok-push.ensures.items;
      final_states =
          flags_more (λ i. HasFinal c.args.a.now (get_or (get_or c.args.table.now i []) c.args.n [])) c.loop-number.flags.items c.push.new.self.items c.loop-number.number c.has_final.result
          c.loop-number.invariant.each c.in_ok-push.ensures.items c.loop-number.invariant.final_states
          (subst (λ set. IsTrue c.has_final.result ↔ HasFinal c.args.a.now set)
          (sym (set_at (λ set. set.items) c.get.result.now c.args.n c.index-get-n.result sets c.deref.result.now c.get.ensures
          (All-get_or (λ sets. c.args.n < length sets) c.args.table.now c.loop-number.number [] within c.requires.some) c.index-get-n.is c.deref.ensures.value)) c.has_final.ensures);
    }
