use Rattle.std.proofs.Common.{◌<◌, length, get_or, set, ap, sym, subst, refl, ◌∙◌}
use Rattle.std.specs.List.{All, Contains}
use Rattle.std.proofs.lemmas.List.{length-map, map-set}
use Rattle.rela_minimise.specs.Stored.{stage_of}
use Rattle.rela_minimise.proofs.OneByOne.{list_read}
use Rattle.rela_minimise.proofs.Swapping.{swapped_len, swapped_lists, swapped_of}
use Rattle.rela_minimise.proofs.refinement.Refinement.swap.Goals as goal

pub own-requires : goal.own-requires
own-requires c =
    subst (λ n. All (λ q. q < n) c.deref.result.now) (sym (ap length c.deref-2.ensures.value))
    (subst (All (λ q. q < length c.args.self.now.classes.items)) (sym (list_read c.args.self.now.members.items c.args.a c.index.result.now c.deref.result.now c.requires.first c.index.ensures c.deref.ensures.value))
    (c.requires.held.within c.args.a))

pub own-requires-2 : goal.own-requires-2
own-requires-2 c =
    subst (λ n. All (λ q. q < n) c.deref-3.result.now) (sym (ap length c.deref-4.ensures.value))
    (subst (All (λ q. q < length c.args.self.now.classes.items)) (sym (list_read c.args.self.now.members.items c.args.b c.index-2.result.now c.deref-3.result.now c.requires.second c.index-2.ensures c.deref-3.ensures.value))
    (c.requires.held.within c.args.b))

pub returns : goal.returns
returns c =
    let items = c.args.self.now.members.items in
    let list_a = list_read items c.args.a c.index.result.now c.deref.result.now c.requires.first c.index.ensures c.deref.ensures.value in
    let list_b = list_read items c.args.b c.index-2.result.now c.deref-3.result.now c.requires.second c.index-2.ensures c.deref-3.ensures.value in
    let count = length-map items (λ v. v.items) in
    let signed = length-map c.args.self.now.signatures.items (λ v. v.items) in
    let sign_a : c.args.a < length c.args.self.now.signatures.items = subst (λ n. c.args.a < n) (sym (sym signed ∙ c.requires.held.signed ∙ count)) c.requires.first in
    let sign_b : c.args.b < length c.args.self.now.signatures.items = subst (λ n. c.args.b < n) (sym (sym signed ∙ c.requires.held.signed ∙ count)) c.requires.second in
    swapped_of (length c.args.self.now.classes.items) c.args.a c.args.b (stage_of c.args.self.now) _ c.in_ok-first.first.items c.in_ok-second.second.items c.write_all.new.classes.items c.requires.held
    (subst (λ n. c.args.a < n) (sym count) c.requires.first) (subst (λ n. c.args.b < n) (sym count) c.requires.second) c.requires.apart
    (λ q among own. c.in_ok-first.ensures.all q (subst (λ l. Contains l q) (sym list_a) among) (ap (λ cs. get_or cs q 0) c.deref-2.ensures.value ∙ own))
    (subst (λ n. All (λ q. q < n) c.in_ok-first.first.items) (ap length c.deref-2.ensures.value) c.in_ok-first.ensures.states)
    (λ q among. sym (ap (λ cs. get_or cs q 0) c.deref-2.ensures.value) ∙ c.in_ok-first.ensures.only q among)
    (λ q among own. c.in_ok-second.ensures.all q (subst (λ l. Contains l q) (sym list_b) among) (ap (λ cs. get_or cs q 0) c.deref-4.ensures.value ∙ own))
    (subst (λ n. All (λ q. q < n) c.in_ok-second.second.items) (ap length c.deref-4.ensures.value) c.in_ok-second.ensures.states)
    (λ q among. sym (ap (λ cs. get_or cs q 0) c.deref-4.ensures.value) ∙ c.in_ok-second.ensures.only q among)
    c.write_all.ensures.each
    (λ q among. c.write_all.ensures.written q (subst (λ l. Contains l q) (sym c.deref-5.ensures.value) among))
    (λ q missing. c.write_all.ensures.others q (λ among. missing (subst (λ l. Contains l q) c.deref-5.ensures.value among)))
    c.write_all-2.ensures.each
    (λ q among. c.write_all-2.ensures.written q (subst (λ l. Contains l q) (sym c.deref-6.ensures.value) among))
    (λ q missing. c.write_all-2.ensures.others q (λ among. missing (subst (λ l. Contains l q) c.deref-6.ensures.value among)))
    (map-set (λ v. v.items) (set items c.args.a c.in_ok-second.second) c.args.b c.in_ok-first.first
    ∙ ap (λ ls. set ls c.args.b c.in_ok-first.first.items) (map-set (λ v. v.items) items c.args.a c.in_ok-second.second))
    refl
    (swapped_len c.args.self.now.signatures.items c.swap.new.self.items c.args.a c.args.b c.in_ok-first.first sign_a sign_b c.requires.apart c.swap.ensures.items)
    (swapped_lists c.args.self.now.signatures.items c.swap.new.self.items c.args.a c.args.b c.in_ok-first.first sign_a sign_b c.requires.apart c.swap.ensures.items)
