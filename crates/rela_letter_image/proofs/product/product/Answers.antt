use Rattle.std.proofs.Common.{List, [], subst, sym}
use Rattle.std.proofs.lemmas.Result.{IfOk-weaker}
use Rattle.rela_letter_image.specs.Coarse.{coarse_of}
use Rattle.rela_letter_image.specs.Needs.{AreAhead}
use Rattle.rela_letter_image.proofs.Needing.{all_live, tells_live}
use Rattle.rela_letter_image.proofs.product.product.Goals as goal

pub returns-in-Some : goal.returns-in-Some
returns-in-Some c =
    let t = c.args.relation.now in
    let read = coarse_of t.letters c.args.coarse.now in
    let needs = c.needs-needs.result.now in
    let ahead = c.deref.result.now in
    let are = subst (λ (l : List _). AreAhead read c.args.paths.now l) (sym c.deref.ensures.value) (c.in_ok-found.ensures c.in-Some.ahead c.in-Some.is) in
    IfOk-weaker c.product_told.result _ _ (λ image (pairs, is). (record { needs = needs; ahead = ahead }, pairs, tells_live read c.args.paths.now t needs ahead c.needs-needs.ensures.needs are, is)) c.product_told.ensures

pub returns-in-None : goal.returns-in-None
returns-in-None c =
    let t = c.args.relation.now in
    let read = coarse_of t.letters c.args.coarse.now in
    IfOk-weaker c.product_told-in-None.result _ _ (λ image (pairs, is). (record { needs = []; ahead = [] }, pairs, all_live read c.args.paths.now t [], is)) c.product_told-in-None.ensures
