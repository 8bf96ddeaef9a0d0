use Rattle.std.proofs.Common.{Bool, List, ℕ, length, ap, sym, subst, arith}
use Rattle.std.proofs.lemmas.Result.{IfOk-weaker}
use Rattle.rela_letter_nfa.specs.Runs.{Accepts}
use Rattle.rela_report.specs.declared.rows.Side.TheVariants as side
use Rattle.rela_engine.specs.Case.{paths_in}
use Rattle.rela_engine.specs.Compilation.{Twofold}
use Rattle.rela_engine.specs.LetterImages.{AreParents, TellsOfFlow, TellsOfImages}
use Rattle.rela_engine.proofs.LetterImages.{flow_told, image_below, lent_letters, reads_image}
use Rattle.rela_engine.proofs.by_letters.compare_images.Goals as goal

pub image_of-requires : goal.image_of-requires
image_of-requires c = record {
  few = omega (arith, ap length c.as_slice-parents.ensures.value, c.requires.paths.parents.each, c.blocks-blocks.ensures.count, c.blocks-blocks.type_inv);
}

pub image_of-requires-2 : goal.image_of-requires-2
image_of-requires-2 c = record {
  few = omega (arith, ap length c.as_slice-parents.ensures.value, c.requires.paths.parents.each, c.blocks-blocks.ensures.count, c.blocks-blocks.type_inv);
}

pub returns : goal.returns
returns c =
    let case = c.args.case.now in
    let k = case.compiled.now in
    let relations = case.relations.now in
    let blocks = case.blocks.now in
    let is = c.requires.case in
    let pre = paths_in case case.pair.now.before in
    let post = paths_in case case.pair.now.after in
    let first = c.before-first.result.now.small in
    let second = c.after-second.result.now.small in
    let first_is = ap (λ (r : Twofold). r.small) c.before-first.ensures in
    let second_is = ap (λ (r : Twofold). r.small) c.after-second.ensures in
    let parents = c.as_slice-parents.result.now in
    let are = subst (λ (l : List ℕ). AreParents k.blocks blocks l) (sym c.as_slice-parents.ensures.value) c.requires.paths.parents in
    let same = is.blocks.refines.same_symbols in
    let before = c.in-Some.before in
    let after = c.in-Some-2.after in
    let of_before = c.in_ok-before.ensures.image before c.in-Some.is in
    let of_after = c.in_ok-after.ensures.image after c.in-Some-2.is in
    IfOk-weaker c.compare.result (TellsOfImages c.at_most-at_most.result (Accepts before) (Accepts after)) (TellsOfFlow k.check k.locations pre post blocks)
    (λ told tells.
    flow_told k relations is.relations blocks is.blocks.partition pre post (Accepts before) (Accepts after) first second first_is second_is
    (reads_image k.blocks blocks parents same are pre c.args.paths.now.before first before is.blocks.partition c.requires.paths.before
    (lent_letters k relations is.relations side.Before first first_is) of_before)
    (reads_image k.blocks blocks parents same are post c.args.paths.now.after second after is.blocks.partition c.requires.paths.after
    (lent_letters k relations is.relations side.After second second_is) of_after)
    (image_below k.blocks blocks parents same are c.args.paths.now.before first before c.in_ok-before.ensures.machine of_before)
    (image_below k.blocks blocks parents same are c.args.paths.now.after second after c.in_ok-after.ensures.machine of_after) told
    (subst (λ (b : Bool). TellsOfImages b (Accepts before) (Accepts after) told) c.at_most-at_most.ensures tells))
    c.compare.ensures.told
