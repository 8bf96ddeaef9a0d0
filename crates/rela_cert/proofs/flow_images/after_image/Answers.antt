use Rattle.std.proofs.Common.{Some, length, inl, inr, refl, sym, subst}
use Rattle.std.proofs.lemmas.Result.{IfErr-weaker, IfOk-weaker}
use Rattle.rela_blocks.specs.Scenes.{lettering_of}
use Rattle.rela_build.specs.Made.{IsMade, IsMadeR}
use Rattle.rela_build.specs.PathSets.{no_paths}
use Rattle.rela_rir.specs.declared.term.PathTerm.TheVariants as P
use Rattle.rela_trans.specs.Machine.{Machine}
use Rattle.rela_translate.specs.Terms.{after_of}
use Rattle.rela_cert.specs.CheckRelations.{IsReadBy, IsRefined}
use Rattle.rela_cert.specs.RowNames.{name_of}
use Rattle.rela_cert.specs.RowParts.{lettering_at, paths_at}
use Rattle.rela_cert.proofs.RefinedRelations.{relation_letters}
use Rattle.rela_cert.proofs.RowJudged.{made_here}
use Rattle.rela_cert.proofs.flow_images.after_image.Goals as goal

pub written-requires-clause-words : goal.written-requires-clause-words
written-requires-clause-words c = c.in_ok-paths.ensures.letters

pub written-requires-clause-relation : goal.written-requires-clause-relation
written-requires-clause-relation c =
    let check = c.args.row.now.check.now in
    let n = length c.args.row.now.alphabet.now in
    let l = lettering_of check n c.args.coarse.now in
    let made : IsMadeR (Unit {0}) l no_paths (after_of n check.body) c.after-relation.result.now =
    subst (IsMadeR (Unit {0}) l no_paths (after_of n check.body)) (sym c.after-relation.ensures) c.requires.relations.after in
    relation_letters (Unit {0}) l no_paths (after_of n check.body) c.after-relation.result.now made

pub returns-clause-made : goal.returns-clause-made
returns-clause-made c =
    let row = c.args.row.now in
    let check = row.check.now in
    let names = row.alphabet.now in
    let n = length names in
    let pre = row.pair.now.before in
    let post = row.pair.now.after in
    let coarse = c.args.coarse.now in
    let fine = c.args.blocks.now in
    let words = c.in_ok-paths.paths in
    let t = c.after-relation.result.now in
    let of_flow : IsMade (Unit {0}) (lettering_at row fine) (paths_at row) P.Post words =
    made_here (Unit {0}) check names pre post (lettering_at row fine) refl c.level.result c.level.ensures P.Post P.Post words refl
    (c.path_sets_are_made.ensures.after (Some (record { level = c.level.result; names = names; before = pre; after = post })) (lettering_at row fine) words c.in_ok-paths.ensures) in
    let made : IsMadeR (Unit {0}) (lettering_of check n c.args.coarse.now) no_paths (after_of n check.body) c.after-relation.result.now =
    subst (IsMadeR (Unit {0}) (lettering_of check n c.args.coarse.now) no_paths (after_of n check.body)) (sym c.after-relation.ensures) c.requires.relations.after in
    let read : (u : Machine) → IsRefined coarse fine words t u → IsReadBy (name_of row) coarse fine P.Post (after_of n check.body) words t u =
    λ u refined. record {
      letters = c.requires.blocks.letters;
      made = of_flow;
      fixed = c.terms_name_no_paths.ensures.after n check.body;
      relation = made;
      refined = refined;
    } in
    IfOk-weaker c.written.result _ _
    (λ image told. c.written_images_are_made.ensures.made (name_of row) coarse fine P.Post (after_of n check.body) words t told.0 image (read told.0 told.1) told.2)
    c.written.ensures.written

pub returns-clause-limit : goal.returns-clause-limit
returns-clause-limit c =
    let row = c.args.row.now in
    let check = row.check.now in
    let names = row.alphabet.now in
    let n = length names in
    let pre = row.pair.now.before in
    let post = row.pair.now.after in
    let coarse = c.args.coarse.now in
    let fine = c.args.blocks.now in
    let words = c.in_ok-paths.paths in
    let t = c.after-relation.result.now in
    let of_flow : IsMade (Unit {0}) (lettering_at row fine) (paths_at row) P.Post words =
    made_here (Unit {0}) check names pre post (lettering_at row fine) refl c.level.result c.level.ensures P.Post P.Post words refl
    (c.path_sets_are_made.ensures.after (Some (record { level = c.level.result; names = names; before = pre; after = post })) (lettering_at row fine) words c.in_ok-paths.ensures) in
    let made : IsMadeR (Unit {0}) (lettering_of check n c.args.coarse.now) no_paths (after_of n check.body) c.after-relation.result.now =
    subst (IsMadeR (Unit {0}) (lettering_of check n c.args.coarse.now) no_paths (after_of n check.body)) (sym c.after-relation.ensures) c.requires.relations.after in
    let read : (u : Machine) → IsRefined coarse fine words t u → IsReadBy (name_of row) coarse fine P.Post (after_of n check.body) words t u =
    λ u refined. record {
      letters = c.requires.blocks.letters;
      made = of_flow;
      fixed = c.terms_name_no_paths.ensures.after n check.body;
      relation = made;
      refined = refined;
    } in
    IfErr-weaker c.written.result _ _
    (λ e told is last.
    let passed = told is in
    inr (inl (c.written_images_are_made.ensures.passes (name_of row) coarse fine P.Post (after_of n check.body) words t passed.0 4000000 (read passed.0 passed.1) passed.2)))
    c.written.ensures.limit
