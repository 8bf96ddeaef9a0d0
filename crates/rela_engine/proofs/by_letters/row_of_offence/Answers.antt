use Rattle.std.proofs.Common.{ℕ, length, refl, ap, sym, subst}
use Rattle.std.proofs.lemmas.Result.{IfOk-weaker}
use Rattle.rela_build.specs.Reading.{read_by}
use Rattle.rela_report.specs.declared.rows.Side.{Side}
use Rattle.rela_report.specs.declared.rows.Side.TheVariants as side
use Rattle.rela_trans.specs.Runs.{Relates}
use Rattle.rela_engine.specs.Case.{flow_of}
use Rattle.rela_engine.specs.Compilation.{Twofold}
use Rattle.rela_engine.specs.LetterImages.{IsFirstOffence, TellsFirst}
use Rattle.rela_engine.specs.RowOf.{RowOf}
use Rattle.rela_blocks.specs.Scenes.{paths_of}
use Rattle.rela_engine.proofs.LetterImages.{lent_letters, side_image, side_row}
use Rattle.rela_engine.proofs.NodesApart.{finer_before, finer_after}
use Rattle.rela_engine.proofs.Placed.{placed}
use Rattle.rela_engine.proofs.by_letters.row_of_offence.Goals as goal

pub row_with_source-requires-clause-side : goal.row_with_source-requires-clause-side
row_with_source-requires-clause-side g c =
    let case = c.args.case.now in
    let k = case.compiled.now in
    let names = case.alphabet.now in
    let pair = case.pair.now in
    let level = k.check.level in
    let is = c.requires.case in
    let letters = c.args.offence.now.letters in
    let flow = paths_of level names pair.before pair.after in
    let t = c.before-relation.result.now.small in
    let t_is = ap (λ (r : Twofold). r.small) c.before-relation.ensures in
    record {
      alphabet = is.alphabet;
      placed = placed names level level (length names) pair.before refl refl is.located.0;
      blocks = finer_before k.blocks (length names) level pair.before pair.after case.blocks.now is.blocks;
      of_relation = lent_letters k case.relations.now is.relations side.Before t t_is;
      below = c.requires.offends.below;
      image = side_image k case.relations.now is.relations case.blocks.now flow side.Before letters
          (subst (λ (s : Side). IsFirstOffence k.check k.locations flow.pre flow.post case.blocks.now letters s) c.in-Before.is c.requires.offends) t t_is;
    }

pub row_with_source-requires-in-After-clause-side :
    goal.row_with_source-requires-in-After-clause-side
row_with_source-requires-in-After-clause-side g c =
    let case = c.args.case.now in
    let k = case.compiled.now in
    let names = case.alphabet.now in
    let pair = case.pair.now in
    let level = k.check.level in
    let is = c.requires.case in
    let letters = c.args.offence.now.letters in
    let flow = paths_of level names pair.before pair.after in
    let t = c.after-relation.result.now.small in
    let t_is = ap (λ (r : Twofold). r.small) c.after-relation.ensures in
    record {
      alphabet = is.alphabet;
      placed = placed names level level (length names) pair.after refl refl is.located.1;
      blocks = finer_after k.blocks (length names) level pair.before pair.after case.blocks.now is.blocks;
      of_relation = lent_letters k case.relations.now is.relations side.After t t_is;
      below = c.requires.offends.below;
      image = side_image k case.relations.now is.relations case.blocks.now flow side.After letters
          (subst (λ (s : Side). IsFirstOffence k.check k.locations flow.pre flow.post case.blocks.now letters s) c.in-After.is c.requires.offends) t t_is;
    }

pub returns-in-Before : goal.returns-in-Before
returns-in-Before g c =
    let case = c.args.case.now in
    let k = case.compiled.now in
    let blocks = case.blocks.now in
    let flow = paths_of k.check.level case.alphabet.now case.pair.now.before case.pair.now.after in
    let letters = c.args.offence.now.letters in
    let t = c.before-relation.result.now.small in
    IfOk-weaker c.row_with_source.result (TellsFirst blocks flow.pre (Relates (read_by k.blocks) t) letters c.args.offence.now.side)
    (RowOf k.check (length case.alphabet.now) flow k.states)
    (λ row tells.
    subst (λ (n : ℕ). RowOf k.check n flow k.states row) (sym c.requires.case.alphabet)
    (side_row k case.relations.now c.requires.case.relations blocks flow side.Before letters
    (subst (λ (s : Side). IsFirstOffence k.check k.locations flow.pre flow.post blocks letters s) c.in-Before.is c.requires.offends)
    t (ap (λ (r : Twofold). r.small) c.before-relation.ensures)
    (c.relations_tell_of_open_rows.ensures.there k c.requires.case.relations.within (flow_of case)) row
    (subst (λ (s : Side). TellsFirst blocks flow.pre (Relates (read_by k.blocks) t) letters s row) c.in-Before.is tells)))
    c.row_with_source.ensures

pub returns-in-After : goal.returns-in-After
returns-in-After g c =
    let case = c.args.case.now in
    let k = case.compiled.now in
    let blocks = case.blocks.now in
    let flow = paths_of k.check.level case.alphabet.now case.pair.now.before case.pair.now.after in
    let letters = c.args.offence.now.letters in
    let t = c.after-relation.result.now.small in
    IfOk-weaker c.row_with_source-in-After.result (TellsFirst blocks flow.post (Relates (read_by k.blocks) t) letters c.args.offence.now.side)
    (RowOf k.check (length case.alphabet.now) flow k.states)
    (λ row tells.
    subst (λ (n : ℕ). RowOf k.check n flow k.states row) (sym c.requires.case.alphabet)
    (side_row k case.relations.now c.requires.case.relations blocks flow side.After letters
    (subst (λ (s : Side). IsFirstOffence k.check k.locations flow.pre flow.post blocks letters s) c.in-After.is c.requires.offends)
    t (ap (λ (r : Twofold). r.small) c.after-relation.ensures)
    (c.relations_tell_of_open_rows.ensures.there k c.requires.case.relations.within (flow_of case)) row
    (subst (λ (s : Side). TellsFirst blocks flow.post (Relates (read_by k.blocks) t) letters s row) c.in-After.is tells)))
    c.row_with_source-in-After.ensures
