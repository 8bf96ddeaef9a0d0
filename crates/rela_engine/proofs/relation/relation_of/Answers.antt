use Rattle.std.proofs.Common.{sym, subst}
use Rattle.std.specs.Option.{unwrap_or}
use Rattle.rela_build.specs.Made.{IsMadeR}
use Rattle.rela_build.specs.PathSets.{no_paths, scene_of}
use Rattle.rela_rir.specs.Meaning.{InR}
use Rattle.rela_engine.specs.Compilation.{Twofold}
use Rattle.rela_engine.specs.Reading.{Realises}
use Rattle.rela_engine.proofs.CheckedRelations.{made_letters, made_small}
use Rattle.rela_engine.proofs.relation.relation_of.Goals as goal

pub small_relation-requires : goal.small_relation-requires
small_relation-requires c =
    made_letters ⊥ c.args.letters.now no_paths c.args.term.now c.in_ok-plain.plain c.in_ok-plain.ensures.made c.partition.result.now c.partition.ensures

pub returns-clause-plain : goal.returns-clause-plain
returns-clause-plain c =
    subst (λ (r : Twofold). IsMadeR ⊥ c.args.letters.now no_paths c.args.term.now r.plain) (sym c.in_ok-relation.ensures) c.in_ok-plain.ensures.made

pub returns-clause-small : goal.returns-clause-small
returns-clause-small c =
    subst (λ (r : Twofold). Realises c.args.letters.now.blocks (InR (scene_of c.args.letters.now no_paths).setting c.args.term.now) r.small) (sym c.in_ok-relation.ensures)
    (made_small ⊥ c.args.letters.now no_paths c.args.term.now c.in_ok-plain.plain c.in_ok-plain.ensures.made c.partition.result.now c.partition.ensures
    (unwrap_or c.in_ok-small.small c.in_ok-plain.plain) c.in_ok-small.ensures)
