use Rattle.std.proofs.Common.{ℕ, ◌+◌, map, subst}
use Rattle.std.proofs.lemmas.List.{length-map}
use Rattle.rela_rir.specs.BuiltTerms.{Stand}
use Rattle.rela_rir.specs.Tables.{IsStateReached, ReachFromSource}
use Rattle.rela_rir.specs.declared.term.PathTerm.TheVariants as P
use Rattle.rela_trans.specs.Images.{AreReachedFrom}
use Rattle.rela_build.specs.Numbered.{two_of}
use Rattle.rela_build.proofs.PairStates.{numbered, many_states}
use Rattle.rela_build.proofs.laws.images_are_placed.Goals as goal

pub returns-clause-placed : goal.returns-clause-placed
returns-clause-placed g c at x r n k a t u pairs one two are =
    let M = g.M.Machinery.machines in
    subst (λ (count : ℕ). Stand M at (P.Image x r) count u) (length-map pairs two_of)
    ((c.built_terms_are_placed.ensures.sets at x n a u one).image r k t two (map two_of pairs) (numbered pairs (ReachFromSource (M.reach a) (M.reach_pair t)) (M.reach u) are))

pub returns-clause-passes : goal.returns-clause-passes
returns-clause-passes g c at x r a t words relation limit one two reached more =
    let M = g.M.Machinery.machines in
    (c.reached_states_are_places.ensures at).image x r a t one two (limit + 1)
    (many_states limit (AreReachedFrom words relation) (IsStateReached (M.scene.of at) (ReachFromSource (M.reach a) (M.reach_pair t))) reached more)
