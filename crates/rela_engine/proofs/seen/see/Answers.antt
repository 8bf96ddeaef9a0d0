use Rattle.std.proofs.Common.{◌<◌, ℕ, length, map, sym, subst}
use Rattle.std.specs.List.{All}
use Rattle.std.proofs.lemmas.Result.{err_from_is_err_and}
use Rattle.rela_build.specs.Reading.{read_by}
use Rattle.rela_graph.specs.Paths.{Paths}
use Rattle.rela_graph.specs.Topology.{symbol_at}
use Rattle.rela_names.specs.declared.level.Level.{Level}
use Rattle.rela_nfa.specs.Runs.{Accepts}
use Rattle.rela_pairs.specs.Reachable.{MoreThan}
use Rattle.rela_trans.specs.Composition.{Covers}
use Rattle.rela_trans.specs.Images.{AreReachedFrom}
use Rattle.rela_trans.specs.Runs.{Relates}
use Rattle.rela_engine.specs.Seen.{NodesStandAlone, machine_of}
use Rattle.rela_engine.proofs.LetterLaws.{covered}
use Rattle.rela_engine.proofs.Rereading.{realises_named}
use Rattle.rela_engine.proofs.Rows.{recognises_image}
use Rattle.rela_engine.proofs.seen.see.Goals as goal

pub paths_over-requires-clause-placed : goal.paths_over-requires-clause-placed
paths_over-requires-clause-placed g c =
    subst (λ (l : Level). All (λ node. symbol_at l node < length c.args.alphabet.now) c.args.graph.now.nodes) (sym c.level-level.ensures) c.requires.placed

pub paths_over-requires-clause-alone : goal.paths_over-requires-clause-alone
paths_over-requires-clause-alone g c =
    subst (λ (l : Level). NodesStandAlone c.args.blocks.now l c.args.graph.now.nodes) (sym c.level-level.ensures) c.requires.blocks.before

pub returns-clause-seen : goal.returns-clause-seen
returns-clause-seen g c =
    let blocks = c.args.blocks.now in
    let k = c.args.compiled.now in
    let words = Paths c.args.graph.now k.check.level c.args.alphabet.now in
    let pairs = Relates (read_by k.blocks) (machine_of c.args.form c.args.relation.now) in
    let of_paths = rw c.level-level.ensures at c.in_ok-paths.ensures.paths in
    let of_relation =
    realises_named blocks (λ u. Accepts c.in_ok-paths.paths (map (read_by blocks) u)) words pairs c.in_ok-relation.relation (λ u is. (of_paths.language u).1 is)
    (rw c.blocks-coarse.ensures.blocks at c.in_ok-relation.ensures.relation) in record {
      of_paths = of_paths;
      of_relation = of_relation;
      of_image = recognises_image blocks words pairs
          c.in_ok-paths.paths c.in_ok-relation.relation c.in_ok-image.image of_paths of_relation c.in_ok-image.ensures.letters
          (c.in_ok-image.ensures.language (read_by blocks) (subst (Covers (read_by blocks)) (sym of_paths.letters) (covered blocks c.requires.blocks.partition)));
      of_pairs = c.in_ok-image.ensures.pairs;
      paths_ok = c.in_ok-paths.ensures.automaton;
      relation_ok = c.in_ok-relation.ensures.machine;
      image_ok = c.start.ensures.automaton;
      least = rw c.level-level.ensures at c.in_ok-paths.ensures.least;
    }

pub returns-clause-places : goal.returns-clause-places
returns-clause-places g c plain = record {
  of_paths = rw c.level-level.ensures at (c.in_ok-paths.ensures.places plain);
  of_relation = rw c.blocks-coarse.ensures.blocks at (c.in_ok-relation.ensures.reached plain);
}

pub returns-in_err-image-clause-limit : goal.returns-in_err-image-clause-limit
returns-in_err-image-clause-limit g c =
    let p = err_from_is_err_and c.from_residual-in_err-image.result c.from_residual-in_err-image.ensures.1 in
    rw (p.1, p.2)
    (λ is plain. record {
      paths = c.in_ok-paths.paths;
      relation = c.in_ok-relation.relation;
      kept = record {
        of_paths = rw c.level-level.ensures at (c.in_ok-paths.ensures.places plain);
        of_relation = rw c.blocks-coarse.ensures.blocks at (c.in_ok-relation.ensures.reached plain);
      };
      relation_ok = c.in_ok-relation.ensures.machine;
      letters = c.in_ok-relation.ensures.relation.letters;
      many =
          subst (λ (n : ℕ). MoreThan n (AreReachedFrom c.in_ok-paths.paths c.in_ok-relation.relation)) c.states-states.ensures.states (c.in_err-image.ensures.limit is);
    })
