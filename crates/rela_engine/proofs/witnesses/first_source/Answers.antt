use Rattle.std.proofs.Common.{ℕ, ◌<◌, List, sym, subst}
use Rattle.std.specs.List.{All}
use Rattle.std.proofs.lemmas.Result.{IfOk-weaker}
use Rattle.rela_labels.specs.Partition.{block_count}
use Rattle.rela_engine.specs.Seen.{AreLeast, IsFirstSource}
use Rattle.rela_engine.proofs.LetterLaws.{accepted_letters}
use Rattle.rela_engine.proofs.witnesses.first_source.Goals as goal

pub least_symbols-requires : goal.least_symbols-requires
least_symbols-requires g c =
    let first = rw c.in-Some.is at c.in_ok-source.ensures.found in
    let below = accepted_letters c.args.paths.now c.requires.automaton c.in-Some.source first.member.0 in
    subst (λ (w : List ℕ). All (λ k. k < block_count c.args.blocks.now) w) (sym c.as_slice.ensures)
    (subst (λ n. All (λ k. k < n) c.in-Some.source) c.requires.letters below)

pub unreachable-requires : goal.unreachable-requires
unreachable-requires g c = (rw c.in-None.is at c.in_ok-source.ensures.none) c.requires.some.0 c.requires.some.1

pub returns : goal.returns
returns g c =
    let blocks = c.args.blocks.now in
    IfOk-weaker c.least_symbols.result (AreLeast blocks c.as_slice.result.now) (IsFirstSource blocks c.args.paths.now c.args.relation.now c.args.word.now)
    (λ symbols are. record {
      letters = c.in-Some.source;
      first = rw c.in-Some.is at c.in_ok-source.ensures.found;
      symbols_are = subst (λ (w : List ℕ). AreLeast blocks w symbols) c.as_slice.ensures are;
    }) c.least_symbols.ensures
