use Rattle.std.proofs.Common.{◌≡◌, ◌+◌, ◌++◌, ◌∷◌, [], get_or, length, map, ap, sym, ◌∙◌, subst, arith}
use Rattle.std.proofs.lemmas.List.{length_push}
use Rattle.std.proofs.lemmas.List.Elements.{All-get_or}
use Rattle.rela_nfa.specs.Stored.{move_of, moves_in}
use Rattle.rela_closed.specs.Listing.{AreAllEdges}
use Rattle.rela_closed.specs.Sets.{AreMet}
use Rattle.rela_closed.proofs.Edges.{all_edges_more, edges_as}
use Rattle.rela_closed.proofs.Readers.{map_pushed}
use Rattle.rela_closed.proofs.transitions.transitions.Goals as goal

pub edges_from-requires-clause-met : goal.edges_from-requires-clause-met
edges_from-requires-clause-met g c =
    subst (λ l. AreMet l (get_or c.loop-number.table c.loop-number.number [])) (sym c.loop-number.invariant.same)
    (subst (λ t. AreMet c.args.reader.now (get_or t c.loop-number.number [])) (sym c.loop-number.invariant.kept)
    (All-get_or (AreMet c.args.reader.now) c.args.table.now c.loop-number.number [] (omega arith) c.requires))

pub loop-number-preserved : goal.loop-number-preserved
loop-number-preserved g c =
    let letters = g.L.LabelSet.letters in
    let out = rw c.in-Some.is at c.in_ok-out.ensures.edges in
    let kept = rw c.in-Some.is at c.in_ok-out.ensures.kept in
    let so_far = moves_in letters c.loop-number.edges.items in
    let here = map (move_of letters) c.in-Some.out.items in
    let pushed : moves_in letters c.push.new.self.items ≡ so_far ++ here ∷ [] =
    map_pushed (λ v. map (move_of letters) v.items) c.loop-number.edges.items c.push.new.self.items c.in-Some.out c.in_ok-push.ensures.items in
    record {
      same = c.in_ok-out.ensures.same ∙ c.loop-number.invariant.same;
      kept = kept ∙ c.loop-number.invariant.kept;
      each = ap length pushed ∙ length_push so_far here ∙ ap (λ n. n + 1) c.loop-number.invariant.each;
      edges =
          all_edges_more (letters c.args.over.now) c.args.reader.now c.args.table.now c.loop-number.number so_far (moves_in letters c.push.new.self.items) here c.loop-number.invariant.each
          pushed c.loop-number.invariant.edges
          (edges_as (letters c.args.over.now) c.args.reader.now c.loop-number.reader c.args.table.now c.loop-number.table c.loop-number.number (length (letters c.args.over.now)) here
          c.loop-number.invariant.same c.loop-number.invariant.kept out);
    }

pub returns-clause-edges : goal.returns-clause-edges
returns-clause-edges g c =
    let letters = g.L.LabelSet.letters in
    let all : c.loop-number.number ≡ length c.args.table.now = omega arith in
    subst (λ n. AreAllEdges (letters c.args.over.now) c.args.reader.now c.args.table.now n (moves_in letters c.loop-number.edges.items)) all c.loop-number.invariant.edges
