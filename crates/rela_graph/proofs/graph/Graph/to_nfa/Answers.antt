use Rattle.std.proofs.Common.{length, ◌∙◌, refl, sym, subst, arith}
use Rattle.rela_nfa.specs.Automaton.{Automaton}
use Rattle.rela_graph.specs.Paths.{locations}
use Rattle.rela_graph.specs.Unrolled.{IsUnrolled}
use Rattle.rela_graph.proofs.Blocked.{location_alone, location_below, letter_is}
use Rattle.rela_graph.proofs.PathWords.{path_symbols_only}
use Rattle.rela_graph.proofs.Reading.{IsLettered, read_begin, read_nodes, read_end, read_language}
use Rattle.rela_graph.proofs.Unrolling.{IsReader, reader_ok, reader_states}
use Rattle.rela_graph.proofs.graph.Graph.to_nfa.Goals as goal

pub from_lists-requires-clause-automaton : goal.from_lists-requires-clause-automaton
from_lists-requires-clause-automaton g c =
    let nfa : Automaton = record {
      letters = c.in_ok-letters.letters.count;
      start = 0;
      finals = c.in_ok-finals.finals.items;
      edges = c.in_ok-edges.edges;
    } in
    let built : IsReader c.args.self.now c.in_ok-letters.letters nfa = record {
      count = refl;
      start = refl;
      finals = c.in_ok-finals.ensures.finals;
      edges = c.in_ok-edges.ensures;
    } in
    reader_ok c.args.self.now c.in_ok-letters.letters c.in_ok-finals.ensures.topology nfa built

pub returns : goal.returns
returns g c =
    let graph = c.args.self.now in
    let letters = c.in_ok-letters.letters in
    let blocks = c.args.blocks.now in
    let level = c.args.level in
    let alphabet = c.args.alphabet.now in
    let topology = c.in_ok-finals.ensures.topology in
    let nfa = c.from_lists.result in
    let built : IsReader graph letters nfa = record {
      count = c.from_lists.ensures.letters;
      start = c.from_lists.ensures.start;
      finals = c.from_lists.ensures.finals ∙ c.in_ok-finals.ensures.finals;
      edges = subst (IsUnrolled graph letters) (sym c.from_lists.ensures.edges) c.in_ok-edges.ensures;
    } in
    let lettered : IsLettered graph (locations graph level) blocks (length alphabet) letters = record {
      nodes = letter_is graph level blocks letters.nodes.items c.in_ok-letters.ensures.nodes;
      drops = c.in_ok-letters.ensures.drops;
      loops = c.in_ok-letters.ensures.loops;
      within = λ n below. omega (arith, location_below graph level (length alphabet) c.requires.placed n below, c.requires.symbols);
      alone = location_alone graph level blocks c.requires.alone_nodes;
      alone_drop = c.requires.alone_drop;
      alone_loop = c.requires.alone_loop;
    } in
    record {
      letters = built.count ∙ c.in_ok-letters.ensures.count;
      states = reader_states graph letters topology nfa built;
      begin = read_begin graph level alphabet blocks letters nfa topology lettered built;
      nodes = read_nodes graph level alphabet blocks letters nfa topology lettered built;
      end = read_end graph level alphabet blocks letters nfa topology lettered built;
      language = read_language graph level alphabet blocks letters nfa topology lettered built;
      of_path_symbols = path_symbols_only graph topology level alphabet c.requires.placed;
    }
