use Rattle.std.proofs.Common.{subst}
use Rattle.rela_letter_image.specs.ByLetters.{AddsMoves}
use Rattle.rela_letter_image.proofs.letter_by_letter.add_copy.Goals as goal

pub returns : goal.returns
returns g c = record {
  between = c.add_edges.new.builder.parts;
  is_final = c.is_final.result;
  adds = subst (λ l. AddsMoves l c.args.builder.now.parts c.add_edges.new.builder.parts) c.edges.ensures.moves c.in_ok-add_edges.ensures;
  ended = c.in_ok-end_state.ensures.ended;
  final = c.is_final.ensures;
}
