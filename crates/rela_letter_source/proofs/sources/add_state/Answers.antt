use Rattle.rela_letter_source.proofs.sources.add_state.Goals as goal

pub returns : goal.returns
returns c = record {
  between = c.add_steps.new.growing;
  is_final = c.is_end-is_final.result;
  grows = c.in_ok-add_steps.ensures;
  ended = c.in_ok-end_state.ensures;
  final = c.is_end-is_final.ensures;
}
