use Rattle.rela_words.proofs.parts.Parts.states_without_flag.Goals as goal

pub returns-else-self : goal.returns-else-self
returns-else-self c = λ n. (
  λ e. ((c.states.ensures n).0 e, c.if-self.false),
  λ both. (c.states.ensures n).1 both.0,
)
