use Rattle.rela_demonstrate.proofs.demonstrating.load_layered.Goals as goal

pub returns-clause-layered : goal.returns-clause-layered
returns-clause-layered c = c.load_texts.ensures.layered c.args.layers (record {
  from_one = c.requires.from_one;
  at_most = c.requires.at_most;
  locations = c.in_ok-input.ensures.locations;
  before = c.in_ok-input.ensures.before;
  after = c.in_ok-input.ensures.after;
  spec = c.in_ok-input.ensures.spec;
})
