use Rattle.rela_labels.proofs.WideLetters.{held_one}
use Rattle.rela_labels.proofs.wide_members.Members.minus.Goals as goal

pub returns-in-One-clause-held : goal.returns-in-One-clause-held
returns-in-One-clause-held c =
    let held = held_one c.args.size c.in-One.letter c.args.self.now c.requires.first c.in-One.is in
    c.one_if.ensures.held c.args.size held.0 held.1
