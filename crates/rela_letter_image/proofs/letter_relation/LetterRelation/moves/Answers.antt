use Rattle.std.proofs.Common.{subst}
use Rattle.rela_trans.specs.Machine.{IsMachine}
use Rattle.rela_letter_image.specs.LetterMoves.{laid, none_laid}
use Rattle.rela_letter_image.proofs.LaidOut.{state_leads}
use Rattle.rela_letter_image.proofs.letter_relation.LetterRelation.moves.Goals as goal

pub returns-clause-lead : goal.returns-clause-lead
returns-clause-lead c =
    let fields = c.self.inside in
    state_leads c.args.self.now fields.states.0 fields.finals.items fields.letters fields.start c.args.q (laid c.get.result) none_laid c.self.view_is
    (subst IsMachine c.self.view_is c.self.invariant.0) c.requires c.get.ensures
