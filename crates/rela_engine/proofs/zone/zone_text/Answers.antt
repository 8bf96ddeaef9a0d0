use Rattle.std.proofs.Common.{◌∙◌, length, sym}
use Rattle.rela_engine.proofs.ComplementedParts.{exit}
use Rattle.rela_engine.proofs.ZoneAutomata.{enough, own_over, zone_letters, zone_passes, zone_text_is, zone_within}
use Rattle.rela_engine.proofs.zone.zone_text.Goals as goal

pub least_automaton-requires-clause-alone : goal.least_automaton-requires-clause-alone
least_automaton-requires-clause-alone c =
    zone_letters c.args.check.now c.args.alphabet.now c.in_ok-blocks.blocks c.in_ok-blocks.ensures.together c.in_ok-letters.letters c.in_ok-letters.ensures
    c.in_ok-zone.zone c.in_ok-zone.ensures.term (c.named_symbols_are_alone.ensures.zone c.in_ok-blocks.blocks (length c.args.alphabet.now) c.args.check.now.body)
    c.body.ensures.check

pub automaton_text-requires-clause-over : goal.automaton_text-requires-clause-over
automaton_text-requires-clause-over c =
    own_over c.args.check.now c.args.alphabet.now c.in_ok-blocks.blocks c.in_ok-blocks.ensures.together c.in_ok-letters.letters c.in_ok-letters.ensures
    c.in_ok-zone.zone c.in_ok-zone.ensures.term c.in_ok-least.least c.in_ok-least.ensures.least

pub automaton_text-requires-clause-symbols : goal.automaton_text-requires-clause-symbols
automaton_text-requires-clause-symbols c =
    enough c.args.check.now c.args.alphabet.now c.in_ok-blocks.blocks c.in_ok-blocks.ensures.together c.in_ok-letters.letters c.in_ok-letters.ensures
    c.in_ok-zone.zone c.in_ok-zone.ensures.term

pub returns-clause-text : goal.returns-clause-text
returns-clause-text c =
    zone_text_is c.args.check.now c.args.alphabet.now c.in_ok-blocks.blocks c.in_ok-blocks.ensures.together c.in_ok-letters.letters c.in_ok-letters.ensures
    c.in_ok-zone.zone c.in_ok-zone.ensures.term c.in_ok-zone.ensures.zone c.in_ok-least.least c.in_ok-least.ensures.least
    c.in_ok-text.text.items c.in_ok-text.ensures

pub returns-clause-within : goal.returns-clause-within
returns-clause-within c =
    zone_within c.args.check.now c.args.alphabet.now c.in_ok-blocks.blocks c.in_ok-blocks.ensures.together c.in_ok-letters.letters c.in_ok-letters.ensures
    c.in_ok-zone.zone c.in_ok-zone.ensures.term c.args.states c.in_ok-least.ensures.within

pub returns-in_err-least-clause-past : goal.returns-in_err-least-clause-past
returns-in_err-least-clause-past c =
    exit _ _ c.from_residual-in_err-least.result c.from_residual-in_err-least.ensures.1
    (λ e is limit. zone_passes c.args.check.now c.args.alphabet.now c.in_ok-blocks.blocks c.in_ok-blocks.ensures.together c.in_ok-letters.letters c.in_ok-letters.ensures
    c.in_ok-zone.zone c.in_ok-zone.ensures.term c.args.states (c.in_err-least.ensures.past (sym is ∙ limit)))

pub check_letters-requires-clause-blocks : goal.check_letters-requires-clause-blocks
check_letters-requires-clause-blocks c = c.in_ok-blocks.ensures.blocks.letters
