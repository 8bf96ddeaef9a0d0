use Rattle.std.proofs.Common.{◌+◌, [], ◌∷◌, ◌++◌, get_or, take, sym, ap, ◌∙◌, subst, arith}
use Rattle.rela_closed.specs.Listing.{AreListed}
use Rattle.rela_closed.specs.Words.{words_of}
use Rattle.rela_closed.specs.declared.step.Step.{Step}
use Rattle.rela_closed.proofs.Listed.{from_below, from_reached, listed_first, listed_step, parent_numbered}
use Rattle.rela_closed.proofs.SetsFound.{sets_in}
use Rattle.rela_closed.proofs.numbering.number_words.Goals as goal

abbrev no_step : Step
no_step = record { parent = 0; letter = 0 }

pub loop-step-init : goal.loop-step-init
loop-step-init g c = record {
  same = c.in_ok-first.ensures.same;
  listed =
      subst (λ l. AreListed l ([] ∷ []) c.number.new.self c.push.new.self.items) (sym c.in_ok-first.ensures.same)
      (listed_first c.args.reader.now (sets_in c.in_ok-first.first.items) c.args.table.now c.number.new.self c.in_ok-number.field-0 c.push.new.self.items c.requires.empty
      c.in_ok-first.ensures.first c.in_ok-number.ensures.numbered (c.in_ok-push.ensures.items ∙ ap (λ l. l ++ c.in_ok-number.field-0 ∷ []) c.in_ok-numbers.ensures.items));
}

pub index-from-requires : goal.index-from-requires
index-from-requires g c =
    let within = parent_numbered c.loop-step.reader c.args.steps.now c.loop-step.step-index no_step c.loop-step.table c.loop-step.numbers.items c.loop-step-test.true c.requires.ordered
    c.loop-step.invariant.listed in
    omega (arith, within, c.loop-step.numbers.ok.0)

pub get-requires : goal.get-requires
get-requires g c =
    from_below c.loop-step.reader c.args.steps.now c.loop-step.step-index no_step c.loop-step.table c.loop-step.numbers.items c.loop-step-test.true c.requires.ordered
    c.loop-step.invariant.listed c.index-from.result.now c.index-from.ensures

pub next-requires : goal.next-requires
next-requires g c = (
  get_or (words_of (take c.loop-step.step-index c.args.steps.now)) (get_or c.args.steps.now c.loop-step.step-index no_step).parent [],
  from_reached c.loop-step.reader c.args.steps.now c.loop-step.step-index no_step c.loop-step.table c.loop-step.numbers.items c.loop-step-test.true c.requires.ordered
      c.loop-step.invariant.listed c.index-from.result.now c.index-from.ensures (sets_in c.get.result.now) c.get.ensures,
)

pub loop-step-preserved : goal.loop-step-preserved
loop-step-preserved g c = record {
  same = c.in_ok-next.ensures.same ∙ c.loop-step.invariant.same;
  listed =
      subst (λ l. AreListed l (words_of (take (c.loop-step.step-index + 1) c.args.steps.now)) c.number-in-loop-step.new.self c.push-in-loop-step.new.self.items) (sym c.in_ok-next.ensures.same)
      (subst (λ ns. AreListed c.loop-step.reader (words_of (take (c.loop-step.step-index + 1) c.args.steps.now)) c.number-in-loop-step.new.self ns) (sym c.in_ok-push-2.ensures.items)
      (listed_step c.loop-step.reader c.args.steps.now c.loop-step.step-index no_step c.loop-step.table c.loop-step.numbers.items c.loop-step-test.true c.requires.ordered
      c.loop-step.invariant.listed c.index-from.result.now c.index-from.ensures (sets_in c.get.result.now) (sets_in c.in_ok-next.next.items) c.number-in-loop-step.new.self c.in_ok-number-2.field-0
      c.get.ensures c.in_ok-next.ensures.leads c.in_ok-number-2.ensures.numbered));
}
