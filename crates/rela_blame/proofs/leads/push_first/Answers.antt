use Rattle.std.proofs.Common.{◌≡◌, Some, arith}
use Rattle.std.specs.Prelude.{slice_get}
use Rattle.rela_blame.proofs.Values.{first_below, first_pushed}
use Rattle.rela_blame.proofs.leads.push_first.Goals as goal

pub returns-in_ok-push-in-Some-clause-value : goal.returns-in_ok-push-in-Some-clause-value
returns-in_ok-push-in-Some-clause-value c = λ values bound below.
    let head : slice_get c.args.parts.now 0 ≡ Some c.in-Some.lead.now = grind arith in
    first_pushed values bound c.args.leads.now.items c.push.new.self.items c.args.parts.now c.in-Some.lead.now c.first_of.result head below
    (c.first_of.ensures.value values bound) c.in_ok-push-in-Some.ensures.items

pub returns-in_ok-push-in-Some-clause-below : goal.returns-in_ok-push-in-Some-clause-below
returns-in_ok-push-in-Some-clause-below c = λ values bound below old.
    let head : slice_get c.args.parts.now 0 ≡ Some c.in-Some.lead.now = grind arith in
    first_below values bound c.args.leads.now.items c.push.new.self.items c.args.parts.now c.in-Some.lead.now c.first_of.result head below old
    (c.first_of.ensures.below values bound) c.in_ok-push-in-Some.ensures.items
