use Rattle.std.proofs.Common.{◌≡◌, Err, ◌∙◌, arith}
use Rattle.rela_claims.specs.Classes.{Place, resolved_class}
use Rattle.rela_claims.specs.Written.{class_of, mentioned}
use Rattle.rela_claims.proofs.Steps.{all_tried, none_tried, one_stops, one_tried, try_of_view}
use Rattle.rela_claims.proofs.looking.look_at_all.Goals as goal

pub loop-mention-init : goal.loop-mention-init
loop-mention-init c =
    let place : Place = record { network = c.args.locations.now; level = c.args.level } in
    none_tried (λ m. resolved_class place (mentioned m)) (λ m. class_of m.class) c.args.mentions.now

pub returns-in_err-look_at-clause-refused : goal.returns-in_err-look_at-clause-refused
returns-in_err-look_at-clause-refused c =
    let place : Place = record { network = c.args.locations.now; level = c.args.level } in
    let e = c.in_err-look_at.field-0.0 in
    let fault : c.from_residual.result ≡ Err e = grind arith in
    rw fault
    (try_of_view (resolved_class place) mentioned c.args.mentions.now
    ∙ one_stops (λ m. resolved_class place (mentioned m)) (λ m. class_of m.class) c.args.mentions.now c.loop-mention.mention-index c.mention-item.result
    c.loop-mention-test.true c.mention-item.is c.loop-mention.invariant e (c.in_err-look_at.ensures.refused))

pub loop-mention-preserved : goal.loop-mention-preserved
loop-mention-preserved c =
    let place : Place = record { network = c.args.locations.now; level = c.args.level } in
    one_tried (λ m. resolved_class place (mentioned m)) (λ m. class_of m.class) c.args.mentions.now c.loop-mention.mention-index c.mention-item.result
    c.loop-mention-test.true c.mention-item.is c.loop-mention.invariant c.in_ok-look_at.ensures.some

pub returns-clause-all : goal.returns-clause-all
returns-clause-all c =
    let place : Place = record { network = c.args.locations.now; level = c.args.level } in
    try_of_view (resolved_class place) mentioned c.args.mentions.now
    ∙ all_tried (λ m. resolved_class place (mentioned m)) (λ m. class_of m.class) c.args.mentions.now c.loop-mention.mention-index
    c.loop-mention-test.false c.loop-mention.invariant
