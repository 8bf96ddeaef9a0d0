use Rattle.std.proofs.Common.{sym, ◌∙◌, subst}
use Rattle.rela_closed.specs.Sets.{AreMet, Leads}
use Rattle.rela_closed.proofs.Leaving.{goes_on, goes_out, known_same}
use Rattle.rela_closed.proofs.SetsFound.{sets_in}
use Rattle.rela_closed.proofs.followers.follower.Goals as goal

pub next-requires : goal.next-requires
next-requires g c = subst (AreMet c.args.reader.now) (sym c.get.ensures) c.requires.met

pub returns-then-to-known-clause-out : goal.returns-then-to-known-clause-out
returns-then-to-known-clause-out g c =
    goes_out c.args.reader.now (sets_in c.in_ok-next.next.items) c.args.table.now c.number.new.self c.in_ok-to.to c.in_ok-to.ensures.numbered _ c.args.letter
    (subst (λ s. Leads c.args.reader.now s c.args.letter (sets_in c.in_ok-next.next.items)) c.get.ensures c.in_ok-next.ensures.leads) (c.if-to-known.true ∙ c.len-known.ensures.len)
    c.in_ok-to.ensures.distinct

pub returns-clause-follows : goal.returns-clause-follows
returns-clause-follows g c =
    goes_on c.args.reader.now (sets_in c.in_ok-next.next.items) c.args.table.now c.number.new.self c.in_ok-to.to c.in_ok-to.ensures.numbered _ c.args.letter
    (subst (λ s. Leads c.args.reader.now s c.args.letter (sets_in c.in_ok-next.next.items)) c.get.ensures c.in_ok-next.ensures.leads)
    (λ at. c.if-to-known.false (at ∙ sym c.len-known.ensures.len))

pub returns-clause-kept : goal.returns-clause-kept
returns-clause-kept g c =
    known_same c.args.reader.now (sets_in c.in_ok-next.next.items) c.args.table.now c.number.new.self c.in_ok-to.to c.in_ok-to.ensures.numbered
    (λ at. c.if-to-known.false (at ∙ sym c.len-known.ensures.len))
