use Rattle.std.proofs.Common.{◌∙◌, sym, ap, refl}
use Rattle.rela_snapshot.specs.Located.{IsLocated}
use Rattle.rela_snapshot.specs.Names.{place_of}
use Rattle.rela_snapshot.proofs.Kept.{All-push}
use Rattle.rela_snapshot.proofs.PartnerLaws.{with_flow_at, no_other, one_other}
use Rattle.rela_snapshot.proofs.pairing.put.Goals as goal

pub returns-in-Some-clause-found : goal.returns-in-Some-clause-found
returns-in-Some-clause-found c = with_flow_at _ _ _ c.in-Some.place c.args.flow (ap (place_of c.args.names.now) (sym c.as_bytes.ensures.bytes) ∙ sym c.place.ensures.place ∙ c.in-Some.is) refl

pub returns-in-Some-clause-others : goal.returns-in-Some-clause-others
returns-in-Some-clause-others c = no_other c.args.names.now _ c.args.flow c.in-Some.place (ap (place_of c.args.names.now) (sym c.as_bytes.ensures.bytes) ∙ sym c.place.ensures.place ∙ c.in-Some.is)

pub returns-in_ok-push-in-None-clause-others : goal.returns-in_ok-push-in-None-clause-others
returns-in_ok-push-in-None-clause-others c = one_other c.args.names.now _ _ c.args.flow (ap (place_of c.args.names.now) (sym c.as_bytes.ensures.bytes) ∙ sym c.place.ensures.place ∙ c.in-None.is) c.in_ok-push-in-None.ensures.items

pub returns-in_ok-push-in-None-clause-located : goal.returns-in_ok-push-in-None-clause-located
returns-in_ok-push-in-None-clause-located c names level one found others =
    (found, All-push (λ flow. IsLocated names level flow.graph) c.args.partners.now.others.items c.push.new.self.items c.args.flow c.in_ok-push-in-None.ensures.items others one)
