use Rattle.std.proofs.Common.{◌≡◌, Ok, Err, List, map, ap, subst, ◌∙◌, arith, sym}
use Rattle.rela_json.specs.Results.{try_map}
use Rattle.rela_claims.specs.Classes.{Place, resolved_class}
use Rattle.rela_claims.specs.Written.{classes_of, mentioned}
use Rattle.rela_claims.specs.declared.classes.Mention.{Mention}
use Rattle.rela_claims.proofs.Making.{large_refused}
use Rattle.rela_claims.proofs.resolving.claim.Goals as goal

pub returns-in_err-look_at_size-clause-refused : goal.returns-in_err-look_at_size-clause-refused
returns-in_err-look_at_size-clause-refused c =
    let place : Place = record { network = c.args.locations.now; level = c.args.level } in
    let e = c.in_err-look_at_size.field-0.0 in
    let fault : c.from_residual-in_err-look_at_size.result ≡ Err e = grind arith in
    let look : try_map (resolved_class place) (map mentioned c.in_ok-mentions.mentions.items) ≡ Ok (classes_of c.in_ok-mentions.mentions.items) =
    subst (λ (ms : List Mention). try_map (resolved_class place) (map mentioned ms) ≡ Ok (classes_of ms)) c.as_slice.ensures.value c.in_ok-look_at_all.ensures.all in
    rw fault
    (λ apart.
    rw c.in_err-look_at_size.ensures.refused
    (large_refused place c.args.assertion.now c.in_ok-mentions.mentions.items c.in_ok-mentions.ensures.all look c.in_err-look_at_size.ensures.large))

pub made-requires-clause-mentioned : goal.made-requires-clause-mentioned
made-requires-clause-mentioned c = ap (λ (ms : List Mention). map mentioned ms) c.as_slice-mentions.ensures.value ∙ c.in_ok-mentions.ensures.all

pub made-requires-clause-found : goal.made-requires-clause-found
made-requires-clause-found c =
    let place : Place = record { network = c.args.locations.now; level = c.args.level } in
    subst (λ (ms : List Mention). try_map (resolved_class place) (map mentioned ms) ≡ Ok (classes_of ms)) (c.as_slice.ensures.value ∙ sym c.as_slice-mentions.ensures.value) c.in_ok-look_at_all.ensures.all
