use Rattle.std.proofs.Common.{◌≡◌, ℕ, ◌+◌, ◌<◌, ◌≤◌, Ok, Err, All, List, [], ◌∷◌, ◌++◌, drop, get_or, length, map, ap, sym, subst, ◌∙◌, arith}
use Rattle.std.proofs.lemmas.List.{drop_all}
use Rattle.std.proofs.lemmas.List.Elements.{All-push}
use Rattle.rela_json.specs.Results.{try_fold}
use Rattle.rela_rirfile.specs.declared.written.Assert.{Assert}
use Rattle.rela_claims.specs.Claims.{Claimed, ListsPathSymbols, NamesByClasses, claimed_of, claims_of, free_name, names_of, with_claim}
use Rattle.rela_claims.specs.Classes.{Place}
use Rattle.rela_claims.proofs.Making.{claim_added, claim_refused, name_refused}
use Rattle.rela_claims.proofs.Steps.{fold_goes_on, fold_stops}
use Rattle.rela_claims.proofs.Views.{map_last}
use Rattle.rela_claims.proofs.resolving.resolve_each.Goals as goal

pub returns-in_err-take-clause-refused : goal.returns-in_err-take-clause-refused
unfolding claims_of
returns-in_err-take-clause-refused c =
    let place : Place = record { network = c.args.locations.now; level = c.args.file.now.level } in
    let here = c.loop-assertion.invariant in
    let so_far = map claimed_of c.loop-assertion.claims.items in
    let asserts = c.args.file.now.asserts in
    let i = c.loop-assertion.assertion-index in
    let a = c.assertion-item.result in
    let within : i < length asserts = subst (λ (xs : List Assert). i < length xs) c.as_slice-assertion-items.ensures c.loop-assertion-test.true in
    let is : a ≡ get_or asserts i a = subst (λ (xs : List Assert). a ≡ get_or xs i a) c.as_slice-assertion-items.ensures c.assertion-item.is in
    let e = c.in_err-take.field-0.0 in
    let fault : c.from_residual.result ≡ Err e = grind arith in
    rw fault
    (λ apart.
    sym here.rest
    ∙ fold_stops (with_claim place) so_far asserts i a within is e
    (name_refused place so_far a e (subst (λ (ns : List (List ℕ)). free_name ns a.name a.at ≡ Err e) here.named (c.in_err-take.ensures.refused apart))))

pub returns-in_err-claim-clause-refused : goal.returns-in_err-claim-clause-refused
unfolding claims_of
returns-in_err-claim-clause-refused c =
    let place : Place = record { network = c.args.locations.now; level = c.args.file.now.level } in
    let here = c.loop-assertion.invariant in
    let so_far = map claimed_of c.loop-assertion.claims.items in
    let asserts = c.args.file.now.asserts in
    let i = c.loop-assertion.assertion-index in
    let a = c.assertion-item.result in
    let within : i < length asserts = subst (λ (xs : List Assert). i < length xs) c.as_slice-assertion-items.ensures c.loop-assertion-test.true in
    let is : a ≡ get_or asserts i a = subst (λ (xs : List Assert). a ≡ get_or xs i a) c.as_slice-assertion-items.ensures c.assertion-item.is in
    let free : free_name (names_of so_far) a.name a.at ≡ Ok a.name = subst (λ (ns : List (List ℕ)). free_name ns a.name a.at ≡ Ok a.name) here.named c.in_ok-take.ensures.free in
    let e = c.in_err-claim.field-0.0 in
    let fault : c.from_residual-in_err-claim.result ≡ Err e = grind arith in
    rw fault
    (λ apart.
    sym here.rest
    ∙ fold_stops (with_claim place) so_far asserts i a within is e (claim_refused place so_far a free e (c.in_err-claim.ensures.refused apart)))

pub loop-assertion-preserved : goal.loop-assertion-preserved
loop-assertion-preserved c =
    let place : Place = record { network = c.args.locations.now; level = c.args.file.now.level } in
    let here = c.loop-assertion.invariant in
    let claims = c.loop-assertion.claims.items in
    let so_far = map claimed_of claims in
    let claim = c.in_ok-claim.field-0 in
    let asserts = c.args.file.now.asserts in
    let i = c.loop-assertion.assertion-index in
    let a = c.assertion-item.result in
    let within : i < length asserts = subst (λ (xs : List Assert). i < length xs) c.as_slice-assertion-items.ensures c.loop-assertion-test.true in
    let is : a ≡ get_or asserts i a = subst (λ (xs : List Assert). a ≡ get_or xs i a) c.as_slice-assertion-items.ensures c.assertion-item.is in
    let free : free_name (names_of so_far) a.name a.at ≡ Ok a.name = subst (λ (ns : List (List ℕ)). free_name ns a.name a.at ≡ Ok a.name) here.named c.in_ok-take.ensures.free in
    let pushed : c.push.new.self.items ≡ claims ++ claim ∷ [] = c.in_ok-push.ensures.items in
    let added : map claimed_of c.push.new.self.items ≡ so_far ++ claimed_of claim ∷ [] = ap (map claimed_of) pushed ∙ map_last claimed_of claims claim in
    record {
      rest =
          ap (λ (cs : List Claimed). try_fold (with_claim place) cs (drop (i + 1) asserts)) added
          ∙ fold_goes_on (with_claim place) so_far asserts i a within is (so_far ++ claimed_of claim ∷ []) (claim_added place so_far a free (claimed_of claim) c.in_ok-claim.ensures.claim)
          ∙ here.rest;
      named =
          c.in_ok-take.ensures.taken
          ∙ ap (λ (ns : List (List ℕ)). ns ++ a.name ∷ []) here.named
          ∙ ap (λ (n : List ℕ). names_of so_far ++ n ∷ []) (sym c.in_ok-claim.ensures.name)
          ∙ sym (map_last (λ (x : Claimed). x.name) so_far (claimed_of claim))
          ∙ sym (ap names_of added);
      below =
          subst (All (ListsPathSymbols place)) (sym pushed) (All-push (ListsPathSymbols place) claims claim here.below c.in_ok-claim.ensures.below);
      plain = subst (All NamesByClasses) (sym pushed) (All-push NamesByClasses claims claim here.plain c.in_ok-claim.ensures.plain);
    }

pub returns-clause-claims : goal.returns-clause-claims
unfolding claims_of
returns-clause-claims c =
    let place : Place = record { network = c.args.locations.now; level = c.args.file.now.level } in
    let past : length c.args.file.now.asserts ≤ c.loop-assertion.assertion-index =
    subst (λ (xs : List Assert). length xs ≤ c.loop-assertion.assertion-index) c.as_slice-assertion-items.ensures c.loop-assertion-test.false in
    sym c.loop-assertion.invariant.rest
    ∙ ap (try_fold (with_claim place) (map claimed_of c.loop-assertion.claims.items)) (drop_all c.loop-assertion.assertion-index c.args.file.now.asserts past)
