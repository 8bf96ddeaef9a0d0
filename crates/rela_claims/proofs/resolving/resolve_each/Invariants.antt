use Rattle.std.proofs.Common.{◌≡◌, [], All, drop, map}
use Rattle.rela_json.specs.Results.{try_fold}
use Rattle.rela_claims.specs.Claims.{ListsPathSymbols, NamesByClasses, claimed_of, names_of, with_claim}
use Rattle.rela_claims.specs.Written.{names_taken}
use Rattle.rela_claims.proofs.resolving.resolve_each.Given as goal

abbrev pub invariant-loop-assertion : goal.invariant-loop-assertion
invariant-loop-assertion l = record {
  rest : try_fold (with_claim (record { network = l.locations; level = l.file.level })) (map claimed_of l.claims.items) (drop l.assertion-index l.file.asserts)
      ≡ try_fold (with_claim (record { network = l.locations; level = l.file.level })) [] l.file.asserts;
  named : names_taken l.names ≡ names_of (map claimed_of l.claims.items);
  below : All (ListsPathSymbols (record { network = l.locations; level = l.file.level })) l.claims.items;
  plain : All NamesByClasses l.claims.items;
}
