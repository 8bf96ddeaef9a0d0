-- The claim of one assertion, and the claims so far with it.
use Rattle.std.proofs.Common.{◌≡◌, ℕ, ◌<◌, ◌≤◌, Bool, true, false, List, [], ◌∷◌, ◌++◌, length, map, Result, Ok, Err, ap, sym, ◌∙◌, arith}
use Rattle.std.specs.Prelude.{if◌then◌else◌, nat_lt}
use Rattle.std.proofs.lemmas.Bool.Decides.{nat_tests}
use Rattle.std.proofs.lemmas.List.{length-map}
use Rattle.rela_json.specs.Results.{◌>>=◌, try_map}
use Rattle.rela_lex.specs.declared.error.SpecError.{SpecError}
use Rattle.rela_lex.specs.declared.error.SpecError.TheVariants.{TooLarge}
use Rattle.rela_rirfile.specs.declared.written.Assert.{Assert}
use Rattle.rela_claims.specs.Claims.{Claimed, claim_of, claim_over, claimed_of, free_name, in_size, names_of, with_claim}
use Rattle.rela_claims.specs.Classes.{Class, Mention, Place, each_once, listing, listing_of, number_in, resolved_class}
use Rattle.rela_claims.specs.Sizes.{size_of_tree}
use Rattle.rela_claims.specs.Terms.{mentions_in, nodes_in, tree_of}
use Rattle.rela_claims.specs.Written.{class_of, classes_of, mentioned}
use Rattle.rela_claims.specs.declared.claim.Claim.{Claim}
use Rattle.rela_claims.specs.declared.classes.Mention.{Mention as MentionAt}
use Rattle.rela_claims.specs.declared.classes.Written.{Written}
use Rattle.rela_claims.proofs.Fitting.{fits_tree}

module _ (place : Place) (assertion : Assert) (mentions : List MentionAt) (are : map mentioned mentions ≡ mentions_in place.level assertion.tree) where
  abbrev then_sized : Result (List Class) SpecError → Result Claimed SpecError
  then_sized r = r >>= (λ classes. in_size assertion.at (claim_over place assertion (each_once classes)))

  by_look : claim_of place assertion ≡ then_sized (try_map (resolved_class place) (map mentioned mentions))
  unfolding claim_of
  by_look = ap (λ (ms : List Mention). then_sized (try_map (resolved_class place) ms)) (sym are)

  pub unknown_refused : (e : SpecError) → try_map (resolved_class place) (map mentioned mentions) ≡ Err e → claim_of place assertion ≡ Err e
  unknown_refused e is = by_look ∙ ap then_sized is

  -- no more classes are mentioned than there are nodes
  pub few_mentions : length mentions ≤ size_of_tree assertion.tree
  few_mentions = omega (arith, length-map mentions mentioned, ap length are, (fits_tree place.level (number_in []) assertion.tree).few)

  module _ (look : try_map (resolved_class place) (map mentioned mentions) ≡ Ok (classes_of mentions)) where
    abbrev table : List Class
    table = each_once (classes_of mentions)

    by_size : (large : Bool) → nat_lt 20000 (nodes_in (tree_of place.level (number_in table) assertion.tree)) ≡ large
        → claim_of place assertion ≡ (if large then Err (TooLarge assertion.at) else Ok (claim_over place assertion table))
    by_size large is = by_look ∙ ap then_sized look
        ∙ ap (λ (b : Bool). let r : Result Claimed SpecError = if b then Err (TooLarge assertion.at) else Ok (claim_over place assertion table) in r) is

    pub large_refused : 20000 < size_of_tree assertion.tree → claim_of place assertion ≡ Err (TooLarge assertion.at)
    large_refused large =
        let n : ℕ = nodes_in (tree_of place.level (number_in table) assertion.tree) in
        let is : n ≡ size_of_tree assertion.tree = (fits_tree place.level (number_in table) assertion.tree).sized in
        by_size true (grind (arith, nat_tests))

    pub claim_made : size_of_tree assertion.tree ≤ 20000 → (keys : List Written) → map class_of keys ≡ table
        → (claim : Claim) → claim.name ≡ assertion.name → claim.tree ≡ tree_of place.level (number_in (map class_of keys)) assertion.tree
        → map listing_of claim.classes.items ≡ map (listing place) (map class_of keys) → claim_of place assertion ≡ Ok (claimed_of claim)
    claim_made small keys each claim name tree listed =
        let n : ℕ = nodes_in (tree_of place.level (number_in table) assertion.tree) in
        let is : n ≡ size_of_tree assertion.tree = (fits_tree place.level (number_in table) assertion.tree).sized in
        let same_tree : claim.tree ≡ tree_of place.level (number_in table) assertion.tree =
        tree ∙ ap (λ (t : List Class). tree_of place.level (number_in t) assertion.tree) each in
        let same_classes : map listing_of claim.classes.items ≡ map (listing place) table = listed ∙ ap (map (listing place)) each in
        let whole : claimed_of claim ≡ claim_over place assertion table = λ i. record { name = name i; tree = same_tree i; classes = same_classes i } in
        by_size false (grind (arith, nat_tests)) ∙ ap (λ (c : Claimed). let r : Result Claimed SpecError = Ok c in r) (sym whole)

module _ (place : Place) (claims : List Claimed) (assertion : Assert) where
  abbrev then_claim : Result (List ℕ) SpecError → Result (List Claimed) SpecError
  then_claim r = r >>= (λ name. claim_of place assertion >>= (λ claim. Ok (claims ++ claim ∷ [])))

  by_name : (r : Result (List ℕ) SpecError) → free_name (names_of claims) assertion.name assertion.at ≡ r → with_claim place claims assertion ≡ then_claim r
  unfolding with_claim
  by_name r is = ap then_claim is

  pub name_refused : (e : SpecError) → free_name (names_of claims) assertion.name assertion.at ≡ Err e → with_claim place claims assertion ≡ Err e
  name_refused e is = by_name (Err e) is

  module _ (free : free_name (names_of claims) assertion.name assertion.at ≡ Ok assertion.name) where
    pub claim_refused : (e : SpecError) → claim_of place assertion ≡ Err e → with_claim place claims assertion ≡ Err e
    claim_refused e is = by_name (Ok assertion.name) free ∙ ap (λ (r : Result Claimed SpecError). r >>= (λ claim. let all : Result (List Claimed) SpecError = Ok (claims ++ claim ∷ []) in all)) is

    pub claim_added : (claim : Claimed) → claim_of place assertion ≡ Ok claim → with_claim place claims assertion ≡ Ok (claims ++ claim ∷ [])
    claim_added claim is = by_name (Ok assertion.name) free ∙ ap (λ (r : Result Claimed SpecError). r >>= (λ claim. let all : Result (List Claimed) SpecError = Ok (claims ++ claim ∷ []) in all)) is
