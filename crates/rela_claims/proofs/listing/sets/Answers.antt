use Rattle.std.proofs.Common.{◌≡◌, ◌+◌, ◌<◌, ◌≤◌, All, List, [], ◌∷◌, ◌++◌, drop, get_or, length, map, ap, append_assoc, sym, subst, ◌∙◌}
use Rattle.std.proofs.lemmas.List.{append-nil, drop_all}
use Rattle.std.proofs.lemmas.List.Elements.{All-push}
use Rattle.rela_locations.specs.Network.{alphabet_of}
use Rattle.rela_names.specs.Alphabet.{path_symbols}
use Rattle.rela_rir.specs.declared.set.SymbolSet.{SymbolSet}
use Rattle.rela_claims.specs.Classes.{Listing, Place, listing, listing_of}
use Rattle.rela_claims.specs.Written.{class_of}
use Rattle.rela_claims.specs.declared.classes.Written.{Written}
use Rattle.rela_claims.proofs.Steps.{rest_is}
use Rattle.rela_claims.proofs.Views.{map_last, map_of_view}
use Rattle.rela_claims.proofs.listing.sets.Goals as goal

pub returns-clause-listed : goal.returns-clause-listed
returns-clause-listed c =
    let place : Place = record { network = c.args.locations.now; level = c.args.level } in
    let keys = c.args.table.now.keys in
    let past : length keys ≤ c.loop-class.class-index = subst (λ (ks : List Written). length ks ≤ c.loop-class.class-index) c.as_slice-class-items.ensures.keys c.loop-class-test.false in
    sym (append-nil (map listing_of c.loop-class.sets.items))
    ∙ sym (ap (λ (ks : List Written). map listing_of c.loop-class.sets.items ++ map (λ k. listing place (class_of k)) ks) (drop_all c.loop-class.class-index keys past))
    ∙ c.loop-class.invariant.listed
    ∙ sym (map_of_view (listing place) class_of keys)

pub loop-class-preserved : goal.loop-class-preserved
loop-class-preserved c =
    let place : Place = record { network = c.args.locations.now; level = c.args.level } in
    let keys = c.args.table.now.keys in
    let i = c.loop-class.class-index in
    let k = c.class-item.result in
    let sets = c.loop-class.sets.items in
    let set = c.in_ok-set_of.field-0 in
    let within : i < length keys = subst (λ (ks : List Written). i < length ks) c.as_slice-class-items.ensures.keys c.loop-class-test.true in
    let is : k ≡ get_or keys i k = subst (λ (ks : List Written). k ≡ get_or ks i k) c.as_slice-class-items.ensures.keys c.class-item.is in
    let pushed : c.push.new.self.items ≡ sets ++ set ∷ [] = c.in_ok-push.ensures.items in
    let rest : List Listing = map (λ k. listing place (class_of k)) (drop (i + 1) keys) in
    let added : map listing_of c.push.new.self.items ≡ map listing_of sets ++ listing place (class_of k) ∷ [] =
    ap (map listing_of) pushed ∙ map_last listing_of sets set ∙ ap (λ (l : Listing). map listing_of sets ++ l ∷ []) c.in_ok-set_of.ensures.listed in
    record {
      listed =
          ap (λ (ls : List Listing). ls ++ rest) added
          ∙ append_assoc (map listing_of sets) (listing place (class_of k) ∷ []) rest
          ∙ sym (ap (λ (ks : List Written). map listing_of sets ++ map (λ k. listing place (class_of k)) ks) (rest_is keys i k within is))
          ∙ c.loop-class.invariant.listed;
      below =
          let Below = λ (set : SymbolSet). All (λ s. s < path_symbols (alphabet_of c.args.level c.args.locations.now)) set.members in
          subst (All Below) (sym pushed) (All-push Below sets set c.loop-class.invariant.below c.in_ok-set_of.ensures.below);
    }
