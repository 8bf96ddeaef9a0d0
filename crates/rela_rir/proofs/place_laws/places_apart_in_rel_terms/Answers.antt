use Rattle.rela_rir.proofs.PlaceForms as forms
use Rattle.rela_rir.proofs.place_laws.places_apart_in_rel_terms.Goals as goal

pub returns-clause-identity : goal.returns-clause-identity
returns-clause-identity g c at x p q = forms.told (forms.apart_identity_r (g.M.Staging.scene.of at) x) p q

pub returns-clause-product : goal.returns-clause-product
returns-clause-product g c at x y p q = forms.told (forms.apart_product_r (g.M.Staging.scene.of at) x y) p q

pub returns-clause-union : goal.returns-clause-union
returns-clause-union g c at r s p q = forms.told (forms.apart_union_r (g.M.Staging.scene.of at) r s) p q

pub returns-clause-concat : goal.returns-clause-concat
returns-clause-concat g c at r s p q = forms.told (forms.apart_concat_r (g.M.Staging.scene.of at) r s) p q

pub returns-clause-star : goal.returns-clause-star
returns-clause-star g c at r p q = forms.told (forms.apart_star_r (g.M.Staging.scene.of at) r) p q

pub returns-clause-compose : goal.returns-clause-compose
returns-clause-compose g c at r s p q = forms.told (forms.apart_compose_r (g.M.Staging.scene.of at) r s) p q
