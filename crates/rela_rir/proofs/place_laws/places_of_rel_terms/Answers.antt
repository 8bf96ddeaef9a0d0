use Rattle.rela_rir.proofs.PlaceForms as forms
use Rattle.rela_rir.proofs.place_laws.places_of_rel_terms.Goals as goal

pub returns-clause-identity : goal.returns-clause-identity
returns-clause-identity g c at x p u v = forms.at_place_r (forms.at_identity_r (g.M.Staging.scene.of at) x) p u v

pub returns-clause-product : goal.returns-clause-product
returns-clause-product g c at x y p u v = forms.at_place_r (forms.at_product_r (g.M.Staging.scene.of at) x y) p u v

pub returns-clause-union : goal.returns-clause-union
returns-clause-union g c at r s p u v = forms.at_place_r (forms.at_union_r (g.M.Staging.scene.of at) r s) p u v

pub returns-clause-concat : goal.returns-clause-concat
returns-clause-concat g c at r s p u v = forms.at_place_r (forms.at_concat_r (g.M.Staging.scene.of at) r s) p u v

pub returns-clause-star : goal.returns-clause-star
returns-clause-star g c at r p u v = forms.at_place_r (forms.at_star_r (g.M.Staging.scene.of at) r) p u v

pub returns-clause-compose : goal.returns-clause-compose
returns-clause-compose g c at r s p u v = forms.at_place_r (forms.at_compose_r (g.M.Staging.scene.of at) r s) p u v
