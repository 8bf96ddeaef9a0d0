use Rattle.rela_rir.proofs.MeaningForms as forms
use Rattle.rela_rir.proofs.laws.rel_terms_mean.Goals as goal

pub returns-clause-identity : goal.returns-clause-identity
returns-clause-identity g c at x u v = forms.at_pair (forms.in_identity_r (g.M.Reading.setting.of at) x) u v

pub returns-clause-product : goal.returns-clause-product
returns-clause-product g c at x y u v = forms.at_pair (forms.in_product_r (g.M.Reading.setting.of at) x y) u v

pub returns-clause-union : goal.returns-clause-union
returns-clause-union g c at r s u v = forms.at_pair (forms.in_union_r (g.M.Reading.setting.of at) r s) u v

pub returns-clause-concat : goal.returns-clause-concat
returns-clause-concat g c at r s u v = forms.at_pair (forms.in_concat_r (g.M.Reading.setting.of at) r s) u v

pub returns-clause-star : goal.returns-clause-star
returns-clause-star g c at r u v = forms.at_pair (forms.in_star_r (g.M.Reading.setting.of at) r) u v

pub returns-clause-compose : goal.returns-clause-compose
returns-clause-compose g c at r s u v = forms.at_pair (forms.in_compose_r (g.M.Reading.setting.of at) r s) u v
