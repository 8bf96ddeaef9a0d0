use Rattle.rela_rir.proofs.PlaceForms as forms
use Rattle.rela_rir.proofs.place_laws.places_apart_in_path_terms.Goals as goal

pub returns-clause-none : goal.returns-clause-none
returns-clause-none g c at p q = forms.told (forms.apart_none (g.M.Staging.scene.of at)) p q

pub returns-clause-empty : goal.returns-clause-empty
returns-clause-empty g c at p q = forms.told (forms.apart_empty (g.M.Staging.scene.of at)) p q

pub returns-clause-class : goal.returns-clause-class
returns-clause-class g c at entry p q = forms.told (forms.apart_class (g.M.Staging.scene.of at) entry) p q

pub returns-clause-one : goal.returns-clause-one
returns-clause-one g c at s p q = forms.told (forms.apart_one (g.M.Staging.scene.of at) s) p q

pub returns-clause-union : goal.returns-clause-union
returns-clause-union g c at x y p q = forms.told (forms.apart_union (g.M.Staging.scene.of at) x y) p q

pub returns-clause-concat : goal.returns-clause-concat
returns-clause-concat g c at x y p q = forms.told (forms.apart_concat (g.M.Staging.scene.of at) x y) p q

pub returns-clause-star : goal.returns-clause-star
returns-clause-star g c at x p q = forms.told (forms.apart_star (g.M.Staging.scene.of at) x) p q

pub returns-clause-meet : goal.returns-clause-meet
returns-clause-meet g c at x y p q = forms.told (forms.apart_meet (g.M.Staging.scene.of at) x y) p q

pub returns-clause-complement : goal.returns-clause-complement
returns-clause-complement g c at x p q = forms.told (forms.apart_complement (g.M.Staging.scene.of at) x) p q

pub returns-clause-before : goal.returns-clause-before
returns-clause-before g c at p q = forms.told (forms.apart_pre (g.M.Staging.scene.of at)) p q

pub returns-clause-after : goal.returns-clause-after
returns-clause-after g c at p q = forms.told (forms.apart_post (g.M.Staging.scene.of at)) p q

pub returns-clause-image : goal.returns-clause-image
returns-clause-image g c at x r p q = forms.told (forms.apart_image (g.M.Staging.scene.of at) x r) p q
