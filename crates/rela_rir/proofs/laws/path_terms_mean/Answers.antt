use Rattle.rela_rir.proofs.MeaningForms as forms
use Rattle.rela_rir.proofs.laws.path_terms_mean.Goals as goal

pub returns-clause-none : goal.returns-clause-none
returns-clause-none g c at w = (forms.at_word (forms.in_none (g.M.Reading.setting.of at)) w).0

pub returns-clause-empty : goal.returns-clause-empty
returns-clause-empty g c at w = forms.at_word (forms.in_empty (g.M.Reading.setting.of at)) w

pub returns-clause-class : goal.returns-clause-class
returns-clause-class g c at k w = forms.at_word (forms.in_class (g.M.Reading.setting.of at) k) w

pub returns-clause-one : goal.returns-clause-one
returns-clause-one g c at s w = forms.at_word (forms.in_one (g.M.Reading.setting.of at) s) w

pub returns-clause-union : goal.returns-clause-union
returns-clause-union g c at x y w = forms.at_word (forms.in_union (g.M.Reading.setting.of at) x y) w

pub returns-clause-concat : goal.returns-clause-concat
returns-clause-concat g c at x y w = forms.at_word (forms.in_concat (g.M.Reading.setting.of at) x y) w

pub returns-clause-star : goal.returns-clause-star
returns-clause-star g c at x w = forms.at_word (forms.in_star (g.M.Reading.setting.of at) x) w

pub returns-clause-meet : goal.returns-clause-meet
returns-clause-meet g c at x y w = forms.at_word (forms.in_meet (g.M.Reading.setting.of at) x y) w

pub returns-clause-complement : goal.returns-clause-complement
returns-clause-complement g c at x w = forms.at_word (forms.in_complement (g.M.Reading.setting.of at) x) w

pub returns-clause-before : goal.returns-clause-before
returns-clause-before g c at w = forms.at_word (forms.in_pre (g.M.Reading.setting.of at)) w

pub returns-clause-after : goal.returns-clause-after
returns-clause-after g c at w = forms.at_word (forms.in_post (g.M.Reading.setting.of at)) w

pub returns-clause-image : goal.returns-clause-image
returns-clause-image g c at x r w = forms.at_word (forms.in_image (g.M.Reading.setting.of at) x r) w
