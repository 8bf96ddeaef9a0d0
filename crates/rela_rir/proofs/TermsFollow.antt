-- Words go on from the places of every term as they do from those of its parts, by induction on terms.
use Rattle.std.proofs.Common.{◌≡◌, subst, sym}
use Rattle.rela_rir.specs.Words.{WordSet, Relation}
use Rattle.rela_rir.specs.Meaning.{In, InR, IsInClass}
use Rattle.rela_rir.specs.Places.{Scene, Places, PairPlaces, At, AtR}
use Rattle.rela_rir.specs.Following.{Follows, PathsFollow}
use Rattle.rela_rir.proofs.MeaningForms.{in_roll, in_roll_r}
use Rattle.rela_rir.proofs.PlaceForms.{at_roll, at_roll_r}
use Rattle.rela_rir.proofs.SetsFollow as sets
use Rattle.rela_rir.proofs.PairsFollow as pairs
use Rattle.rela_rir.proofs.PairsFollow.{PairFollows}
use Rattle.rela_rir.specs.declared.term.PathTerm.{PathTerm}
use Rattle.rela_rir.specs.declared.term.RelTerm.{RelTerm}
use Rattle.rela_rir.specs.declared.term.PathTerm.TheOpen as F
use Rattle.rela_rir.specs.declared.term.PathTerm.TheViews.{roll-PathTerm, roll-RelTerm}
use Rattle.rela_rir.specs.declared.term.PathTerm.TheFolds.{map-PathTerm, map-RelTerm, ind-PathTerm}

abbrev Told : Scene → PathTerm → Type 0
Told m x = Follows (In m.setting x) (At m x)

abbrev ToldR : Scene → RelTerm → Type 0
ToldR m r = PairFollows (InR m.setting r) (AtR m r)

abbrev Path : Scene → Type 0
Path m = (x : PathTerm) × Told m x

abbrev Related : Scene → Type 0
Related m = (r : RelTerm) × ToldR m r

sets_as : (X Y : WordSet) (x y : Places) → X ≡ Y → x ≡ y → Follows Y y → Follows X x
sets_as X Y x y words places follows = subst (λ (A : WordSet). Follows A x) (sym words) (subst (λ (a : Places). Follows Y a) (sym places) follows)

pairs_as : (R S : Relation) (r t : PairPlaces) → R ≡ S → r ≡ t → PairFollows S t → PairFollows R r
pairs_as R S r t words places follows = subst (λ (A : Relation). PairFollows A r) (sym words) (subst (λ (a : PairPlaces). PairFollows S a) (sym places) follows)

layer : (m : Scene) → PathsFollow m → (y : F.PathTerm-F (Path m) (Related m)) → Told m (roll-PathTerm (map-PathTerm (Path m) (Related m) PathTerm RelTerm (λ e. e.0) (λ e. e.0) y))
layer m paths F.None = sets_as _ _ _ _ (in_roll m.setting F.None) (at_roll m F.None) (sets.none)
layer m paths F.Empty = sets_as _ _ _ _ (in_roll m.setting F.Empty) (at_roll m F.Empty) (sets.empty)
layer m paths (F.Class n) = sets_as _ _ _ _ (in_roll m.setting (F.Class n)) (at_roll m (F.Class n)) (sets.letters (IsInClass m.setting n))
layer m paths (F.One s) = sets_as _ _ _ _ (in_roll m.setting (F.One s)) (at_roll m (F.One s)) (sets.one s)
layer m paths (F.PathTerm::Union a b) = sets_as _ _ _ _ (in_roll m.setting (F.PathTerm::Union a.0 b.0)) (at_roll m (F.PathTerm::Union a.0 b.0)) (sets.union (In m.setting a.0) (In m.setting b.0) (At m a.0) (At m b.0) a.1 b.1)
layer m paths (F.PathTerm::Concat a b) = sets_as _ _ _ _ (in_roll m.setting (F.PathTerm::Concat a.0 b.0)) (at_roll m (F.PathTerm::Concat a.0 b.0)) (sets.joined (In m.setting a.0) (In m.setting b.0) (At m a.0) (At m b.0) a.1 b.1)
layer m paths (F.PathTerm::Star a) = sets_as _ _ _ _ (in_roll m.setting (F.PathTerm::Star a.0)) (at_roll m (F.PathTerm::Star a.0)) (sets.star (In m.setting a.0) (At m a.0) a.1)
layer m paths (F.Meet a b) = sets_as _ _ _ _ (in_roll m.setting (F.Meet a.0 b.0)) (at_roll m (F.Meet a.0 b.0)) (sets.meet (In m.setting a.0) (In m.setting b.0) (At m a.0) (At m b.0) a.1 b.1)
layer m paths (F.Complement a) = sets_as _ _ _ _ (in_roll m.setting (F.Complement a.0)) (at_roll m (F.Complement a.0)) (sets.complement m.setting.path_symbols (In m.setting a.0) (At m a.0) a.1)
layer m paths F.Pre = sets_as _ _ _ _ (in_roll m.setting F.Pre) (at_roll m F.Pre) (paths.pre)
layer m paths F.Post = sets_as _ _ _ _ (in_roll m.setting F.Post) (at_roll m F.Post) (paths.post)
layer m paths (F.Image a r) = sets_as _ _ _ _ (in_roll m.setting (F.Image a.0 r.0)) (at_roll m (F.Image a.0 r.0)) (pairs.image (In m.setting a.0) (InR m.setting r.0) (At m a.0) (AtR m r.0) a.1 r.1)

layer_r : (m : Scene) → (y : F.RelTerm-F (Path m) (Related m)) → ToldR m (roll-RelTerm (map-RelTerm (Path m) (Related m) PathTerm RelTerm (λ e. e.0) (λ e. e.0) y))
layer_r m (F.Identity a) = pairs_as _ _ _ _ (in_roll_r m.setting (F.Identity a.0)) (at_roll_r m (F.Identity a.0)) (pairs.identity (In m.setting a.0) (At m a.0) a.1)
layer_r m (F.Product a b) = pairs_as _ _ _ _ (in_roll_r m.setting (F.Product a.0 b.0)) (at_roll_r m (F.Product a.0 b.0)) (pairs.product (In m.setting a.0) (In m.setting b.0) (At m a.0) (At m b.0) b.1)
layer_r m (F.RelTerm::Union r t) = pairs_as _ _ _ _ (in_roll_r m.setting (F.RelTerm::Union r.0 t.0)) (at_roll_r m (F.RelTerm::Union r.0 t.0)) (pairs.union (InR m.setting r.0) (InR m.setting t.0) (AtR m r.0) (AtR m t.0) r.1 t.1)
layer_r m (F.RelTerm::Concat r t) = pairs_as _ _ _ _ (in_roll_r m.setting (F.RelTerm::Concat r.0 t.0)) (at_roll_r m (F.RelTerm::Concat r.0 t.0)) (pairs.joined (InR m.setting r.0) (InR m.setting t.0) (AtR m r.0) (AtR m t.0) r.1 t.1)
layer_r m (F.RelTerm::Star r) = pairs_as _ _ _ _ (in_roll_r m.setting (F.RelTerm::Star r.0)) (at_roll_r m (F.RelTerm::Star r.0)) (pairs.star (InR m.setting r.0) (AtR m r.0) r.1)
layer_r m (F.Compose r t) = pairs_as _ _ _ _ (in_roll_r m.setting (F.Compose r.0 t.0)) (at_roll_r m (F.Compose r.0 t.0)) (pairs.composed (InR m.setting r.0) (InR m.setting t.0) (AtR m r.0) (AtR m t.0) r.1 t.1)

pub terms_follow : (m : Scene) → PathsFollow m → (x : PathTerm) → Follows (In m.setting x) (At m x)
terms_follow m paths =
    ind-PathTerm (Told m) (ToldR m)
    (λ x y is. subst (λ z. Told m (roll-PathTerm z)) is (layer m paths y))
    (λ x y is. subst (λ z. ToldR m (roll-RelTerm z)) is (layer_r m y))
