-- What is inside terms, form by form: counted terms with many places, and the parts of complements.
use Rattle.std.proofs.Common.{◌≡◌, ℕ, ◌⊎◌, [], ◌∷◌, ◌++◌, refl, sym, ap, ◌∙◌}
use Rattle.rela_rir.specs.Complements.{complemented_parts, complemented_parts_r}
use Rattle.rela_rir.specs.Limit.{Reached, ReachedR, ReachedInside, ReachedInsideR}
use Rattle.rela_rir.specs.Places.{Scene}
use Rattle.rela_rir.specs.declared.term.PathTerm.{PathTerm}
use Rattle.rela_rir.specs.declared.term.RelTerm.{RelTerm}
use Rattle.rela_rir.specs.declared.term.PathTerm.TheOpen as F
use Rattle.rela_rir.specs.declared.term.PathTerm.TheVariants as P
use Rattle.rela_rir.specs.declared.term.RelTerm.TheVariants as R
use Rattle.rela_build.proofs.TermParts.{parts_roll, parts_roll_r, by_parts, by_parts_r, itself, itself_r}

module _ (m : Scene) (k : ℕ) where
  pub in_union : (x y : PathTerm) → ReachedInside m k x ⊎ ReachedInside m k y → ReachedInside m k (P.Union x y)
  in_union x y some = by_parts m k (F.PathTerm::Union x y) (P.Union x y) (P.rolls-Union x y) some

  pub in_concat : (x y : PathTerm) → ReachedInside m k x ⊎ ReachedInside m k y → ReachedInside m k (P.Concat x y)
  in_concat x y some = by_parts m k (F.PathTerm::Concat x y) (P.Concat x y) (P.rolls-Concat x y) some

  pub in_star : (x : PathTerm) → ReachedInside m k x → ReachedInside m k (P.Star x)
  in_star x some = by_parts m k (F.PathTerm::Star x) (P.Star x) (P.rolls-Star x) some

  pub in_meet : (x y : PathTerm) → ReachedInside m k x ⊎ ReachedInside m k y → ReachedInside m k (P.Meet x y)
  in_meet x y some = by_parts m k (F.Meet x y) (P.Meet x y) (P.rolls-Meet x y) some

  pub in_complement : (x : PathTerm) → ReachedInside m k x → ReachedInside m k (P.Complement x)
  in_complement x some = by_parts m k (F.Complement x) (P.Complement x) (P.rolls-Complement x) some

  pub in_image : (x : PathTerm) (r : RelTerm) → ReachedInside m k x ⊎ ReachedInsideR m k r → ReachedInside m k (P.Image x r)
  in_image x r some = by_parts m k (F.Image x r) (P.Image x r) (P.rolls-Image x r) some

  pub in_identity_r : (x : PathTerm) → ReachedInside m k x → ReachedInsideR m k (R.Identity x)
  in_identity_r x some = by_parts_r m k (F.Identity x) (R.Identity x) (R.rolls-Identity x) some

  pub in_product_r : (x y : PathTerm) → ReachedInside m k x ⊎ ReachedInside m k y → ReachedInsideR m k (R.Product x y)
  in_product_r x y some = by_parts_r m k (F.Product x y) (R.Product x y) (R.rolls-Product x y) some

  pub in_union_r : (r s : RelTerm) → ReachedInsideR m k r ⊎ ReachedInsideR m k s → ReachedInsideR m k (R.Union r s)
  in_union_r r s some = by_parts_r m k (F.RelTerm::Union r s) (R.Union r s) (R.rolls-Union r s) some

  pub in_concat_r : (r s : RelTerm) → ReachedInsideR m k r ⊎ ReachedInsideR m k s → ReachedInsideR m k (R.Concat r s)
  in_concat_r r s some = by_parts_r m k (F.RelTerm::Concat r s) (R.Concat r s) (R.rolls-Concat r s) some

  pub in_star_r : (r : RelTerm) → ReachedInsideR m k r → ReachedInsideR m k (R.Star r)
  in_star_r r some = by_parts_r m k (F.RelTerm::Star r) (R.Star r) (R.rolls-Star r) some

  pub in_compose_r : (r s : RelTerm) → ReachedInsideR m k r ⊎ ReachedInsideR m k s → ReachedInsideR m k (R.Compose r s)
  in_compose_r r s some = by_parts_r m k (F.Compose r s) (R.Compose r s) (R.rolls-Compose r s) some

  pub at_meet : (x y : PathTerm) → Reached m (P.Meet x y) k → ReachedInside m k (P.Meet x y)
  at_meet x y reached = itself m k (F.Meet x y) (P.Meet x y) (P.rolls-Meet x y) refl tt reached

  pub at_image : (x : PathTerm) (r : RelTerm) → Reached m (P.Image x r) k → ReachedInside m k (P.Image x r)
  at_image x r reached = itself m k (F.Image x r) (P.Image x r) (P.rolls-Image x r) refl tt reached

  pub at_compose_r : (r s : RelTerm) → ReachedR m (R.Compose r s) k → ReachedInsideR m k (R.Compose r s)
  at_compose_r r s reached = itself_r m k (F.Compose r s) (R.Compose r s) (R.rolls-Compose r s) refl tt reached

-- ---- the parts of complements

pub parts_none : complemented_parts P.None ≡ []
parts_none = ap complemented_parts (sym P.rolls-None) ∙ parts_roll F.None

pub parts_empty : complemented_parts P.Empty ≡ []
parts_empty = ap complemented_parts (sym P.rolls-Empty) ∙ parts_roll F.Empty

pub parts_class : (k : ℕ) → complemented_parts (P.Class k) ≡ []
parts_class k = ap complemented_parts (sym (P.rolls-Class k)) ∙ parts_roll (F.Class k)

pub parts_one : (s : ℕ) → complemented_parts (P.One s) ≡ []
parts_one s = ap complemented_parts (sym (P.rolls-One s)) ∙ parts_roll (F.One s)

pub parts_pre : complemented_parts P.Pre ≡ []
parts_pre = ap complemented_parts (sym P.rolls-Pre) ∙ parts_roll F.Pre

pub parts_post : complemented_parts P.Post ≡ []
parts_post = ap complemented_parts (sym P.rolls-Post) ∙ parts_roll F.Post

pub parts_union : (x : PathTerm) (y : PathTerm) → complemented_parts (P.Union x y) ≡ (complemented_parts x ++ complemented_parts y)
parts_union x y = ap complemented_parts (sym (P.rolls-Union x y)) ∙ parts_roll (F.PathTerm::Union x y)

pub parts_concat : (x : PathTerm) (y : PathTerm) → complemented_parts (P.Concat x y) ≡ (complemented_parts x ++ complemented_parts y)
parts_concat x y = ap complemented_parts (sym (P.rolls-Concat x y)) ∙ parts_roll (F.PathTerm::Concat x y)

pub parts_star : (x : PathTerm) → complemented_parts (P.Star x) ≡ complemented_parts x
parts_star x = ap complemented_parts (sym (P.rolls-Star x)) ∙ parts_roll (F.PathTerm::Star x)

pub parts_meet : (x : PathTerm) (y : PathTerm) → complemented_parts (P.Meet x y) ≡ (complemented_parts x ++ complemented_parts y)
parts_meet x y = ap complemented_parts (sym (P.rolls-Meet x y)) ∙ parts_roll (F.Meet x y)

pub parts_complement : (x : PathTerm) → complemented_parts (P.Complement x) ≡ (complemented_parts x ++ x ∷ [])
parts_complement x = ap complemented_parts (sym (P.rolls-Complement x)) ∙ parts_roll (F.Complement x)

pub parts_image : (x : PathTerm) (y : RelTerm) → complemented_parts (P.Image x y) ≡ (complemented_parts x ++ complemented_parts_r y)
parts_image x y = ap complemented_parts (sym (P.rolls-Image x y)) ∙ parts_roll (F.Image x y)

pub parts_identity_r : (x : PathTerm) → complemented_parts_r (R.Identity x) ≡ complemented_parts x
parts_identity_r x = ap complemented_parts_r (sym (R.rolls-Identity x)) ∙ parts_roll_r (F.Identity x)

pub parts_product_r : (x : PathTerm) (y : PathTerm) → complemented_parts_r (R.Product x y) ≡ (complemented_parts x ++ complemented_parts y)
parts_product_r x y = ap complemented_parts_r (sym (R.rolls-Product x y)) ∙ parts_roll_r (F.Product x y)

pub parts_union_r : (x : RelTerm) (y : RelTerm) → complemented_parts_r (R.Union x y) ≡ (complemented_parts_r x ++ complemented_parts_r y)
parts_union_r x y = ap complemented_parts_r (sym (R.rolls-Union x y)) ∙ parts_roll_r (F.RelTerm::Union x y)

pub parts_concat_r : (x : RelTerm) (y : RelTerm) → complemented_parts_r (R.Concat x y) ≡ (complemented_parts_r x ++ complemented_parts_r y)
parts_concat_r x y = ap complemented_parts_r (sym (R.rolls-Concat x y)) ∙ parts_roll_r (F.RelTerm::Concat x y)

pub parts_star_r : (x : RelTerm) → complemented_parts_r (R.Star x) ≡ complemented_parts_r x
parts_star_r x = ap complemented_parts_r (sym (R.rolls-Star x)) ∙ parts_roll_r (F.RelTerm::Star x)

pub parts_compose_r : (x : RelTerm) (y : RelTerm) → complemented_parts_r (R.Compose x y) ≡ (complemented_parts_r x ++ complemented_parts_r y)
parts_compose_r x y = ap complemented_parts_r (sym (R.rolls-Compose x y)) ∙ parts_roll_r (F.Compose x y)
