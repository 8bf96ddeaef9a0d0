-- What the terms mean, where it is known what their parts mean.
use Rattle.std.proofs.Common.{◌≡◌, ℕ, List, refl, sym, subst}
use Rattle.rela_rir.specs.Words.{WordSet, Relation, Concatenation, PairConcatenation}
use Rattle.rela_rir.specs.Meaning.{Setting, In, InR, IsPathWord}
use Rattle.rela_translate.proofs.Inclusions as within
use Rattle.rela_translate.proofs.Inclusions.{Within, WithinR}
use Rattle.rela_translate.proofs.TermMeanings.{in_one, in_union, in_concat, in_meet, in_complement, in_identity_r, in_product_r, in_union_r, in_concat_r, in_compose_r}
use Rattle.rela_rir.specs.declared.term.PathTerm.{PathTerm}
use Rattle.rela_rir.specs.declared.term.RelTerm.{RelTerm}
use Rattle.rela_rir.specs.declared.term.PathTerm.TheVariants as P
use Rattle.rela_rir.specs.declared.term.RelTerm.TheVariants as V
use Rattle.rela_translate.specs.Zones.{Single, Either, Common, Without, Same, Pairs, EitherPair, Outside}
use Rattle.rela_translate.specs.Terms.{without, outside}

-- the two sets have the same words
abbrev pub Equal : WordSet → WordSet → Type 0
Equal X Y = Within X Y × Within Y X

-- the two relations have the same pairs
abbrev pub EqualR : Relation → Relation → Type 0
EqualR R S = WithinR R S × WithinR S R

pub told : (X X' Y : WordSet) → X ≡ X' → Equal X' Y → Equal X Y
told X X' Y is same = subst (λ (Z : WordSet). Equal Z Y) (sym is) same

pub told_r : (R R' S : Relation) → R ≡ R' → EqualR R' S → EqualR R S
told_r R R' S is same = subst (λ (T : Relation). EqualR T S) (sym is) same

module _ (m : Setting) where
  pub one : (s : ℕ) → Equal (In m (P.One s)) (Single s)
  one s = told _ _ (Single s) (in_one m s) (λ w x. x, λ w x. x)

  pub union : (x y : PathTerm) (X Y : WordSet) → Equal (In m x) X → Equal (In m y) Y → Equal (In m (P.Union x y)) (Either X Y)
  union x y X Y f g = told _ _ (Either X Y) (in_union m x y)
      (within.union (In m x) X (In m y) Y f.0 g.0, within.union X (In m x) Y (In m y) f.1 g.1)

  pub concat : (x y : PathTerm) (X Y : WordSet) → Equal (In m x) X → Equal (In m y) Y → Equal (In m (P.Concat x y)) (Concatenation X Y)
  concat x y X Y f g = told _ _ (Concatenation X Y) (in_concat m x y)
      (within.joined (In m x) X (In m y) Y f.0 g.0, within.joined X (In m x) Y (In m y) f.1 g.1)

  pub meet : (x y : PathTerm) (X Y : WordSet) → Equal (In m x) X → Equal (In m y) Y → Equal (In m (P.Meet x y)) (Common X Y)
  meet x y X Y f g = told _ _ (Common X Y) (in_meet m x y)
      (within.meet (In m x) X (In m y) Y f.0 g.0, within.meet X (In m x) Y (In m y) f.1 g.1)

  pub complement : (x : PathTerm) (X : WordSet) → Equal (In m x) X → Equal (In m (P.Complement x)) (λ w. IsPathWord m.path_symbols w × (¬ X w))
  complement x X f = told _ _ (λ w. IsPathWord m.path_symbols w × (¬ X w)) (in_complement m x)
      (λ w has. (has.0, λ bad. has.1 (f.1 w bad)), λ w has. (has.0, λ bad. has.1 (f.0 w bad)))

  -- a word of the first set is one of path symbols, so that the complement leaves out the second set alone
  pub left_out : (x y : PathTerm) (X Y : WordSet) → Equal (In m x) X → Equal (In m y) Y → Within X (IsPathWord m.path_symbols) →
      Equal (In m (without x y)) (Without X Y)
  left_out x y X Y f g paths =
      let both : Equal (In m (without x y)) (Common X (λ w. IsPathWord m.path_symbols w × (¬ Y w))) =
      meet x (P.Complement y) X (λ w. IsPathWord m.path_symbols w × (¬ Y w)) f (complement y Y g) in
      (λ w has. ((both.0 w has).0, (both.0 w has).1.1), λ w has. both.1 w (has.0, (paths w has.0, has.1)))

  pub identity : (x : PathTerm) (X : WordSet) → Equal (In m x) X → EqualR (InR m (V.Identity x)) (Same X)
  identity x X f = told_r _ _ (Same X) (in_identity_r m x) (within.identity (In m x) X f.0, within.identity X (In m x) f.1)

  pub product : (x y : PathTerm) (X Y : WordSet) → Equal (In m x) X → Equal (In m y) Y → EqualR (InR m (V.Product x y)) (Pairs X Y)
  product x y X Y f g = told_r _ _ (Pairs X Y) (in_product_r m x y)
      (within.product (In m x) X (In m y) Y f.0 g.0, within.product X (In m x) Y (In m y) f.1 g.1)

  pub union_r : (r s : RelTerm) (R S : Relation) → EqualR (InR m r) R → EqualR (InR m s) S → EqualR (InR m (V.Union r s)) (EitherPair R S)
  union_r r s R S f g = told_r _ _ (EitherPair R S) (in_union_r m r s)
      (within.union_r (InR m r) R (InR m s) S f.0 g.0, within.union_r R (InR m r) S (InR m s) f.1 g.1)

  pub concat_r : (r s : RelTerm) (R S : Relation) → EqualR (InR m r) R → EqualR (InR m s) S → EqualR (InR m (V.Concat r s)) (PairConcatenation R S)
  concat_r r s R S f g = told_r _ _ (PairConcatenation R S) (in_concat_r m r s)
      (within.joined_r (InR m r) R (InR m s) S f.0 g.0, within.joined_r R (InR m r) S (InR m s) f.1 g.1)

  -- the relation's first words are of path symbols, so that the complement leaves out the set alone
  pub outside_r : (x : PathTerm) (r : RelTerm) (X : WordSet) (R : Relation) → Equal (In m x) X → EqualR (InR m r) R →
      ((u v : List ℕ) → R u v → IsPathWord m.path_symbols u) → EqualR (InR m (outside x r)) (Outside X R)
  outside_r x r X R f g paths =
      let others : EqualR (InR m (V.Identity (P.Complement x))) (Same (λ w. IsPathWord m.path_symbols w × (¬ X w))) =
      identity (P.Complement x) (λ w. IsPathWord m.path_symbols w × (¬ X w)) (complement x X f) in
      told_r _ _ (Outside X R) (in_compose_r m (V.Identity (P.Complement x)) r) (
        λ u v c.
            let first : Same (λ w. IsPathWord m.path_symbols w × (¬ X w)) u c.middle = others.0 u c.middle c.first in
            (subst (λ (w : List ℕ). R w v) (sym first.0) (g.0 c.middle v c.second), first.1.1),
        λ u v has. record {
          middle = u;
          first = others.1 u u (refl, (paths u v has.0, has.1));
          second = g.1 u v has.0;
        },
      )
