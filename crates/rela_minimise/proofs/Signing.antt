-- What signatures tell.
use Rattle.std.proofs.Common.{◌≡◌, ℕ, ◌+◌, ◌<◌, Bool, true, false, cond, List, [], ◌∷◌, ◌++◌, length, get_or, map, take, refl, sym, ap, ◌∙◌, subst, arith}
use Rattle.std.specs.List.{All}
use Rattle.std.specs.declared.vec.Vec.{Vec}
use Rattle.std.proofs.lemmas.List.{get_or-map, length-map, map_more, map_push}
use Rattle.std.proofs.lemmas.List.Elements.{All-contains, All-from_get_or, All-head, All-tail}
use Rattle.rela_labels.specs.Letters.{has}
use Rattle.rela_subset.specs.Deterministic.{Deterministic, IsDeterministic, next, states}
use Rattle.rela_minimise.specs.Classes.{finality}
use Rattle.rela_minimise.specs.Refining.{AreColumns, IsMap, signature}
use Rattle.rela_minimise.specs.Stored.{lists_of}

one_bit : (a b : Bool) → ◌≡◌ {A = ℕ} (cond a 1 0) (cond b 1 0) → a ≡ b
one_bit true true same = refl
one_bit true false same = absurd (omega (arith, same))
one_bit false true same = absurd (omega (arith, same))
one_bit false false same = refl

head_or : List ℕ → ℕ
head_or [] = 0
head_or (x ∷ xs) = x

rest_of : List ℕ → List ℕ
rest_of [] = []
rest_of (x ∷ xs) = xs

same_head : (x y : ℕ) (xs ys : List ℕ) → x ∷ xs ≡ y ∷ ys → x ≡ y
unfolding head_or
same_head x y xs ys same = ap head_or same

same_rest : (x y : ℕ) (xs ys : List ℕ) → x ∷ xs ≡ y ∷ ys → xs ≡ ys
unfolding rest_of
same_rest x y xs ys same = ap rest_of same

maps_same : (f g : List ℕ → ℕ) (columns : List (List ℕ)) → All (λ column. f column ≡ g column) columns → map f columns ≡ map g columns
maps_same f g [] all = refl
maps_same f g (column ∷ rest) all =
    ap (λ n. n ∷ map f rest) (All-head (λ c. f c ≡ g c) column rest all) ∙ ap (λ l. g column ∷ l) (maps_same f g rest (All-tail (λ c. f c ≡ g c) column rest all))

same_maps : (f g : List ℕ → ℕ) (columns : List (List ℕ)) → map f columns ≡ map g columns → All (λ column. f column ≡ g column) columns
same_maps f g columns same = All-from_get_or (λ column. f column ≡ g column) columns [] (λ i below.
    sym (get_or-map f columns i [] 0 below) ∙ ap (λ l. get_or l i 0) same ∙ get_or-map g columns i [] 0 below)

-- the class of the state to which the column leads
abbrev class_by : List ℕ → ℕ → List ℕ → ℕ
class_by classes q column = get_or classes (get_or column q 0) 0

module _ (d : Deterministic) (ok : IsDeterministic d) (columns : List (List ℕ)) (are : AreColumns d columns) where
  -- two states have the same signature where both are final or neither, and each letter leads to one class
  pub signature_same : (classes classes' : List ℕ) (p q : ℕ) → p < states d → q < states d → finality d p ≡ finality d q
      → ((k : ℕ) → has d.over k ≡ true → get_or classes (next d p k) 0 ≡ get_or classes' (next d q k) 0) → signature d columns classes p ≡ signature d columns classes' q
  signature_same classes classes' p q p_in q_in final leads =
      ap (λ b. cond b 1 0 ∷ map (class_by classes p) columns) final
      ∙ ap (λ l. cond (finality d q) 1 0 ∷ l)
      (maps_same (class_by classes p) (class_by classes' q) columns
      (All-from_get_or (λ column. class_by classes p column ≡ class_by classes' q column) columns [] (λ i below.
      let (k, over, is) = are.own i [] below in
      ap (λ n. get_or classes n 0) (is.leads p p_in) ∙ leads k over ∙ ap (λ n. get_or classes' n 0) (sym (is.leads q q_in)))))

  pub same_final : (classes classes' : List ℕ) (p q : ℕ) → signature d columns classes p ≡ signature d columns classes' q → finality d p ≡ finality d q
  same_final classes classes' p q same =
      one_bit (finality d p) (finality d q)
      (same_head (cond (finality d p) 1 0) (cond (finality d q) 1 0) (map (class_by classes p) columns) (map (class_by classes' q) columns) same)

  pub same_leads : (classes classes' : List ℕ) (p q : ℕ) → p < states d → q < states d → signature d columns classes p ≡ signature d columns classes' q
      → (k : ℕ) → has d.over k ≡ true → get_or classes (next d p k) 0 ≡ get_or classes' (next d q k) 0
  same_leads classes classes' p q p_in q_in same k over =
      let (column, among, is) = are.each k over in
      let as_listed : class_by classes p column ≡ class_by classes' q column =
      All-contains (λ c. class_by classes p c ≡ class_by classes' q c) columns column
      (same_maps (class_by classes p) (class_by classes' q) columns
      (same_rest (cond (finality d p) 1 0) (cond (finality d q) 1 0) (map (class_by classes p) columns) (map (class_by classes' q) columns) same)) among in
      ap (λ n. get_or classes n 0) (sym (is.leads p p_in)) ∙ as_listed ∙ ap (λ n. get_or classes' n 0) (is.leads q q_in)

module _ {A : Type 0} (columns : List (Vec ℕ A)) (i : ℕ) (v : Vec ℕ A) (column : List ℕ) (i_in : i < length columns) (at : v ≡ get_or columns i v) (column_is : column ≡ v.items) where
  pub column_at : (n m : ℕ) → m ≡ n → All (IsMap n) (lists_of columns) → IsMap m column
  column_at n m same all =
      subst (λ k. IsMap k column) (sym same)
      (subst (IsMap n) (get_or-map (λ u. u.items) columns i v [] i_in ∙ ap (λ u. u.items) (sym at) ∙ sym column_is) (all i [] (omega (arith, i_in, length-map columns (λ u. u.items)))))

  -- the class by one column more
  pub signature_more : (d : Deterministic) (classes : List ℕ) (q class : ℕ) (signed signed' : List ℕ) → signed ≡ signature d (lists_of (take i columns)) classes q → class ≡ get_or classes (get_or column q 0) 0
      → signed' ≡ signed ++ class ∷ [] → signed' ≡ signature d (lists_of (take (i + 1) columns)) classes q
  signature_more d classes q class signed signed' before class_is pushed =
      let grown : lists_of (take (i + 1) columns) ≡ lists_of (take i columns) ++ column ∷ [] =
      map_more (λ u. u.items) columns i v i_in ∙ ap (λ c. lists_of (take i columns) ++ c ∷ []) (ap (λ u. u.items) (sym at) ∙ sym column_is) in
      pushed
      ∙ ap (λ l. l ++ class ∷ []) before
      ∙ ap (λ k. signature d (lists_of (take i columns)) classes q ++ k ∷ []) class_is
      ∙ ap (λ l. cond (finality d q) 1 0 ∷ l) (sym (map_push (class_by classes q) (lists_of (take i columns)) column))
      ∙ ap (λ cs. signature d cs classes q) (sym grown)
