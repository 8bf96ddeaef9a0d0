-- The markers of a body are numbers from 1 on, of which there are no more than nodes of its terms.
use Rattle.std.proofs.Common.{◌≡◌, ◌∙◌, ℕ, ◌+◌, ◌≤◌, zero, suc, List, [], ◌∷◌, ◌++◌, length, length-append, sym, ap, subst, arith}
use Rattle.std.specs.List.{All, range_with_len}
use Rattle.std.proofs.lemmas.List.Elements.{All-nil, All-cons}
use Rattle.rela_rir.specs.Size.{nodes_of_path, nodes_of_rel, layer_nodes, layer_nodes_rel}
use Rattle.rela_rir.specs.declared.term.PathTerm.{PathTerm}
use Rattle.rela_rir.specs.declared.term.PathTerm.TheVariants as P
use Rattle.rela_rir.specs.declared.term.PathTerm.TheOpen as F
use Rattle.rela_rir.specs.declared.term.PathTerm.TheFolds.{map-RelTerm, fold-roll-RelTerm}
use Rattle.rela_rir.specs.declared.term.PathTerm.TheViews.{roll-RelTerm}
use Rattle.rela_rir.specs.declared.term.RelTerm.{RelTerm}
use Rattle.rela_rir.specs.declared.term.RelTerm.TheVariants as R
use Rattle.rela_translate.specs.Zones.{marker_symbol}
use Rattle.rela_translate.specs.Terms.{path_of, zone_of, before_of, outside, unit_terms}
use Rattle.rela_translate.specs.Settings.{IsMarker}
use Rattle.rela_translate.specs.Checked.{Checked, IsCheck, change_markers, layer_markers, markers_of}
use Rattle.rela_translate.proofs.TermForms.{before_unit, before_then, before_else}
use Rattle.rela_translate.specs.declared.body.Expr.{Expr}
use Rattle.rela_translate.specs.declared.body.Change.{Change}
use Rattle.rela_translate.specs.declared.body.Change.TheVariants.{Preserve, Add, Remove, Replace, Drop, AnyOf, Ignore}
use Rattle.rela_translate.specs.declared.body.Core.{Core}
use Rattle.rela_translate.specs.declared.body.Core.TheOpen as C
use Rattle.rela_translate.specs.declared.body.Core.TheVariants as B
use Rattle.rela_translate.specs.declared.body.Core.TheViews.{roll-Core}
use Rattle.rela_translate.specs.declared.body.Core.TheFolds.{map-Core, fold-roll-Core, ind-Core}

markers_roll : (x : C.Core-F Core) → markers_of (roll-Core x) ≡ layer_markers (map-Core Core (List ℕ) markers_of x)
markers_roll x = fold-roll-Core (List ℕ) layer_markers x

pub markers_unit : (z : Expr) (c : Change) → markers_of (B.Unit z c) ≡ change_markers c
markers_unit z c = ap markers_of (sym (B.rolls-Unit z c)) ∙ markers_roll (C.Unit z c)

pub markers_then : (s t : Core) → markers_of (B.Then s t) ≡ markers_of s ++ markers_of t
markers_then s t = ap markers_of (sym (B.rolls-Then s t)) ∙ markers_roll (C.Then s t)

pub markers_else : (s t : Core) → markers_of (B.Else s t) ≡ markers_of s ++ markers_of t
markers_else s t = ap markers_of (sym (B.rolls-Else s t)) ∙ markers_roll (C.Else s t)

all_front : {X : Type 0} (Q : X → Type 0) (xs ys : List X) → All Q (xs ++ ys) → All Q xs
all_front Q [] ys all = All-nil Q
all_front Q (x ∷ xs) ys all = All-cons Q x xs (all 0 x (omega arith)) (all_front Q xs ys (λ i d inside. all (suc i) d (omega (arith, inside))))

all_rest : {X : Type 0} (Q : X → Type 0) (xs ys : List X) → All Q (xs ++ ys) → All Q ys
all_rest Q [] ys all = all
all_rest Q (x ∷ xs) ys all = all_rest Q xs ys (λ i d inside. all (suc i) d (omega (arith, inside)))

pub in_unit : (z : Expr) (c : Change) → All IsMarker (markers_of (B.Unit z c)) → All IsMarker (change_markers c)
in_unit z c all = subst (λ (ks : List ℕ). All IsMarker ks) (markers_unit z c) all

pub then_front : (body s t x : Core) → body ≡ B.Then s t → x ≡ s → All IsMarker (markers_of body) → All IsMarker (markers_of x)
then_front body s t x is part all =
    let here : All IsMarker (markers_of s ++ markers_of t) = subst (All IsMarker) (ap markers_of is ∙ markers_then s t) all in
    subst (λ (y : Core). All IsMarker (markers_of y)) (sym part) (all_front IsMarker (markers_of s) (markers_of t) here)

pub then_rest : (body s t x : Core) → body ≡ B.Then s t → x ≡ t → All IsMarker (markers_of body) → All IsMarker (markers_of x)
then_rest body s t x is part all =
    let here : All IsMarker (markers_of s ++ markers_of t) = subst (All IsMarker) (ap markers_of is ∙ markers_then s t) all in
    subst (λ (y : Core). All IsMarker (markers_of y)) (sym part) (all_rest IsMarker (markers_of s) (markers_of t) here)

pub else_front : (body s t x : Core) → body ≡ B.Else s t → x ≡ s → All IsMarker (markers_of body) → All IsMarker (markers_of x)
else_front body s t x is part all =
    let here : All IsMarker (markers_of s ++ markers_of t) = subst (All IsMarker) (ap markers_of is ∙ markers_else s t) all in
    subst (λ (y : Core). All IsMarker (markers_of y)) (sym part) (all_front IsMarker (markers_of s) (markers_of t) here)

pub else_rest : (body s t x : Core) → body ≡ B.Else s t → x ≡ t → All IsMarker (markers_of body) → All IsMarker (markers_of x)
else_rest body s t x is part all =
    let here : All IsMarker (markers_of s ++ markers_of t) = subst (All IsMarker) (ap markers_of is ∙ markers_else s t) all in
    subst (λ (y : Core). All IsMarker (markers_of y)) (sym part) (all_rest IsMarker (markers_of s) (markers_of t) here)

pub any_of_positive : (p : Expr) (k : ℕ) → All IsMarker (change_markers (AnyOf p k)) → 1 ≤ k
any_of_positive p k all = (all 0 k (omega arith)).0

pub any_of_few : (p : Expr) (k : ℕ) → All IsMarker (change_markers (AnyOf p k)) → k ≤ 20000
any_of_few p k all = (all 0 k (omega arith)).1

pub ruleset unit_markers = (any_of_positive, any_of_few)

-- ---- how many nodes the forms of relation terms have

nodes_roll : (x : F.RelTerm-F PathTerm RelTerm) → nodes_of_rel (roll-RelTerm x) ≡ layer_nodes_rel (map-RelTerm PathTerm RelTerm ℕ ℕ nodes_of_path nodes_of_rel x)
nodes_roll x = fold-roll-RelTerm ℕ ℕ layer_nodes layer_nodes_rel x

nodes_product : (x y : PathTerm) → nodes_of_rel (R.Product x y) ≡ nodes_of_path x + nodes_of_path y + 1
nodes_product x y = ap nodes_of_rel (sym (R.rolls-Product x y)) ∙ nodes_roll (F.Product x y)

nodes_union : (r s : RelTerm) → nodes_of_rel (R.Union r s) ≡ nodes_of_rel r + nodes_of_rel s + 1
nodes_union r s = ap nodes_of_rel (sym (R.rolls-Union r s)) ∙ nodes_roll (F.RelTerm::Union r s)

nodes_concat : (r s : RelTerm) → nodes_of_rel (R.Concat r s) ≡ nodes_of_rel r + nodes_of_rel s + 1
nodes_concat r s = ap nodes_of_rel (sym (R.rolls-Concat r s)) ∙ nodes_roll (F.RelTerm::Concat r s)

nodes_compose : (r s : RelTerm) → nodes_of_rel (R.Compose r s) ≡ nodes_of_rel r + nodes_of_rel s + 1
nodes_compose r s = ap nodes_of_rel (sym (R.rolls-Compose r s)) ∙ nodes_roll (F.Compose r s)

-- no more markers than nodes of the before relation
abbrev Few : Core → Type 0
Few body = length (markers_of body) ≤ nodes_of_rel (before_of 0 body)

unit_few : (z : PathTerm) (c : Change) → length (change_markers c) ≤ nodes_of_rel (unit_terms 0 z c).before
unit_few z Preserve = omega arith
unit_few z (Add p) = omega arith
unit_few z (Remove p) = omega arith
unit_few z (Replace p q) = omega arith
unit_few z Drop = omega arith
unit_few z (AnyOf p k) = omega (arith, nodes_product (P.Union z (path_of p)) (P.One (marker_symbol 0 k)))
unit_few z (Ignore p) = omega arith

few_unit : (z : Expr) (c : Change) → Few (B.Unit z c)
few_unit z c = rw (markers_unit z c, before_unit 0 z c) (unit_few (path_of z) c)

few_then : (s t : Core) → Few s → Few t → Few (B.Then s t)
few_then s t one two =
    rw (markers_then s t, before_then 0 s t)
    (omega (arith, one, two, length-append (markers_of s) (markers_of t), nodes_concat (before_of 0 s) (before_of 0 t)))

few_else : (s t : Core) → Few s → Few t → Few (B.Else s t)
few_else s t one two =
    rw (markers_else s t, before_else 0 s t)
    (omega (arith, one, two, length-append (markers_of s) (markers_of t), nodes_union (before_of 0 s) (outside (zone_of 0 s) (before_of 0 t)), nodes_compose (R.Identity (P.Complement (zone_of 0 s))) (before_of 0 t)))

layer_few : (y : C.Core-F ((body : Core) × Few body)) → Few (roll-Core (map-Core ((body : Core) × Few body) Core (λ e. e.0) y))
layer_few (C.Unit z c) = subst Few (sym (B.rolls-Unit z c)) (few_unit z c)
layer_few (C.Then s t) = subst Few (sym (B.rolls-Then s.0 t.0)) (few_then s.0 t.0 s.1 t.1)
layer_few (C.Else s t) = subst Few (sym (B.rolls-Else s.0 t.0)) (few_else s.0 t.0 s.1 t.1)

few : (body : Core) → Few body
few = ind-Core Few (λ x y is. subst (λ z. Few (roll-Core z)) is (layer_few y))

all_range : (a n : ℕ) → 1 ≤ a → a + n ≤ 20001 → All IsMarker (range_with_len a n)
all_range a zero positive low = All-nil IsMarker
all_range a (suc n) positive low = All-cons IsMarker a (range_with_len (a + 1) n) (positive, omega (arith, low)) (all_range (a + 1) n (omega arith) (omega (arith, low)))

pub check_is_marked : (check : Checked) → IsCheck check → All IsMarker (markers_of check.body)
check_is_marked check is =
    subst (λ (ks : List ℕ). All IsMarker ks) (sym is.numbered)
    (all_range 1 (length (markers_of check.body)) (omega arith) (omega (arith, few check.body, is.few_nodes 0)))
