-- How many complements there are in a term, by its form.
use Rattle.std.proofs.Common.{◌≡◌, ◌∙◌, ℕ, ◌+◌, List, [], ◌∷◌, ◌++◌, length, ap, refl, sym, arith, length-append}
use Rattle.rela_rir.specs.Complements.{Parts, complemented_parts, complemented_parts_r, layer_parts, layer_parts_r, parts_of_layer, parts_of_layer_r}
use Rattle.rela_rir.specs.Size.{layer_nodes, layer_nodes_rel, nodes_of_path, nodes_of_rel}
use Rattle.rela_rir.specs.declared.term.PathTerm.{PathTerm}
use Rattle.rela_rir.specs.declared.term.RelTerm.{RelTerm}
use Rattle.rela_rir.specs.declared.term.PathTerm.TheOpen as F
use Rattle.rela_rir.specs.declared.term.PathTerm.TheVariants as P
use Rattle.rela_rir.specs.declared.term.RelTerm.TheVariants as R
use Rattle.rela_rir.specs.declared.term.PathTerm.TheViews.{roll-PathTerm, roll-RelTerm}
use Rattle.rela_rir.specs.declared.term.PathTerm.TheFolds.{fold-roll-PathTerm, fold-roll-RelTerm, map-PathTerm, map-RelTerm, rec-roll-PathTerm, rec-roll-RelTerm}
use Rattle.rela_blocks.specs.Scenes.{after_image}
use Rattle.rela_translate.specs.Checked.{Checked}
use Rattle.rela_translate.specs.Terms.{after_of, before_of}
use Rattle.rela_cert.specs.Rows.{parts_of}

-- ---- complemented parts by the form of a term

natural : (X Y : Type 0) (v : X → PathTerm) (v' : Y → RelTerm) (k : PathTerm → Parts) (k' : RelTerm → Parts) (x : F.PathTerm-F X Y) →
    parts_of_layer X Y v (λ p. k (v p)) (λ p. k' (v' p)) x ≡ parts_of_layer PathTerm RelTerm (λ y. y) k k' (map-PathTerm X Y PathTerm RelTerm v v' x)
natural X Y v v' k k' F.None = refl
natural X Y v v' k k' F.Empty = refl
natural X Y v v' k k' (F.Class n) = refl
natural X Y v v' k k' (F.One s) = refl
natural X Y v v' k k' (F.PathTerm::Union a b) = refl
natural X Y v v' k k' (F.PathTerm::Concat a b) = refl
natural X Y v v' k k' (F.PathTerm::Star a) = refl
natural X Y v v' k k' (F.Meet a b) = refl
natural X Y v v' k k' (F.Complement a) = refl
natural X Y v v' k k' F.Pre = refl
natural X Y v v' k k' F.Post = refl
natural X Y v v' k k' (F.Image a r) = refl

natural_r : (X Y : Type 0) (v : X → PathTerm) (v' : Y → RelTerm) (k : PathTerm → Parts) (k' : RelTerm → Parts) (x : F.RelTerm-F X Y) →
    parts_of_layer_r X Y v (λ p. k (v p)) (λ p. k' (v' p)) x ≡ parts_of_layer_r PathTerm RelTerm (λ y. y) k k' (map-RelTerm X Y PathTerm RelTerm v v' x)
natural_r X Y v v' k k' (F.Identity a) = refl
natural_r X Y v v' k k' (F.Product a b) = refl
natural_r X Y v v' k k' (F.RelTerm::Union r s) = refl
natural_r X Y v v' k k' (F.RelTerm::Concat r s) = refl
natural_r X Y v v' k k' (F.RelTerm::Star r) = refl
natural_r X Y v v' k k' (F.Compose r s) = refl

parts_roll : (z : F.PathTerm-F PathTerm RelTerm) → complemented_parts (roll-PathTerm z) ≡ layer_parts (λ y. y) complemented_parts complemented_parts_r z
parts_roll z =
    ap (λ (c : Parts). c.parts)
    (rec-roll-PathTerm Parts Parts (λ X Y term _ inside inside_r z. parts_of_layer X Y term inside inside_r z) (λ X Y term _ inside inside_r z. parts_of_layer_r X Y term inside inside_r z) natural z)

parts_roll_r : (z : F.RelTerm-F PathTerm RelTerm) → complemented_parts_r (roll-RelTerm z) ≡ layer_parts_r (λ y. y) complemented_parts complemented_parts_r z
parts_roll_r z =
    ap (λ (c : Parts). c.parts)
    (rec-roll-RelTerm Parts Parts (λ X Y term _ inside inside_r z. parts_of_layer X Y term inside inside_r z) (λ X Y term _ inside inside_r z. parts_of_layer_r X Y term inside inside_r z) natural_r z)

-- ---- how many complements there are

pub count_none : length (complemented_parts P.None) ≡ 0
count_none = ap length (ap complemented_parts (sym P.rolls-None) ∙ parts_roll F.None)

pub count_empty : length (complemented_parts P.Empty) ≡ 0
count_empty = ap length (ap complemented_parts (sym P.rolls-Empty) ∙ parts_roll F.Empty)

pub count_class : (k : ℕ) → length (complemented_parts (P.Class k)) ≡ 0
count_class k = ap length (ap complemented_parts (sym (P.rolls-Class k)) ∙ parts_roll (F.Class k))

pub count_one : (s : ℕ) → length (complemented_parts (P.One s)) ≡ 0
count_one s = ap length (ap complemented_parts (sym (P.rolls-One s)) ∙ parts_roll (F.One s))

pub count_union : (x : PathTerm) (y : PathTerm) → length (complemented_parts (P.Union x y)) ≡ length (complemented_parts x) + length (complemented_parts y)
count_union x y = ap length (ap complemented_parts (sym (P.rolls-Union x y)) ∙ parts_roll (F.PathTerm::Union x y)) ∙ length-append (complemented_parts x) (complemented_parts y)

pub count_concat : (x : PathTerm) (y : PathTerm) → length (complemented_parts (P.Concat x y)) ≡ length (complemented_parts x) + length (complemented_parts y)
count_concat x y = ap length (ap complemented_parts (sym (P.rolls-Concat x y)) ∙ parts_roll (F.PathTerm::Concat x y)) ∙ length-append (complemented_parts x) (complemented_parts y)

pub count_star : (x : PathTerm) → length (complemented_parts (P.Star x)) ≡ length (complemented_parts x)
count_star x = ap length (ap complemented_parts (sym (P.rolls-Star x)) ∙ parts_roll (F.PathTerm::Star x))

pub count_meet : (x : PathTerm) (y : PathTerm) → length (complemented_parts (P.Meet x y)) ≡ length (complemented_parts x) + length (complemented_parts y)
count_meet x y = ap length (ap complemented_parts (sym (P.rolls-Meet x y)) ∙ parts_roll (F.Meet x y)) ∙ length-append (complemented_parts x) (complemented_parts y)

pub count_complement : (x : PathTerm) → length (complemented_parts (P.Complement x)) ≡ length (complemented_parts x) + 1
count_complement x = ap length (ap complemented_parts (sym (P.rolls-Complement x)) ∙ parts_roll (F.Complement x)) ∙ length-append (complemented_parts x) (x ∷ [])

pub count_pre : length (complemented_parts P.Pre) ≡ 0
count_pre = ap length (ap complemented_parts (sym P.rolls-Pre) ∙ parts_roll F.Pre)

pub count_post : length (complemented_parts P.Post) ≡ 0
count_post = ap length (ap complemented_parts (sym P.rolls-Post) ∙ parts_roll F.Post)

pub count_image : (x : PathTerm) (r : RelTerm) → length (complemented_parts (P.Image x r)) ≡ length (complemented_parts x) + length (complemented_parts_r r)
count_image x r = ap length (ap complemented_parts (sym (P.rolls-Image x r)) ∙ parts_roll (F.Image x r)) ∙ length-append (complemented_parts x) (complemented_parts_r r)

pub count_identity_r : (x : PathTerm) → length (complemented_parts_r (R.Identity x)) ≡ length (complemented_parts x)
count_identity_r x = ap length (ap complemented_parts_r (sym (R.rolls-Identity x)) ∙ parts_roll_r (F.Identity x))

pub count_product_r : (x : PathTerm) (y : PathTerm) → length (complemented_parts_r (R.Product x y)) ≡ length (complemented_parts x) + length (complemented_parts y)
count_product_r x y = ap length (ap complemented_parts_r (sym (R.rolls-Product x y)) ∙ parts_roll_r (F.Product x y)) ∙ length-append (complemented_parts x) (complemented_parts y)

pub count_union_r : (r : RelTerm) (s : RelTerm) → length (complemented_parts_r (R.Union r s)) ≡ length (complemented_parts_r r) + length (complemented_parts_r s)
count_union_r r s = ap length (ap complemented_parts_r (sym (R.rolls-Union r s)) ∙ parts_roll_r (F.RelTerm::Union r s)) ∙ length-append (complemented_parts_r r) (complemented_parts_r s)

pub count_concat_r : (r : RelTerm) (s : RelTerm) → length (complemented_parts_r (R.Concat r s)) ≡ length (complemented_parts_r r) + length (complemented_parts_r s)
count_concat_r r s = ap length (ap complemented_parts_r (sym (R.rolls-Concat r s)) ∙ parts_roll_r (F.RelTerm::Concat r s)) ∙ length-append (complemented_parts_r r) (complemented_parts_r s)

pub count_star_r : (r : RelTerm) → length (complemented_parts_r (R.Star r)) ≡ length (complemented_parts_r r)
count_star_r r = ap length (ap complemented_parts_r (sym (R.rolls-Star r)) ∙ parts_roll_r (F.RelTerm::Star r))

pub count_compose_r : (r : RelTerm) (s : RelTerm) → length (complemented_parts_r (R.Compose r s)) ≡ length (complemented_parts_r r) + length (complemented_parts_r s)
count_compose_r r s = ap length (ap complemented_parts_r (sym (R.rolls-Compose r s)) ∙ parts_roll_r (F.Compose r s)) ∙ length-append (complemented_parts_r r) (complemented_parts_r s)

-- ---- how many nodes there are

nodes_roll : (x : F.PathTerm-F PathTerm RelTerm) → nodes_of_path (roll-PathTerm x) ≡ layer_nodes (map-PathTerm PathTerm RelTerm ℕ ℕ nodes_of_path nodes_of_rel x)
nodes_roll x = fold-roll-PathTerm ℕ ℕ layer_nodes layer_nodes_rel x

nodes_roll_r : (x : F.RelTerm-F PathTerm RelTerm) → nodes_of_rel (roll-RelTerm x) ≡ layer_nodes_rel (map-RelTerm PathTerm RelTerm ℕ ℕ nodes_of_path nodes_of_rel x)
nodes_roll_r x = fold-roll-RelTerm ℕ ℕ layer_nodes layer_nodes_rel x

pub nodes_union : (x y : PathTerm) → nodes_of_path (P.Union x y) ≡ nodes_of_path x + nodes_of_path y + 1
nodes_union x y = ap nodes_of_path (sym (P.rolls-Union x y)) ∙ nodes_roll (F.PathTerm::Union x y)

pub nodes_concat : (x y : PathTerm) → nodes_of_path (P.Concat x y) ≡ nodes_of_path x + nodes_of_path y + 1
nodes_concat x y = ap nodes_of_path (sym (P.rolls-Concat x y)) ∙ nodes_roll (F.PathTerm::Concat x y)

pub nodes_star : (x : PathTerm) → nodes_of_path (P.Star x) ≡ nodes_of_path x + 1
nodes_star x = ap nodes_of_path (sym (P.rolls-Star x)) ∙ nodes_roll (F.PathTerm::Star x)

pub nodes_meet : (x y : PathTerm) → nodes_of_path (P.Meet x y) ≡ nodes_of_path x + nodes_of_path y + 1
nodes_meet x y = ap nodes_of_path (sym (P.rolls-Meet x y)) ∙ nodes_roll (F.Meet x y)

pub nodes_complement : (x : PathTerm) → nodes_of_path (P.Complement x) ≡ nodes_of_path x + 1
nodes_complement x = ap nodes_of_path (sym (P.rolls-Complement x)) ∙ nodes_roll (F.Complement x)

pub nodes_image : (x : PathTerm) (r : RelTerm) → nodes_of_path (P.Image x r) ≡ nodes_of_path x + nodes_of_rel r + 1
nodes_image x r = ap nodes_of_path (sym (P.rolls-Image x r)) ∙ nodes_roll (F.Image x r)

pub nodes_identity_r : (x : PathTerm) → nodes_of_rel (R.Identity x) ≡ nodes_of_path x + 1
nodes_identity_r x = ap nodes_of_rel (sym (R.rolls-Identity x)) ∙ nodes_roll_r (F.Identity x)

pub nodes_product_r : (x y : PathTerm) → nodes_of_rel (R.Product x y) ≡ nodes_of_path x + nodes_of_path y + 1
nodes_product_r x y = ap nodes_of_rel (sym (R.rolls-Product x y)) ∙ nodes_roll_r (F.Product x y)

pub nodes_union_r : (r s : RelTerm) → nodes_of_rel (R.Union r s) ≡ nodes_of_rel r + nodes_of_rel s + 1
nodes_union_r r s = ap nodes_of_rel (sym (R.rolls-Union r s)) ∙ nodes_roll_r (F.RelTerm::Union r s)

pub nodes_concat_r : (r s : RelTerm) → nodes_of_rel (R.Concat r s) ≡ nodes_of_rel r + nodes_of_rel s + 1
nodes_concat_r r s = ap nodes_of_rel (sym (R.rolls-Concat r s)) ∙ nodes_roll_r (F.RelTerm::Concat r s)

pub nodes_star_r : (r : RelTerm) → nodes_of_rel (R.Star r) ≡ nodes_of_rel r + 1
nodes_star_r r = ap nodes_of_rel (sym (R.rolls-Star r)) ∙ nodes_roll_r (F.RelTerm::Star r)

pub nodes_compose_r : (r s : RelTerm) → nodes_of_rel (R.Compose r s) ≡ nodes_of_rel r + nodes_of_rel s + 1
nodes_compose_r r s = ap nodes_of_rel (sym (R.rolls-Compose r s)) ∙ nodes_roll_r (F.Compose r s)

pub ruleset counts_and_sizes = (nodes_union, nodes_concat, nodes_star, nodes_meet, nodes_complement, nodes_image, nodes_identity_r, nodes_product_r, nodes_union_r, nodes_concat_r, nodes_star_r, nodes_compose_r, count_none, count_empty, count_class, count_one, count_union, count_concat, count_star, count_meet, count_complement, count_pre, count_post, count_image, count_identity_r, count_product_r, count_union_r, count_concat_r, count_star_r, count_compose_r)

-- ---- the images of a check

before_parts : (r : RelTerm) → complemented_parts (P.Image P.Pre r) ≡ complemented_parts_r r
before_parts r =
    ap complemented_parts (sym (P.rolls-Image P.Pre r)) ∙ parts_roll (F.Image P.Pre r)
    ∙ ap (λ (ps : List PathTerm). ps ++ complemented_parts_r r) (ap complemented_parts (sym P.rolls-Pre) ∙ parts_roll F.Pre)

after_parts : (r : RelTerm) → complemented_parts (P.Image P.Post r) ≡ complemented_parts_r r
after_parts r =
    ap complemented_parts (sym (P.rolls-Image P.Post r)) ∙ parts_roll (F.Image P.Post r)
    ∙ ap (λ (ps : List PathTerm). ps ++ complemented_parts_r r) (ap complemented_parts (sym P.rolls-Post) ∙ parts_roll F.Post)

-- the complemented parts of its two images are those of its two relations
pub parts_are : (check : Checked) (n : ℕ) → parts_of check n ≡ complemented_parts_r (before_of n check.body) ++ complemented_parts_r (after_of n check.body)
parts_are check n =
    ap (λ (ps : List PathTerm). ps ++ complemented_parts (after_image check n)) (before_parts (before_of n check.body))
    ∙ ap (λ (ps : List PathTerm). complemented_parts_r (before_of n check.body) ++ ps) (after_parts (after_of n check.body))

pub count_parts : (check : Checked) (n : ℕ) (before after : RelTerm) → before ≡ before_of n check.body → after ≡ after_of n check.body
    → (i j : ℕ) → i ≡ length (complemented_parts_r before) → j ≡ length (complemented_parts_r after) → i + j ≡ length (parts_of check n)
count_parts check n before after before_is after_is i j first second =
    let one : i ≡ length (complemented_parts_r (before_of n check.body)) = first ∙ ap (λ (r : RelTerm). length (complemented_parts_r r)) before_is in
    let two : j ≡ length (complemented_parts_r (after_of n check.body)) = second ∙ ap (λ (r : RelTerm). length (complemented_parts_r r)) after_is in
    let whole : length (parts_of check n) ≡ length (complemented_parts_r (before_of n check.body)) + length (complemented_parts_r (after_of n check.body)) =
    ap (λ (ps : List PathTerm). length ps) (parts_are check n) ∙ length-append (complemented_parts_r (before_of n check.body)) (complemented_parts_r (after_of n check.body)) in
    omega (arith, one, two, whole)
