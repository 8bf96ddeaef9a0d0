-- Which forms name no symbol by themselves: all but one, where their parts name none.
use Rattle.std.proofs.Common.{◌≡◌, ◌∙◌, ℕ, List, [], ◌++◌, sym, ap, ap₂}
use Rattle.rela_rir.specs.Assertions.{first_term, second_term}
use Rattle.rela_rir.specs.declared.assertion.Assertion.{Assertion}
use Rattle.rela_rir.specs.declared.term.PathTerm.{PathTerm}
use Rattle.rela_rir.specs.declared.term.PathTerm.TheOpen as H
use Rattle.rela_rir.specs.declared.term.PathTerm.TheVariants as P
use Rattle.rela_rir.specs.declared.term.PathTerm.TheFolds.{fold-roll-PathTerm, fold-roll-RelTerm}
use Rattle.rela_rir.specs.declared.term.RelTerm.{RelTerm}
use Rattle.rela_rir.specs.declared.term.RelTerm.TheVariants as T
use Rattle.rela_rir.specs.NamedSymbols.{layer_symbols, layer_symbols_rel, symbols_in, symbols_in_rel}
use Rattle.rela_claims.specs.Named.{symbols_in_tree, tree_layer_symbols}
use Rattle.rela_claims.specs.declared.claim.Tree.{Tree}
use Rattle.rela_claims.specs.declared.claim.Tree.TheOpen as G
use Rattle.rela_claims.specs.declared.claim.Tree.TheVariants as W
use Rattle.rela_claims.specs.declared.claim.Tree.TheFolds.{fold-roll-Tree}

pub plain_none : symbols_in P.None ≡ []
plain_none = ap symbols_in (sym P.rolls-None) ∙ fold-roll-PathTerm (List ℕ) (List ℕ) layer_symbols layer_symbols_rel H.None

pub plain_empty : symbols_in P.Empty ≡ []
plain_empty = ap symbols_in (sym P.rolls-Empty) ∙ fold-roll-PathTerm (List ℕ) (List ℕ) layer_symbols layer_symbols_rel H.Empty

pub plain_class : (k : ℕ) → symbols_in (P.Class k) ≡ []
plain_class k = ap symbols_in (sym (P.rolls-Class k)) ∙ fold-roll-PathTerm (List ℕ) (List ℕ) layer_symbols layer_symbols_rel (H.Class k)

pub plain_union : (x : PathTerm) (y : PathTerm) → symbols_in x ≡ [] → symbols_in y ≡ [] → symbols_in (P.Union x y) ≡ []
plain_union x y is_x is_y = ap symbols_in (sym (P.rolls-Union x y)) ∙ fold-roll-PathTerm (List ℕ) (List ℕ) layer_symbols layer_symbols_rel (H.PathTerm::Union x y) ∙ ap₂ (λ (a b : List ℕ). a ++ b) is_x is_y

pub plain_concat : (x : PathTerm) (y : PathTerm) → symbols_in x ≡ [] → symbols_in y ≡ [] → symbols_in (P.Concat x y) ≡ []
plain_concat x y is_x is_y = ap symbols_in (sym (P.rolls-Concat x y)) ∙ fold-roll-PathTerm (List ℕ) (List ℕ) layer_symbols layer_symbols_rel (H.PathTerm::Concat x y) ∙ ap₂ (λ (a b : List ℕ). a ++ b) is_x is_y

pub plain_star : (x : PathTerm) → symbols_in x ≡ [] → symbols_in (P.Star x) ≡ []
plain_star x is_x = ap symbols_in (sym (P.rolls-Star x)) ∙ fold-roll-PathTerm (List ℕ) (List ℕ) layer_symbols layer_symbols_rel (H.PathTerm::Star x) ∙ is_x

pub plain_meet : (x : PathTerm) (y : PathTerm) → symbols_in x ≡ [] → symbols_in y ≡ [] → symbols_in (P.Meet x y) ≡ []
plain_meet x y is_x is_y = ap symbols_in (sym (P.rolls-Meet x y)) ∙ fold-roll-PathTerm (List ℕ) (List ℕ) layer_symbols layer_symbols_rel (H.Meet x y) ∙ ap₂ (λ (a b : List ℕ). a ++ b) is_x is_y

pub plain_complement : (x : PathTerm) → symbols_in x ≡ [] → symbols_in (P.Complement x) ≡ []
plain_complement x is_x = ap symbols_in (sym (P.rolls-Complement x)) ∙ fold-roll-PathTerm (List ℕ) (List ℕ) layer_symbols layer_symbols_rel (H.Complement x) ∙ is_x

pub plain_pre : symbols_in P.Pre ≡ []
plain_pre = ap symbols_in (sym P.rolls-Pre) ∙ fold-roll-PathTerm (List ℕ) (List ℕ) layer_symbols layer_symbols_rel H.Pre

pub plain_post : symbols_in P.Post ≡ []
plain_post = ap symbols_in (sym P.rolls-Post) ∙ fold-roll-PathTerm (List ℕ) (List ℕ) layer_symbols layer_symbols_rel H.Post

pub plain_image : (x : PathTerm) (r : RelTerm) → symbols_in x ≡ [] → symbols_in_rel r ≡ [] → symbols_in (P.Image x r) ≡ []
plain_image x r is_x is_r = ap symbols_in (sym (P.rolls-Image x r)) ∙ fold-roll-PathTerm (List ℕ) (List ℕ) layer_symbols layer_symbols_rel (H.Image x r) ∙ ap₂ (λ (a b : List ℕ). a ++ b) is_x is_r

pub plain_identity : (x : PathTerm) → symbols_in x ≡ [] → symbols_in_rel (T.Identity x) ≡ []
plain_identity x is_x = ap symbols_in_rel (sym (T.rolls-Identity x)) ∙ fold-roll-RelTerm (List ℕ) (List ℕ) layer_symbols layer_symbols_rel (H.Identity x) ∙ is_x

pub plain_product : (x : PathTerm) (y : PathTerm) → symbols_in x ≡ [] → symbols_in y ≡ [] → symbols_in_rel (T.Product x y) ≡ []
plain_product x y is_x is_y = ap symbols_in_rel (sym (T.rolls-Product x y)) ∙ fold-roll-RelTerm (List ℕ) (List ℕ) layer_symbols layer_symbols_rel (H.Product x y) ∙ ap₂ (λ (a b : List ℕ). a ++ b) is_x is_y

pub plain_rel_star : (r : RelTerm) → symbols_in_rel r ≡ [] → symbols_in_rel (T.Star r) ≡ []
plain_rel_star r is_r = ap symbols_in_rel (sym (T.rolls-Star r)) ∙ fold-roll-RelTerm (List ℕ) (List ℕ) layer_symbols layer_symbols_rel (H.RelTerm::Star r) ∙ is_r

pub plain_rel_union : (r : RelTerm) (s : RelTerm) → symbols_in_rel r ≡ [] → symbols_in_rel s ≡ [] → symbols_in_rel (T.Union r s) ≡ []
plain_rel_union r s is_r is_s = ap symbols_in_rel (sym (T.rolls-Union r s)) ∙ fold-roll-RelTerm (List ℕ) (List ℕ) layer_symbols layer_symbols_rel (H.RelTerm::Union r s) ∙ ap₂ (λ (a b : List ℕ). a ++ b) is_r is_s

pub plain_rel_concat : (r : RelTerm) (s : RelTerm) → symbols_in_rel r ≡ [] → symbols_in_rel s ≡ [] → symbols_in_rel (T.Concat r s) ≡ []
plain_rel_concat r s is_r is_s = ap symbols_in_rel (sym (T.rolls-Concat r s)) ∙ fold-roll-RelTerm (List ℕ) (List ℕ) layer_symbols layer_symbols_rel (H.RelTerm::Concat r s) ∙ ap₂ (λ (a b : List ℕ). a ++ b) is_r is_s

pub plain_compose : (r : RelTerm) (s : RelTerm) → symbols_in_rel r ≡ [] → symbols_in_rel s ≡ [] → symbols_in_rel (T.Compose r s) ≡ []
plain_compose r s is_r is_s = ap symbols_in_rel (sym (T.rolls-Compose r s)) ∙ fold-roll-RelTerm (List ℕ) (List ℕ) layer_symbols layer_symbols_rel (H.Compose r s) ∙ ap₂ (λ (a b : List ℕ). a ++ b) is_r is_s

pub plain_leaf : (l : Assertion) → symbols_in (first_term l) ≡ [] → symbols_in (second_term l) ≡ [] → symbols_in_tree (W.Leaf l) ≡ []
plain_leaf l is_x is_y = ap symbols_in_tree (sym (W.rolls-Leaf l)) ∙ fold-roll-Tree (List ℕ) tree_layer_symbols (G.Leaf l) ∙ ap₂ (λ (a b : List ℕ). a ++ b) is_x is_y

pub plain_and : (a : Tree) (b : Tree) → symbols_in_tree a ≡ [] → symbols_in_tree b ≡ [] → symbols_in_tree (W.And a b) ≡ []
plain_and a b is_a is_b = ap symbols_in_tree (sym (W.rolls-And a b)) ∙ fold-roll-Tree (List ℕ) tree_layer_symbols (G.And a b) ∙ ap₂ (λ (a b : List ℕ). a ++ b) is_a is_b

pub plain_or : (a : Tree) (b : Tree) → symbols_in_tree a ≡ [] → symbols_in_tree b ≡ [] → symbols_in_tree (W.Or a b) ≡ []
plain_or a b is_a is_b = ap symbols_in_tree (sym (W.rolls-Or a b)) ∙ fold-roll-Tree (List ℕ) tree_layer_symbols (G.Or a b) ∙ ap₂ (λ (a b : List ℕ). a ++ b) is_a is_b

pub plain_not : (a : Tree) → symbols_in_tree a ≡ [] → symbols_in_tree (W.Not a) ≡ []
plain_not a is_a = ap symbols_in_tree (sym (W.rolls-Not a)) ∙ fold-roll-Tree (List ℕ) tree_layer_symbols (G.Not a) ∙ is_a

pub ruleset plain_forms = (plain_none, plain_empty, plain_class, plain_union, plain_concat, plain_star, plain_meet, plain_complement, plain_pre, plain_post, plain_image, plain_identity, plain_product, plain_rel_star, plain_rel_union, plain_rel_concat, plain_compose, plain_leaf, plain_and, plain_or, plain_not)
