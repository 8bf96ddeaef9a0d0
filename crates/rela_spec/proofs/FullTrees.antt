-- The trees that are spelled are full: each of their lists has two parts or more.
use Rattle.std.proofs.Common.{◌≡◌, ℕ, zero, suc, ◌≤◌, Bool, true, ◌&&◌, List, [], ◌∷◌, length, map, refl, sym, ap, ◌∙◌, inl, inr, arith}
use Rattle.std.specs.Prelude.{⊤, codes, nat_le}
use Rattle.std.specs.List.{list_all}
use Rattle.std.proofs.lemmas.Bool.Decides.{nat_tests}
use Rattle.rela_flows.specs.declared.prefix.Prefix.{Prefix}
use Rattle.rela_flows.specs.declared.predicate.Predicate.{Predicate}
use Rattle.rela_flows.specs.declared.predicate.Predicate.TheVariants as P
use Rattle.rela_flows.specs.declared.predicate.Predicate.TheOpen as p
use Rattle.rela_flows.specs.declared.predicate.Predicate.TheFolds.{fold-roll-Predicate}
use Rattle.rela_lex.specs.declared.token.Token.{Token}
use Rattle.rela_spec.specs.Full.{are_full, full_path_layer, is_full_path, is_full_change, full_spec_layer, is_full_spec, full_predicate_layer, is_full_predicate, is_full_item, IsFull}
use Rattle.rela_spec.specs.Grammar.{Grammar, condition, path_item, spec_item, check_item, an_item, file}
use Rattle.rela_spec.specs.GrammarWords.{mark, word}
use Rattle.rela_spec.specs.GrammarPaths.{group, atom, class, postfix, negation, expression, path}
use Rattle.rela_spec.specs.GrammarPredicates.{placed, test, single, denial, disjunction, predicate}
use Rattle.rela_spec.specs.GrammarSpecs.{argument, replacement, change, unit, alternatives, body, single as one_spec}
use Rattle.rela_spec.specs.Phrases.{Phrase, done, none, many, chain, ◌>>=◌, ◌>>◌}
use Rattle.rela_spec.specs.declared.tree.Member.{Member}
use Rattle.rela_spec.specs.declared.tree.Modifier.{Modifier}
use Rattle.rela_spec.specs.declared.tree.PathExpr.{PathExpr}
use Rattle.rela_spec.specs.declared.tree.PathExpr.TheVariants as V
use Rattle.rela_spec.specs.declared.tree.PathExpr.TheOpen as e
use Rattle.rela_spec.specs.declared.tree.PathExpr.TheFolds.{fold-roll-PathExpr}
use Rattle.rela_spec.specs.declared.tree.SpecExpr.{SpecExpr}
use Rattle.rela_spec.specs.declared.tree.SpecExpr.TheVariants as S
use Rattle.rela_spec.specs.declared.tree.SpecExpr.TheOpen as s
use Rattle.rela_spec.specs.declared.tree.SpecExpr.TheFolds.{fold-roll-SpecExpr}
use Rattle.rela_spec.specs.declared.tree.SpecFile.{SpecFile}

both : (x y : Bool) → x ≡ true → y ≡ true → (x && y) ≡ true
both x y ex ey = ap (λ (b : Bool). b && y) ex ∙ ey

-- each value that the phrase has is full
abbrev AllFull : {A : Type 0} → (A → Bool) → Phrase A → Type 0
AllFull {A} full R = (a : List Token) (v : A) (b : List Token) → R a v b → full v ≡ true

many_full : {A : Type 0} (full : A → Bool) (R : Phrase A) → AllFull full R → (a : List Token) (vs : List A) (b : List Token) → many R a vs b → list_all full vs ≡ true
many_full full R each a [] b h = refl
many_full full R each a (v ∷ vs) b h = both (full v) (list_all full vs) (each a v h.0 h.1) (many_full full R each h.0 vs b h.2)

all_mapped : {A : Type 0} (full : A → Bool) (vs : List A) → list_all (λ (b : Bool). b) (map full vs) ≡ list_all full vs
all_mapped full [] = refl
all_mapped full (v ∷ vs) = ap (λ (b : Bool). full v && b) (all_mapped full vs)

list_full : {A : Type 0} (full : A → Bool) (v w : A) (vs : List A) → list_all full (v ∷ w ∷ vs) ≡ true → are_full (map full (v ∷ w ∷ vs)) ≡ true
list_full full v w vs all =
    let long : 2 ≤ length (map full (v ∷ w ∷ vs)) = omega arith in
    both (nat_le 2 (length (map full (v ∷ w ∷ vs)))) (list_all (λ (b : Bool). b) (map full (v ∷ w ∷ vs))) (grind (arith, nat_tests)) (all_mapped full (v ∷ w ∷ vs) ∙ all)

chain_full : {A : Type 0} (full : A → Bool) (join : List A → A) (between : Phrase ⊤) (R : Phrase A) → AllFull full R → ((parts : List A) → full (join parts) ≡ are_full (map full parts)) → AllFull full (chain join between R)
chain_full full join between R each joined a v b (first, m, one, ([], n, more, last)) = ap full last.0 ∙ each a first m one
chain_full full join between R each joined a v b (first, m, one, (next ∷ others, n, more, last)) =
    ap full last.0 ∙ joined (first ∷ next ∷ others)
    ∙ list_full full first next others (both (full first) (list_all full (next ∷ others)) (each a first m one) (many_full full (between >> R) (λ a v b h. each h.1 v b h.3) m (next ∷ others) n more))

full_seq : (parts : List PathExpr) → is_full_path (V.Seq parts) ≡ are_full (map is_full_path parts)
unfolding is_full_path
full_seq parts = ap is_full_path (sym (V.rolls-Seq parts)) ∙ fold-roll-PathExpr Bool full_path_layer (e.Seq parts)

full_alt : (parts : List PathExpr) → is_full_path (V.Alt parts) ≡ are_full (map is_full_path parts)
unfolding is_full_path
full_alt parts = ap is_full_path (sym (V.rolls-Alt parts)) ∙ fold-roll-PathExpr Bool full_path_layer (e.Alt parts)

full_and : (parts : List PathExpr) → is_full_path (V.And parts) ≡ are_full (map is_full_path parts)
unfolding is_full_path
full_and parts = ap is_full_path (sym (V.rolls-And parts)) ∙ fold-roll-PathExpr Bool full_path_layer (e.And parts)

full_not : (part : PathExpr) → is_full_path (V.Not part) ≡ is_full_path part
unfolding is_full_path
full_not part = ap is_full_path (sym (V.rolls-Not part)) ∙ fold-roll-PathExpr Bool full_path_layer (e.Not part)

full_star : (part : PathExpr) → is_full_path (V.Star part) ≡ is_full_path part
unfolding is_full_path
full_star part = ap is_full_path (sym (V.rolls-Star part)) ∙ fold-roll-PathExpr Bool full_path_layer (e.Star part)

full_plus : (part : PathExpr) → is_full_path (V.Plus part) ≡ is_full_path part
unfolding is_full_path
full_plus part = ap is_full_path (sym (V.rolls-Plus part)) ∙ fold-roll-PathExpr Bool full_path_layer (e.Plus part)

full_maybe : (part : PathExpr) → is_full_path (V.Maybe part) ≡ is_full_path part
unfolding is_full_path
full_maybe part = ap is_full_path (sym (V.rolls-Maybe part)) ∙ fold-roll-PathExpr Bool full_path_layer (e.Maybe part)

full_times : (part : PathExpr) (n : ℕ) → is_full_path (V.Times part n) ≡ is_full_path part
unfolding is_full_path
full_times part n = ap is_full_path (sym (V.rolls-Times part n)) ∙ fold-roll-PathExpr Bool full_path_layer (e.Times part n)

full_any : is_full_path V.Any ≡ true
unfolding is_full_path
full_any = ap is_full_path (sym V.rolls-Any) ∙ fold-roll-PathExpr Bool full_path_layer e.Any

full_empty : is_full_path V.Empty ≡ true
unfolding is_full_path
full_empty = ap is_full_path (sym V.rolls-Empty) ∙ fold-roll-PathExpr Bool full_path_layer e.Empty

full_one : (m : Member) → is_full_path (V.One m) ≡ true
unfolding is_full_path
full_one m = ap is_full_path (sym (V.rolls-One m)) ∙ fold-roll-PathExpr Bool full_path_layer (e.One m)

full_class : (negated : Bool) (members : List Member) → is_full_path (V.Class negated members) ≡ true
unfolding is_full_path
full_class negated members = ap is_full_path (sym (V.rolls-Class negated members)) ∙ fold-roll-PathExpr Bool full_path_layer (e.Class negated members)

full_reference : (name : List ℕ) (at : ℕ) → is_full_path (V.Reference name at) ≡ true
unfolding is_full_path
full_reference name at = ap is_full_path (sym (V.rolls-Reference name at)) ∙ fold-roll-PathExpr Bool full_path_layer (e.Reference name at)

group_full : (room : ℕ) (inside : Phrase PathExpr) → AllFull is_full_path inside → AllFull is_full_path (group room inside)
unfolding group
group_full zero inside each a v b h = absurd h
group_full (suc room) inside each a v b (_, m, opening, inl (_, n, closing, last)) = ap is_full_path last.0 ∙ full_empty
group_full (suc room) inside each a v b (_, m, opening, inr (w, n, whole, (_, k, closing, last))) = ap is_full_path last.0 ∙ each m w n whole

class_full : (room : ℕ) → AllFull is_full_path (class room)
unfolding class
class_full zero a v b h = absurd h
class_full (suc room) a v b (_, m, opening, (negated, n, flag, (members, k, listed, (_, j, closing, last)))) = ap is_full_path last.0 ∙ full_class negated members

atom_full : (room : ℕ) (inside : Phrase PathExpr) → AllFull is_full_path inside → AllFull is_full_path (atom room inside)
unfolding atom
atom_full room inside each a v b (inl h) = ap is_full_path h.3.0 ∙ full_any
atom_full room inside each a v b (inr (inl h)) = group_full room inside each a v b h
atom_full room inside each a v b (inr (inr (inl h))) = class_full room a v b h
atom_full room inside each a v b (inr (inr (inr (inl h)))) = ap is_full_path h.3.0 ∙ full_reference h.0.name h.0.at
atom_full room inside each a v b (inr (inr (inr (inr h)))) = ap is_full_path h.3.0 ∙ full_one h.0

postfix_full : (room : ℕ) (part : PathExpr) → is_full_path part ≡ true → AllFull is_full_path (postfix room part)
unfolding postfix
postfix_full room part full a v b (inl h) = ap is_full_path h.3.0 ∙ full_star part ∙ full
postfix_full room part full a v b (inr (inl h)) = ap is_full_path h.3.0 ∙ full_plus part ∙ full
postfix_full room part full a v b (inr (inr (inl h))) = ap is_full_path h.3.0 ∙ full_maybe part ∙ full
postfix_full room part full a v b (inr (inr (inr (inl h)))) = ap is_full_path h.3.0 ∙ full_times part h.0 ∙ full
postfix_full room part full a v b (inr (inr (inr (inr h)))) = ap is_full_path h.0 ∙ full

postfixed_full : (room : ℕ) (inside : Phrase PathExpr) → AllFull is_full_path inside → AllFull is_full_path (atom room inside >>= postfix room)
postfixed_full room inside each a v b h = postfix_full room h.0 (atom_full room inside each a h.0 h.1 h.2) h.1 v b h.3

negation_full : (room : ℕ) (inside : Phrase PathExpr) → AllFull is_full_path inside → AllFull is_full_path (negation room inside)
unfolding negation
negation_full room inside each a v b (inl (_, m, bang, (part, n, whole, last))) = ap is_full_path last.0 ∙ full_not part ∙ postfixed_full room inside each m part n whole
negation_full room inside each a v b (inr h) = postfixed_full room inside each a v b h

expression_full : (room : ℕ) (inside : Phrase PathExpr) → AllFull is_full_path inside → AllFull is_full_path (expression room inside)
unfolding expression
expression_full room inside each =
    chain_full is_full_path V.Alt (mark 124) (chain V.And (mark 38) (chain V.Seq (done tt) (negation room inside)))
    (chain_full is_full_path V.And (mark 38) (chain V.Seq (done tt) (negation room inside)) (chain_full is_full_path V.Seq (done tt) (negation room inside) (negation_full room inside each) full_seq) full_and)
    full_alt

pub path_full : (room : ℕ) → AllFull is_full_path (path room)
unfolding path
path_full zero = expression_full zero none (λ a v b h. absurd h)
path_full (suc room) = expression_full (suc room) (path room) (path_full room)

full_unit : (zone : PathExpr) (m : Modifier PathExpr) → is_full_spec (S.Unit zone m) ≡ (is_full_path zone && is_full_change m)
unfolding is_full_spec
full_unit zone m = ap is_full_spec (sym (S.rolls-Unit zone m)) ∙ fold-roll-SpecExpr Bool full_spec_layer (s.Unit zone m)

full_named : (name : List ℕ) (at : ℕ) → is_full_spec (S.Reference name at) ≡ true
unfolding is_full_spec
full_named name at = ap is_full_spec (sym (S.rolls-Reference name at)) ∙ fold-roll-SpecExpr Bool full_spec_layer (s.Reference name at)

full_then : (parts : List SpecExpr) → is_full_spec (S.Then parts) ≡ are_full (map is_full_spec parts)
unfolding is_full_spec
full_then parts = ap is_full_spec (sym (S.rolls-Then parts)) ∙ fold-roll-SpecExpr Bool full_spec_layer (s.Then parts)

full_else : (parts : List SpecExpr) → is_full_spec (S.Else parts) ≡ are_full (map is_full_spec parts)
unfolding is_full_spec
full_else parts = ap is_full_spec (sym (S.rolls-Else parts)) ∙ fold-roll-SpecExpr Bool full_spec_layer (s.Else parts)

argument_full : (room : ℕ) → AllFull is_full_path (argument room)
unfolding argument
argument_full zero a v b h = absurd h
argument_full (suc room) a v b (_, m, opening, (w, n, whole, (_, k, closing, last))) = ap is_full_path last.0 ∙ path_full room m w n whole

replacement_full : (room : ℕ) → AllFull is_full_change (replacement room)
unfolding replacement
replacement_full zero a v b h = absurd h
replacement_full (suc room) a v b (_, m, opening, (old, n, first, (_, k, comma, (new, j, second, (_, i, closing, last))))) =
    ap is_full_change last.0 ∙ both (is_full_path old) (is_full_path new) (path_full room m old n first) (path_full room k new j second)

change_full : (room : ℕ) → AllFull is_full_change (change room)
unfolding change
change_full room a v b (inl h) = ap is_full_change h.3.0
change_full room a v b (inr (inl h)) = ap is_full_change h.3.0
change_full room a v b (inr (inr (inl (_, m, w, (e, n, whole, last))))) = ap is_full_change last.0 ∙ argument_full room m e n whole
change_full room a v b (inr (inr (inr (inl (_, m, w, (e, n, whole, last)))))) = ap is_full_change last.0 ∙ argument_full room m e n whole
change_full room a v b (inr (inr (inr (inr (inl (_, m, w, whole)))))) = replacement_full room m v b whole
change_full room a v b (inr (inr (inr (inr (inr (inl (_, m, w, (e, n, whole, last)))))))) = ap is_full_change last.0 ∙ argument_full room m e n whole
change_full room a v b (inr (inr (inr (inr (inr (inr (_, m, w, (e, n, whole, last)))))))) = ap is_full_change last.0 ∙ argument_full room m e n whole

unit_full : (room : ℕ) → AllFull is_full_spec (unit room)
unfolding unit
unit_full zero a v b h = absurd h
unit_full (suc room) a v b (_, m, opening, (zone, n, first, (_, k, colon, (c, j, second, (_, i, closing, last))))) =
    ap is_full_spec last.0 ∙ full_unit zone c ∙ both (is_full_path zone) (is_full_change c) (path_full room m zone n first) (change_full room k c j second)

single_full : (room : ℕ) (inside : Phrase SpecExpr) → AllFull is_full_spec inside → AllFull is_full_spec (one_spec room inside)
unfolding one_spec
single_full room inside each a v b (inl h) = ap is_full_spec h.3.0 ∙ full_named h.0.name h.0.at
single_full zero inside each a v b (inr (inl h)) = absurd h
single_full (suc room) inside each a v b (inr (inl (_, m, opening, (w, n, whole, (_, k, closing, last))))) = ap is_full_spec last.0 ∙ each m w n whole
single_full room inside each a v b (inr (inr h)) = unit_full room a v b h

alternatives_full : (room : ℕ) (inside : Phrase SpecExpr) → AllFull is_full_spec inside → AllFull is_full_spec (alternatives room inside)
unfolding alternatives
alternatives_full room inside each =
    chain_full is_full_spec S.Else (word (codes "else")) (chain S.Then (word (codes "then")) (one_spec room inside))
    (chain_full is_full_spec S.Then (word (codes "then")) (one_spec room inside) (single_full room inside each) full_then) full_else

pub body_full : (room : ℕ) → AllFull is_full_spec (body room)
unfolding body
body_full zero = alternatives_full zero none (λ a v b h. absurd h)
body_full (suc room) = alternatives_full (suc room) (body room) (body_full room)

full_all : is_full_predicate P.All ≡ true
unfolding is_full_predicate
full_all = ap is_full_predicate (sym P.rolls-All) ∙ fold-roll-Predicate Bool full_predicate_layer p.All

full_dst_in : (q : Prefix) → is_full_predicate (P.DstIn q) ≡ true
unfolding is_full_predicate
full_dst_in q = ap is_full_predicate (sym (P.rolls-DstIn q)) ∙ fold-roll-Predicate Bool full_predicate_layer (p.DstIn q)

full_dst_overlaps : (q : Prefix) → is_full_predicate (P.DstOverlaps q) ≡ true
unfolding is_full_predicate
full_dst_overlaps q = ap is_full_predicate (sym (P.rolls-DstOverlaps q)) ∙ fold-roll-Predicate Bool full_predicate_layer (p.DstOverlaps q)

full_src_in : (q : Prefix) → is_full_predicate (P.SrcIn q) ≡ true
unfolding is_full_predicate
full_src_in q = ap is_full_predicate (sym (P.rolls-SrcIn q)) ∙ fold-roll-Predicate Bool full_predicate_layer (p.SrcIn q)

full_src_overlaps : (q : Prefix) → is_full_predicate (P.SrcOverlaps q) ≡ true
unfolding is_full_predicate
full_src_overlaps q = ap is_full_predicate (sym (P.rolls-SrcOverlaps q)) ∙ fold-roll-Predicate Bool full_predicate_layer (p.SrcOverlaps q)

full_flow : (name : List ℕ) → is_full_predicate (P.Flow name) ≡ true
unfolding is_full_predicate
full_flow name = ap is_full_predicate (sym (P.rolls-Flow name)) ∙ fold-roll-Predicate Bool full_predicate_layer (p.Flow name)

full_of_class : (name : List ℕ) → is_full_predicate (P.Class name) ≡ true
unfolding is_full_predicate
full_of_class name = ap is_full_predicate (sym (P.rolls-Class name)) ∙ fold-roll-Predicate Bool full_predicate_layer (p.Class name)

full_denied : (part : Predicate) → is_full_predicate (P.Not part) ≡ is_full_predicate part
unfolding is_full_predicate
full_denied part = ap is_full_predicate (sym (P.rolls-Not part)) ∙ fold-roll-Predicate Bool full_predicate_layer (p.Not part)

full_both : (parts : List Predicate) → is_full_predicate (P.And parts) ≡ are_full (map is_full_predicate parts)
unfolding is_full_predicate
full_both parts = ap is_full_predicate (sym (P.rolls-And parts)) ∙ fold-roll-Predicate Bool full_predicate_layer (p.And parts)

full_either : (parts : List Predicate) → is_full_predicate (P.Or parts) ≡ are_full (map is_full_predicate parts)
unfolding is_full_predicate
full_either parts = ap is_full_predicate (sym (P.rolls-Or parts)) ∙ fold-roll-Predicate Bool full_predicate_layer (p.Or parts)

placed_full : (within overlapping : Prefix → Predicate) → ((q : Prefix) → is_full_predicate (within q) ≡ true) → ((q : Prefix) → is_full_predicate (overlapping q) ≡ true) → AllFull is_full_predicate (placed within overlapping)
unfolding placed
placed_full within overlapping first second a v b (inl (_, m, w, (q, n, read, last))) = ap is_full_predicate last.0 ∙ first q
placed_full within overlapping first second a v b (inr (_, m, w, (q, n, read, last))) = ap is_full_predicate last.0 ∙ second q

test_full : AllFull is_full_predicate test
unfolding test
test_full a v b (inl h) = ap is_full_predicate h.3.0 ∙ full_all
test_full a v b (inr (inl h)) = placed_full P.DstIn P.DstOverlaps full_dst_in full_dst_overlaps h.1 v b h.3
test_full a v b (inr (inr (inl h))) = placed_full P.SrcIn P.SrcOverlaps full_src_in full_src_overlaps h.1 v b h.3
test_full a v b (inr (inr (inr (inl (_, m, w, (n, k, read, last)))))) = ap is_full_predicate last.0 ∙ full_flow n.name
test_full a v b (inr (inr (inr (inr (_, m, w, (n, k, read, last)))))) = ap is_full_predicate last.0 ∙ full_of_class n.name

one_full : (room : ℕ) (inside : Phrase Predicate) → AllFull is_full_predicate inside → AllFull is_full_predicate (single room inside)
unfolding single
one_full zero inside each a v b (inl h) = absurd h
one_full (suc room) inside each a v b (inl (_, m, opening, (w, n, whole, (_, k, closing, last)))) = ap is_full_predicate last.0 ∙ each m w n whole
one_full room inside each a v b (inr h) = test_full a v b h

denial_full : (room : ℕ) (inside : Phrase Predicate) → AllFull is_full_predicate inside → AllFull is_full_predicate (denial room inside)
unfolding denial
denial_full room inside each a v b (inl (_, m, w, (part, n, whole, last))) = ap is_full_predicate last.0 ∙ full_denied part ∙ one_full room inside each m part n whole
denial_full room inside each a v b (inr h) = one_full room inside each a v b h

disjunction_full : (room : ℕ) (inside : Phrase Predicate) → AllFull is_full_predicate inside → AllFull is_full_predicate (disjunction room inside)
unfolding disjunction
disjunction_full room inside each =
    chain_full is_full_predicate P.Or (word (codes "or")) (chain P.And (word (codes "and")) (denial room inside))
    (chain_full is_full_predicate P.And (word (codes "and")) (denial room inside) (denial_full room inside each) full_both) full_either

pub predicate_full : (room : ℕ) → AllFull is_full_predicate (predicate room)
unfolding predicate
predicate_full zero = disjunction_full zero none (λ a v b h. absurd h)
predicate_full (suc room) = disjunction_full (suc room) (predicate room) (predicate_full room)

condition_full : (room : ℕ) → AllFull is_full_predicate (condition room)
unfolding condition
condition_full room a v b (inl h) = predicate_full room h.1 v b h.3
condition_full room a v b (inr h) = ap is_full_predicate h.0 ∙ full_all

item_full : (room : ℕ) → AllFull is_full_item (an_item room)
unfolding an_item path_item spec_item check_item
item_full room a v b (inl (_, m, w, (n, k, name, (_, j, mark, (e, i, whole, (_, l, semicolon, last)))))) = ap is_full_item last.0 ∙ path_full room j e i whole
item_full room a v b (inr (inl (_, m, w, (n, k, name, (_, j, mark, (e, i, whole, (_, l, semicolon, last))))))) = ap is_full_item last.0 ∙ body_full room j e i whole
item_full room a v b (inr (inr (_, m, w, (at_most, g, flag, (n, k, name, (when, f, said, (_, j, mark, (e, i, whole, (_, l, semicolon, last))))))))) =
    ap is_full_item last.0 ∙ both (is_full_predicate when) (is_full_spec e) (condition_full room k when f said) (body_full room j e i whole)

-- each tree that some tokens spell is full
pub tree_full : (tokens : List Token) (tree : SpecFile) → Grammar tokens tree → IsFull tree
unfolding file
tree_full tokens tree g =
    let h = g.spelled in
    ap (λ (t : SpecFile). list_all is_full_item t.items) h.3.3.0 ∙ many_full is_full_item (an_item g.nested) (item_full g.nested) h.1 h.3.0 h.3.1 h.3.2
