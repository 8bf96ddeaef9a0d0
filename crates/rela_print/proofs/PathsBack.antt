-- The texts of path expressions are read as these expressions.
use Rattle.std.proofs.Common.{◌≡◌, ℕ, zero, suc, ◌+◌, ◌≤◌, ◌<◌, Bool, true, false, Some, List, [], ◌∷◌, ◌++◌, map, refl, sym, ap, ◌∙◌, subst, inl, inr, arith, codes}
use Rattle.std.specs.Prelude.{⊤}
use Rattle.std.specs.Fmt.{decimal}
use Rattle.rela_names.specs.Name.{IsName}
use Rattle.rela_lex.specs.declared.token.Token.{Token}
use Rattle.rela_lex.specs.declared.token.TokenKind.TheVariants.{Mark}
use Rattle.rela_spec.specs.Grammar.{room_after}
use Rattle.rela_spec.specs.GrammarWords.{Named, mark, number}
use Rattle.rela_spec.specs.GrammarPaths.{a_member, class, times, group, atom, postfix, negation, expression, path}
use Rattle.rela_print.specs.Joined.{joined}
use Rattle.rela_print.specs.Members.{member_text, class_opening, class_text}
use Rattle.rela_print.specs.Names.{reference_text}
use Rattle.rela_print.specs.PathTexts.{printed_path}
use Rattle.rela_spec.specs.Phrases.{Phrase, done, none, ◌>>=◌, ◌>>◌, ◌or◌, whether, many, chain}
use Rattle.rela_print.specs.Printed.{within}
use Rattle.rela_print.specs.SameTree.{member_at_zero, path_layer_at_zero, path_at_zero}
use Rattle.rela_spec.specs.declared.tree.Member.{Member}
use Rattle.rela_spec.specs.declared.tree.PathExpr.{PathExpr}
use Rattle.rela_spec.specs.declared.tree.PathExpr.TheVariants as V
use Rattle.rela_spec.specs.declared.tree.PathExpr.TheOpen as layer
use Rattle.rela_spec.specs.declared.tree.PathExpr.TheFolds.{fold-roll-PathExpr}
use Rattle.rela_print.proofs.PrintedPaths.{printed_any, printed_empty, printed_one, printed_class, printed_reference, printed_seq, printed_alt, printed_and, printed_not, printed_star, printed_plus, printed_maybe, printed_times}
use Rattle.rela_print.proofs.Braces.{opening_then, inner_then, reads_opening_brace, reads_closing_brace}
use Rattle.rela_print.proofs.ChainTexts.{reads_row}
use Rattle.rela_print.proofs.Levels as levels
use Rattle.rela_print.proofs.MemberTexts.{closing, reads_before, GoodMember, sourced_member}
use Rattle.rela_print.proofs.NumberTexts.{reads_number, sourced_number}
use Rattle.rela_print.proofs.Sources.{Each, Parts, Sourced, sourced_then, sourced_or, sourced_done, sourced_weaker, sourced_bracketed, sourced_many, sourced_chain, sourced_as, sourced_mark, sourced_reference}
use Rattle.rela_print.proofs.TextPieces.{Tame, tame_join, Reads, Free, Stops, reads_then, reads_as, reads_behind_blank}
use Rattle.rela_print.proofs.TokenTexts.{Whatever, reads_mark, reads_lone_mark, reads_reference}

-- what stands in parentheses, where so many more brackets may be opened
abbrev pub inside : ℕ → Phrase PathExpr
inside zero = none
inside (suc n) = path n

abbrev pub level : ℕ → ℕ → Phrase PathExpr
level zero n = atom n (inside n)
level (suc zero) n = atom n (inside n) >>= postfix n
level (suc (suc zero)) n = negation n (inside n)
level (suc (suc (suc zero))) n = chain V.Seq (done tt) (negation n (inside n))
level (suc (suc (suc (suc zero)))) n = chain V.And (mark 38) (chain V.Seq (done tt) (negation n (inside n)))
level (suc (suc (suc (suc (suc d))))) n = expression n (inside n)

lone : {A : Type 0} (join : List A → A) (between : Phrase ⊤) (R : Phrase A) (a : List Token) (e : A) (b : List Token) → R a e b → chain join between R a e b
lone join between R a e b h = (e, b, h, ([], b, refl, (refl, refl)))

pub lift : (d n : ℕ) (a : List Token) (e : PathExpr) (b : List Token) → level d n a e b → level (suc d) n a e b
unfolding postfix negation expression
lift zero n a e b h = (e, b, h, inr (inr (inr (inr (refl, refl)))))
lift (suc zero) n a e b h = inr h
lift (suc (suc zero)) n a e b h = lone V.Seq (done tt) (negation n (inside n)) a e b h
lift (suc (suc (suc zero))) n a e b h = lone V.And (mark 38) (level 3 n) a e b h
lift (suc (suc (suc (suc zero)))) n a e b h = lone V.Alt (mark 124) (level 4 n) a e b h
lift (suc (suc (suc (suc (suc d))))) n a e b h = h

path_is : (n : ℕ) (a : List Token) (e : PathExpr) (b : List Token) → path n a e b → level 5 n a e b
unfolding path
path_is zero a e b h = h
path_is (suc n) a e b h = h

is_path : (n : ℕ) (a : List Token) (e : PathExpr) (b : List Token) → level 5 n a e b → path n a e b
unfolding path
is_path zero a e b h = h
is_path (suc n) a e b h = h

-- a text in parentheses
pub grouped : (n : ℕ) (t : List ℕ) (P : PathExpr → Type 0) → Reads Stops (level 5 n) t P (Tame n n) → Reads Stops (level 0 (suc n)) (40 ∷ (t ++ 41 ∷ [])) P (Tame (suc n) (suc n))
unfolding atom group
grouped n t P h =
    reads_before (reads_as (λ (w : PathExpr). w) (λ w p. p) (λ a w b spelled. inr (inl spelled))
    (reads_then {C = Free} {D = Free} {R = mark 40} {S = λ _. (mark 41 >> done V.Empty) or (path n >>= λ e. mark 41 >> done e)} {P = Whatever} {Q = P} (λ rest c. tt) tame_join
    (reads_mark {m = suc n} {n = n} 40 refl refl refl refl) λ _ _.
    reads_as (λ (w : PathExpr). w) (λ w p. p) (λ a w b spelled. inr (spelled.0, spelled.1, is_path n a spelled.0 spelled.1 spelled.2, spelled.3))
    (reads_then {C = Stops} {D = Free} {R = level 5 n} {S = λ e. mark 41 >> done e} {P = P} {Q = P} (λ rest c. refl) tame_join h λ e p.
    reads_as (λ _. e) (λ _ _. p) (λ a v b spelled. (tt, b, spelled, (refl, refl))) (reads_mark {m = n} {n = suc n} 41 refl (closing n) refl refl))))

abbrev pub GoodPath : ℕ → PathExpr → Type 0
GoodPath = levels.Good 5 level path_at_zero printed_path lift grouped

abbrev pub KeptPath : ℕ → ℕ → PathExpr → Type 0
KeptPath = levels.Kept 5 level path_at_zero printed_path lift grouped

abbrev pub Same : PathExpr → PathExpr → Type 0
Same e w = path_at_zero w ≡ path_at_zero e

abbrev make : (m d b : ℕ) (t : List ℕ) (e : PathExpr) → printed_path e ≡ record { binding = b; text = t } → d ≤ 5 → b + d ≡ 6
    → ((n : ℕ) → m ≤ n → Reads Stops (level d n) t (Same e) (Tame n n)) → KeptPath d m e
make m d b t e is low binding reads = inl (levels.make_good 5 level path_at_zero printed_path lift grouped m d b t e is low binding reads)

zero_one : (m : Member) → path_at_zero (V.One m) ≡ V.One (member_at_zero m)
unfolding path_at_zero
zero_one m = ap path_at_zero (sym (V.rolls-One m)) ∙ fold-roll-PathExpr PathExpr path_layer_at_zero (layer.One m)

zero_class : (negated : Bool) (members : List Member) → path_at_zero (V.Class negated members) ≡ V.Class negated (map member_at_zero members)
unfolding path_at_zero
zero_class negated members = ap path_at_zero (sym (V.rolls-Class negated members)) ∙ fold-roll-PathExpr PathExpr path_layer_at_zero (layer.Class negated members)

zero_reference : (text : List ℕ) (at : ℕ) → path_at_zero (V.Reference text at) ≡ V.Reference text 0
unfolding path_at_zero
zero_reference text at = ap path_at_zero (sym (V.rolls-Reference text at)) ∙ fold-roll-PathExpr PathExpr path_layer_at_zero (layer.Reference text at)

zero_seq : (parts : List PathExpr) → path_at_zero (V.Seq parts) ≡ V.Seq (map path_at_zero parts)
unfolding path_at_zero
zero_seq parts = ap path_at_zero (sym (V.rolls-Seq parts)) ∙ fold-roll-PathExpr PathExpr path_layer_at_zero (layer.Seq parts)

zero_alt : (parts : List PathExpr) → path_at_zero (V.Alt parts) ≡ V.Alt (map path_at_zero parts)
unfolding path_at_zero
zero_alt parts = ap path_at_zero (sym (V.rolls-Alt parts)) ∙ fold-roll-PathExpr PathExpr path_layer_at_zero (layer.Alt parts)

zero_and : (parts : List PathExpr) → path_at_zero (V.And parts) ≡ V.And (map path_at_zero parts)
unfolding path_at_zero
zero_and parts = ap path_at_zero (sym (V.rolls-And parts)) ∙ fold-roll-PathExpr PathExpr path_layer_at_zero (layer.And parts)

zero_not : (e : PathExpr) → path_at_zero (V.Not e) ≡ V.Not (path_at_zero e)
unfolding path_at_zero
zero_not e = ap path_at_zero (sym (V.rolls-Not e)) ∙ fold-roll-PathExpr PathExpr path_layer_at_zero (layer.Not e)

zero_star : (e : PathExpr) → path_at_zero (V.Star e) ≡ V.Star (path_at_zero e)
unfolding path_at_zero
zero_star e = ap path_at_zero (sym (V.rolls-Star e)) ∙ fold-roll-PathExpr PathExpr path_layer_at_zero (layer.Star e)

zero_plus : (e : PathExpr) → path_at_zero (V.Plus e) ≡ V.Plus (path_at_zero e)
unfolding path_at_zero
zero_plus e = ap path_at_zero (sym (V.rolls-Plus e)) ∙ fold-roll-PathExpr PathExpr path_layer_at_zero (layer.Plus e)

zero_maybe : (e : PathExpr) → path_at_zero (V.Maybe e) ≡ V.Maybe (path_at_zero e)
unfolding path_at_zero
zero_maybe e = ap path_at_zero (sym (V.rolls-Maybe e)) ∙ fold-roll-PathExpr PathExpr path_layer_at_zero (layer.Maybe e)

zero_times : (e : PathExpr) (n : ℕ) → path_at_zero (V.Times e n) ≡ V.Times (path_at_zero e) n
unfolding path_at_zero
zero_times e n = ap path_at_zero (sym (V.rolls-Times e n)) ∙ fold-roll-PathExpr PathExpr path_layer_at_zero (layer.Times e n)

-- a form with one part that is alike is alike
alike_in : (form : PathExpr → PathExpr) → ((e : PathExpr) → path_at_zero (form e) ≡ form (path_at_zero e)) → (e w : PathExpr) → Same e w → Same (form e) (form w)
alike_in form zeroes e w p = zeroes w ∙ ap form p ∙ sym (zeroes e)

kept_any : (m : ℕ) → KeptPath 0 m V.Any
unfolding atom
kept_any m = make m 0 6 (codes ".") V.Any printed_any (omega arith) (omega arith) λ n le.
    reads_as (λ _. V.Any) (λ _ _. refl) (λ a v b h. inl (tt, b, h, (refl, refl))) (reads_lone_mark 46 refl refl refl refl)

kept_one : (m : ℕ) (v : Member) → GoodMember m v → KeptPath 0 m (V.One v)
unfolding atom
kept_one m v good = make m 0 6 (member_text v) (V.One v) (printed_one v) (omega arith) (omega arith) λ n le.
    reads_as (λ (w : Member). V.One w) (λ w p. zero_one w ∙ ap V.One p ∙ sym (zero_one v)) (λ a w b h. inr (inr (inr (inr (w, b, h, (refl, refl)))))) (good.reads n le)

kept_reference : (m : ℕ) (text : List ℕ) (at : ℕ) → IsName text → KeptPath 0 m (V.Reference text at)
unfolding atom
kept_reference m text at is = make m 0 6 (reference_text text) (V.Reference text at) (printed_reference text at) (omega arith) (omega arith) λ n le.
    reads_as (λ (w : Named). V.Reference w.name w.at) (λ w p. zero_reference w.name w.at ∙ ap (λ (x : List ℕ). V.Reference x 0) p ∙ sym (zero_reference text at))
    (λ a w b h. inr (inr (inr (inl (w, b, h, (refl, refl)))))) (reads_reference text is)

kept_empty : (m : ℕ) → 0 < m → KeptPath 0 m V.Empty
unfolding atom group
kept_empty m some = make m 0 6 (codes "()") V.Empty printed_empty (omega arith) (omega arith) (λ n le. go n (omega arith))
  where
    go : (n : ℕ) → 0 < n → Reads Stops (level 0 n) (codes "()") (Same V.Empty) (Tame n n)
    go zero lt = absurd (omega arith)
    go (suc n) lt =
        reads_before (reads_as (λ (w : PathExpr). w) (λ w p. p) (λ a w b spelled. inr (inl spelled))
        (reads_then {C = Free} {D = Free} {R = mark 40} {S = λ _. (mark 41 >> done V.Empty) or (path n >>= λ e. mark 41 >> done e)} {t = 40 ∷ []} {u = 41 ∷ []} {P = Whatever} {Q = Same V.Empty} (λ rest c. tt) tame_join
        (reads_mark {m = suc n} {n = n} 40 refl refl refl refl) λ _ _.
        reads_as (λ _. V.Empty) (λ _ _. refl) (λ a v b spelled. inl (tt, b, spelled, (refl, refl))) (reads_mark {m = n} {n = suc n} 41 refl (closing n) refl refl)))

-- a class in brackets
abbrev class_rest : ℕ → Bool → Phrase PathExpr
class_rest n negated = many (a_member n) >>= λ members. mark 93 >> done (V.Class negated members)

reads_members : (n : ℕ) (members : List Member) → Each (GoodMember n) members
    → Reads Stops (many (a_member n)) (joined (codes " ") member_text members) (λ ws. map member_at_zero ws ≡ map member_at_zero members) (Tame n n)
reads_members n members good =
    reads_row n (a_member n) member_at_zero [] member_text members (each members good) (λ v h. reads_behind_blank h)
  where
    each : (vs : List Member) → Each (GoodMember n) vs → Each (λ v. Reads Stops (a_member n) (member_text v) (λ w. member_at_zero w ≡ member_at_zero v) (Tame n n)) vs
    each [] good = tt
    each (v ∷ vs) good = (good.0.reads n (omega arith), each vs good.1)

reads_class_rest : (n : ℕ) (negated : Bool) (members : List Member) → Each (GoodMember n) members
    → Reads Free (class_rest n negated) (joined (codes " ") member_text members ++ 93 ∷ []) (Same (V.Class negated members)) (Tame n (suc n))
reads_class_rest n negated members good =
    reads_then {C = Stops} {D = Free} {R = many (a_member n)} {S = λ members. mark 93 >> done (V.Class negated members)} {Q = Same (V.Class negated members)} (λ rest c. refl) tame_join
    (reads_members n members good) λ ws p.
    reads_as (λ _. V.Class negated ws) (λ _ _. zero_class negated ws ∙ ap (λ (x : List Member). V.Class negated x) p ∙ sym (zero_class negated members))
    (λ a v b h. (tt, b, h, (refl, refl))) (reads_mark {m = n} {n = suc n} 93 refl (closing n) refl refl)

reads_inside_class : (n : ℕ) (negated : Bool) (members : List Member) → Each (GoodMember n) members
    → Reads Free (mark 91 >> (whether (mark 94) >>= λ negated. class_rest n negated)) (class_opening negated ++ (joined (codes " ") member_text members ++ 93 ∷ [])) (Same (V.Class negated members)) (Tame (suc n) (suc n))
reads_inside_class n true members good =
    reads_then {C = Free} {D = Free} {R = mark 91} {S = λ _. whether (mark 94) >>= λ negated. class_rest n negated} {t = 91 ∷ []} {P = Whatever} {Q = Same (V.Class true members)} (λ rest c. tt) tame_join
    (reads_mark {m = suc n} {n = n} 91 refl refl refl refl) λ _ _.
    reads_as (λ (w : PathExpr). w) (λ w p. p) (λ a w b h. (true, h.1, inl (tt, h.1, h.2, (refl, refl)), h.3))
    (reads_then {C = Free} {D = Free} {R = mark 94} {S = λ _. class_rest n true} {t = 94 ∷ []} {P = Whatever} {Q = Same (V.Class true members)} (λ rest c. tt) tame_join
    (reads_mark {m = n} {n = n} 94 refl refl refl refl) (λ _ _. reads_class_rest n true members good))
reads_inside_class n false members good =
    reads_then {C = Free} {D = Free} {R = mark 91} {S = λ _. whether (mark 94) >>= λ negated. class_rest n negated} {t = 91 ∷ []} {P = Whatever} {Q = Same (V.Class false members)} (λ rest c. tt) tame_join
    (reads_mark {m = suc n} {n = n} 91 refl refl refl refl) λ _ _.
    reads_as (λ (w : PathExpr). w) (λ w p. p) (λ a w b h. (false, a, inr (refl, refl), h)) (reads_class_rest n false members good)

good_more : (m n : ℕ) (members : List Member) → m ≤ n → Each (GoodMember m) members → Each (GoodMember n) members
good_more m n [] le good = tt
good_more m n (v ∷ vs) le good = (record { reads = λ k far. good.0.reads k (omega arith) }, good_more m n vs le good.1)

kept_class : (k : ℕ) (negated : Bool) (members : List Member) → Each (GoodMember k) members → KeptPath 0 (suc k) (V.Class negated members)
unfolding atom class class_text
kept_class k negated members good = make (suc k) 0 6 (class_text negated members) (V.Class negated members) (printed_class negated members) (omega arith) (omega arith) go
  where
    go : (n : ℕ) → suc k ≤ n → Reads Stops (level 0 n) (class_text negated members) (Same (V.Class negated members)) (Tame n n)
    go zero le = absurd (omega arith)
    go (suc n) le =
        reads_before (reads_as (λ (w : PathExpr). w) (λ w p. p) (λ a w b h. inr (inr (inl h))) (reads_inside_class n negated members (good_more k n members (omega arith) good)))

-- what stands behind a part
abbrev part_text : PathExpr → List ℕ
part_text e = within 5 (printed_path e)

reads_atom : (m n : ℕ) (e : PathExpr) → m ≤ n → KeptPath 0 m e → Reads Stops (level 0 n) (part_text e) (Same e) (Tame n n)
reads_atom m n e le kept = levels.reads_part 5 level path_at_zero printed_path lift grouped 0 m n 5 e le (omega arith) kept

reads_marked : (n byte : ℕ) (form : PathExpr → PathExpr) (e : PathExpr) → ((w : PathExpr) → path_at_zero (form w) ≡ form (path_at_zero w))
    → ((w : PathExpr) (a : List Token) (v : ⊤) (b : List Token) → mark byte a v b → postfix n w a (form w) b)
    → ((rest : List ℕ) → Stops (byte ∷ rest)) → Reads Free (mark byte) (byte ∷ []) Whatever (Tame n n)
    → Reads Stops (level 0 n) (part_text e) (Same e) (Tame n n) → Reads Stops (level 1 n) (part_text e ++ byte ∷ []) (Same (form e)) (Tame n n)
reads_marked n byte form e zeroes on stops marked part =
    reads_then {C = Stops} {D = Stops} {R = level 0 n} {S = postfix n} {P = Same e} {Q = Same (form e)} (λ rest c. stops rest) tame_join part λ w p.
    reads_before (reads_as (λ _. form w) (λ _ _. alike_in form zeroes e w p) (on w) marked)

kept_star : (m : ℕ) (e : PathExpr) → KeptPath 0 m e → KeptPath 1 m (V.Star e)
unfolding postfix
kept_star m e kept = make m 1 5 (part_text e ++ 42 ∷ []) (V.Star e) (printed_star e) (omega arith) (omega arith) λ n le.
    reads_marked n 42 V.Star e zero_star (λ w a v b h. inl (tt, b, h, (refl, refl))) (λ rest. refl) (reads_mark {m = n} {n = n} 42 refl refl refl refl) (reads_atom m n e le kept)

kept_plus : (m : ℕ) (e : PathExpr) → KeptPath 0 m e → KeptPath 1 m (V.Plus e)
unfolding postfix
kept_plus m e kept = make m 1 5 (part_text e ++ 43 ∷ []) (V.Plus e) (printed_plus e) (omega arith) (omega arith) λ n le.
    reads_marked n 43 V.Plus e zero_plus (λ w a v b h. inr (inl (tt, b, h, (refl, refl)))) (λ rest. refl) (reads_mark {m = n} {n = n} 43 refl refl refl refl) (reads_atom m n e le kept)

kept_maybe : (m : ℕ) (e : PathExpr) → KeptPath 0 m e → KeptPath 1 m (V.Maybe e)
unfolding postfix
kept_maybe m e kept = make m 1 5 (part_text e ++ 63 ∷ []) (V.Maybe e) (printed_maybe e) (omega arith) (omega arith) λ n le.
    reads_marked n 63 V.Maybe e zero_maybe (λ w a v b h. inr (inr (inl (tt, b, h, (refl, refl))))) (λ rest. refl) (reads_mark {m = n} {n = n} 63 refl refl refl refl) (reads_atom m n e le kept)

reads_times : (n k : ℕ) → 0 < n → k ≤ 64 → Reads Free (times n) (123 ∷ (decimal k ++ 125 ∷ [])) (λ v. v ≡ k) (Tame n n)
unfolding times
reads_times zero k some small = absurd (omega arith)
reads_times (suc n) k some small =
    reads_then {C = Free} {D = Free} {R = mark 123} {S = λ _. number >>= λ v. mark 125 >> done v} {t = 123 ∷ []} {P = Whatever} {Q = λ v. v ≡ k} (λ rest c. tt) opening_then
    (reads_opening_brace {k = n}) λ _ _.
    reads_then {C = Stops} {D = Free} {R = number} {S = λ v. mark 125 >> done v} {P = λ v. v ≡ k} {Q = λ v. v ≡ k} (λ rest c. refl) inner_then (reads_number {k = n} k small) λ v p.
    reads_as (λ _. v) (λ _ _. p) (λ a u b h. (tt, b, h, (refl, refl))) (reads_closing_brace {k = n})

kept_times : (m : ℕ) (e : PathExpr) (k : ℕ) → 0 < m → k ≤ 64 → KeptPath 0 m e → KeptPath 1 m (V.Times e k)
unfolding postfix
kept_times m e k some small kept = make m 1 5 (part_text e ++ (123 ∷ (decimal k ++ 125 ∷ []))) (V.Times e k) (printed_times e k) (omega arith) (omega arith) λ n le.
    reads_then {C = Stops} {D = Stops} {R = level 0 n} {S = postfix n} {P = Same e} {Q = Same (V.Times e k)} (λ rest c. refl) tame_join (reads_atom m n e le kept) λ w p.
    reads_before (reads_as (λ (v : ℕ). V.Times w v) (λ v same. zero_times w v ∙ ap (λ (x : PathExpr). V.Times x v) p ∙ ap (λ (x : ℕ). V.Times (path_at_zero e) x) same ∙ sym (zero_times e k))
    (λ a v b h. inr (inr (inr (inl (v, b, h, (refl, refl)))))) (reads_times n k (omega arith) small))

kept_not : (m : ℕ) (e : PathExpr) → KeptPath 1 m e → KeptPath 2 m (V.Not e)
unfolding negation
kept_not m e kept = make m 2 4 (33 ∷ within 4 (printed_path e)) (V.Not e) (printed_not e) (omega arith) (omega arith) λ n le.
    reads_as (λ (w : PathExpr). w) (λ w p. p) (λ a w b h. inl h)
    (reads_then {C = Free} {D = Stops} {R = mark 33} {S = λ _. level 1 n >>= λ e. done (V.Not e)} {t = 33 ∷ []} {P = Whatever} {Q = Same (V.Not e)} (λ rest c. tt) tame_join
    (reads_mark {m = n} {n = n} 33 refl refl refl refl) λ _ _.
    reads_as (λ (w : PathExpr). V.Not w) (λ w p. alike_in V.Not zero_not e w p) (λ a w b h. (w, b, h, (refl, refl)))
    (levels.reads_part 5 level path_at_zero printed_path lift grouped 1 m n 4 e le (omega arith) kept))

-- what stands behind a word, or a blank alone, in a chain
blank_between : (n : ℕ) (t : List ℕ) (P : PathExpr → Type 0) → Reads Stops (level 2 n) t P (Tame n n) → Reads Stops (done tt >> level 2 n) (32 ∷ t) P (Tame n n)
blank_between n t P h = reads_as (λ (w : PathExpr). w) (λ w p. p) (λ a w b spelled. (tt, a, (refl, refl), spelled)) (reads_behind_blank h)

mark_between : (byte d n : ℕ) (t : List ℕ) (P : PathExpr → Type 0) → Reads Free (mark byte) (byte ∷ []) Whatever (Tame n n) → Reads Stops (level d n) t P (Tame n n)
    → Reads Stops (mark byte >> level d n) (32 ∷ byte ∷ 32 ∷ t) P (Tame n n)
mark_between byte d n t P marked h =
    reads_behind_blank (reads_then {C = Free} {D = Stops} {R = mark byte} {S = λ _. level d n} {t = byte ∷ []} {u = 32 ∷ t} {P = Whatever} {Q = P} (λ rest c. tt) tame_join marked λ _ _. reads_behind_blank h)

kept_seq : (m : ℕ) (w : PathExpr) → Parts V.Seq (KeptPath 2 m) w → KeptPath 3 m w
kept_seq m w parts =
    levels.kept_chain 5 level path_at_zero printed_path lift grouped V.Seq (done tt) [] 2 m 3 (omega arith) (omega arith) printed_seq zero_seq (λ n a e b h. h)
    blank_between w parts

kept_and : (m : ℕ) (w : PathExpr) → Parts V.And (KeptPath 3 m) w → KeptPath 4 m w
kept_and m w parts =
    levels.kept_chain 5 level path_at_zero printed_path lift grouped V.And (mark 38) (38 ∷ 32 ∷ []) 3 m 2 (omega arith) (omega arith) printed_and zero_and (λ n a e b h. h)
    (λ n t P h. mark_between 38 3 n t P (reads_mark {m = n} {n = n} 38 refl refl refl refl) h) w parts

kept_alt : (m : ℕ) (w : PathExpr) → Parts V.Alt (KeptPath 4 m) w → KeptPath 5 m w
unfolding expression
kept_alt m w parts =
    levels.kept_chain 5 level path_at_zero printed_path lift grouped V.Alt (mark 124) (124 ∷ 32 ∷ []) 4 m 1 (omega arith) (omega arith) printed_alt zero_alt (λ n a e b h. h)
    (λ n t P h. mark_between 124 4 n t P (reads_mark {m = n} {n = n} 124 refl refl refl refl) h) w parts

sourced_group : (r m : ℕ) → ((s k : ℕ) → r ≡ suc s → Sourced k k (path s) (GoodPath k)) → Sourced m m (group r (inside r)) (KeptPath 0 m)
unfolding group
sourced_group zero m within_it = sourced_bracketed 0 40 (λ _. (mark 41 >> done V.Empty) or (inside 0 >>= λ e. mark 41 >> done e)) refl λ s k none e. absurd (omega (arith, none))
sourced_group (suc r) m within_it =
    sourced_bracketed (suc r) 40 (λ _. (mark 41 >> done V.Empty) or (path r >>= λ e. mark 41 >> done e)) refl λ s k _ e.
    let closed : room_after (Mark 41) k ≡ Some m = closing k ∙ ap Some (sym e) in
    sourced_or (sourced_then (sourced_mark 41 closed) λ _ _. sourced_done V.Empty (kept_empty m (omega (arith, e))))
    (sourced_then (within_it r k refl) λ w good. sourced_then (sourced_mark 41 closed) λ _ _. sourced_done w (inr (k, e, good)))

sourced_class : (r m : ℕ) → Sourced m m (class r) (KeptPath 0 m)
unfolding class
sourced_class r m =
    sourced_bracketed r 91 (λ inner. whether (mark 94) >>= λ negated. class_rest inner negated) refl λ s k _ e.
    sourced_then (sourced_or (sourced_then (sourced_mark {m = k} {n = k} 94 refl) λ _ _. sourced_done {P = λ _. ⊤} true tt) (sourced_done {P = λ _. ⊤} false tt)) λ negated _.
    sourced_then (sourced_many (sourced_member s k)) λ members good.
    sourced_then (sourced_mark 93 (closing k ∙ ap Some (sym e))) λ _ _.
    sourced_done (V.Class negated members) (subst (λ (x : ℕ). KeptPath 0 x (V.Class negated members)) (sym e) (kept_class k negated members good))

sourced_atom : (r m : ℕ) → ((s k : ℕ) → r ≡ suc s → Sourced k k (path s) (GoodPath k)) → Sourced m m (atom r (inside r)) (KeptPath 0 m)
unfolding atom
sourced_atom r m within_it =
    sourced_or (sourced_then (sourced_mark {m = m} {n = m} 46 refl) λ _ _. sourced_done V.Any (kept_any m))
    (sourced_or (sourced_group r m within_it) (sourced_or (sourced_class r m)
    (sourced_or (sourced_then sourced_reference λ n is. sourced_done (V.Reference n.name n.at) (kept_reference m n.name n.at is))
    (sourced_then (sourced_member r m) λ v good. sourced_done (V.One v) (kept_one m v good)))))

record TimesNumber (m k : ℕ) : Type 0 where
  some : 0 < m
  small : k ≤ 64

sourced_times : (r m : ℕ) → Sourced m m (times r) (TimesNumber m)
unfolding times
sourced_times r m =
    sourced_bracketed r 123 (λ _. number >>= λ n. mark 125 >> done n) refl λ s k _ e.
    sourced_then sourced_number λ n small. sourced_then (sourced_mark 125 (closing k ∙ ap Some (sym e))) λ _ _. sourced_done n (record { some = omega (arith, e); small = small })

sourced_postfix : (r m : ℕ) (e : PathExpr) → KeptPath 0 m e → Sourced m m (postfix r e) (KeptPath 1 m)
unfolding postfix
sourced_postfix r m e kept =
    sourced_or (sourced_then (sourced_mark {m = m} {n = m} 42 refl) λ _ _. sourced_done (V.Star e) (kept_star m e kept))
    (sourced_or (sourced_then (sourced_mark {m = m} {n = m} 43 refl) λ _ _. sourced_done (V.Plus e) (kept_plus m e kept))
    (sourced_or (sourced_then (sourced_mark {m = m} {n = m} 63 refl) λ _ _. sourced_done (V.Maybe e) (kept_maybe m e kept))
    (sourced_or (sourced_then (sourced_times r m) λ n is. sourced_done (V.Times e n) (kept_times m e n is.some is.small kept))
    (sourced_done e (levels.kept_more 5 level path_at_zero printed_path lift grouped 0 1 m e (omega arith) kept)))))

sourced_negation : (r m : ℕ) → ((s k : ℕ) → r ≡ suc s → Sourced k k (path s) (GoodPath k)) → Sourced m m (negation r (inside r)) (KeptPath 2 m)
unfolding negation
sourced_negation r m within_it =
    sourced_or (sourced_then (sourced_mark {m = m} {n = m} 33 refl) λ _ _. sourced_then postfixed λ e kept. sourced_done (V.Not e) (kept_not m e kept))
    (sourced_weaker (λ e kept. levels.kept_more 5 level path_at_zero printed_path lift grouped 1 2 m e (omega arith) kept) postfixed)
  where
    postfixed : Sourced m m (atom r (inside r) >>= postfix r) (KeptPath 1 m)
    postfixed = sourced_then (sourced_atom r m within_it) (sourced_postfix r m)

sourced_expression : (r m : ℕ) → ((s k : ℕ) → r ≡ suc s → Sourced k k (path s) (GoodPath k)) → Sourced m m (expression r (inside r)) (GoodPath m)
unfolding expression
sourced_expression r m within_it =
    sourced_weaker (λ e parts. levels.good_from 5 level path_at_zero printed_path lift grouped 5 m e (kept_alt m e parts))
    (sourced_chain (sourced_mark {m = m} {n = m} 124 refl)
    (sourced_weaker (kept_and m) (sourced_chain (sourced_mark {m = m} {n = m} 38 refl)
    (sourced_weaker (kept_seq m) (sourced_chain (sourced_done {P = λ _. ⊤} tt tt) (sourced_negation r m within_it))))))

pub sourced_path : (r m : ℕ) → Sourced m m (path r) (GoodPath m)
sourced_path zero m = sourced_as (path_is zero) (sourced_expression zero m (λ s k none. absurd (omega (arith, none))))
sourced_path (suc r) m =
    sourced_as (path_is (suc r)) (sourced_expression (suc r) m λ s k e.
    let one : r ≡ s = omega (arith, e) in subst (λ (x : ℕ). Sourced k k (path x) (GoodPath k)) one (sourced_path r k))

-- the text of a path expression that is spelled where so many brackets may be opened
pub reads_path : (m n : ℕ) (e : PathExpr) → m ≤ n → GoodPath m e → Reads Stops (path n) (printed_path e).text (Same e) (Tame n n)
reads_path m n e le good =
    reads_as (λ (w : PathExpr). w) (λ w p. p) (is_path n) (levels.reads_lower 5 level path_at_zero printed_path lift grouped good.depth 5 n (printed_path e).text e good.low (good.reads n le))
