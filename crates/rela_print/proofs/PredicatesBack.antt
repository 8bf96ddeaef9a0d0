-- The texts of predicates are read as these predicates.
use Rattle.std.proofs.Common.{◌≡◌, ℕ, zero, suc, ◌+◌, ◌≤◌, false, ◌==◌, Some, List, [], ◌∷◌, ◌++◌, map, refl, sym, ap, ◌∙◌, subst, inl, inr, arith, codes, length}
use Rattle.std.specs.Prelude.{⊤}
use Rattle.rela_names.specs.Name.{IsName}
use Rattle.rela_lex.specs.Spells.{is_lone_mark}
use Rattle.rela_lex.specs.declared.token.Token.{Token}
use Rattle.rela_lex.specs.declared.token.TokenKind.TheVariants.{Bare}
use Rattle.rela_flows.specs.Notation.{text_of}
use Rattle.rela_flows.specs.declared.prefix.Prefix.{Prefix}
use Rattle.rela_flows.specs.declared.predicate.Predicate.{Predicate}
use Rattle.rela_flows.specs.declared.predicate.Predicate.TheVariants as V
use Rattle.rela_spec.specs.GrammarWords.{Named, mark, word, name, prefix}
use Rattle.rela_spec.specs.GrammarPredicates.{placed, test, single, denial, disjunction, predicate}
use Rattle.rela_print.specs.Names.{name_text}
use Rattle.rela_spec.specs.Phrases.{Phrase, done, none, ◌>>=◌, ◌>>◌, chain, bracketed}
use Rattle.rela_print.specs.PredicateTexts.{printed_predicate}
use Rattle.rela_print.specs.Printed.{within}
use Rattle.rela_print.proofs.Levels as levels
use Rattle.rela_print.proofs.MemberTexts.{closing, reads_before}
use Rattle.rela_print.proofs.PrefixNames.{HaveTexts, own_text}
use Rattle.rela_print.proofs.PrintedPredicates.{predicate_all, predicate_dstin, predicate_dstoverlaps, predicate_srcin, predicate_srcoverlaps, predicate_flow, predicate_class, predicate_not, predicate_and, predicate_or}
use Rattle.rela_print.proofs.Sources.{Parts, Sourced, sourced_token, same_room, sourced_then, sourced_or, sourced_done, sourced_weaker, sourced_bracketed, sourced_chain, sourced_as, sourced_mark, sourced_word, sourced_name}
use Rattle.rela_print.proofs.TextPieces.{Tame, tame_token, tame_join, Reads, Free, Stops, reads_then, reads_as, reads_token, reads_behind_blank, never_bad}
use Rattle.rela_print.proofs.TokenTexts.{Whatever, reads_mark, reads_word, reads_name}

-- a word, and what stands behind it and a blank
pub reads_word_then : {A : Type 0} {D : List ℕ → Type 0} {S : Phrase A} {u : List ℕ} {Q : A → Type 0} {m : ℕ} (w : List ℕ) → IsName w → is_lone_mark w ≡ false → Reads D S u Q (Tame m m)
    → Reads D (word w >> S) (w ++ (32 ∷ u)) Q (Tame m m)
reads_word_then {D = D} {S = S} {u = u} {Q = Q} {m = m} w is alone h =
    reads_then {C = Stops} {D = D} {R = word w} {S = λ _. S} {t = w} {u = 32 ∷ u} {P = Whatever} {Q = Q} (λ rest c. refl) tame_join (reads_word {m = m} w is alone) λ _ _. reads_behind_blank h

-- what stands in parentheses, where so many more brackets may be opened
abbrev pub inside : ℕ → Phrase Predicate
inside zero = none
inside (suc n) = predicate n

abbrev pub level : ℕ → ℕ → Phrase Predicate
level zero n = single n (inside n)
level (suc zero) n = denial n (inside n)
level (suc (suc zero)) n = chain V.And (word (codes "and")) (denial n (inside n))
level (suc (suc (suc d))) n = disjunction n (inside n)

lone : (join : List Predicate → Predicate) (between : Phrase ⊤) (R : Phrase Predicate) (a : List Token) (p : Predicate) (b : List Token) → R a p b → chain join between R a p b
lone join between R a p b h = (p, b, h, ([], b, refl, (refl, refl)))

pub lift : (d n : ℕ) (a : List Token) (p : Predicate) (b : List Token) → level d n a p b → level (suc d) n a p b
unfolding denial disjunction
lift zero n a p b h = inr h
lift (suc zero) n a p b h = lone V.And (word (codes "and")) (denial n (inside n)) a p b h
lift (suc (suc zero)) n a p b h = lone V.Or (word (codes "or")) (level 2 n) a p b h
lift (suc (suc (suc d))) n a p b h = h

predicate_is : (n : ℕ) (a : List Token) (p : Predicate) (b : List Token) → predicate n a p b → level 3 n a p b
unfolding predicate
predicate_is zero a p b h = h
predicate_is (suc n) a p b h = h

is_predicate : (n : ℕ) (a : List Token) (p : Predicate) (b : List Token) → level 3 n a p b → predicate n a p b
unfolding predicate
is_predicate zero a p b h = h
is_predicate (suc n) a p b h = h

-- a text in parentheses
pub grouped : (n : ℕ) (t : List ℕ) (P : Predicate → Type 0) → Reads Stops (level 3 n) t P (Tame n n) → Reads Stops (level 0 (suc n)) (40 ∷ (t ++ 41 ∷ [])) P (Tame (suc n) (suc n))
unfolding single
grouped n t P h =
    reads_before (reads_as (λ (w : Predicate). w) (λ w p. p) (λ a w b spelled. inl spelled)
    (reads_then {C = Free} {D = Free} {R = mark 40} {S = λ _. predicate n >>= λ p. mark 41 >> done p} {P = Whatever} {Q = P} (λ rest c. tt) tame_join
    (reads_mark {m = suc n} {n = n} 40 refl refl refl refl) λ _ _.
    reads_as (λ (w : Predicate). w) (λ w p. p) (λ a w b spelled. (spelled.0, spelled.1, is_predicate n a spelled.0 spelled.1 spelled.2, spelled.3))
    (reads_then {C = Stops} {D = Free} {R = level 3 n} {S = λ e. mark 41 >> done e} {P = P} {Q = P} (λ rest c. refl) tame_join h λ e p.
    reads_as (λ _. e) (λ _ _. p) (λ a v b spelled. (tt, b, spelled, (refl, refl))) (reads_mark {m = n} {n = suc n} 41 refl (closing n) refl refl))))

abbrev pub as_it_is : Predicate → Predicate
as_it_is p = p

abbrev pub GoodPredicate : ℕ → Predicate → Type 0
GoodPredicate = levels.Good 3 level as_it_is printed_predicate lift grouped

abbrev pub KeptPredicate : ℕ → ℕ → Predicate → Type 0
KeptPredicate = levels.Kept 3 level as_it_is printed_predicate lift grouped

abbrev Is : Predicate → Predicate → Type 0
Is p w = w ≡ p

abbrev make : (m d b : ℕ) (t : List ℕ) (p : Predicate) → printed_predicate p ≡ record { binding = b; text = t } → d ≤ 3 → b + d ≡ 4
    → ((n : ℕ) → m ≤ n → Reads Stops (level d n) t (Is p) (Tame n n)) → KeptPredicate d m p
make m d b t p is low binding reads = inl (levels.make_good 3 level as_it_is printed_predicate lift grouped m d b t p is low binding reads)

same_list : (parts : List Predicate) → map as_it_is parts ≡ parts
same_list [] = refl
same_list (p ∷ parts) = ap (λ (x : List Predicate). p ∷ x) (same_list parts)

-- a test, which is read at the tightest level
kept_test : (m : ℕ) (t : List ℕ) (p : Predicate) → printed_predicate p ≡ record { binding = 4; text = t } → ((n : ℕ) → Reads Stops test t (Is p) (Tame n n)) → KeptPredicate 0 m p
unfolding single
kept_test m t p is reads = make m 0 4 t p is (omega arith) (omega arith) λ n le. reads_as (λ (w : Predicate). w) (λ w e. e) (λ a w b h. inr h) (reads n)

pub kept_all : (m : ℕ) → KeptPredicate 0 m V.All
unfolding test
kept_all m = kept_test m (codes "all") V.All predicate_all λ n. reads_as (λ _. V.All) (λ _ _. refl) (λ a v b h. inl (tt, b, h, (refl, refl))) (reads_word {m = n} (codes "all") refl refl)

kept_flow : (m : ℕ) (text : List ℕ) → IsName text → KeptPredicate 0 m (V.Flow text)
unfolding test
kept_flow m text is = kept_test m (codes "flow " ++ name_text text) (V.Flow text) (predicate_flow text) λ n.
    reads_as (λ (w : Predicate). w) (λ w e. e) (λ a w b h. inr (inr (inr (inl h))))
    (reads_word_then {S = name >>= λ n. done (V.Flow n.name)} (codes "flow") refl refl
    (reads_as (λ (x : Named). V.Flow x.name) (λ x e. ap V.Flow e) (λ a x b h. (x, b, h, (refl, refl))) (reads_name {m = n} text is)))

kept_class : (m : ℕ) (text : List ℕ) → IsName text → KeptPredicate 0 m (V.Class text)
unfolding test
kept_class m text is = kept_test m (codes "class " ++ name_text text) (V.Class text) (predicate_class text) λ n.
    reads_as (λ (w : Predicate). w) (λ w e. e) (λ a w b h. inr (inr (inr (inr h))))
    (reads_word_then {S = name >>= λ n. done (V.Class n.name)} (codes "class") refl refl
    (reads_as (λ (x : Named). V.Class x.name) (λ x e. ap V.Class e) (λ a x b h. (x, b, h, (refl, refl))) (reads_name {m = n} text is)))

-- a text of two bytes or more is no mark
no_mark : (t : List ℕ) → 2 ≤ length t → is_lone_mark t ≡ false
no_mark [] le = absurd (omega arith)
no_mark (a ∷ []) le = absurd (omega arith)
no_mark (a ∷ b ∷ t) le = rw (never_bad (a == 46), never_bad (a == 58)) refl

kept_not : (m : ℕ) (p : Predicate) → KeptPredicate 0 m p → KeptPredicate 1 m (V.Not p)
unfolding denial
kept_not m p kept = make m 1 3 (codes "not " ++ within 3 (printed_predicate p)) (V.Not p) (predicate_not p) (omega arith) (omega arith) λ n le.
    reads_as (λ (w : Predicate). w) (λ w e. e) (λ a w b h. inl h)
    (reads_word_then {S = single n (inside n) >>= λ p. done (V.Not p)} (codes "not") refl refl
    (reads_as (λ (w : Predicate). V.Not w) (λ w e. ap V.Not e) (λ a w b h. (w, b, h, (refl, refl)))
    (levels.reads_part 3 level as_it_is printed_predicate lift grouped 0 m n 3 p le (omega arith) kept)))

between : (w : List ℕ) → IsName w → is_lone_mark w ≡ false → (d n : ℕ) (t : List ℕ) (P : Predicate → Type 0) → Reads Stops (level d n) t P (Tame n n)
    → Reads Stops (word w >> level d n) (32 ∷ (w ++ (32 ∷ t))) P (Tame n n)
between w is alone d n t P h = reads_behind_blank (reads_word_then {S = level d n} w is alone h)

kept_and : (m : ℕ) (w : Predicate) → Parts V.And (KeptPredicate 1 m) w → KeptPredicate 2 m w
kept_and m w parts =
    levels.kept_chain 3 level as_it_is printed_predicate lift grouped V.And (word (codes "and")) (codes "and ") 1 m 2 (omega arith) (omega arith) predicate_and
    (λ ps. ap V.And (sym (same_list ps))) (λ n a e b h. h) (between (codes "and") refl refl 1) w parts

kept_or : (m : ℕ) (w : Predicate) → Parts V.Or (KeptPredicate 2 m) w → KeptPredicate 3 m w
unfolding disjunction
kept_or m w parts =
    levels.kept_chain 3 level as_it_is printed_predicate lift grouped V.Or (word (codes "or")) (codes "or ") 2 m 1 (omega arith) (omega arith) predicate_or
    (λ ps. ap V.Or (sym (same_list ps))) (λ n a e b h. h) (between (codes "or") refl refl 2) w parts

sourced_prefix : (m : ℕ) → Sourced m m prefix (λ _. ⊤)
sourced_prefix m = sourced_token λ t q is named. (same_room t.kind (Bare is.0) m m is.1 refl, tt)

sourced_placed : (m : ℕ) (form other : Prefix → Predicate) → ((q : Prefix) → KeptPredicate 0 m (form q)) → ((q : Prefix) → KeptPredicate 0 m (other q)) → Sourced m m (placed form other) (KeptPredicate 0 m)
unfolding placed
sourced_placed m form other first second =
    sourced_or (sourced_then (sourced_word (codes "in")) λ _ _. sourced_then (sourced_prefix m) λ q _. sourced_done (form q) (first q))
    (sourced_then (sourced_word (codes "overlaps")) λ _ _. sourced_then (sourced_prefix m) λ q _. sourced_done (other q) (second q))

-- the text of a predicate that is spelled where so many brackets may be opened
pub reads_predicate : (m n : ℕ) (p : Predicate) → m ≤ n → GoodPredicate m p → Reads Stops (predicate n) (printed_predicate p).text (λ w. w ≡ p) (Tame n n)
reads_predicate m n p le good =
    reads_as (λ (w : Predicate). w) (λ w e. e) (is_predicate n) (levels.reads_lower 3 level as_it_is printed_predicate lift grouped good.depth 3 n (printed_predicate p).text p good.low (good.reads n le))

module _ (texts : HaveTexts) where
  reads_prefix : {m : ℕ} (q : Prefix) → Reads Stops prefix (text_of q) (λ w. w ≡ q) (Tame m m)
  reads_prefix {m = m} q =
      let facts = own_text texts q in
      reads_token (Bare (text_of q)) (λ at. q) (λ rest c. (facts.1, no_mark (text_of q) facts.2, c)) (λ at. (text_of q, refl, facts.0)) (λ at. refl)
      (λ at. tame_token m m (record { at = at; kind = Bare (text_of q) }) refl refl refl)

  reads_placed : (m : ℕ) (form : Prefix → Predicate) (q : Prefix) → Reads Stops (prefix >>= λ w. done (form w)) (text_of q) (Is (form q)) (Tame m m)
  reads_placed m form q = reads_as (λ (w : Prefix). form w) (λ w e. ap form e) (λ a w b h. (w, b, h, (refl, refl))) (reads_prefix {m = m} q)

  reads_in : (m : ℕ) (form other : Prefix → Predicate) (q : Prefix) → Reads Stops (placed form other) (codes "in " ++ text_of q) (Is (form q)) (Tame m m)
  unfolding placed
  reads_in m form other q = reads_as (λ (w : Predicate). w) (λ w e. e) (λ a w b h. inl h) (reads_word_then {S = prefix >>= λ w. done (form w)} (codes "in") refl refl (reads_placed m form q))

  reads_overlaps : (m : ℕ) (other form : Prefix → Predicate) (q : Prefix) → Reads Stops (placed other form) (codes "overlaps " ++ text_of q) (Is (form q)) (Tame m m)
  unfolding placed
  reads_overlaps m other form q = reads_as (λ (w : Predicate). w) (λ w e. e) (λ a w b h. inr h) (reads_word_then {S = prefix >>= λ w. done (form w)} (codes "overlaps") refl refl (reads_placed m form q))

  kept_dst_in : (m : ℕ) (q : Prefix) → KeptPredicate 0 m (V.DstIn q)
  unfolding test
  kept_dst_in m q = kept_test m (codes "dst in " ++ text_of q) (V.DstIn q) (predicate_dstin q) λ n.
      reads_as (λ (w : Predicate). w) (λ w e. e) (λ a w b h. inr (inl h)) (reads_word_then (codes "dst") refl refl (reads_in n V.DstIn V.DstOverlaps q))

  kept_dst_overlaps : (m : ℕ) (q : Prefix) → KeptPredicate 0 m (V.DstOverlaps q)
  unfolding test
  kept_dst_overlaps m q = kept_test m (codes "dst overlaps " ++ text_of q) (V.DstOverlaps q) (predicate_dstoverlaps q) λ n.
      reads_as (λ (w : Predicate). w) (λ w e. e) (λ a w b h. inr (inl h)) (reads_word_then (codes "dst") refl refl (reads_overlaps n V.DstIn V.DstOverlaps q))

  kept_src_in : (m : ℕ) (q : Prefix) → KeptPredicate 0 m (V.SrcIn q)
  unfolding test
  kept_src_in m q = kept_test m (codes "src in " ++ text_of q) (V.SrcIn q) (predicate_srcin q) λ n.
      reads_as (λ (w : Predicate). w) (λ w e. e) (λ a w b h. inr (inr (inl h))) (reads_word_then (codes "src") refl refl (reads_in n V.SrcIn V.SrcOverlaps q))

  kept_src_overlaps : (m : ℕ) (q : Prefix) → KeptPredicate 0 m (V.SrcOverlaps q)
  unfolding test
  kept_src_overlaps m q = kept_test m (codes "src overlaps " ++ text_of q) (V.SrcOverlaps q) (predicate_srcoverlaps q) λ n.
      reads_as (λ (w : Predicate). w) (λ w e. e) (λ a w b h. inr (inr (inl h))) (reads_word_then (codes "src") refl refl (reads_overlaps n V.SrcIn V.SrcOverlaps q))

  sourced_test : (m : ℕ) → Sourced m m test (KeptPredicate 0 m)
  unfolding test
  sourced_test m =
      sourced_or (sourced_then (sourced_word (codes "all")) λ _ _. sourced_done V.All (kept_all m))
      (sourced_or (sourced_then (sourced_word (codes "dst")) λ _ _. sourced_placed m V.DstIn V.DstOverlaps (kept_dst_in m) (kept_dst_overlaps m))
      (sourced_or (sourced_then (sourced_word (codes "src")) λ _ _. sourced_placed m V.SrcIn V.SrcOverlaps (kept_src_in m) (kept_src_overlaps m))
      (sourced_or (sourced_then (sourced_word (codes "flow")) λ _ _. sourced_then sourced_name λ x is. sourced_done (V.Flow x.name) (kept_flow m x.name is))
      (sourced_then (sourced_word (codes "class")) λ _ _. sourced_then sourced_name λ x is. sourced_done (V.Class x.name) (kept_class m x.name is)))))

  sourced_single : (r m : ℕ) → ((s k : ℕ) → r ≡ suc s → Sourced k k (predicate s) (GoodPredicate k)) → Sourced m m (single r (inside r)) (KeptPredicate 0 m)
  unfolding single
  sourced_single r m within_it = sourced_or (group r within_it) (sourced_test m)
    where
      group : (r : ℕ) → ((s k : ℕ) → r ≡ suc s → Sourced k k (predicate s) (GoodPredicate k)) → Sourced m m (bracketed r (mark 40) (λ _. inside r >>= λ p. mark 41 >> done p)) (KeptPredicate 0 m)
      group zero within_it = sourced_bracketed 0 40 (λ _. inside 0 >>= λ p. mark 41 >> done p) refl λ s k none e. absurd (omega (arith, none))
      group (suc r) within_it = sourced_bracketed (suc r) 40 (λ _. predicate r >>= λ p. mark 41 >> done p) refl λ s k _ e.
          sourced_then (within_it r k refl) λ w good. sourced_then (sourced_mark 41 (closing k ∙ ap Some (sym e))) λ _ _. sourced_done w (inr (k, e, good))

  sourced_denial : (r m : ℕ) → ((s k : ℕ) → r ≡ suc s → Sourced k k (predicate s) (GoodPredicate k)) → Sourced m m (denial r (inside r)) (KeptPredicate 1 m)
  unfolding denial
  sourced_denial r m within_it =
      sourced_or (sourced_then (sourced_word (codes "not")) λ _ _. sourced_then (sourced_single r m within_it) λ p kept. sourced_done (V.Not p) (kept_not m p kept))
      (sourced_weaker (λ p kept. levels.kept_more 3 level as_it_is printed_predicate lift grouped 0 1 m p (omega arith) kept) (sourced_single r m within_it))

  sourced_disjunction : (r m : ℕ) → ((s k : ℕ) → r ≡ suc s → Sourced k k (predicate s) (GoodPredicate k)) → Sourced m m (disjunction r (inside r)) (GoodPredicate m)
  unfolding disjunction
  sourced_disjunction r m within_it =
      sourced_weaker (λ p parts. levels.good_from 3 level as_it_is printed_predicate lift grouped 3 m p (kept_or m p parts))
      (sourced_chain (sourced_word (codes "or")) (sourced_weaker (kept_and m) (sourced_chain (sourced_word (codes "and")) (sourced_denial r m within_it))))

  pub sourced_predicate : (r m : ℕ) → Sourced m m (predicate r) (GoodPredicate m)
  sourced_predicate zero m = sourced_as (predicate_is zero) (sourced_disjunction zero m (λ s k none. absurd (omega (arith, none))))
  sourced_predicate (suc r) m =
      sourced_as (predicate_is (suc r)) (sourced_disjunction (suc r) m λ s k e.
      let one : r ≡ s = omega (arith, e) in subst (λ (x : ℕ). Sourced k k (predicate x) (GoodPredicate k)) one (sourced_predicate r k))
