-- The canonical text of a specification is read as this specification.
use Rattle.std.proofs.Common.{◌≡◌, ◌⊎◌, ℕ, ◌+◌, ◌≤◌, Bool, true, false, List, [], ◌∷◌, ◌++◌, map, refl, sym, ap, ◌∙◌, subst, inl, inr, arith, codes, length, append-nil}
use Rattle.std.specs.Prelude.{⊤, IsSome}
use Rattle.std.specs.List.{flat_map}
use Rattle.std.proofs.lemmas.Bool.{cases_Bool, cond-true, cond-false}
use Rattle.rela_names.specs.Name.{IsName}
use Rattle.rela_names.specs.declared.level.Level.{Level}
use Rattle.rela_names.specs.declared.level.Level.TheVariants as level
use Rattle.rela_lex.specs.declared.token.Token.{Token}
use Rattle.rela_lex.specs.declared.token.TokenKind.TheVariants.{Mark, Bare, Quoted, Reference}
use Rattle.rela_lex.specs.Spells as lex
use Rattle.rela_flows.specs.declared.predicate.Predicate.{Predicate}
use Rattle.rela_flows.specs.declared.predicate.Predicate.TheVariants as flows
use Rattle.rela_spec.specs.Grammar.{level_word, level_line, condition, path_item, spec_item, check_item, an_item, file, Spells, room_behind, bad_number}
use Rattle.rela_spec.specs.GrammarWords.{Named, mark, word, name}
use Rattle.rela_spec.specs.GrammarPaths.{path}
use Rattle.rela_spec.specs.GrammarPredicates.{predicate}
use Rattle.rela_spec.specs.GrammarSpecs.{body}
use Rattle.rela_print.specs.Names.{name_text}
use Rattle.rela_spec.specs.Phrases.{Phrase, done, ◌>>=◌, ◌>>◌, many}
use Rattle.rela_print.specs.PredicateTexts.{printed_predicate, is_all, condition_text}
use Rattle.rela_print.specs.Print as print
use Rattle.rela_print.specs.SameTree.{path_at_zero, spec_at_zero, item_at_zero, file_at_zero, SameButOffsets}
use Rattle.rela_print.specs.SpecTexts.{printed_spec}
use Rattle.rela_spec.specs.declared.tree.Item.{Item}
use Rattle.rela_spec.specs.declared.tree.Item.TheVariants as item
use Rattle.rela_spec.specs.declared.tree.PathExpr.{PathExpr}
use Rattle.rela_spec.specs.declared.tree.SpecExpr.{SpecExpr}
use Rattle.rela_spec.specs.declared.tree.SpecFile.{SpecFile}
use Rattle.rela_print.proofs.PrintedPredicates.{is_all_only}
use Rattle.rela_print.proofs.ChainTexts.{reads_none, reads_one_more}
use Rattle.rela_print.proofs.Levels as levels
use Rattle.rela_print.proofs.PathsBack.{GoodPath, sourced_path, reads_path}
use Rattle.rela_print.proofs.PredicatesBack as predicates
use Rattle.rela_print.proofs.PrefixNames.{HaveTexts}
use Rattle.rela_print.proofs.SpecsBack.{GoodSpec, SameSpec, sourced_body, reads_body}
use Rattle.rela_print.proofs.Sources.{Each, AreNamed, Sourced, sourced_then, sourced_or, sourced_done, sourced_many, sourced_mark, sourced_word, sourced_name}
use Rattle.rela_print.proofs.TextPieces.{Tame, tame_token, tame_none, tame_join, Reads, Free, Stops, reads_then, reads_as, reads_behind_blank}
use Rattle.rela_print.proofs.TokenTexts.{Whatever, IsNameOf, reads_mark, reads_lone_mark, reads_word, reads_name}

abbrev SamePath : PathExpr → PathExpr → Type 0
SamePath e w = path_at_zero w ≡ path_at_zero e

abbrev SameItem : Item → Item → Type 0
SameItem v w = item_at_zero w ≡ item_at_zero v

abbrev spec_text : SpecExpr → List ℕ
spec_text s = (printed_spec s).text

-- a mark at the end of a line
reads_line_end : {n : ℕ} → Reads Free (mark 59) (59 ∷ 10 ∷ []) Whatever (Tame n n)
reads_line_end {n = n} = record {
  found = λ at rest c. record {
    pieces = lex.Piece.Lexeme (Mark 59) ∷ lex.Piece.Blank 10 ∷ [];
    spelled = refl;
    stands = (inl refl, (refl, tt));
    value = tt;
    right = tt;
    phrase = λ b. (record { at = at; kind = Mark 59 }, refl, refl);
    tokens = tame_token n n (record { at = at; kind = Mark 59 }) refl refl refl;
  };
}

-- no text
reads_nothing : {A : Type 0} {C : List ℕ → Type 0} {R : Phrase A} {P : A → Type 0} {n : ℕ} (v : A) → P v → ((b : List Token) → R b v b) → Reads C R [] P (Tame n n)
reads_nothing {n = n} v right phrase = record {
  found = λ at rest c. record { pieces = []; spelled = refl; stands = tt; value = v; right = right; phrase = phrase; tokens = tame_none n };
}

-- a name, `=`, and what it is the name of
abbrev definition : {X : Type 0} → Phrase X → (List ℕ → ℕ → X → Item) → Phrase Item
definition B form = name >>= λ x. mark 61 >> (B >>= λ e. mark 59 >> done (form x.name x.at e))

reads_definition : {X : Type 0} {t : List ℕ} {P : X → Type 0} (n : ℕ) (B : Phrase X) (form : List ℕ → ℕ → X → Item) (text : List ℕ) (Q : Item → Type 0) → IsName text
    → Reads Stops B t P (Tame n n) → ((x : Named) (w : X) → IsNameOf text x → P w → Q (form x.name x.at w))
    → Reads Free (definition B form) (name_text text ++ (32 ∷ 61 ∷ 32 ∷ (t ++ (59 ∷ 10 ∷ [])))) Q (Tame n n)
reads_definition {t = t} {P = P} n B form text Q is part right =
    reads_then {C = Stops} {D = Free} {R = name} {S = λ x. mark 61 >> (B >>= λ e. mark 59 >> done (form x.name x.at e))} {u = 32 ∷ 61 ∷ 32 ∷ (t ++ (59 ∷ 10 ∷ []))} {P = IsNameOf text} {Q = Q} (λ rest c. refl) tame_join
    (reads_name {m = n} text is) λ x p.
    reads_behind_blank (reads_then {C = Free} {D = Free} {R = mark 61} {S = λ _. B >>= λ e. mark 59 >> done (form x.name x.at e)} {t = 61 ∷ []} {u = 32 ∷ (t ++ (59 ∷ 10 ∷ []))} {P = Whatever} {Q = Q} (λ rest c. tt) tame_join
    (reads_mark {m = n} {n = n} 61 refl refl refl refl) λ _ _.
    reads_behind_blank (reads_then {C = Stops} {D = Free} {R = B} {S = λ e. mark 59 >> done (form x.name x.at e)} {t = t} {u = 59 ∷ 10 ∷ []} {P = P} {Q = Q} (λ rest c. refl) tame_join part λ w q.
    reads_as (λ _. form x.name x.at w) (λ _ _. right x w p q) (λ a v b h. (tt, b, h, (refl, refl))) (reads_line_end {n = n})))

-- with room for m brackets and more the item's line is read as the item
pub record GoodItem (m : ℕ) (v : Item) : Type 0 where
  pub reads : (n : ℕ) → m ≤ n → Reads Free (an_item n) (print.item_line v) (SameItem v) (Tame n n)

good_path : (m : ℕ) (text : List ℕ) (at : ℕ) (e : PathExpr) → IsName text → GoodPath m e → GoodItem m (item.Path text at e)
unfolding an_item path_item print.item_line
good_path m text at e is good = record {
  reads = λ n le. reads_as (λ (w : Item). w) (λ w p. p) (λ a w b h. inl h)
      (predicates.reads_word_then {S = definition (path n) item.Path} (codes "path") refl refl
      (reads_definition n (path n) item.Path text (SameItem (item.Path text at e)) is (reads_path m n e le good)
      (λ x w p q. ap (λ (y : List ℕ). item.Path y 0 (path_at_zero w)) p ∙ ap (λ (y : PathExpr). item.Path text 0 y) q)));
}

good_spec : (m : ℕ) (text : List ℕ) (at : ℕ) (s : SpecExpr) → IsName text → GoodSpec m s → GoodItem m (item.Spec text at s)
unfolding an_item spec_item print.item_line
good_spec m text at s is good = record {
  reads = λ n le. reads_as (λ (w : Item). w) (λ w p. p) (λ a w b h. inr (inl h))
      (predicates.reads_word_then {S = definition (body n) item.Spec} (codes "spec") refl refl
      (reads_definition n (body n) item.Spec text (SameItem (item.Spec text at s)) is (reads_body m n s le good)
      (λ x w p q. ap (λ (y : List ℕ). item.Spec y 0 (spec_at_zero w)) p ∙ ap (λ (y : SpecExpr). item.Spec text 0 y) q)));
}

-- what a check says of its flows: nothing, or `for` and a predicate
said : (p : Predicate) → ((is_all p ≡ true) × ([] ≡ condition_text p)) ⊎ (32 ∷ (codes "for " ++ (printed_predicate p).text) ≡ condition_text p)
unfolding condition_text
said p = elim (cases_Bool (is_all p)) [
  | inl all ↦ inl (all, sym (cond-true (is_all p) [] (codes " for " ++ (printed_predicate p).text) all))
  | inr some ↦ inr (sym (cond-false (is_all p) [] (codes " for " ++ (printed_predicate p).text) some))
]

stops_condition : (p : Predicate) (u rest : List ℕ) → Stops ((condition_text p ++ (32 ∷ u)) ++ rest)
stops_condition p u rest = elim (said p) [
  | inl all ↦ subst (λ (t : List ℕ). Stops ((t ++ (32 ∷ u)) ++ rest)) all.1 refl
  | inr some ↦ subst (λ (t : List ℕ). Stops ((t ++ (32 ∷ u)) ++ rest)) some refl
]

reads_condition : (m n : ℕ) (p : Predicate) → m ≤ n → predicates.GoodPredicate m p → Reads Stops (condition n) (condition_text p) (λ w. w ≡ p) (Tame n n)
unfolding condition
reads_condition m n p le good = elim (said p) [
  | inl all ↦ subst (λ (t : List ℕ). Reads Stops (condition n) t (λ w. w ≡ p) (Tame n n)) all.1
      (reads_nothing flows.All (sym (is_all_only p all.0)) (λ b. inr (refl, refl)))
  | inr some ↦ subst (λ (t : List ℕ). Reads Stops (condition n) t (λ w. w ≡ p) (Tame n n)) some
      (reads_behind_blank (reads_as (λ (w : Predicate). w) (λ w e. e) (λ a w b h. inl h)
      (predicates.reads_word_then {S = predicate n} (codes "for") refl refl (predicates.reads_predicate m n p le good))))
]

-- what stands behind the parts of a check, one after the other
abbrev after_flows : ℕ → Bool → Named → Predicate → Phrase Item
after_flows n at_most x p = mark 58 >> (body n >>= λ s. mark 59 >> done (item.Check at_most x.name x.at p s))

abbrev after_name : ℕ → Bool → Named → Phrase Item
after_name n at_most x = condition n >>= after_flows n at_most x

abbrev after_word : ℕ → Bool → Phrase Item
after_word n at_most = name >>= after_name n at_most

-- what a check has to be
record CheckParts (m : ℕ) (text : List ℕ) (p : Predicate) (s : SpecExpr) : Type 0 where
  is : IsName text
  flows_good : predicates.GoodPredicate m p
  good : GoodSpec m s

reads_after_flows : (m n at : ℕ) (at_most : Bool) (text : List ℕ) (p : Predicate) (s : SpecExpr) → m ≤ n → CheckParts m text p s → (x : Named) → IsNameOf text x → (w : Predicate) → w ≡ p
    → Reads Free (after_flows n at_most x w) (58 ∷ 32 ∷ (spec_text s ++ (59 ∷ 10 ∷ []))) (SameItem (item.Check at_most text at p s)) (Tame n n)
reads_after_flows m n at at_most text p s le parts x named w same =
    reads_then {C = Stops} {D = Free} {R = mark 58} {S = λ _. body n >>= λ s. mark 59 >> done (item.Check at_most x.name x.at w s)} {t = 58 ∷ []} {u = 32 ∷ (spec_text s ++ (59 ∷ 10 ∷ []))} {P = Whatever} {Q = SameItem (item.Check at_most text at p s)} (λ rest c. refl) tame_join
    (reads_lone_mark {m = n} 58 refl refl refl refl) λ _ _.
    reads_behind_blank (reads_then {C = Stops} {D = Free} {R = body n} {S = λ s. mark 59 >> done (item.Check at_most x.name x.at w s)} {t = spec_text s} {u = 59 ∷ 10 ∷ []} {P = SameSpec s} {Q = SameItem (item.Check at_most text at p s)} (λ rest c. refl) tame_join
    (reads_body m n s le parts.good) λ y q.
    reads_as (λ _. item.Check at_most x.name x.at w y)
    (λ _ _. ap (λ (z : List ℕ). item.Check at_most z 0 w (spec_at_zero y)) named ∙ ap (λ (z : Predicate). item.Check at_most text 0 z (spec_at_zero y)) same ∙ ap (λ (z : SpecExpr). item.Check at_most text 0 p z) q)
    (λ a v b h. (tt, b, h, (refl, refl))) (reads_line_end {n = n}))

reads_after_word : (m n at : ℕ) (at_most : Bool) (text : List ℕ) (p : Predicate) (s : SpecExpr) → m ≤ n → CheckParts m text p s
    → Reads Free (after_word n at_most) (name_text text ++ (condition_text p ++ (32 ∷ 58 ∷ 32 ∷ (spec_text s ++ (59 ∷ 10 ∷ []))))) (SameItem (item.Check at_most text at p s)) (Tame n n)
reads_after_word m n at at_most text p s le parts =
    let u : List ℕ = 58 ∷ 32 ∷ (spec_text s ++ (59 ∷ 10 ∷ [])) in
    reads_then {C = Stops} {D = Free} {R = name} {S = after_name n at_most} {t = name_text text} {u = condition_text p ++ (32 ∷ u)} {P = IsNameOf text} {Q = SameItem (item.Check at_most text at p s)} (λ rest c. stops_condition p u rest) tame_join
    (reads_name {m = n} text parts.is) λ x named.
    reads_then {C = Stops} {D = Free} {R = condition n} {S = after_flows n at_most x} {t = condition_text p} {u = 32 ∷ u} {P = λ w. w ≡ p} {Q = SameItem (item.Check at_most text at p s)} (λ rest c. refl) tame_join
    (reads_condition m n p le parts.flows_good) λ w same.
    reads_behind_blank (reads_after_flows m n at at_most text p s le parts x named w same)

good_check : (m : ℕ) (at_most : Bool) (text : List ℕ) (at : ℕ) (p : Predicate) (s : SpecExpr) → CheckParts m text p s → GoodItem m (item.Check at_most text at p s)
unfolding an_item check_item print.item_line
good_check m true text at p s parts = record {
  reads = λ n le. reads_as (λ (w : Item). w) (λ w p. p) (λ a w b h. inr (inr h))
      (predicates.reads_word_then {S = check_item n} (codes "check") refl refl
      (reads_as (λ (w : Item). w) (λ w p. p) (λ a w b h. (true, h.1, inl (tt, h.1, h.2, (refl, refl)), h.3))
      (predicates.reads_word_then {S = after_word n true} (codes "atmost") refl refl (reads_after_word m n at true text p s le parts))));
}
good_check m false text at p s parts = record {
  reads = λ n le. reads_as (λ (w : Item). w) (λ w p. p) (λ a w b h. inr (inr h))
      (predicates.reads_word_then {S = check_item n} (codes "check") refl refl
      (reads_as (λ (w : Item). w) (λ w p. p) (λ a w b h. (false, a, inr (refl, refl), h)) (reads_after_word m n at false text p s le parts)));
}

reads_level_word : (n : ℕ) (l : Level) (t : List ℕ) → Reads Stops level_word t (λ w. w ≡ l) (Tame n n) → Reads Free (level_word >>= λ l. mark 59 >> done l) (t ++ (59 ∷ 10 ∷ [])) (λ w. w ≡ l) (Tame n n)
reads_level_word n l t h =
    reads_then {C = Stops} {D = Free} {R = level_word} {S = λ l. mark 59 >> done l} {t = t} {u = 59 ∷ 10 ∷ []} {P = λ w. w ≡ l} {Q = λ w. w ≡ l} (λ rest c. refl) tame_join h λ w p.
    reads_as (λ _. w) (λ _ _. p) (λ a v b h. (tt, b, h, (refl, refl))) (reads_line_end {n = n})

reads_level : (n : ℕ) (l : Level) → Reads Free level_line (print.level_line l) (λ w. w ≡ l) (Tame n n)
unfolding level_line level_word
reads_level n level.Interface =
    reads_as (λ (w : Level). w) (λ w p. p) (λ a w b h. inl h) (predicates.reads_word_then {S = level_word >>= λ l. mark 59 >> done l} (codes "level") refl refl
    (reads_level_word n level.Interface (codes "interface") (reads_as (λ _. level.Interface) (λ _ _. refl) (λ a v b h. inl (tt, b, h, (refl, refl))) (reads_word {m = n} (codes "interface") refl refl))))
reads_level n level.Device =
    reads_as (λ (w : Level). w) (λ w p. p) (λ a w b h. inl h) (predicates.reads_word_then {S = level_word >>= λ l. mark 59 >> done l} (codes "level") refl refl
    (reads_level_word n level.Device (codes "device") (reads_as (λ _. level.Device) (λ _ _. refl) (λ a v b h. inr (inl (tt, b, h, (refl, refl)))) (reads_word {m = n} (codes "device") refl refl))))
reads_level n level.Group =
    reads_as (λ (w : Level). w) (λ w p. p) (λ a w b h. inl h) (predicates.reads_word_then {S = level_word >>= λ l. mark 59 >> done l} (codes "level") refl refl
    (reads_level_word n level.Group (codes "group") (reads_as (λ _. level.Group) (λ _ _. refl) (λ a v b h. inr (inr (tt, b, h, (refl, refl)))) (reads_word {m = n} (codes "group") refl refl))))

reads_lines : (m n : ℕ) (items : List Item) → m ≤ n → Each (GoodItem m) items
    → Reads Free (many (an_item n)) (print.lines items) (λ ws. map item_at_zero ws ≡ map item_at_zero items) (Tame n n)
unfolding print.lines
reads_lines m n [] le good = reads_none n (an_item n) item_at_zero
reads_lines m n (v ∷ items) le good =
    reads_one_more n (an_item n) item_at_zero v items (print.item_line v) (print.lines items) (λ rest c. tt) (good.0.reads n le) (reads_lines m n items le good.1)

reads_file : (m n : ℕ) (f : SpecFile) → m ≤ n → Each (GoodItem m) f.items → Reads Free (file n) (print.print_of f) (λ w. SameButOffsets w f) (Tame n n)
unfolding file print.print_of file_at_zero
reads_file m n f le good =
    reads_then {C = Free} {D = Free} {R = level_line} {S = λ l. many (an_item n) >>= λ items. done (record { level = l; items = items })} {t = print.level_line f.level} {u = print.lines f.items} {P = λ w. w ≡ f.level} {Q = λ w. SameButOffsets w f} (λ rest c. tt) tame_join
    (reads_level n f.level) λ l p.
    reads_as (λ (items : List Item). let whole : SpecFile = record { level = l; items = items } in whole)
    (λ items q. ap (λ (x : Level). let whole : SpecFile = record { level = x; items = map item_at_zero items } in whole) p ∙ ap (λ (xs : List Item). let whole : SpecFile = record { level = f.level; items = xs } in whole) q)
    (λ a items b h. (items, b, h, (refl, refl))) (reads_lines m n f.items le good)

named_tokens : (at : ℕ) (pieces : List lex.Piece) (rest : List ℕ) → lex.EachStands pieces rest → AreNamed (lex.tokens_from at pieces)
named_tokens at [] rest each = tt
named_tokens at (lex.Piece.Blank byte ∷ pieces) rest each = named_tokens (at + 1) pieces rest each.1
named_tokens at (lex.Piece.Comment line ∷ pieces) rest each = named_tokens (at + length (35 ∷ line)) pieces rest each.1
named_tokens at (lex.Piece.Lexeme (Mark byte) ∷ pieces) rest each = (tt, named_tokens (at + length (byte ∷ [])) pieces rest each.1)
named_tokens at (lex.Piece.Lexeme (Bare text) ∷ pieces) rest each = (each.0.0, named_tokens (at + length text) pieces rest each.1)
named_tokens at (lex.Piece.Lexeme (Quoted text) ∷ pieces) rest each = (each.0, named_tokens (at + length (34 ∷ (text ++ 34 ∷ []))) pieces rest each.1)
named_tokens at (lex.Piece.Lexeme (Reference text) ∷ pieces) rest each = (each.0.0, named_tokens (at + length (36 ∷ text)) pieces rest each.1)

sourced_path_item : (r m : ℕ) → Sourced m m (path_item r) (GoodItem m)
unfolding path_item
sourced_path_item r m =
    sourced_then sourced_name λ x is. sourced_then (sourced_mark {m = m} {n = m} 61 refl) λ _ _. sourced_then (sourced_path r m) λ e good.
    sourced_then (sourced_mark {m = m} {n = m} 59 refl) λ _ _. sourced_done (item.Path x.name x.at e) (good_path m x.name x.at e is good)

sourced_spec_item : (r m : ℕ) → Sourced m m (spec_item r) (GoodItem m)
unfolding spec_item
sourced_spec_item r m =
    sourced_then sourced_name λ x is. sourced_then (sourced_mark {m = m} {n = m} 61 refl) λ _ _. sourced_then (sourced_body r m) λ s good.
    sourced_then (sourced_mark {m = m} {n = m} 59 refl) λ _ _. sourced_done (item.Spec x.name x.at s) (good_spec m x.name x.at s is good)

sourced_level : (m : ℕ) → Sourced m m level_line (λ _. ⊤)
unfolding level_line level_word
sourced_level m =
    sourced_or (sourced_then (sourced_word (codes "level")) λ _ _. sourced_then
    (sourced_or (one (codes "interface") level.Interface) (sourced_or (one (codes "device") level.Device) (one (codes "group") level.Group)))
    λ l _. sourced_then (sourced_mark {m = m} {n = m} 59 refl) λ _ _. sourced_done l tt)
    (sourced_done level.Interface tt)
  where
    one : (w : List ℕ) (l : Level) → Sourced m m (word w >> done l) (λ _. ⊤)
    one w l = sourced_then (sourced_word w) λ _ _. sourced_done l tt

-- the tokens of the canonical text, and the tree that they spell
pub record Again (text : List ℕ) (f : SpecFile) : Type 0 where
  pub tokens : List Token
  pub cut : lex.Spells text tokens
  pub tree : SpecFile
  pub spelled : Spells tokens tree
  pub same : SameButOffsets tree f

spelled_again : (text : List ℕ) (f : SpecFile) → Reads Free (file 100) text (λ w. SameButOffsets w f) (Tame 100 100) → Again text f
unfolding room_behind bad_number
spelled_again text f reads =
    let one = reads.found 0 [] tt in
    let ts : List Token = lex.tokens_from 0 one.pieces in
    record {
      tokens = ts;
      cut = record { pieces = one.pieces; cut = record { joined = sym one.spelled ∙ sym (append-nil (flat_map lex.spelling one.pieces)); stands = one.stands }; read = refl };
      tree = one.value;
      spelled = record {
        grammar = record { nested = 100; spelled = subst (λ (x : List Token). file 100 x one.value []) (append-nil ts) (one.phrase []) };
        shallow = subst (λ (x : List Token). IsSome (room_behind 100 x)) (append-nil ts) (subst IsSome (sym (one.tokens.loose.room [])) refl);
        numbers = ap bad_number (sym (append-nil ts)) ∙ one.tokens.loose.numbers [];
      };
      same = one.right;
    }

module _ (texts : HaveTexts) where
  sourced_condition : (r m : ℕ) → Sourced m m (condition r) (predicates.GoodPredicate m)
  unfolding condition
  sourced_condition r m =
      sourced_or (sourced_then (sourced_word (codes "for")) λ _ _. predicates.sourced_predicate texts r m)
      (sourced_done flows.All (levels.good_from 3 predicates.level predicates.as_it_is printed_predicate predicates.lift predicates.grouped 0 m flows.All (predicates.kept_all m)))

  sourced_check_item : (r m : ℕ) → Sourced m m (check_item r) (GoodItem m)
  unfolding check_item
  sourced_check_item r m =
      sourced_then (sourced_or (sourced_then (sourced_word (codes "atmost")) λ _ _. sourced_done {P = λ _. ⊤} true tt) (sourced_done {P = λ _. ⊤} false tt)) λ at_most _.
      sourced_then sourced_name λ x is. sourced_then (sourced_condition r m) λ p flows_good. sourced_then (sourced_mark {m = m} {n = m} 58 refl) λ _ _.
      sourced_then (sourced_body r m) λ s good. sourced_then (sourced_mark {m = m} {n = m} 59 refl) λ _ _.
      sourced_done (item.Check at_most x.name x.at p s) (good_check m at_most x.name x.at p s (record { is = is; flows_good = flows_good; good = good }))

  sourced_item : (r m : ℕ) → Sourced m m (an_item r) (GoodItem m)
  unfolding an_item
  sourced_item r m =
      sourced_or (sourced_then (sourced_word (codes "path")) λ _ _. sourced_path_item r m)
      (sourced_or (sourced_then (sourced_word (codes "spec")) λ _ _. sourced_spec_item r m) (sourced_then (sourced_word (codes "check")) λ _ _. sourced_check_item r m))

  sourced_file : (r m : ℕ) → Sourced m m (file r) (λ f. Each (GoodItem m) f.items)
  unfolding file
  sourced_file r m = sourced_then (sourced_level m) λ l _. sourced_then (sourced_many (sourced_item r m)) λ items good. sourced_done (record { level = l; items = items }) good

  -- a tree that a text's tokens spell is what its canonical text's tokens spell
  pub read_again : (text : List ℕ) (tokens : List Token) (f : SpecFile) → lex.Spells text tokens → Spells tokens f → Again (print.print_of f) f
  read_again text tokens f cut spelled =
      let named : AreNamed tokens = subst AreNamed (sym cut.read) (named_tokens 0 cut.pieces [] cut.cut.stands) in
      let told = (sourced_file spelled.grammar.nested 100).given tokens f [] spelled.grammar.spelled (record { shallow = spelled.shallow; named = named }) in
      spelled_again (print.print_of f) f (reads_file 100 100 f (omega arith) told.1)
