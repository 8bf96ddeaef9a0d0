-- The texts of specifications of changes are read as these specifications.
use Rattle.std.proofs.Common.{◌≡◌, ℕ, zero, suc, ◌+◌, ◌≤◌, ◌<◌, false, Some, List, [], ◌∷◌, ◌++◌, map, refl, sym, ap, ◌∙◌, subst, inl, inr, arith, codes}
use Rattle.std.specs.Prelude.{⊤}
use Rattle.rela_names.specs.Name.{IsName}
use Rattle.rela_lex.specs.Spells.{is_lone_mark}
use Rattle.rela_lex.specs.declared.token.Token.{Token}
use Rattle.rela_spec.specs.GrammarWords.{Named, mark, word}
use Rattle.rela_spec.specs.GrammarPaths.{path}
use Rattle.rela_spec.specs.GrammarSpecs.{argument, replacement, change, unit, single, alternatives, body}
use Rattle.rela_print.specs.Names.{reference_text}
use Rattle.rela_spec.specs.Phrases.{Phrase, done, none, ◌>>=◌, ◌>>◌, chain, bracketed}
use Rattle.rela_print.specs.SameTree.{path_at_zero, modifier_at_zero, spec_layer_at_zero, spec_at_zero}
use Rattle.rela_print.specs.SpecTexts.{path_text, modifier_text, unit_text, printed_spec}
use Rattle.rela_spec.specs.declared.tree.Modifier.{Modifier}
use Rattle.rela_spec.specs.declared.tree.Modifier.TheVariants as modifier
use Rattle.rela_spec.specs.declared.tree.PathExpr.{PathExpr}
use Rattle.rela_spec.specs.declared.tree.SpecExpr.{SpecExpr}
use Rattle.rela_spec.specs.declared.tree.SpecExpr.TheVariants as V
use Rattle.rela_spec.specs.declared.tree.SpecExpr.TheOpen as layer
use Rattle.rela_spec.specs.declared.tree.SpecExpr.TheFolds.{fold-roll-SpecExpr}
use Rattle.rela_print.proofs.Braces.{opening_then, later_then, zone_then, tame_then, reads_opening_brace, reads_closing_brace, reads_colon}
use Rattle.rela_print.proofs.Levels as levels
use Rattle.rela_print.proofs.MemberTexts.{closing, reads_before}
use Rattle.rela_print.proofs.PathsBack.{GoodPath, sourced_path, reads_path}
use Rattle.rela_print.proofs.PredicatesBack.{reads_word_then}
use Rattle.rela_print.proofs.PrintedSpecs.{spec_unit, spec_reference, spec_then, spec_else}
use Rattle.rela_print.proofs.Sources.{Parts, Sourced, sourced_then, sourced_or, sourced_done, sourced_weaker, sourced_bracketed, sourced_chain, sourced_as, sourced_mark, sourced_word, sourced_reference}
use Rattle.rela_print.proofs.TextPieces.{Loose, Tame, tame_join, Reads, Free, Stops, reads_then, reads_as, reads_behind_blank}
use Rattle.rela_print.proofs.TokenTexts.{Whatever, reads_mark, reads_word, reads_reference}

abbrev SamePath : PathExpr → PathExpr → Type 0
SamePath e w = path_at_zero w ≡ path_at_zero e

abbrev SameModifier : Modifier PathExpr → Modifier PathExpr → Type 0
SameModifier v w = modifier_at_zero w ≡ modifier_at_zero v

-- a path expression inside brackets, of which m may be opened
pub record PathInside (m : ℕ) (e : PathExpr) : Type 0 where
  pub inner : ℕ
  pub room : m ≡ suc inner
  pub good : GoodPath inner e

reads_argument : (m n : ℕ) (e : PathExpr) → m ≤ n → PathInside m e → Reads Free (argument n) (40 ∷ (path_text e ++ 41 ∷ [])) (SamePath e) (Tame n n)
unfolding argument
reads_argument m zero e le good = absurd (let room = good.room in omega (arith, room))
reads_argument m (suc n) e le good =
    reads_then {C = Free} {D = Free} {R = mark 40} {S = λ _. path n >>= λ e. mark 41 >> done e} {t = 40 ∷ []} {P = Whatever} {Q = SamePath e} (λ rest c. tt) tame_join
    (reads_mark {m = suc n} {n = n} 40 refl refl refl refl) λ _ _.
    reads_then {C = Stops} {D = Free} {R = path n} {S = λ e. mark 41 >> done e} {P = SamePath e} {Q = SamePath e} (λ rest c. refl) tame_join
    (reads_path good.inner n e (let room = good.room in omega (arith, room)) good.good) λ w p.
    reads_as (λ _. w) (λ _ _. p) (λ a v b h. (tt, b, h, (refl, refl))) (reads_mark {m = n} {n = suc n} 41 refl (closing n) refl refl)

reads_replacement : (m n : ℕ) (e f : PathExpr) → m ≤ n → PathInside m e → PathInside m f
    → Reads Free (replacement n) (40 ∷ (path_text e ++ (44 ∷ 32 ∷ (path_text f ++ 41 ∷ [])))) (SameModifier (modifier.Replace e f)) (Tame n n)
unfolding replacement
reads_replacement m zero e f le good other = absurd (let room = good.room in omega (arith, room))
reads_replacement m (suc n) e f le good other =
    reads_then {C = Free} {D = Free} {R = mark 40} {S = λ _. path n >>= λ old. mark 44 >> (path n >>= λ new. mark 41 >> done (modifier.Replace old new))} {t = 40 ∷ []} {P = Whatever} {Q = SameModifier (modifier.Replace e f)} (λ rest c. tt) tame_join
    (reads_mark {m = suc n} {n = n} 40 refl refl refl refl) λ _ _.
    reads_then {C = Stops} {D = Free} {R = path n} {S = λ old. mark 44 >> (path n >>= λ new. mark 41 >> done (modifier.Replace old new))} {P = SamePath e} {Q = SameModifier (modifier.Replace e f)} (λ rest c. refl) tame_join
    (reads_path good.inner n e (let room = good.room in omega (arith, room)) good.good) λ w p.
    reads_then {C = Free} {D = Free} {R = mark 44} {S = λ _. path n >>= λ new. mark 41 >> done (modifier.Replace w new)} {t = 44 ∷ []} {P = Whatever} {Q = SameModifier (modifier.Replace e f)} (λ rest c. tt) tame_join
    (reads_mark {m = n} {n = n} 44 refl refl refl refl) λ _ _.
    reads_behind_blank (reads_then {C = Stops} {D = Free} {R = path n} {S = λ new. mark 41 >> done (modifier.Replace w new)} {P = SamePath f} {Q = SameModifier (modifier.Replace e f)} (λ rest c. refl) tame_join
    (reads_path other.inner n f (let room = other.room in omega (arith, room)) other.good) λ x q.
    reads_as (λ _. modifier.Replace w x) (λ _ _. ap (λ (y : PathExpr). modifier.Replace y (path_at_zero x)) p ∙ ap (λ (y : PathExpr). modifier.Replace (path_at_zero e) y) q)
    (λ a v b h. (tt, b, h, (refl, refl))) (reads_mark {m = n} {n = suc n} 41 refl (closing n) refl refl))

-- with room for m brackets and more the modifier's text is read as the modifier
pub record GoodModifier (m : ℕ) (v : Modifier PathExpr) : Type 0 where
  pub reads : (n : ℕ) → m ≤ n → Reads Stops (change n) (modifier_text v) (SameModifier v) (Tame n n)

good_preserve : (m : ℕ) → GoodModifier m modifier.Preserve
unfolding change modifier_text
good_preserve m = record { reads = λ n le. reads_as (λ _. modifier.Preserve) (λ _ _. refl) (λ a v b h. inl (tt, b, h, (refl, refl))) (reads_word {m = n} (codes "preserve") refl refl) }

good_drop : (m : ℕ) → GoodModifier m modifier.Drop
unfolding change modifier_text
good_drop m = record { reads = λ n le. reads_as (λ _. modifier.Drop) (λ _ _. refl) (λ a v b h. inr (inl (tt, b, h, (refl, refl)))) (reads_word {m = n} (codes "drop") refl refl) }

-- a word with a path expression in brackets behind it
abbrev call : ℕ → List ℕ → (PathExpr → Modifier PathExpr) → Phrase (Modifier PathExpr)
call n w form = word w >> (argument n >>= λ e. done (form e))

reads_call : (w : List ℕ) (form : PathExpr → Modifier PathExpr) → IsName w → is_lone_mark w ≡ false → ((e : PathExpr) → modifier_at_zero (form e) ≡ form (path_at_zero e))
    → (m n : ℕ) (e : PathExpr) → m ≤ n → PathInside m e → Reads Free (call n w form) (w ++ (40 ∷ (path_text e ++ 41 ∷ []))) (SameModifier (form e)) (Tame n n)
reads_call w form is alone zeroes m n e le good =
    reads_then {C = Stops} {D = Free} {R = word w} {S = λ _. argument n >>= λ e. done (form e)} {t = w} {P = Whatever} {Q = SameModifier (form e)} (λ rest c. refl) tame_join (reads_word {m = n} w is alone) λ _ _.
    reads_as (λ (x : PathExpr). form x) (λ x p. zeroes x ∙ ap form p ∙ sym (zeroes e)) (λ a x b h. (x, b, h, (refl, refl))) (reads_argument m n e le good)

good_add : (m : ℕ) (e : PathExpr) → PathInside m e → GoodModifier m (modifier.Add e)
unfolding change modifier_text
good_add m e good = record { reads = λ n le. reads_before (reads_as (λ (w : Modifier PathExpr). w) (λ w p. p) (λ a w b h. inr (inr (inl h))) (reads_call (codes "add") modifier.Add refl refl (λ x. refl) m n e le good)) }

good_remove : (m : ℕ) (e : PathExpr) → PathInside m e → GoodModifier m (modifier.Remove e)
unfolding change modifier_text
good_remove m e good = record { reads = λ n le. reads_before (reads_as (λ (w : Modifier PathExpr). w) (λ w p. p) (λ a w b h. inr (inr (inr (inl h)))) (reads_call (codes "remove") modifier.Remove refl refl (λ x. refl) m n e le good)) }

good_any : (m : ℕ) (e : PathExpr) → PathInside m e → GoodModifier m (modifier.AnyOf e)
unfolding change modifier_text
good_any m e good = record { reads = λ n le. reads_before (reads_as (λ (w : Modifier PathExpr). w) (λ w p. p) (λ a w b h. inr (inr (inr (inr (inr (inl h)))))) (reads_call (codes "any") modifier.AnyOf refl refl (λ x. refl) m n e le good)) }

good_ignore : (m : ℕ) (e : PathExpr) → PathInside m e → GoodModifier m (modifier.Ignore e)
unfolding change modifier_text
good_ignore m e good = record { reads = λ n le. reads_before (reads_as (λ (w : Modifier PathExpr). w) (λ w p. p) (λ a w b h. inr (inr (inr (inr (inr (inr h)))))) (reads_call (codes "ignore") modifier.Ignore refl refl (λ x. refl) m n e le good)) }

good_replace : (m : ℕ) (e f : PathExpr) → PathInside m e → PathInside m f → GoodModifier m (modifier.Replace e f)
unfolding change modifier_text
good_replace m e f good other = record {
  reads = λ n le. reads_before (reads_as (λ (w : Modifier PathExpr). w) (λ w p. p) (λ a w b h. inr (inr (inr (inr (inl h)))))
      (reads_then {C = Stops} {D = Free} {R = word (codes "replace")} {S = λ _. replacement n} {t = codes "replace"} {P = Whatever} {Q = SameModifier (modifier.Replace e f)} (λ rest c. refl) tame_join
      (reads_word {m = n} (codes "replace") refl refl) λ _ _. reads_replacement m n e f le good other));
}

sourced_argument : (r m : ℕ) → Sourced m m (argument r) (PathInside m)
unfolding argument
sourced_argument r m =
    sourced_bracketed r 40 (λ inner. path inner >>= λ e. mark 41 >> done e) refl λ s k _ e.
    sourced_then (sourced_path s k) λ w good. sourced_then (sourced_mark 41 (closing k ∙ ap Some (sym e))) λ _ _. sourced_done w (record { inner = k; room = e; good = good })

sourced_replacement : (r m : ℕ) → Sourced m m (replacement r) (GoodModifier m)
unfolding replacement
sourced_replacement r m =
    sourced_bracketed r 40 (λ inner. path inner >>= λ old. mark 44 >> (path inner >>= λ new. mark 41 >> done (modifier.Replace old new))) refl λ s k _ e.
    sourced_then (sourced_path s k) λ old good. sourced_then (sourced_mark {m = k} {n = k} 44 refl) λ _ _. sourced_then (sourced_path s k) λ new other.
    sourced_then (sourced_mark 41 (closing k ∙ ap Some (sym e))) λ _ _.
    sourced_done (modifier.Replace old new) (good_replace m old new (record { inner = k; room = e; good = good }) (record { inner = k; room = e; good = other }))

sourced_call : (r m : ℕ) (w : List ℕ) (form : PathExpr → Modifier PathExpr) → ((e : PathExpr) → PathInside m e → GoodModifier m (form e)) → Sourced m m (call r w form) (GoodModifier m)
sourced_call r m w form good = sourced_then (sourced_word w) λ _ _. sourced_then (sourced_argument r m) λ e p. sourced_done (form e) (good e p)

sourced_change : (r m : ℕ) → Sourced m m (change r) (GoodModifier m)
unfolding change
sourced_change r m =
    sourced_or (sourced_then (sourced_word (codes "preserve")) λ _ _. sourced_done modifier.Preserve (good_preserve m))
    (sourced_or (sourced_then (sourced_word (codes "drop")) λ _ _. sourced_done modifier.Drop (good_drop m))
    (sourced_or (sourced_call r m (codes "add") modifier.Add (good_add m))
    (sourced_or (sourced_call r m (codes "remove") modifier.Remove (good_remove m))
    (sourced_or (sourced_then (sourced_word (codes "replace")) λ _ _. sourced_replacement r m)
    (sourced_or (sourced_call r m (codes "any") modifier.AnyOf (good_any m)) (sourced_call r m (codes "ignore") modifier.Ignore (good_ignore m)))))))

-- what stands in parentheses, where so many more brackets may be opened
abbrev pub inside : ℕ → Phrase SpecExpr
inside zero = none
inside (suc n) = body n

abbrev pub level : ℕ → ℕ → Phrase SpecExpr
level zero n = single n (inside n)
level (suc zero) n = chain V.Then (word (codes "then")) (single n (inside n))
level (suc (suc d)) n = alternatives n (inside n)

lone : (join : List SpecExpr → SpecExpr) (between : Phrase ⊤) (R : Phrase SpecExpr) (a : List Token) (s : SpecExpr) (b : List Token) → R a s b → chain join between R a s b
lone join between R a s b h = (s, b, h, ([], b, refl, (refl, refl)))

pub lift : (d n : ℕ) (a : List Token) (s : SpecExpr) (b : List Token) → level d n a s b → level (suc d) n a s b
unfolding alternatives
lift zero n a s b h = lone V.Then (word (codes "then")) (single n (inside n)) a s b h
lift (suc zero) n a s b h = lone V.Else (word (codes "else")) (level 1 n) a s b h
lift (suc (suc d)) n a s b h = h

body_is : (n : ℕ) (a : List Token) (s : SpecExpr) (b : List Token) → body n a s b → level 2 n a s b
unfolding body
body_is zero a s b h = h
body_is (suc n) a s b h = h

is_body : (n : ℕ) (a : List Token) (s : SpecExpr) (b : List Token) → level 2 n a s b → body n a s b
unfolding body
is_body zero a s b h = h
is_body (suc n) a s b h = h

-- a text in parentheses
pub grouped : (n : ℕ) (t : List ℕ) (P : SpecExpr → Type 0) → Reads Stops (level 2 n) t P (Tame n n) → Reads Stops (level 0 (suc n)) (40 ∷ (t ++ 41 ∷ [])) P (Tame (suc n) (suc n))
unfolding single
grouped n t P h =
    reads_before (reads_as (λ (w : SpecExpr). w) (λ w p. p) (λ a w b spelled. inr (inl spelled))
    (reads_then {C = Free} {D = Free} {R = mark 40} {S = λ _. body n >>= λ s. mark 41 >> done s} {P = Whatever} {Q = P} (λ rest c. tt) tame_join
    (reads_mark {m = suc n} {n = n} 40 refl refl refl refl) λ _ _.
    reads_as (λ (w : SpecExpr). w) (λ w p. p) (λ a w b spelled. (spelled.0, spelled.1, is_body n a spelled.0 spelled.1 spelled.2, spelled.3))
    (reads_then {C = Stops} {D = Free} {R = level 2 n} {S = λ e. mark 41 >> done e} {P = P} {Q = P} (λ rest c. refl) tame_join h λ e p.
    reads_as (λ _. e) (λ _ _. p) (λ a v b spelled. (tt, b, spelled, (refl, refl))) (reads_mark {m = n} {n = suc n} 41 refl (closing n) refl refl))))

abbrev pub GoodSpec : ℕ → SpecExpr → Type 0
GoodSpec = levels.Good 2 level spec_at_zero printed_spec lift grouped

abbrev pub KeptSpec : ℕ → ℕ → SpecExpr → Type 0
KeptSpec = levels.Kept 2 level spec_at_zero printed_spec lift grouped

abbrev pub SameSpec : SpecExpr → SpecExpr → Type 0
SameSpec s w = spec_at_zero w ≡ spec_at_zero s

abbrev make : (m d b : ℕ) (t : List ℕ) (s : SpecExpr) → printed_spec s ≡ record { binding = b; text = t } → d ≤ 2 → b + d ≡ 3
    → ((n : ℕ) → m ≤ n → Reads Stops (level d n) t (SameSpec s) (Tame n n)) → KeptSpec d m s
make m d b t s is low binding reads = inl (levels.make_good 2 level spec_at_zero printed_spec lift grouped m d b t s is low binding reads)

zero_unit : (zone : PathExpr) (v : Modifier PathExpr) → spec_at_zero (V.Unit zone v) ≡ V.Unit (path_at_zero zone) (modifier_at_zero v)
unfolding spec_at_zero
zero_unit zone v = ap spec_at_zero (sym (V.rolls-Unit zone v)) ∙ fold-roll-SpecExpr SpecExpr spec_layer_at_zero (layer.Unit zone v)

zero_reference : (text : List ℕ) (at : ℕ) → spec_at_zero (V.Reference text at) ≡ V.Reference text 0
unfolding spec_at_zero
zero_reference text at = ap spec_at_zero (sym (V.rolls-Reference text at)) ∙ fold-roll-SpecExpr SpecExpr spec_layer_at_zero (layer.Reference text at)

zero_then : (parts : List SpecExpr) → spec_at_zero (V.Then parts) ≡ V.Then (map spec_at_zero parts)
unfolding spec_at_zero
zero_then parts = ap spec_at_zero (sym (V.rolls-Then parts)) ∙ fold-roll-SpecExpr SpecExpr spec_layer_at_zero (layer.Then parts)

zero_else : (parts : List SpecExpr) → spec_at_zero (V.Else parts) ≡ V.Else (map spec_at_zero parts)
unfolding spec_at_zero
zero_else parts = ap spec_at_zero (sym (V.rolls-Else parts)) ∙ fold-roll-SpecExpr SpecExpr spec_layer_at_zero (layer.Else parts)

kept_reference : (m : ℕ) (text : List ℕ) (at : ℕ) → IsName text → KeptSpec 0 m (V.Reference text at)
unfolding single
kept_reference m text at is = make m 0 3 (reference_text text) (V.Reference text at) (spec_reference text at) (omega arith) (omega arith) λ n le.
    reads_as (λ (w : Named). V.Reference w.name w.at) (λ w p. zero_reference w.name w.at ∙ ap (λ (x : List ℕ). V.Reference x 0) p ∙ sym (zero_reference text at))
    (λ a w b h. inl (w, b, h, (refl, refl))) (reads_reference text is)

-- what stands behind the zone of a unit, and behind its colon
abbrev modifier_rest : ℕ → PathExpr → Phrase SpecExpr
modifier_rest n zone = change n >>= λ v. mark 125 >> done (V.Unit zone v)

abbrev colon_rest : ℕ → PathExpr → Phrase SpecExpr
colon_rest n zone = mark 58 >> modifier_rest n zone

reads_modifier_rest : (m n : ℕ) (zone w : PathExpr) (v : Modifier PathExpr) → m ≤ n → SamePath zone w → GoodModifier m v
    → Reads Free (modifier_rest n w) (modifier_text v ++ (32 ∷ 125 ∷ [])) (SameSpec (V.Unit zone v)) (Loose n (suc n))
reads_modifier_rest m n zone w v le same good =
    reads_then {C = Stops} {D = Free} {R = change n} {S = λ v. mark 125 >> done (V.Unit w v)} {P = SameModifier v} {Q = SameSpec (V.Unit zone v)} (λ rest c. refl) tame_then (good.reads n le) λ x p.
    reads_behind_blank (reads_as (λ _. V.Unit w x)
    (λ _ _. zero_unit w x ∙ ap (λ (y : PathExpr). V.Unit y (modifier_at_zero x)) same ∙ ap (λ (y : Modifier PathExpr). V.Unit (path_at_zero zone) y) p ∙ sym (zero_unit zone v))
    (λ a u b h. (tt, b, h, (refl, refl))) (reads_closing_brace {k = n}))

reads_unit : (m n : ℕ) (zone : PathExpr) (v : Modifier PathExpr) → m < n → GoodPath m zone → GoodModifier m v → Reads Free (unit n) (unit_text zone v) (SameSpec (V.Unit zone v)) (Tame n n)
unfolding unit unit_text
reads_unit m zero zone v lt path_good good = absurd (omega arith)
reads_unit m (suc n) zone v lt path_good good =
    reads_then {C = Free} {D = Free} {R = mark 123} {S = λ _. path n >>= colon_rest n} {t = 123 ∷ []} {P = Whatever} {Q = SameSpec (V.Unit zone v)} (λ rest c. tt) opening_then
    (reads_opening_brace {k = n}) λ _ _.
    reads_behind_blank (reads_then {C = Stops} {D = Free} {R = path n} {S = colon_rest n} {P = SamePath zone} {Q = SameSpec (V.Unit zone v)} (λ rest c. refl) zone_then
    (reads_path m n zone (omega arith) path_good) λ w same.
    reads_behind_blank (reads_then {C = Stops} {D = Free} {R = mark 58} {S = λ _. modifier_rest n w} {t = 58 ∷ []} {P = Whatever} {Q = SameSpec (V.Unit zone v)} (λ rest c. refl) later_then
    (reads_colon {k = n}) λ _ _.
    reads_behind_blank (reads_modifier_rest m n zone w v (omega arith) same good)))

kept_unit : (m : ℕ) (zone : PathExpr) (v : Modifier PathExpr) → GoodPath m zone → GoodModifier m v → KeptSpec 0 (suc m) (V.Unit zone v)
unfolding single
kept_unit m zone v path_good good = make (suc m) 0 3 (unit_text zone v) (V.Unit zone v) (spec_unit zone v) (omega arith) (omega arith) λ n le.
    reads_before (reads_as (λ (w : SpecExpr). w) (λ w p. p) (λ a w b h. inr (inr h)) (reads_unit m n zone v (omega arith) path_good good))

between : (w : List ℕ) → IsName w → is_lone_mark w ≡ false → (d n : ℕ) (t : List ℕ) (P : SpecExpr → Type 0) → Reads Stops (level d n) t P (Tame n n)
    → Reads Stops (word w >> level d n) (32 ∷ (w ++ (32 ∷ t))) P (Tame n n)
between w is alone d n t P h = reads_behind_blank (reads_word_then {S = level d n} w is alone h)

kept_then : (m : ℕ) (w : SpecExpr) → Parts V.Then (KeptSpec 0 m) w → KeptSpec 1 m w
kept_then m w parts =
    levels.kept_chain 2 level spec_at_zero printed_spec lift grouped V.Then (word (codes "then")) (codes "then ") 0 m 2 (omega arith) (omega arith) spec_then zero_then
    (λ n a e b h. h) (between (codes "then") refl refl 0) w parts

kept_else : (m : ℕ) (w : SpecExpr) → Parts V.Else (KeptSpec 1 m) w → KeptSpec 2 m w
unfolding alternatives
kept_else m w parts =
    levels.kept_chain 2 level spec_at_zero printed_spec lift grouped V.Else (word (codes "else")) (codes "else ") 1 m 1 (omega arith) (omega arith) spec_else zero_else
    (λ n a e b h. h) (between (codes "else") refl refl 1) w parts

sourced_unit : (r m : ℕ) → Sourced m m (unit r) (KeptSpec 0 m)
unfolding unit
sourced_unit r m =
    sourced_bracketed r 123 (λ inner. path inner >>= λ zone. mark 58 >> (change inner >>= λ v. mark 125 >> done (V.Unit zone v))) refl λ s k _ e.
    sourced_then (sourced_path s k) λ zone path_good. sourced_then (sourced_mark {m = k} {n = k} 58 refl) λ _ _. sourced_then (sourced_change s k) λ v good.
    sourced_then (sourced_mark 125 (closing k ∙ ap Some (sym e))) λ _ _.
    sourced_done (V.Unit zone v) (subst (λ (x : ℕ). KeptSpec 0 x (V.Unit zone v)) (sym e) (kept_unit k zone v path_good good))

sourced_single : (r m : ℕ) → ((s k : ℕ) → r ≡ suc s → Sourced k k (body s) (GoodSpec k)) → Sourced m m (single r (inside r)) (KeptSpec 0 m)
unfolding single
sourced_single r m within_it =
    sourced_or (sourced_then sourced_reference λ n is. sourced_done (V.Reference n.name n.at) (kept_reference m n.name n.at is)) (sourced_or (group r within_it) (sourced_unit r m))
  where
    group : (r : ℕ) → ((s k : ℕ) → r ≡ suc s → Sourced k k (body s) (GoodSpec k)) → Sourced m m (bracketed r (mark 40) (λ _. inside r >>= λ s. mark 41 >> done s)) (KeptSpec 0 m)
    group zero within_it = sourced_bracketed 0 40 (λ _. inside 0 >>= λ s. mark 41 >> done s) refl λ s k none e. absurd (omega (arith, none))
    group (suc r) within_it = sourced_bracketed (suc r) 40 (λ _. body r >>= λ s. mark 41 >> done s) refl λ s k _ e.
        sourced_then (within_it r k refl) λ w good. sourced_then (sourced_mark 41 (closing k ∙ ap Some (sym e))) λ _ _. sourced_done w (inr (k, e, good))

sourced_alternatives : (r m : ℕ) → ((s k : ℕ) → r ≡ suc s → Sourced k k (body s) (GoodSpec k)) → Sourced m m (alternatives r (inside r)) (GoodSpec m)
unfolding alternatives
sourced_alternatives r m within_it =
    sourced_weaker (λ s parts. levels.good_from 2 level spec_at_zero printed_spec lift grouped 2 m s (kept_else m s parts))
    (sourced_chain (sourced_word (codes "else")) (sourced_weaker (kept_then m) (sourced_chain (sourced_word (codes "then")) (sourced_single r m within_it))))

pub sourced_body : (r m : ℕ) → Sourced m m (body r) (GoodSpec m)
sourced_body zero m = sourced_as (body_is zero) (sourced_alternatives zero m (λ s k none. absurd (omega (arith, none))))
sourced_body (suc r) m =
    sourced_as (body_is (suc r)) (sourced_alternatives (suc r) m λ s k e.
    let one : r ≡ s = omega (arith, e) in subst (λ (x : ℕ). Sourced k k (body x) (GoodSpec k)) one (sourced_body r k))

-- the text of a specification that is spelled where so many brackets may be opened
pub reads_body : (m n : ℕ) (s : SpecExpr) → m ≤ n → GoodSpec m s → Reads Stops (body n) (printed_spec s).text (SameSpec s) (Tame n n)
reads_body m n s le good =
    reads_as (λ (w : SpecExpr). w) (λ w p. p) (is_body n) (levels.reads_lower 2 level spec_at_zero printed_spec lift grouped good.depth 2 n (printed_spec s).text s good.low (good.reads n le))
