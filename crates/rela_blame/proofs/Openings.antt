-- The brackets that open units in tokens, told from those of numbers, are as many as the units of what the tokens spell.
use Rattle.std.proofs.Common.{zero, suc, ◌≡◌, ◌⊎◌, ℕ, ◌+◌, Bool, true, false, ◌&&◌, List, [], ◌∷◌, ◌++◌, length, map, refl, ap, sym, subst, ◌∙◌, inl, inr, arith, length-append, append_assoc}
use Rattle.std.specs.Prelude.{⊤, codes, sum}
use Rattle.std.specs.List.{fold}
use Rattle.std.proofs.lemmas.List.{append-nil}
use Rattle.rela_names.specs.declared.level.Level.{Level}
use Rattle.rela_flows.specs.declared.prefix.Prefix.{Prefix}
use Rattle.rela_flows.specs.declared.predicate.Predicate.{Predicate}
use Rattle.rela_flows.specs.declared.predicate.Predicate.TheVariants as P
use Rattle.rela_lex.specs.declared.token.Token.{Token}
use Rattle.rela_lex.specs.declared.token.TokenKind.{TokenKind}
use Rattle.rela_lex.specs.declared.token.TokenKind.TheVariants.{Mark, Bare, Quoted, Reference}
use Rattle.rela_spec.specs.Grammar.{Grammar, is_mark_of, level_word, level_line, condition, path_item, spec_item, check_item, an_item, file}
use Rattle.rela_spec.specs.GrammarWords.{Named, mark, word, name, reference, number, prefix}
use Rattle.rela_spec.specs.GrammarPaths.{picked_by, picked, a_member, class, times, group, atom, postfix, negation, expression, path}
use Rattle.rela_spec.specs.GrammarPredicates.{placed, test, single, denial, disjunction, predicate}
use Rattle.rela_spec.specs.GrammarSpecs.{argument, replacement, change, unit, alternatives, body, single as one_spec}
use Rattle.rela_spec.specs.Phrases.{Phrase, done, none, many, chain, whether, ◌>>=◌, ◌>>◌}
use Rattle.rela_spec.specs.declared.tree.Modifier.{Modifier}
use Rattle.rela_spec.specs.declared.tree.Modifier.TheVariants as modifier
use Rattle.rela_spec.specs.declared.tree.PathExpr.{PathExpr}
use Rattle.rela_spec.specs.declared.tree.PathExpr.TheVariants as V
use Rattle.rela_spec.specs.declared.tree.SpecExpr.{SpecExpr}
use Rattle.rela_spec.specs.declared.tree.SpecExpr.TheVariants as S
use Rattle.rela_spec.specs.declared.tree.SpecExpr.TheOpen as s
use Rattle.rela_spec.specs.declared.tree.SpecExpr.TheFolds.{fold-roll-SpecExpr}
use Rattle.rela_spec.specs.declared.tree.SpecFile.{SpecFile}
use Rattle.rela_blame.specs.Units.{opens_unit, unit_offsets}
use Rattle.rela_blame.specs.Written.{layer_units_in, units_in, units_in_item, units_in_items}

-- no unit opens from the first tokens on up to the second
abbrev Quiet : List Token → List Token → Type 0
Quiet a b = unit_offsets a ≡ unit_offsets b

no_opening : (t : Token) (b : List Token) → is_mark_of 123 t.kind ≡ false → opens_unit (t ∷ b) ≡ false
unfolding opens_unit
no_opening t [] e = refl
no_opening t (u ∷ []) e = refl
no_opening t (u ∷ v ∷ b) e = rw e refl

quiet_if : (t : Token) (b : List Token) → opens_unit (t ∷ b) ≡ false → Quiet (t ∷ b) b
unfolding unit_offsets
quiet_if t b e = rw e refl

quiet_token : (t : Token) (b : List Token) → is_mark_of 123 t.kind ≡ false → Quiet (t ∷ b) b
quiet_token t b e = quiet_if t b (no_opening t b e)

-- the tokens begin with one that closes no brace
record Open (a : List Token) : Type 0 where
  pub token : Token
  pub rest : List Token
  pub joined : a ≡ token ∷ rest
  pub closes_none : is_mark_of 125 token.kind ≡ false

-- tokens up to others: none, or some whose first closes no brace; no unit opens in them
record Loose (a b : List Token) : Type 0 where
  pub start : (a ≡ b) ⊎ Open a
  pub quiet : Quiet a b

-- some tokens up to others, of which neither of the first two closes a brace; no unit opens in them
record Plain (a b : List Token) : Type 0 where
  pub first : Open a
  pub second : (first.rest ≡ b) ⊎ Open first.rest
  pub quiet : Quiet a b

loose_none : {a b : List Token} → a ≡ b → Loose a b
loose_none e = record { start = inl e; quiet = ap unit_offsets e }

loose_plain : {a b : List Token} → Plain a b → Loose a b
loose_plain p = record { start = inr p.first; quiet = p.quiet }

plain_then : {a m b : List Token} → Plain a m → Loose m b → Plain a b
plain_then {a} {m} {b} p l = record { first = p.first; second = second p.second l.start; quiet = p.quiet ∙ l.quiet }
  where
    second : (p.first.rest ≡ m) ⊎ Open p.first.rest → (m ≡ b) ⊎ Open m → (p.first.rest ≡ b) ⊎ Open p.first.rest
    second (inr o) start = inr o
    second (inl e) (inl f) = inl (e ∙ f)
    second (inl e) (inr o) = inr (subst Open (sym e) o)

loose_then : {a m b : List Token} → Loose a m → Loose m b → Loose a b
loose_then {a} {m} {b} k l = record { start = start k.start l.start; quiet = k.quiet ∙ l.quiet }
  where
    start : (a ≡ m) ⊎ Open a → (m ≡ b) ⊎ Open m → (a ≡ b) ⊎ Open a
    start (inr o) later = inr o
    start (inl e) (inl f) = inl (e ∙ f)
    start (inl e) (inr o) = inr (subst Open (sym e) o)

plain_token : (t : Token) (a b : List Token) → a ≡ t ∷ b → is_mark_of 123 t.kind ≡ false → is_mark_of 125 t.kind ≡ false → Plain a b
plain_token t a b e opens closes = record {
  first = record { token = t; rest = b; joined = e; closes_none = closes };
  second = inl refl;
  quiet = ap unit_offsets e ∙ quiet_token t b opens;
}

kind_token : (t : Token) (a b : List Token) (kind : TokenKind) → a ≡ t ∷ b → t.kind ≡ kind → is_mark_of 123 kind ≡ false → is_mark_of 125 kind ≡ false → Plain a b
kind_token t a b kind e is opens closes = plain_token t a b e (ap (is_mark_of 123) is ∙ opens) (ap (is_mark_of 125) is ∙ closes)

plain_mark : (byte : ℕ) {a b : List Token} → is_mark_of 123 (Mark byte) ≡ false → is_mark_of 125 (Mark byte) ≡ false → (t : Token) × (a ≡ t ∷ b) × (t.kind ≡ Mark byte) → Plain a b
plain_mark byte {a} {b} opens closes h = kind_token h.0 a b (Mark byte) h.1 h.2 opens closes

plain_word : {bytes : List ℕ} {a b : List Token} → (t : Token) × (a ≡ t ∷ b) × (t.kind ≡ Bare bytes) → Plain a b
plain_word {bytes} {a} {b} h = kind_token h.0 a b (Bare bytes) h.1 h.2 refl refl

plain_name : {n : Named} {a b : List Token} → name a n b → Plain a b
plain_name {n} {a} {b} (t, e, (at, inl quoted)) = kind_token t a b (Quoted n.name) e quoted refl refl
plain_name {n} {a} {b} (t, e, (at, inr bare)) = kind_token t a b (Bare n.name) e bare.0 refl refl

plain_reference : {n : Named} {a b : List Token} → reference a n b → Plain a b
plain_reference {n} {a} {b} (t, e, (at, is)) = kind_token t a b (Reference n.name) e is refl refl

plain_number : {n : ℕ} {a b : List Token} → number a n b → Plain a b
plain_number {n} {a} {b} (t, e, (w, is, more, same)) = kind_token t a b (Bare w) e is refl refl

plain_prefix : (p : Prefix) {a b : List Token} → prefix a p b → Plain a b
plain_prefix p {a} {b} (t, e, (w, is, more)) = kind_token t a b (Bare w) e is refl refl

-- each phrase of this kind is plain
abbrev AllPlain : {A : Type 0} → Phrase A → Type 0
AllPlain {A} R = (a : List Token) (v : A) (b : List Token) → R a v b → Plain a b

abbrev AllLoose : {A : Type 0} → Phrase A → Type 0
AllLoose {A} R = (a : List Token) (v : A) (b : List Token) → R a v b → Loose a b

many_loose : {A : Type 0} (R : Phrase A) → AllPlain R → AllLoose (many R)
many_loose R each a [] b h = loose_none h
many_loose R each a (v ∷ vs) b h = loose_plain (plain_then (each a v h.0 h.1) (many_loose R each h.0 vs b h.2))

chain_plain : {A : Type 0} (join : List A → A) (between : Phrase ⊤) (R : Phrase A) → AllPlain R → AllPlain (between >> R) → AllPlain (chain join between R)
chain_plain join between R each next a v b (first, m, one, (others, n, more, last)) =
    plain_then (each a first m one) (subst (Loose m) last.1 (many_loose (between >> R) next m others n more))

behind_mark : {A : Type 0} (byte : ℕ) (R : Phrase A) → is_mark_of 123 (Mark byte) ≡ false → is_mark_of 125 (Mark byte) ≡ false → AllPlain R → AllPlain (mark byte >> R)
behind_mark byte R opens closes each a v b (_, m, first, rest) = plain_then (plain_mark byte opens closes first) (loose_plain (each m v b rest))

behind_word : {A : Type 0} (bytes : List ℕ) (R : Phrase A) → AllPlain R → AllPlain (word bytes >> R)
behind_word bytes R each a v b (_, m, first, rest) = plain_then (plain_word first) (loose_plain (each m v b rest))

behind_nothing : {A : Type 0} (R : Phrase A) → AllPlain R → AllPlain (done tt >> R)
behind_nothing R each a v b (_, m, first, rest) = subst (λ (c : List Token). Plain c b) (sym first.1) (each m v b rest)

-- a phrase, and then a value for it
only : {A : Type 0} {a m b : List Token} {v w : A} → Plain a m → done w m v b → Plain a b
only {A} {a} p last = subst (Plain a) last.1 p

picked_by_plain : AllPlain picked_by
unfolding picked_by
picked_by_plain a v b (inl (_, m, w, last)) = only (plain_word w) last
picked_by_plain a v b (inr (inl (_, m, w, last))) = only (plain_word w) last
picked_by_plain a v b (inr (inr (inl (_, m, w, last)))) = only (plain_word w) last
picked_by_plain a v b (inr (inr (inr (_, m, w, last)))) = only (plain_word w) last

picked_plain : (room : ℕ) → AllPlain (picked room)
unfolding picked
picked_plain zero a v b (by, m, first, (n, k, inside, last)) = absurd inside
picked_plain (suc room) a v b (by, m, first, (n, k, (_, j, opening, (n', i, named, (_, g, closing, same))), last)) =
    plain_then (picked_by_plain a by m first)
    (loose_plain (only (only (plain_then (plain_mark 40 refl refl opening) (loose_plain (plain_then (plain_name named) (loose_plain (plain_mark 41 refl refl closing))))) same) last))

member_plain : (room : ℕ) → AllPlain (a_member room)
unfolding a_member
member_plain room a v b (inl (_, m, w, last)) = only (plain_word w) last
member_plain room a v b (inr (inl (_, m, w, last))) = only (plain_word w) last
member_plain room a v b (inr (inr (inl h))) = picked_plain room a v b h
member_plain room a v b (inr (inr (inr (n, m, named, last)))) = only (plain_name named) last

whether_mark_loose : (byte : ℕ) → is_mark_of 123 (Mark byte) ≡ false → is_mark_of 125 (Mark byte) ≡ false → AllLoose (whether (mark byte))
whether_mark_loose byte opens closes a v b (inl (_, m, w, last)) = loose_plain (only (plain_mark byte opens closes w) last)
whether_mark_loose byte opens closes a v b (inr h) = loose_none h.1

whether_word_loose : (bytes : List ℕ) → AllLoose (whether (word bytes))
whether_word_loose bytes a v b (inl (_, m, w, last)) = loose_plain (only (plain_word w) last)
whether_word_loose bytes a v b (inr h) = loose_none h.1

class_plain : (room : ℕ) → AllPlain (class room)
unfolding class
class_plain zero a v b h = absurd h
class_plain (suc room) a v b (_, m, opening, (negated, n, flag, (members, k, listed, (_, j, closing, last)))) =
    plain_then (plain_mark 91 refl refl opening)
    (loose_then (whether_mark_loose 94 refl refl m negated n flag)
    (loose_then (many_loose (a_member room) (member_plain room) n members k listed) (loose_plain (only (plain_mark 93 refl refl closing) last))))

-- a number in braces opens no unit
braced_quiet : (t u v : Token) (b : List Token) → is_mark_of 125 v.kind ≡ true → is_mark_of 123 u.kind ≡ false → is_mark_of 123 v.kind ≡ false → Quiet (t ∷ u ∷ v ∷ b) b
unfolding opens_unit
braced_quiet t u v b closing one other =
    let none : opens_unit (t ∷ u ∷ v ∷ b) ≡ false = rw closing (never (is_mark_of 123 t.kind)) in
    quiet_if t (u ∷ v ∷ b) none ∙ quiet_token u (v ∷ b) one ∙ quiet_token v b other
  where
    never : (x : Bool) → (x && false) ≡ false
    never true = refl
    never false = refl

times_loose : (room : ℕ) → AllLoose (times room)
unfolding times
times_loose zero a v b h = absurd h
times_loose (suc room) a v b (_, m, (t, e, opening), (n, k, (u, f, (w, bare, more, same)), (_, j, (x, g, closing), last))) =
    let whole : a ≡ t ∷ u ∷ x ∷ b = e ∙ ap (λ (ts : List Token). t ∷ ts) (f ∙ ap (λ (ts : List Token). u ∷ ts) (g ∙ ap (λ (ts : List Token). x ∷ ts) last.1)) in
    record {
      start = inr (record { token = t; rest = m; joined = e; closes_none = ap (is_mark_of 125) opening });
      quiet = ap unit_offsets whole ∙ braced_quiet t u x b (ap (is_mark_of 125) closing) (ap (is_mark_of 123) bare) (ap (is_mark_of 123) closing);
    }

group_plain : (room : ℕ) (inside : Phrase PathExpr) → AllPlain inside → AllPlain (group room inside)
unfolding group
group_plain zero inside each a v b h = absurd h
group_plain (suc room) inside each a v b (_, m, opening, inl (_, n, closing, last)) =
    plain_then (plain_mark 40 refl refl opening) (loose_plain (only (plain_mark 41 refl refl closing) last))
group_plain (suc room) inside each a v b (_, m, opening, inr (w, n, whole, (_, k, closing, last))) =
    plain_then (plain_mark 40 refl refl opening) (loose_plain (plain_then (each m w n whole) (loose_plain (only (plain_mark 41 refl refl closing) last))))

atom_plain : (room : ℕ) (inside : Phrase PathExpr) → AllPlain inside → AllPlain (atom room inside)
unfolding atom
atom_plain room inside each a v b (inl (_, m, w, last)) = only (plain_mark 46 refl refl w) last
atom_plain room inside each a v b (inr (inl h)) = group_plain room inside each a v b h
atom_plain room inside each a v b (inr (inr (inl h))) = class_plain room a v b h
atom_plain room inside each a v b (inr (inr (inr (inl (n, m, named, last))))) = only (plain_reference named) last
atom_plain room inside each a v b (inr (inr (inr (inr (w, m, one, last))))) = only (member_plain room a w m one) last

postfix_loose : (room : ℕ) (part : PathExpr) → AllLoose (postfix room part)
unfolding postfix
postfix_loose room part a v b (inl (_, m, w, last)) = loose_plain (only (plain_mark 42 refl refl w) last)
postfix_loose room part a v b (inr (inl (_, m, w, last))) = loose_plain (only (plain_mark 43 refl refl w) last)
postfix_loose room part a v b (inr (inr (inl (_, m, w, last)))) = loose_plain (only (plain_mark 63 refl refl w) last)
postfix_loose room part a v b (inr (inr (inr (inl (n, m, w, last))))) = subst (Loose a) last.1 (times_loose room a n m w)
postfix_loose room part a v b (inr (inr (inr (inr h)))) = loose_none h.1

postfixed_plain : (room : ℕ) (inside : Phrase PathExpr) → AllPlain inside → AllPlain (atom room inside >>= postfix room)
postfixed_plain room inside each a v b (e, m, first, rest) = plain_then (atom_plain room inside each a e m first) (postfix_loose room e m v b rest)

negation_plain : (room : ℕ) (inside : Phrase PathExpr) → AllPlain inside → AllPlain (negation room inside)
unfolding negation
negation_plain room inside each a v b (inl (_, m, bang, (part, n, whole, last))) =
    plain_then (plain_mark 33 refl refl bang) (loose_plain (only (postfixed_plain room inside each m part n whole) last))
negation_plain room inside each a v b (inr h) = postfixed_plain room inside each a v b h

expression_plain : (room : ℕ) (inside : Phrase PathExpr) → AllPlain inside → AllPlain (expression room inside)
unfolding expression
expression_plain room inside each =
    let one = negation_plain room inside each in
    let row = chain_plain V.Seq (done tt) (negation room inside) one (behind_nothing (negation room inside) one) in
    let rows = chain_plain V.And (mark 38) (chain V.Seq (done tt) (negation room inside)) row (behind_mark 38 (chain V.Seq (done tt) (negation room inside)) refl refl row) in
    chain_plain V.Alt (mark 124) (chain V.And (mark 38) (chain V.Seq (done tt) (negation room inside))) rows
    (behind_mark 124 (chain V.And (mark 38) (chain V.Seq (done tt) (negation room inside))) refl refl rows)

path_plain : (room : ℕ) → AllPlain (path room)
unfolding path
path_plain zero = expression_plain zero none (λ a v b h. absurd h)
path_plain (suc room) = expression_plain (suc room) (path room) (path_plain room)

argument_plain : (room : ℕ) → AllPlain (argument room)
unfolding argument
argument_plain zero a v b h = absurd h
argument_plain (suc room) a v b (_, m, opening, (w, n, whole, (_, k, closing, last))) =
    plain_then (plain_mark 40 refl refl opening) (loose_plain (plain_then (path_plain room m w n whole) (loose_plain (only (plain_mark 41 refl refl closing) last))))

replacement_plain : (room : ℕ) → AllPlain (replacement room)
unfolding replacement
replacement_plain zero a v b h = absurd h
replacement_plain (suc room) a v b (_, m, opening, (old, n, first, (_, k, comma, (new, j, second, (_, i, closing, last))))) =
    plain_then (plain_mark 40 refl refl opening)
    (loose_plain (plain_then (path_plain room m old n first)
    (loose_plain (plain_then (plain_mark 44 refl refl comma)
    (loose_plain (plain_then (path_plain room k new j second) (loose_plain (only (plain_mark 41 refl refl closing) last))))))))

argued : (room : ℕ) (make : PathExpr → Modifier PathExpr) (bytes : List ℕ) → AllPlain (word bytes >> (argument room >>= λ e. done (make e)))
argued room make bytes a v b (_, m, w, (e, n, whole, last)) = plain_then (plain_word w) (loose_plain (only (argument_plain room m e n whole) last))

change_plain : (room : ℕ) → AllPlain (change room)
unfolding change
change_plain room a v b (inl (_, m, w, last)) = only (plain_word w) last
change_plain room a v b (inr (inl (_, m, w, last))) = only (plain_word w) last
change_plain room a v b (inr (inr (inl h))) = argued room modifier.Add (codes "add") a v b h
change_plain room a v b (inr (inr (inr (inl h)))) = argued room modifier.Remove (codes "remove") a v b h
change_plain room a v b (inr (inr (inr (inr (inl (_, m, w, whole)))))) = plain_then (plain_word w) (loose_plain (replacement_plain room m v b whole))
change_plain room a v b (inr (inr (inr (inr (inr (inl h)))))) = argued room modifier.AnyOf (codes "any") a v b h
change_plain room a v b (inr (inr (inr (inr (inr (inr h)))))) = argued room modifier.Ignore (codes "ignore") a v b h

-- so many units open from the first tokens on up to the second
record Units (count : ℕ) (a b : List Token) : Type 0 where
  pub at : List ℕ
  pub offsets : unit_offsets a ≡ at ++ unit_offsets b
  pub many : length at ≡ count

units_none : {a b : List Token} → Quiet a b → Units 0 a b
units_none quiet = record { at = []; offsets = quiet; many = refl }

units_then : {k n : ℕ} {a m b : List Token} → Units k a m → Units n m b → Units (k + n) a b
units_then {k} {n} {a} {m} {b} u v = record {
  at = u.at ++ v.at;
  offsets = u.offsets ∙ ap (λ (xs : List ℕ). u.at ++ xs) v.offsets ∙ sym (append_assoc u.at v.at (unit_offsets b));
  many = let x = u.many in let y = v.many in omega (arith, length-append u.at v.at);
}

quiet_before : {k : ℕ} {a m b : List Token} → Quiet a m → Units k m b → Units k a b
quiet_before {k} {a} {m} {b} quiet u = record { at = u.at; offsets = quiet ∙ u.offsets; many = u.many }

quiet_behind : {k : ℕ} {a m b : List Token} → Units k a m → Quiet m b → Units k a b
quiet_behind {k} {a} {m} {b} u quiet = record { at = u.at; offsets = u.offsets ∙ ap (λ (xs : List ℕ). u.at ++ xs) quiet; many = u.many }

-- each value of the phrase has so many units
abbrev AllUnits : {A : Type 0} → (A → ℕ) → Phrase A → Type 0
AllUnits {A} count R = (a : List Token) (v : A) (b : List Token) → R a v b → Units (count v) a b

quiet_mark : (byte : ℕ) {a b : List Token} → is_mark_of 123 (Mark byte) ≡ false → (t : Token) × (a ≡ t ∷ b) × (t.kind ≡ Mark byte) → Quiet a b
quiet_mark byte {a} {b} opens (t, e, is) = ap unit_offsets e ∙ quiet_token t b (ap (is_mark_of 123) is ∙ opens)

opening_unit : (t x y : Token) (more : List Token) → is_mark_of 123 t.kind ≡ true → is_mark_of 125 y.kind ≡ false
    → unit_offsets (t ∷ x ∷ y ∷ more) ≡ t.at ∷ unit_offsets (x ∷ y ∷ more)
unfolding unit_offsets opens_unit
opening_unit t x y more opens closes = rw (opens, closes) refl

units_of_unit : (zone : PathExpr) (m : Modifier PathExpr) → units_in (S.Unit zone m) ≡ 1
unfolding units_in
units_of_unit zone m = ap units_in (sym (S.rolls-Unit zone m)) ∙ fold-roll-SpecExpr ℕ layer_units_in (s.Unit zone m)

units_of_reference : (name : List ℕ) (at : ℕ) → units_in (S.Reference name at) ≡ 0
unfolding units_in
units_of_reference name at = ap units_in (sym (S.rolls-Reference name at)) ∙ fold-roll-SpecExpr ℕ layer_units_in (s.Reference name at)

units_of_then : (parts : List SpecExpr) → units_in (S.Then parts) ≡ sum (map units_in parts)
unfolding units_in
units_of_then parts = ap units_in (sym (S.rolls-Then parts)) ∙ fold-roll-SpecExpr ℕ layer_units_in (s.Then parts)

units_of_else : (parts : List SpecExpr) → units_in (S.Else parts) ≡ sum (map units_in parts)
unfolding units_in
units_of_else parts = ap units_in (sym (S.rolls-Else parts)) ∙ fold-roll-SpecExpr ℕ layer_units_in (s.Else parts)

-- the second token behind the brace of a unit closes no number
zone_opens : (t : Token) (m n : List Token) → Plain m n → Open n → is_mark_of 123 t.kind ≡ true → unit_offsets (t ∷ m) ≡ t.at ∷ unit_offsets m
zone_opens t m n zone colon opens = by_second zone.second
  where
    by_rest : Open zone.first.rest → unit_offsets (t ∷ m) ≡ t.at ∷ unit_offsets m
    by_rest next =
        let whole : m ≡ zone.first.token ∷ next.token ∷ next.rest = zone.first.joined ∙ ap (λ (ts : List Token). zone.first.token ∷ ts) next.joined in
        subst (λ (ts : List Token). unit_offsets (t ∷ ts) ≡ t.at ∷ unit_offsets ts) (sym whole)
        (opening_unit t zone.first.token next.token next.rest opens next.closes_none)

    by_second : (zone.first.rest ≡ n) ⊎ Open zone.first.rest → unit_offsets (t ∷ m) ≡ t.at ∷ unit_offsets m
    by_second (inl e) = by_rest (subst Open (sym e) colon)
    by_second (inr next) = by_rest next

counted : {a b : List Token} {k n : ℕ} → n ≡ k → Units k a b → Units n a b
counted {a} {b} e u = subst (λ (n : ℕ). Units n a b) (sym e) u

unit_units : (room : ℕ) → AllUnits units_in (unit room)
unfolding unit
unit_units zero a v b h = absurd h
unit_units (suc room) a v b (_, m, (t, e, opening), (zone, n, first, (_, k, colon, (c, j, second, (_, i, closing, last))))) =
    let inside = path_plain room m zone n first in
    let next = plain_mark 58 refl refl colon in
    let behind : Quiet m b = inside.quiet ∙ next.quiet ∙ (change_plain room k c j second).quiet ∙ quiet_mark 125 refl closing ∙ ap unit_offsets last.1 in
    counted (ap units_in last.0 ∙ units_of_unit zone c)
    (record {
      at = t.at ∷ [];
      offsets = ap unit_offsets e ∙ zone_opens t m n inside next.first (ap (is_mark_of 123) opening) ∙ ap (λ (xs : List ℕ). t.at ∷ xs) behind;
      many = refl;
    })

fold_from : (a : ℕ) (xs : List ℕ) → fold ◌+◌ a xs ≡ a + fold ◌+◌ 0 xs
fold_from a [] = omega arith
fold_from a (x ∷ xs) = let h = fold_from (a + x) xs in let k = fold_from (0 + x) xs in omega arith

pub sum_more : (x : ℕ) (xs : List ℕ) → sum (x ∷ xs) ≡ x + sum xs
sum_more x xs = let h = fold_from (0 + x) xs in omega arith

many_units : {A : Type 0} (count : A → ℕ) (R : Phrase A) → AllUnits count R → AllUnits (λ vs. sum (map count vs)) (many R)
many_units count R each a [] b h = units_none (ap unit_offsets h)
many_units count R each a (v ∷ vs) b h = counted (sum_more (count v) (map count vs)) (units_then (each a v h.0 h.1) (many_units count R each h.0 vs b h.2))

chain_units : {A : Type 0} (count : A → ℕ) (join : List A → A) (between : Phrase ⊤) (R : Phrase A) → AllUnits count R → AllUnits count (between >> R)
    → ((parts : List A) → count (join parts) ≡ sum (map count parts)) → AllUnits count (chain join between R)
chain_units count join between R each next joined a v b (first, m, one, ([], n, more, last)) =
    counted (ap count last.0) (quiet_behind (each a first m one) (ap unit_offsets (more ∙ last.1)))
chain_units count join between R each next joined a v b (first, m, one, (x ∷ others, n, more, last)) =
    counted (ap count last.0 ∙ joined (first ∷ x ∷ others) ∙ sum_more (count first) (map count (x ∷ others)))
    (quiet_behind (units_then (each a first m one) (many_units count (between >> R) next m (x ∷ others) n more)) (ap unit_offsets last.1))

word_before : {A : Type 0} (count : A → ℕ) (bytes : List ℕ) (R : Phrase A) → AllUnits count R → AllUnits count (word bytes >> R)
word_before count bytes R each a v b (_, m, w, rest) = quiet_before (plain_word w).quiet (each m v b rest)

single_units : (room : ℕ) (inside : Phrase SpecExpr) → AllUnits units_in inside → AllUnits units_in (one_spec room inside)
unfolding one_spec
single_units room inside each a v b (inl (n, m, named, last)) =
    counted (ap units_in last.0 ∙ units_of_reference n.name n.at) (units_none ((plain_reference named).quiet ∙ ap unit_offsets last.1))
single_units zero inside each a v b (inr (inl h)) = absurd h
single_units (suc room) inside each a v b (inr (inl (_, m, opening, (w, n, whole, (_, k, closing, last))))) =
    counted (ap units_in last.0)
    (quiet_before (quiet_mark 40 refl opening) (quiet_behind (each m w n whole) (quiet_mark 41 refl closing ∙ ap unit_offsets last.1)))
single_units room inside each a v b (inr (inr h)) = unit_units room a v b h

alternatives_units : (room : ℕ) (inside : Phrase SpecExpr) → AllUnits units_in inside → AllUnits units_in (alternatives room inside)
unfolding alternatives
alternatives_units room inside each =
    let one = single_units room inside each in
    let row = chain_units units_in S.Then (word (codes "then")) (one_spec room inside) one (word_before units_in (codes "then") (one_spec room inside) one) units_of_then in
    chain_units units_in S.Else (word (codes "else")) (chain S.Then (word (codes "then")) (one_spec room inside)) row
    (word_before units_in (codes "else") (chain S.Then (word (codes "then")) (one_spec room inside)) row) units_of_else

body_units : (room : ℕ) → AllUnits units_in (body room)
unfolding body
body_units zero = alternatives_units zero none (λ a v b h. absurd h)
body_units (suc room) = alternatives_units (suc room) (body room) (body_units room)

placed_plain : (within overlapping : Prefix → Predicate) → AllPlain (placed within overlapping)
unfolding placed
placed_plain within overlapping a v b (inl (_, m, w, (q, n, read, last))) = plain_then (plain_word w) (loose_plain (only (plain_prefix q read) last))
placed_plain within overlapping a v b (inr (_, m, w, (q, n, read, last))) = plain_then (plain_word w) (loose_plain (only (plain_prefix q read) last))

test_plain : AllPlain test
unfolding test
test_plain a v b (inl (_, m, w, last)) = only (plain_word w) last
test_plain a v b (inr (inl (_, m, w, rest))) = plain_then (plain_word w) (loose_plain (placed_plain P.DstIn P.DstOverlaps m v b rest))
test_plain a v b (inr (inr (inl (_, m, w, rest)))) = plain_then (plain_word w) (loose_plain (placed_plain P.SrcIn P.SrcOverlaps m v b rest))
test_plain a v b (inr (inr (inr (inl (_, m, w, (n, k, read, last)))))) = plain_then (plain_word w) (loose_plain (only (plain_name read) last))
test_plain a v b (inr (inr (inr (inr (_, m, w, (n, k, read, last)))))) = plain_then (plain_word w) (loose_plain (only (plain_name read) last))

one_plain : (room : ℕ) (inside : Phrase Predicate) → AllPlain inside → AllPlain (single room inside)
unfolding single
one_plain zero inside each a v b (inl h) = absurd h
one_plain (suc room) inside each a v b (inl (_, m, opening, (w, n, whole, (_, k, closing, last)))) =
    plain_then (plain_mark 40 refl refl opening) (loose_plain (plain_then (each m w n whole) (loose_plain (only (plain_mark 41 refl refl closing) last))))
one_plain room inside each a v b (inr h) = test_plain a v b h

denial_plain : (room : ℕ) (inside : Phrase Predicate) → AllPlain inside → AllPlain (denial room inside)
unfolding denial
denial_plain room inside each a v b (inl (_, m, w, (part, n, whole, last))) = plain_then (plain_word w) (loose_plain (only (one_plain room inside each m part n whole) last))
denial_plain room inside each a v b (inr h) = one_plain room inside each a v b h

disjunction_plain : (room : ℕ) (inside : Phrase Predicate) → AllPlain inside → AllPlain (disjunction room inside)
unfolding disjunction
disjunction_plain room inside each =
    let one = denial_plain room inside each in
    let row = chain_plain P.And (word (codes "and")) (denial room inside) one (behind_word (codes "and") (denial room inside) one) in
    chain_plain P.Or (word (codes "or")) (chain P.And (word (codes "and")) (denial room inside)) row
    (behind_word (codes "or") (chain P.And (word (codes "and")) (denial room inside)) row)

predicate_plain : (room : ℕ) → AllPlain (predicate room)
unfolding predicate
predicate_plain zero = disjunction_plain zero none (λ a v b h. absurd h)
predicate_plain (suc room) = disjunction_plain (suc room) (predicate room) (predicate_plain room)

condition_quiet : (room : ℕ) (a : List Token) (v : Predicate) (b : List Token) → condition room a v b → Quiet a b
unfolding condition
condition_quiet room a v b (inl (_, m, w, rest)) = (plain_word w).quiet ∙ (predicate_plain room m v b rest).quiet
condition_quiet room a v b (inr h) = ap unit_offsets h.1

item_units : (room : ℕ) → AllUnits units_in_item (an_item room)
unfolding an_item path_item spec_item check_item
item_units room a v b (inl (_, m, w, (n, k, named, (_, j, equals, (e, i, whole, (_, l, semicolon, last)))))) =
    counted (ap units_in_item last.0)
    (units_none ((plain_word w).quiet ∙ (plain_name named).quiet ∙ quiet_mark 61 refl equals ∙ (path_plain room j e i whole).quiet ∙ quiet_mark 59 refl semicolon ∙ ap unit_offsets last.1))
item_units room a v b (inr (inl (_, m, w, (n, k, named, (_, j, equals, (e, i, whole, (_, l, semicolon, last))))))) =
    counted (ap units_in_item last.0)
    (quiet_before ((plain_word w).quiet ∙ (plain_name named).quiet ∙ quiet_mark 61 refl equals)
    (quiet_behind (body_units room j e i whole) (quiet_mark 59 refl semicolon ∙ ap unit_offsets last.1)))
item_units room a v b (inr (inr (_, m, w, (at_most, g, flag, (n, k, named, (when, f, said, (_, j, colon, (e, i, whole, (_, l, semicolon, last))))))))) =
    counted (ap units_in_item last.0)
    (quiet_before
    ((plain_word w).quiet ∙ (whether_word_loose (codes "atmost") m at_most g flag).quiet ∙ (plain_name named).quiet ∙ condition_quiet room k when f said ∙ quiet_mark 58 refl colon)
    (quiet_behind (body_units room j e i whole) (quiet_mark 59 refl semicolon ∙ ap unit_offsets last.1)))

level_quiet : (a : List Token) (l : Level) (b : List Token) → level_line a l b → Quiet a b
unfolding level_line level_word
level_quiet a l b (inl (_, m, w, (v, n, inl (_, k, said, same), (_, j, semicolon, last)))) =
    (plain_word w).quiet ∙ (plain_word said).quiet ∙ ap unit_offsets same.1 ∙ quiet_mark 59 refl semicolon ∙ ap unit_offsets last.1
level_quiet a l b (inl (_, m, w, (v, n, inr (inl (_, k, said, same)), (_, j, semicolon, last)))) =
    (plain_word w).quiet ∙ (plain_word said).quiet ∙ ap unit_offsets same.1 ∙ quiet_mark 59 refl semicolon ∙ ap unit_offsets last.1
level_quiet a l b (inl (_, m, w, (v, n, inr (inr (_, k, said, same)), (_, j, semicolon, last)))) =
    (plain_word w).quiet ∙ (plain_word said).quiet ∙ ap unit_offsets same.1 ∙ quiet_mark 59 refl semicolon ∙ ap unit_offsets last.1
level_quiet a l b (inr h) = ap unit_offsets h.1

none_open : unit_offsets [] ≡ []
unfolding unit_offsets
none_open = refl

-- as many units open in the tokens as the tree has
pub as_many_units : (tokens : List Token) (tree : SpecFile) → Grammar tokens tree → length (unit_offsets tokens) ≡ units_in_items tree.items
unfolding file
as_many_units tokens tree g =
    let h = g.spelled in
    let u = many_units units_in_item (an_item g.nested) (item_units g.nested) h.1 h.3.0 h.3.1 h.3.2 in
    let whole : unit_offsets tokens ≡ u.at = level_quiet tokens h.0 h.1 h.2 ∙ u.offsets ∙ ap (λ (ts : List Token). u.at ++ unit_offsets ts) h.3.3.1
    ∙ ap (λ (xs : List ℕ). u.at ++ xs) none_open ∙ append-nil u.at in
    ap length whole ∙ u.many ∙ ap (λ (t : SpecFile). units_in_items t.items) (sym h.3.3.0)
