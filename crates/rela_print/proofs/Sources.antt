-- What is known of values that tokens spell, where their brackets fit and their names are names.
use Rattle.std.proofs.Common.{◌≡◌, ℕ, zero, suc, ◌+◌, true, Option, Some, List, [], ◌∷◌, refl, sym, ap, ◌∙◌, subst, inl, inr}
use Rattle.std.specs.Prelude.{⊤, IsSome, if◌then◌else◌}
use Rattle.std.specs.Option.{option_and_then}
use Rattle.std.proofs.lemmas.Bool.{cond-true, false≢true}
use Rattle.rela_names.specs.Name.{IsName}
use Rattle.rela_lex.specs.declared.token.Token.{Token}
use Rattle.rela_lex.specs.declared.token.TokenKind.{TokenKind}
use Rattle.rela_lex.specs.declared.token.TokenKind.TheVariants.{Mark, Bare, Quoted, Reference}
use Rattle.rela_spec.specs.Grammar.{opens, closes, one_less, room_after, room_behind}
use Rattle.rela_spec.specs.GrammarWords.{mark, word, name, reference}
use Rattle.rela_spec.specs.Phrases.{Phrase, token, done, ◌>>=◌, ◌or◌, many, chain, joined_parts, bracketed}

abbrev pub Each : {A : Type 0} → (A → Type 0) → List A → Type 0
Each P [] = ⊤
Each P (x ∷ xs) = P x × Each P xs

abbrev pub IsNamed : TokenKind → Type 0
IsNamed (Mark byte) = ⊤
IsNamed (Bare name) = IsName name
IsNamed (Quoted name) = IsName name
IsNamed (Reference name) = IsName name

abbrev pub AreNamed : List Token → Type 0
AreNamed [] = ⊤
AreNamed (t ∷ ts) = IsNamed t.kind × AreNamed ts

-- no more brackets are opened than there is room for, and each name is one
pub record Fit (room : ℕ) (tokens : List Token) : Type 0 where
  pub shallow : IsSome (room_behind room tokens)
  pub named : AreNamed tokens

-- from tokens that fit m, what is spelled is so, and the tokens left fit n
pub record Sourced {A : Type 0} (m n : ℕ) (R : Phrase A) (P : A → Type 0) : Type 0 where
  pub given : (a : List Token) (v : A) (b : List Token) → R a v b → Fit m a → Fit n b × P v

shallow_after : (m n : ℕ) (t : Token) (b : List Token) → room_after t.kind m ≡ Some n → IsSome (room_behind m (t ∷ b)) → IsSome (room_behind n b)
unfolding room_behind
shallow_after m n t b e some = subst (λ (o : Option ℕ). IsSome (option_and_then (λ left. room_behind left b) o)) e some

pub fit_after : (m n : ℕ) (t : Token) (b : List Token) → room_after t.kind m ≡ Some n → Fit m (t ∷ b) → Fit n b
fit_after m n t b e fit = record { shallow = shallow_after m n t b e fit.shallow; named = fit.named.1 }

full : (t : Token) (b : List Token) → opens t.kind ≡ true → ¬ Fit 0 (t ∷ b)
unfolding room_behind
full t b e fit = false≢true (subst (λ (o : Option ℕ). IsSome (option_and_then (λ left. room_behind left b) o)) (cond-true (opens t.kind) (one_less 0) (if closes t.kind then Some (0 + 1) else Some 0) e) fit.shallow)

pub sourced_token : {A : Type 0} {m n : ℕ} {Has : Token → A → Type 0} {P : A → Type 0}
    → ((t : Token) (v : A) → Has t v → IsNamed t.kind → (room_after t.kind m ≡ Some n) × P v) → Sourced m n (token Has) P
sourced_token {m = m} {n = n} tells = record {
  given = λ a v b h fit.
      let fits : Fit m (h.0 ∷ b) = subst (Fit m) h.1 fit in
      let told = tells h.0 v h.2 fits.named.0 in
      (fit_after m n h.0 b told.0 fits, told.1);
}

pub sourced_then : {A B : Type 0} {m n k : ℕ} {R : Phrase A} {S : A → Phrase B} {P : A → Type 0} {Q : B → Type 0}
    → Sourced m n R P → ((v : A) → P v → Sourced n k (S v) Q) → Sourced m k (R >>= S) Q
sourced_then first second = record {
  given = λ a w c h fit.
      let one = first.given a h.0 h.1 h.2 fit in
      (second h.0 one.1).given h.1 w c h.3 one.0;
}

pub sourced_or : {A : Type 0} {m n : ℕ} {R S : Phrase A} {P : A → Type 0} → Sourced m n R P → Sourced m n S P → Sourced m n (R or S) P
sourced_or first second = record {
  given = λ a v b h fit. elim h [ inl one ↦ first.given a v b one fit | inr other ↦ second.given a v b other fit ];
}

pub sourced_done : {A : Type 0} {m : ℕ} {P : A → Type 0} (v : A) → P v → Sourced m m (done v) P
sourced_done {m = m} {P = P} v p = record { given = λ a w b h fit. (subst (Fit m) h.1 fit, subst P (sym h.0) p) }

pub sourced_weaker : {A : Type 0} {m n : ℕ} {R : Phrase A} {P Q : A → Type 0} → ((v : A) → P v → Q v) → Sourced m n R P → Sourced m n R Q
sourced_weaker weaker first = record { given = λ a v b h fit. let one = first.given a v b h fit in (one.0, weaker v one.1) }

pub sourced_bracketed : {A : Type 0} {m : ℕ} {P : A → Type 0} (r : ℕ) (byte : ℕ) (inside : ℕ → Phrase A) → opens (Mark byte) ≡ true
    → ((s k : ℕ) → r ≡ suc s → m ≡ suc k → Sourced k m (inside s) P) → Sourced m m (bracketed r (mark byte) inside) P
sourced_bracketed zero byte inside opening tells = record { given = λ a v b h fit. absurd h }
sourced_bracketed {m = m} {P = P} (suc s) byte inside opening tells = record { given = λ a v b h fit. go m refl a v b h fit }
  where
    is_opening : (t : Token) → t.kind ≡ Mark byte → opens t.kind ≡ true
    is_opening t e = ap opens e ∙ opening

    less : (k : ℕ) (t : Token) → opens t.kind ≡ true → room_after t.kind (suc k) ≡ Some k
    less k t e = cond-true (opens t.kind) (one_less (suc k)) (if closes t.kind then Some (suc k + 1) else Some (suc k)) e

    go : (k : ℕ) → m ≡ k → (a : List Token) (v : _) (b : List Token) → bracketed (suc s) (mark byte) inside a v b → Fit m a → Fit m b × P v
    go zero e a v b h fit = absurd (full h.2.0 h.1 (is_opening h.2.0 h.2.2) (subst (λ (x : List Token). Fit 0 x) h.2.1 (subst (λ (n : ℕ). Fit n a) e fit)))
    go (suc k) e a v b h fit =
        (tells s k refl e).given h.1 v b h.3
        (fit_after (suc k) k h.2.0 h.1 (less k h.2.0 (is_opening h.2.0 h.2.2)) (subst (λ (x : List Token). Fit (suc k) x) h.2.1 (subst (λ (n : ℕ). Fit n a) e fit)))

pub sourced_many : {A : Type 0} {m : ℕ} {R : Phrase A} {P : A → Type 0} → Sourced m m R P → Sourced m m (many R) (Each P)
sourced_many {A = A} {m = m} {R = R} {P = P} part = record { given = go }
  where
    go : (a : List Token) (vs : List A) (b : List Token) → many R a vs b → Fit m a → Fit m b × Each P vs
    go a [] b h fit = (subst (Fit m) h fit, tt)
    go a (v ∷ vs) b h fit =
        let one = part.given a v h.0 h.1 fit in
        let others = go h.0 vs b h.2 one.0 in
        (others.0, (one.1, others.1))

-- one part alone, or parts joined
pub record Parts {A : Type 0} (join : List A → A) (P : A → Type 0) (whole : A) : Type 0 where
  pub first : A
  pub others : List A
  pub joined : whole ≡ joined_parts join first others
  pub each : Each P (first ∷ others)

pub sourced_chain : {A : Type 0} {m : ℕ} {join : List A → A} {between : Phrase ⊤} {R : Phrase A} {P : A → Type 0}
    → Sourced m m between (λ _. ⊤) → Sourced m m R P → Sourced m m (chain join between R) (Parts join P)
sourced_chain between part =
    sourced_then part λ first p. sourced_then (sourced_many (sourced_then between λ _ _. part)) λ others ps.
    sourced_done _ (record { first = first; others = others; joined = refl; each = (p, ps) })

-- the phrase is only so where another is
pub sourced_as : {A : Type 0} {m n : ℕ} {R S : Phrase A} {P : A → Type 0} → ((a : List Token) (v : A) (b : List Token) → S a v b → R a v b) → Sourced m n R P → Sourced m n S P
sourced_as on first = record { given = λ a v b h fit. first.given a v b (on a v b h) fit }

pub same_room : (kind other : TokenKind) (m n : ℕ) → kind ≡ other → room_after other m ≡ Some n → room_after kind m ≡ Some n
same_room kind other m n e h = ap (λ (k : TokenKind). room_after k m) e ∙ h

pub sourced_mark : {m n : ℕ} (byte : ℕ) → room_after (Mark byte) m ≡ Some n → Sourced m n (mark byte) (λ _. ⊤)
sourced_mark {m} {n} byte room = sourced_token λ t v is named. (same_room t.kind (Mark byte) m n is room, tt)

pub sourced_word : {m : ℕ} (bytes : List ℕ) → Sourced m m (word bytes) (λ _. ⊤)
sourced_word {m} bytes = sourced_token λ t v is named. (same_room t.kind (Bare bytes) m m is refl, tt)

pub sourced_name : {m : ℕ} → Sourced m m name (λ n. IsName n.name)
sourced_name {m} = sourced_token λ t n is named. elim is.1 [
  | inl quoted ↦ (same_room t.kind (Quoted n.name) m m quoted refl, subst IsNamed quoted named)
  | inr bare ↦ (same_room t.kind (Bare n.name) m m bare.0 refl, subst IsNamed bare.0 named)
]

pub sourced_reference : {m : ℕ} → Sourced m m reference (λ n. IsName n.name)
sourced_reference {m} = sourced_token λ t n is named. (same_room t.kind (Reference n.name) m m is.1 refl, subst IsNamed is.1 named)
