-- The texts of single tokens are read as they are meant.
use Rattle.std.proofs.Common.{◌≡◌, ℕ, Bool, true, false, ◌||◌, ◌==◌, Some, IsTrue, List, [], ◌∷◌, ◌++◌, refl, sym, subst, inl, inr, codes}
use Rattle.std.specs.Prelude.{⊤}
use Rattle.std.specs.Str.{bytes_eq}
use Rattle.std.proofs.lemmas.Bool.{cases_Bool, cond-true, cond-false}
use Rattle.rela_names.specs.Name.{IsName}
use Rattle.rela_lex.specs.declared.token.TokenKind.TheVariants.{Mark, Bare, Quoted, Reference}
use Rattle.rela_lex.specs.Spells.{is_mark, is_lone_mark}
use Rattle.rela_spec.specs.Grammar.{room_after}
use Rattle.rela_spec.specs.GrammarWords.{Named, mark, word, name, reference}
use Rattle.rela_spec.specs.Keywords.{is_keyword}
use Rattle.rela_print.specs.Names.{needs_quotes, name_text, reference_text}
use Rattle.rela_print.proofs.TextPieces.{Tame, tame_token, Reads, Free, Stops, reads_token}

abbrev pub Whatever : ⊤ → Type 0
Whatever v = ⊤

-- a mark of one byte, whatever follows it
pub reads_mark : {m n : ℕ} (byte : ℕ) → IsTrue (is_mark byte) → room_after (Mark byte) m ≡ Some n → (byte == 123) ≡ false → (byte == 125) ≡ false
    → Reads Free (mark byte) (byte ∷ []) Whatever (Tame m n)
reads_mark {m} {n} byte is room first last =
    reads_token (Mark byte) (λ at. tt) (λ rest c. inl is) (λ at. refl) (λ at. tt) (λ at. tame_token m n (record { at = at; kind = Mark byte }) room first last)

-- a mark that other name bytes would turn into a word
pub reads_lone_mark : {m : ℕ} (byte : ℕ) → IsTrue (is_lone_mark (byte ∷ [])) → room_after (Mark byte) m ≡ Some m → (byte == 123) ≡ false → (byte == 125) ≡ false
    → Reads Stops (mark byte) (byte ∷ []) Whatever (Tame m m)
reads_lone_mark {m} byte is room first last =
    reads_token (Mark byte) (λ at. tt) (λ rest c. inr (is, c)) (λ at. refl) (λ at. tt) (λ at. tame_token m m (record { at = at; kind = Mark byte }) room first last)

pub reads_word : {m : ℕ} (bytes : List ℕ) → IsName bytes → is_lone_mark bytes ≡ false → Reads Stops (word bytes) bytes Whatever (Tame m m)
reads_word {m} bytes is alone =
    reads_token (Bare bytes) (λ at. tt) (λ rest c. (is, alone, c)) (λ at. refl) (λ at. tt) (λ at. tame_token m m (record { at = at; kind = Bare bytes }) refl refl refl)

abbrev pub IsNameOf : List ℕ → Named → Type 0
IsNameOf bytes n = n.name ≡ bytes

first_fails : (a b c : Bool) → (a || b || c) ≡ false → a ≡ false
first_fails true b c e = e
first_fails false b c e = refl

others_fail : (a b c : Bool) → (a || b || c) ≡ false → (b || c) ≡ false
others_fail true b c e = absurd (let never = e in cc)
others_fail false b c e = e

reads_bare : {m : ℕ} (bytes : List ℕ) → IsName bytes → needs_quotes bytes ≡ false → Reads Stops name bytes (IsNameOf bytes) (Tame m m)
unfolding needs_quotes
reads_bare {m} bytes is bare =
    let keyword : is_keyword bytes ≡ false = first_fails (is_keyword bytes) (bytes_eq bytes (codes ".")) (bytes_eq bytes (codes ":")) bare in
    let alone : is_lone_mark bytes ≡ false = others_fail (is_keyword bytes) (bytes_eq bytes (codes ".")) (bytes_eq bytes (codes ":")) bare in
    reads_token (Bare bytes) (λ at. record { name = bytes; at = at }) (λ rest c. (is, alone, c)) (λ at. (refl, inr (refl, keyword))) (λ at. refl)
    (λ at. tame_token m m (record { at = at; kind = Bare bytes }) refl refl refl)

reads_quoted : {m : ℕ} (bytes : List ℕ) → IsName bytes → Reads Stops name (34 ∷ (bytes ++ 34 ∷ [])) (IsNameOf bytes) (Tame m m)
reads_quoted {m} bytes is =
    reads_token (Quoted bytes) (λ at. record { name = bytes; at = at }) (λ rest c. is) (λ at. (refl, inl refl)) (λ at. refl)
    (λ at. tame_token m m (record { at = at; kind = Quoted bytes }) refl refl refl)

pub reads_name : {m : ℕ} (bytes : List ℕ) → IsName bytes → Reads Stops name (name_text bytes) (IsNameOf bytes) (Tame m m)
unfolding name_text
reads_name {m} bytes is = elim (cases_Bool (needs_quotes bytes)) [
  | inl quoted ↦ subst (λ (t : List ℕ). Reads Stops name t (IsNameOf bytes) (Tame m m)) (sym (cond-true (needs_quotes bytes) (34 ∷ (bytes ++ 34 ∷ [])) bytes quoted)) (reads_quoted bytes is)
  | inr bare ↦ subst (λ (t : List ℕ). Reads Stops name t (IsNameOf bytes) (Tame m m)) (sym (cond-false (needs_quotes bytes) (34 ∷ (bytes ++ 34 ∷ [])) bytes bare)) (reads_bare bytes is bare)
]

pub reads_reference : {m : ℕ} (bytes : List ℕ) → IsName bytes → Reads Stops reference (reference_text bytes) (IsNameOf bytes) (Tame m m)
unfolding reference_text
reads_reference {m} bytes is =
    reads_token (Reference bytes) (λ at. record { name = bytes; at = at }) (λ rest c. (is, c)) (λ at. (refl, refl)) (λ at. refl)
    (λ at. tame_token m m (record { at = at; kind = Reference bytes }) refl refl refl)
