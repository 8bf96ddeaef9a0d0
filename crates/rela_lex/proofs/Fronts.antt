-- The front of a text is the one piece that begins there.
use Rattle.std.proofs.Common.{◌≡◌, ℕ, ◌+◌, ◌<◌, ◌≤◌, Bool, true, false, cond, ◌&&◌, ◌==◌, ◌⊎◌, nat_le, List, [], ◌∷◌, ◌++◌, length, take, drop, Option, Some, None, slice_index, refl, sym, ap, ◌∙◌, subst, inl, inr, arith, one-add, append_assoc, codes}
use Rattle.std.specs.List.{list_all, prefix_len}
use Rattle.std.specs.Str.{bytes_eq}
use Rattle.std.proofs.lemmas.Bool.{and_parts, or_cases, eqb-true, false≢true}
use Rattle.std.proofs.lemmas.List.{take_at, drop_at, take-append-drop, length-append}
use Rattle.std.proofs.lemmas.List.Folds.{length-prefix_len}
use Rattle.std.proofs.lemmas.Slice.Eq.{bytes_eq-Decides}
use Rattle.rela_names.specs.Name.{is_name_byte, is_name, IsName}
use Rattle.rela_lex.specs.declared.front.Front.{Front}
use Rattle.rela_lex.specs.declared.token.TokenKind.{TokenKind}
use Rattle.rela_lex.specs.declared.token.TokenKind.TheVariants.{Mark, Bare, Quoted, Reference}
use Rattle.rela_lex.specs.Spells.{Piece, Blank, Comment, Lexeme, is_blank, is_mark, is_lone_mark, is_within_line, StopsBefore, spelling, Stands, token_of}
use Rattle.rela_lex.specs.Front.{begins_with, named, quoted_front, reference_front, bare_front, front_of}
use Rattle.rela_lex.proofs.Runs.{run_is, run_passes, run_stops}
use Rattle.rela_lex.proofs.Bytes.{name_byte_is_other, mark_is_other, mark_is_no_name_byte}

-- the piece as it is read
abbrev pub front_for : Piece → Front
front_for piece = record { token = token_of piece; len = length (spelling piece) }

name_bytes : (name : List ℕ) → IsName name → list_all is_name_byte name ≡ true
name_bytes name holds =
    (and_parts (nat_le 1 (length name) && nat_le (length name) 64) (list_all is_name_byte name) holds).1

-- a name is read as the token of its kind
named_is : (kind : List ℕ → TokenKind) (name : List ℕ) (len more : ℕ) → IsName name → len ≡ more
    → named kind name len ≡ Some (record { token = Some (kind name); len = more })
named_is kind name len more holds e = rw (e, holds) refl

other_is_bare_front : (byte : ℕ) (rest : List ℕ) → is_name_byte byte ≡ true → front_of (byte ∷ rest) ≡ bare_front (byte ∷ rest)
unfolding front_of
other_is_bare_front byte rest holds =
    let other = name_byte_is_other byte holds in
    rw (other.blank, other.hash, other.quote, other.dollar, holds) refl

bare_is : (name rest : List ℕ) → IsName name → is_lone_mark name ≡ false → StopsBefore is_name_byte rest
    → bare_front (name ++ rest) ≡ Some (front_for (Lexeme (Bare name)))
unfolding bare_front
bare_is name rest holds word stops =
    let len : prefix_len is_name_byte (name ++ rest) ≡ length name = run_is is_name_byte name rest (name_bytes name holds) stops in
    rw (len, take_at name rest (length name) refl, word) (named_is Bare name (length name) (length name) holds refl)

lone_mark_is : (byte : ℕ) (rest : List ℕ) → is_name_byte byte ≡ true → is_lone_mark (byte ∷ []) ≡ true → StopsBefore is_name_byte rest
    → bare_front (byte ∷ rest) ≡ Some (front_for (Lexeme (Mark byte)))
unfolding bare_front
lone_mark_is byte rest holds lone stops =
    let len : prefix_len is_name_byte ((byte ∷ []) ++ rest) ≡ length (byte ∷ []) = run_is is_name_byte (byte ∷ []) rest (rw holds refl) stops in
    rw (len, lone) refl

lone_mark_is_name_byte : (byte : ℕ) → is_lone_mark (byte ∷ []) ≡ true → is_name_byte byte ≡ true
lone_mark_is_name_byte byte lone =
    elim (or_cases (bytes_eq (byte ∷ []) (codes ".")) (bytes_eq (byte ∷ []) (codes ":")) lone) [
      | inl dot ↦ let e : byte ≡ 46 = let same = (bytes_eq-Decides (byte ∷ []) (codes ".")).0 dot in cc in rw e refl
      | inr colon ↦ let e : byte ≡ 58 = let same = (bytes_eq-Decides (byte ∷ []) (codes ":")).0 colon in cc in rw e refl
    ]

quoted_is : (name rest : List ℕ) → IsName name → quoted_front (name ++ 34 ∷ rest) ≡ Some (front_for (Lexeme (Quoted name)))
unfolding quoted_front
quoted_is name rest holds =
    let len : prefix_len is_name_byte (name ++ 34 ∷ rest) ≡ length name = run_is is_name_byte name (34 ∷ rest) (name_bytes name holds) refl in
    rw (len, take_at name (34 ∷ rest) (length name) refl, drop_at name (34 ∷ rest) (length name) refl)
    (named_is Quoted name (length name + 2) (length (spelling (Lexeme (Quoted name)))) holds (omega (arith, length-append name (34 ∷ []))))

reference_is : (name rest : List ℕ) → IsName name → StopsBefore is_name_byte rest
    → reference_front (name ++ rest) ≡ Some (front_for (Lexeme (Reference name)))
unfolding reference_front
reference_is name rest holds stops =
    let len : prefix_len is_name_byte (name ++ rest) ≡ length name = run_is is_name_byte name rest (name_bytes name holds) stops in
    rw (len, take_at name rest (length name) refl)
    (named_is Reference name (length name + 1) (length (spelling (Lexeme (Reference name)))) holds (omega arith))

-- what begins a text is read
pub front_is : (piece : Piece) (rest : List ℕ) → Stands piece rest → front_of (spelling piece ++ rest) ≡ Some (front_for piece)
unfolding front_of
front_is (Blank byte) rest stands = rw stands refl
front_is (Comment line) rest stands =
    let len : prefix_len is_within_line (line ++ rest) ≡ length line = run_is is_within_line line rest stands.0 stands.1 in
    rw (len, one-add) refl
front_is (Lexeme (Mark byte)) rest (inl mark) =
    let other = mark_is_other byte mark in
    rw (other.blank, other.hash, other.quote, other.dollar, mark_is_no_name_byte byte mark, mark) refl
front_is (Lexeme (Mark byte)) rest (inr lone) =
    let holds = lone_mark_is_name_byte byte lone.0 in
    other_is_bare_front byte rest holds ∙ lone_mark_is byte rest holds lone.0 lone.1
front_is (Lexeme (Bare [])) rest stands = absurd (false≢true stands.0)
front_is (Lexeme (Bare (byte ∷ name))) rest stands =
    let all = and_parts (is_name_byte byte) (list_all is_name_byte name) (name_bytes (byte ∷ name) stands.0) in
    other_is_bare_front byte (name ++ rest) all.0 ∙ bare_is (byte ∷ name) rest stands.0 stands.1 stands.2
front_is (Lexeme (Quoted name)) rest stands =
    ap quoted_front (append_assoc name (34 ∷ []) rest) ∙ quoted_is name rest stands
front_is (Lexeme (Reference name)) rest stands = reference_is name rest stands.0 stands.1

-- A piece that begins a text, as it is read.
pub record IsFront (text : List ℕ) (front : Front) : Type 0 where
  pub piece : Piece
  pub rest : List ℕ
  pub joined : text ≡ spelling piece ++ rest
  pub stands : Stands piece rest
  pub read : front_for piece ≡ front

-- which way a test went
chosen : {X : Type 0} (b : Bool) (x y z : X) → cond b x y ≡ z → ((b ≡ true) × (x ≡ z)) ⊎ ((b ≡ false) × (y ≡ z))
chosen true x y z e = inl (refl, e)
chosen false x y z e = inr (refl, e)

same_some : {X : Type 0} (x y : X) → Some x ≡ Some y → x ≡ y
same_some x y e = cc

named_read : (kind : List ℕ → TokenKind) (name : List ℕ) (len : ℕ) (front : Front) → named kind name len ≡ Some front
    → IsName name × (record { token = Some (kind name); len = len } ≡ front)
named_read kind name len front e =
    let made : Front = record { token = Some (kind name); len = len } in
    elim (chosen (is_name name) (Some made) None (Some front) e) [
      | inl w ↦ (w.0, same_some made front w.1)
      | inr w ↦ absurd (let never = w.1 in cc)
    ]

lone_mark_is_one : (run : List ℕ) → is_lone_mark run ≡ true → run ≡ slice_index run 0 ∷ []
lone_mark_is_one run lone =
    elim (or_cases (bytes_eq run (codes ".")) (bytes_eq run (codes ":")) lone) [
      | inl dot ↦ rw ((bytes_eq-Decides run (codes ".")).0 dot) refl
      | inr colon ↦ rw ((bytes_eq-Decides run (codes ":")).0 colon) refl
    ]

bare_read : (text : List ℕ) (front : Front) → bare_front text ≡ Some front → IsFront text front
unfolding bare_front
bare_read text front e =
    let len : ℕ = prefix_len is_name_byte text in
    let run : List ℕ = take len text in
    let mark : Front = record { token = Some (Mark (slice_index run 0)); len = 1 } in
    let joined : text ≡ run ++ drop len text = sym (take-append-drop len text) in
    elim (chosen (is_lone_mark run) (Some mark) (named Bare run len) (Some front) e) [
      | inl w ↦
          let one : run ≡ slice_index run 0 ∷ [] = lone_mark_is_one run w.0 in
          record {
            piece = Lexeme (Mark (slice_index run 0));
            rest = drop len text;
            joined = joined ∙ ap (λ (x : List ℕ). x ++ drop len text) one;
            stands = inr (subst (λ (x : List ℕ). is_lone_mark x ≡ true) one w.0, run_stops is_name_byte text);
            read = same_some mark front w.1;
          }
      | inr w ↦
          let name = named_read Bare run len front w.1 in
          let make : ℕ → Front = λ n. record { token = Some (Bare run); len = n } in
          record {
            piece = Lexeme (Bare run);
            rest = drop len text;
            joined = joined;
            stands = (name.0, w.0, run_stops is_name_byte text);
            read = ap make (length-prefix_len is_name_byte text) ∙ name.1;
          }
    ]

begins_read : (byte : ℕ) (text : List ℕ) → begins_with byte text ≡ true → (rest : List ℕ) × (text ≡ byte ∷ rest)
begins_read byte [] e = absurd (false≢true e)
begins_read byte (first ∷ rest) e = (rest, ap (λ (x : ℕ). x ∷ rest) (eqb-true first byte e))

quoted_read : (text : List ℕ) (front : Front) → quoted_front text ≡ Some front → IsFront (34 ∷ text) front
unfolding quoted_front
quoted_read text front e =
    let len : ℕ = prefix_len is_name_byte text in
    let run : List ℕ = take len text in
    elim (chosen (begins_with 34 (drop len text)) (named Quoted run (len + 2)) None (Some front) e) [
      | inl w ↦
          let quote = begins_read 34 (drop len text) w.0 in
          let name = named_read Quoted run (len + 2) front w.1 in
          let make : ℕ → Front = λ n. record { token = Some (Quoted run); len = n } in
          let joined : text ≡ run ++ 34 ∷ quote.0 = sym (take-append-drop len text) ∙ ap (λ (x : List ℕ). run ++ x) quote.1 in
          let long : length (34 ∷ (run ++ 34 ∷ [])) ≡ len + 2 = omega (arith, length-append run (34 ∷ []), length-prefix_len is_name_byte text) in
          record {
            piece = Lexeme (Quoted run);
            rest = quote.0;
            joined = ap (λ (x : List ℕ). 34 ∷ x) (joined ∙ sym (append_assoc run (34 ∷ []) quote.0));
            stands = name.0;
            read = ap make long ∙ name.1;
          }
      | inr w ↦ absurd (let never = w.1 in cc)
    ]

reference_read : (text : List ℕ) (front : Front) → reference_front text ≡ Some front → IsFront (36 ∷ text) front
unfolding reference_front
reference_read text front e =
    let len : ℕ = prefix_len is_name_byte text in
    let run : List ℕ = take len text in
    let name = named_read Reference run (len + 1) front e in
    let make : ℕ → Front = λ n. record { token = Some (Reference run); len = n } in
    let long : length (36 ∷ run) ≡ len + 1 = omega (arith, length-prefix_len is_name_byte text) in
    record {
      piece = Lexeme (Reference run);
      rest = drop len text;
      joined = ap (λ (x : List ℕ). 36 ∷ x) (sym (take-append-drop len text));
      stands = (name.0, run_stops is_name_byte text);
      read = ap make long ∙ name.1;
    }

comment_read : (text : List ℕ) (front : Front) → record { token = None; len = 1 + prefix_len is_within_line text } ≡ front
    → IsFront (35 ∷ text) front
comment_read text front e =
    let len : ℕ = prefix_len is_within_line text in
    let make : ℕ → Front = λ n. record { token = None; len = n } in
    let long : length (35 ∷ take len text) ≡ 1 + len = omega (arith, length-prefix_len is_within_line text) in
    record {
      piece = Comment (take len text);
      rest = drop len text;
      joined = ap (λ (x : List ℕ). 35 ∷ x) (sym (take-append-drop len text));
      stands = (run_passes is_within_line text, run_stops is_within_line text);
      read = ap make long ∙ e;
    }

-- what is read begins the text
pub front_read : (text : List ℕ) (front : Front) → front_of text ≡ Some front → IsFront text front
unfolding front_of
front_read [] front e = absurd (let never = e in cc)
front_read (byte ∷ rest) front e =
    let one : Option TokenKind → Front = λ token. record { token = token; len = 1 } in
    elim (chosen (is_blank byte) _ _ (Some front) e) [
      | inl w ↦ record { piece = Blank byte; rest = rest; joined = refl; stands = w.0; read = same_some (one None) front w.1 }
      | inr w ↦ elim (chosen (byte == 35) _ _ (Some front) w.1) [
        | inl hash ↦
            let comment = comment_read rest front (same_some _ front hash.1) in
            subst (λ (x : ℕ). IsFront (x ∷ rest) front) (sym (eqb-true byte 35 hash.0)) comment
        | inr v ↦ elim (chosen (byte == 34) _ _ (Some front) v.1) [
          | inl quote ↦ subst (λ (x : ℕ). IsFront (x ∷ rest) front) (sym (eqb-true byte 34 quote.0)) (quoted_read rest front quote.1)
          | inr u ↦ elim (chosen (byte == 36) _ _ (Some front) u.1) [
            | inl dollar ↦
                subst (λ (x : ℕ). IsFront (x ∷ rest) front) (sym (eqb-true byte 36 dollar.0)) (reference_read rest front dollar.1)
            | inr t ↦ elim (chosen (is_name_byte byte) _ _ (Some front) t.1) [
              | inl name ↦ bare_read (byte ∷ rest) front name.1
              | inr s ↦ elim (chosen (is_mark byte) _ _ (Some front) s.1) [
                | inl mark ↦
                    record { piece = Lexeme (Mark byte); rest = rest; joined = refl; stands = inl mark.0; read = same_some (one (Some (Mark byte))) front mark.1 }
                | inr none ↦ absurd (let never = none.1 in cc)
              ]
            ]
          ]
        ]
      ]
    ]

spelling_has_a_byte : (piece : Piece) (rest : List ℕ) → Stands piece rest → 0 < length (spelling piece)
spelling_has_a_byte (Blank byte) rest stands = omega arith
spelling_has_a_byte (Comment line) rest stands = omega arith
spelling_has_a_byte (Lexeme (Mark byte)) rest stands = omega arith
spelling_has_a_byte (Lexeme (Bare [])) rest stands = absurd (false≢true stands.0)
spelling_has_a_byte (Lexeme (Bare (byte ∷ name))) rest stands = omega arith
spelling_has_a_byte (Lexeme (Quoted name)) rest stands = omega arith
spelling_has_a_byte (Lexeme (Reference name)) rest stands = omega arith

pub front_within : (text : List ℕ) (front : Front) → front_of text ≡ Some front → (0 < front.len) × (front.len ≤ length text)
front_within text front e =
    let piece = front_read text front e in
    let len : length (spelling piece.piece) ≡ front.len = ap (λ (f : Front). f.len) piece.read in
    let long : length text ≡ length (spelling piece.piece) + length piece.rest =
    ap length piece.joined ∙ length-append (spelling piece.piece) piece.rest in
    let some = spelling_has_a_byte piece.piece piece.rest piece.stands in
    (omega (arith, some, len), omega (arith, long, len))
