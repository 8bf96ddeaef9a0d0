-- How far a text is read.
use Rattle.std.proofs.Common.{◌≡◌, ◌⊎◌, ℕ, zero, suc, ◌+◌, ◌<◌, ◌≤◌, true, List, [], ◌∷◌, ◌++◌, length, drop, Option, Some, None, is_some, refl, sym, ap, ◌∙◌, subst, inl, inr, arith, append-nil, length-append}
use Rattle.std.specs.List.{flat_map}
use Rattle.std.proofs.lemmas.Bool.{cases_lt, false≢true}
use Rattle.std.proofs.lemmas.List.{drop_at}
use Rattle.rela_lex.specs.declared.front.Front.{Front}
use Rattle.rela_lex.specs.declared.token.Token.{Token}
use Rattle.rela_lex.specs.declared.token.TokenKind.{TokenKind}
use Rattle.rela_lex.specs.Spells.{Piece, Blank, Comment, Lexeme, spelling, IsCut, token_of, tokens_at, tokens_from, Spells, IsBadToken, ReachesToken}
use Rattle.rela_lex.specs.Front.{front_of, has_token}
use Rattle.rela_lex.proofs.Fronts.{IsFront, front_read, front_within}
use Rattle.rela_lex.proofs.Cuts.{ends_from_none, length_join, cut_join, tokens_join}

-- a cut reaches the offset, and these are the tokens before it
pub record Reached (text : List ℕ) (at : ℕ) (tokens : List Token) : Type 0 where
  pub pieces : List Piece
  pub rest : List ℕ
  pub cut : IsCut text pieces rest
  pub here : at ≡ length (flat_map spelling pieces)
  pub read : tokens ≡ tokens_from 0 pieces

pub reached_start : (text : List ℕ) → Reached text 0 []
reached_start text = record { pieces = []; rest = text; cut = record { joined = refl; stands = tt }; here = refl; read = refl }

rest_is : (text : List ℕ) (at : ℕ) (tokens : List Token) (so_far : Reached text at tokens) → drop at text ≡ so_far.rest
rest_is text at tokens so_far =
    ap (drop at) so_far.cut.joined ∙ drop_at (flat_map spelling so_far.pieces) so_far.rest at (sym so_far.here)

-- the cut with the piece that comes next
cut_more : (text : List ℕ) (at : ℕ) (tokens : List Token) (front : Front) (so_far : Reached text at tokens) (next : IsFront (drop at text) front)
    → IsCut text (so_far.pieces ++ next.piece ∷ []) next.rest
cut_more text at tokens front so_far next =
    let one : List Piece = next.piece ∷ [] in
    let last : IsCut so_far.rest one next.rest = record {
      joined = sym (rest_is text at tokens so_far) ∙ next.joined ∙ ap (λ (x : List ℕ). x ++ next.rest) (sym (append-nil (spelling next.piece)));
      stands = (next.stands, tt);
    } in
    cut_join text so_far.rest next.rest so_far.pieces one so_far.cut last

pub reached_more : (text : List ℕ) (at : ℕ) (tokens : List Token) (front : Front) → Reached text at tokens → front_of (drop at text) ≡ Some front
    → Reached text (at + front.len) (tokens ++ tokens_at at front.token)
reached_more text at tokens front so_far read =
    let next = front_read (drop at text) front read in
    let ps : List Piece = so_far.pieces in
    let p : Piece = next.piece in
    let one : List Piece = p ∷ [] in
    let len : length (spelling p) ≡ front.len = ap (λ (f : Front). f.len) next.read in
    let token : token_of p ≡ front.token = ap (λ (f : Front). f.token) next.read in
    let here : 0 + length (flat_map spelling ps) ≡ at = omega (arith, so_far.here) in
    record {
      pieces = ps ++ one;
      rest = next.rest;
      cut = cut_more text at tokens front so_far next;
      here = omega (arith, so_far.here, len, length_join ps one, length-append (spelling p) []);
      read =
          ap (λ (x : List Token). x ++ tokens_at at front.token) so_far.read
          ∙ ap (λ (t : Option TokenKind). tokens_from 0 ps ++ tokens_at at t) (sym token)
          ∙ ap (λ (n : ℕ). tokens_from 0 ps ++ tokens_at n (token_of p)) (sym here)
          ∙ ap (λ (x : List Token). tokens_from 0 ps ++ x) (sym (append-nil (tokens_at (0 + length (flat_map spelling ps)) (token_of p))))
          ∙ sym (tokens_join 0 ps one);
    }

ends_in_token : (text : List ℕ) (pieces : List Piece) (piece : Piece) (rest : List ℕ) → IsCut text (pieces ++ piece ∷ []) rest
    → is_some (token_of piece) ≡ true → ReachesToken text
ends_in_token text pieces (Blank byte) rest cut some = absurd (false≢true some)
ends_in_token text pieces (Comment line) rest cut some = absurd (false≢true some)
ends_in_token text pieces (Lexeme kind) rest cut some = record { pieces = pieces; kind = kind; rest = rest; cut = cut }

reached_token_as : (text : List ℕ) (at : ℕ) (tokens : List Token) → Reached text at tokens → (found : Option Front) → front_of (drop at text) ≡ found
    → has_token found ≡ true → ReachesToken text
reached_token_as text at tokens so_far None read some = absurd (false≢true some)
reached_token_as text at tokens so_far (Some front) read some =
    let next = front_read (drop at text) front read in
    let token : token_of next.piece ≡ front.token = ap (λ (f : Front). f.token) next.read in
    ends_in_token text so_far.pieces next.piece next.rest (cut_more text at tokens front so_far next) (ap is_some token ∙ some)

pub reached_token : (text : List ℕ) (at : ℕ) (tokens : List Token) → Reached text at tokens → has_token (front_of (drop at text)) ≡ true → ReachesToken text
reached_token text at tokens so_far some = reached_token_as text at tokens so_far (front_of (drop at text)) refl some

empty_from_length : (xs : List ℕ) → length xs ≡ 0 → xs ≡ []
empty_from_length [] e = refl
empty_from_length (x ∷ xs) e = absurd (omega arith)

pub reached_end : (text : List ℕ) (at : ℕ) (tokens : List Token) → Reached text at tokens → length text ≤ at → Spells text tokens
reached_end text at tokens so_far end =
    let long : length text ≡ length (flat_map spelling so_far.pieces) + length so_far.rest =
    ap length so_far.cut.joined ∙ length-append (flat_map spelling so_far.pieces) so_far.rest in
    let none : so_far.rest ≡ [] = empty_from_length so_far.rest (omega (arith, long, so_far.here)) in
    record { pieces = so_far.pieces; cut = subst (λ (x : List ℕ). IsCut text so_far.pieces x) none so_far.cut; read = so_far.read }

pub reached_fault : (text : List ℕ) (at : ℕ) (tokens : List Token) → Reached text at tokens → at < length text → front_of (drop at text) ≡ None
    → IsBadToken text at
reached_fault text at tokens so_far within none =
    let long : length text ≡ length (flat_map spelling so_far.pieces) + length so_far.rest =
    ap length so_far.cut.joined ∙ length-append (flat_map spelling so_far.pieces) so_far.rest in
    record {
      pieces = so_far.pieces;
      rest = so_far.rest;
      cut = so_far.cut;
      here = so_far.here;
      more = λ e. let nothing : length so_far.rest ≡ 0 = ap length e in absurd (omega (arith, long, so_far.here, nothing));
      none = ends_from_none so_far.rest (ap front_of (sym (rest_is text at tokens so_far)) ∙ none);
    }

abbrev HasReading : List ℕ → Type 0
HasReading text = ((ts : List Token) × Spells text ts) ⊎ ((at : ℕ) × IsBadToken text at)

read_step : (left : ℕ) (text : List ℕ) (at : ℕ) (tokens : List Token) → Reached text at tokens → at < length text → length text ≤ at + suc left
    → ((n : ℕ) (ts : List Token) → Reached text n ts → length text ≤ n + left → HasReading text)
    → (found : Option Front) → front_of (drop at text) ≡ found → HasReading text
read_step left text at tokens so_far within end go None read = inr (at, reached_fault text at tokens so_far within read)
read_step left text at tokens so_far within end go (Some front) read =
    let some = (front_within (drop at text) front read).0 in
    go (at + front.len) (tokens ++ tokens_at at front.token) (reached_more text at tokens front so_far read) (omega (arith, some))

read_on : (left : ℕ) (text : List ℕ) (at : ℕ) (tokens : List Token) → Reached text at tokens → length text ≤ at + left → HasReading text
read_on zero text at tokens so_far end = inl (tokens, reached_end text at tokens so_far (omega arith))
read_on (suc left) text at tokens so_far end =
    elim (cases_lt at (length text)) [
      | inr over ↦ inl (tokens, reached_end text at tokens so_far over)
      | inl within ↦
          read_step left text at tokens so_far within end (λ n ts further far. read_on left text n ts further far) (front_of (drop at text)) refl
    ]

-- each text has tokens or a fault
pub always_read : (text : List ℕ) → ((ts : List Token) × Spells text ts) ⊎ ((at : ℕ) × IsBadToken text at)
always_read text = read_on (length text) text 0 [] (reached_start text) (omega arith)
