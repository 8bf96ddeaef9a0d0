-- The cuts of a text: they join, and all that go as far as they can say the same.
use Rattle.std.proofs.Common.{◌≡◌, ℕ, ◌+◌, List, [], ◌∷◌, ◌++◌, length, drop, Some, None, refl, sym, ap, ◌∙◌, subst, arith, append_assoc, length-append, add-zero}
use Rattle.std.proofs.lemmas.Grind.{flat_map-append}
use Rattle.std.specs.List.{flat_map}
use Rattle.std.proofs.lemmas.List.{drop_at}
use Rattle.rela_lex.specs.declared.front.Front.{Front}
use Rattle.rela_lex.specs.declared.token.Token.{Token}
use Rattle.rela_lex.specs.Spells.{Piece, spelling, Stands, EachStands, IsCut, token_of, tokens_at, tokens_from, Spells, IsBadToken}
use Rattle.rela_lex.specs.Front.{front_of}
use Rattle.rela_lex.proofs.Fronts.{front_for, front_is}

-- no piece begins the text
abbrev pub Ends : List ℕ → Type 0
Ends text = (piece : Piece) (after : List ℕ) → text ≡ spelling piece ++ after → ¬ Stands piece after

pub ends_from_none : (text : List ℕ) → front_of text ≡ None → Ends text
ends_from_none text none piece after e stands =
    let some : front_of text ≡ Some (front_for piece) = ap front_of e ∙ front_is piece after stands in
    let never : None ≡ Some (front_for piece) = sym none ∙ some in
    cc

ends_empty : Ends []
unfolding front_of
ends_empty = ends_from_none [] refl

-- two pieces at one place
same_front : (p q : Piece) (x y : List ℕ) → spelling p ++ x ≡ spelling q ++ y → Stands p x → Stands q y → front_for p ≡ front_for q
same_front p q x y e stands_p stands_q =
    let some : Some (front_for p) ≡ Some (front_for q) = sym (front_is p x stands_p) ∙ ap front_of e ∙ front_is q y stands_q in
    cc

same_rest : (a b x y : List ℕ) → a ++ x ≡ b ++ y → length a ≡ length b → x ≡ y
same_rest a b x y e len =
    sym (drop_at a x (length a) refl) ∙ ap (drop (length a)) e ∙ drop_at b y (length a) (sym len)

-- two cuts of a text, each as far as it goes
same_cut : (ps qs : List Piece) (x y : List ℕ) (at : ℕ) → EachStands ps x → EachStands qs y → flat_map spelling ps ++ x ≡ flat_map spelling qs ++ y
    → Ends x → Ends y → (tokens_from at ps ≡ tokens_from at qs) × (length (flat_map spelling ps) ≡ length (flat_map spelling qs)) × (x ≡ y)
same_cut [] [] x y at stands_p stands_q e end_x end_y = (refl, refl, e)
same_cut [] (q ∷ qs) x y at stands_p stands_q e end_x end_y =
    absurd (end_x q (flat_map spelling qs ++ y) (e ∙ append_assoc (spelling q) (flat_map spelling qs) y) stands_q.0)
same_cut (p ∷ ps) [] x y at stands_p stands_q e end_x end_y =
    absurd (end_y p (flat_map spelling ps ++ x) (sym e ∙ append_assoc (spelling p) (flat_map spelling ps) x) stands_p.0)
same_cut (p ∷ ps) (q ∷ qs) x y at stands_p stands_q e end_x end_y =
    let here : spelling p ++ (flat_map spelling ps ++ x) ≡ spelling q ++ (flat_map spelling qs ++ y) =
    sym (append_assoc (spelling p) (flat_map spelling ps) x) ∙ e ∙ append_assoc (spelling q) (flat_map spelling qs) y in
    let front = same_front p q _ _ here stands_p.0 stands_q.0 in
    let token : token_of p ≡ token_of q = ap (λ (f : Front). f.token) front in
    let len : length (spelling p) ≡ length (spelling q) = ap (λ (f : Front). f.len) front in
    let later = same_cut ps qs x y (at + length (spelling p)) stands_p.1 stands_q.1 (same_rest (spelling p) (spelling q) _ _ here len) end_x end_y in
    let tokens : tokens_from at (p ∷ ps) ≡ tokens_from at (q ∷ qs) = let more = later.0 in cc in
    (tokens, omega (arith, length-append (spelling p) (flat_map spelling ps), length-append (spelling q) (flat_map spelling qs), len, later.1), later.2)

pub same_tokens : (text : List ℕ) (ts us : List Token) → Spells text ts → Spells text us → ts ≡ us
same_tokens text ts us first second =
    first.read
    ∙ (same_cut first.pieces second.pieces [] [] 0 first.cut.stands second.cut.stands (sym first.cut.joined ∙ second.cut.joined) ends_empty ends_empty).0
    ∙ sym second.read

pub spelled_has_no_fault : (text : List ℕ) (ts : List Token) (at : ℕ) → Spells text ts → ¬ IsBadToken text at
spelled_has_no_fault text ts at whole bad =
    bad.more (sym (same_cut whole.pieces bad.pieces [] bad.rest 0 whole.cut.stands bad.cut.stands (sym whole.cut.joined ∙ bad.cut.joined) ends_empty bad.none).2)

pub same_fault : (text : List ℕ) (a b : ℕ) → IsBadToken text a → IsBadToken text b → a ≡ b
same_fault text a b first second =
    first.here
    ∙ (same_cut first.pieces second.pieces first.rest second.rest 0 first.cut.stands second.cut.stands (sym first.cut.joined ∙ second.cut.joined) first.none second.none).1
    ∙ sym second.here

spelling_join : (ps qs : List Piece) (rest : List ℕ) → flat_map spelling (ps ++ qs) ++ rest ≡ flat_map spelling ps ++ (flat_map spelling qs ++ rest)
spelling_join [] qs rest = refl
spelling_join (p ∷ ps) qs rest =
    append_assoc (spelling p) (flat_map spelling (ps ++ qs)) rest
    ∙ ap (λ (x : List ℕ). spelling p ++ x) (spelling_join ps qs rest)
    ∙ sym (append_assoc (spelling p) (flat_map spelling ps) (flat_map spelling qs ++ rest))

pub length_join : (ps qs : List Piece) → length (flat_map spelling (ps ++ qs)) ≡ length (flat_map spelling ps) + length (flat_map spelling qs)
length_join ps qs = ap length (flat_map-append spelling ps qs) ∙ length-append (flat_map spelling ps) (flat_map spelling qs)

stands_join : (ps qs : List Piece) (rest : List ℕ) → EachStands ps (flat_map spelling qs ++ rest) → EachStands qs rest → EachStands (ps ++ qs) rest
stands_join [] qs rest each later = later
stands_join (p ∷ ps) qs rest each later =
    (subst (λ (x : List ℕ). Stands p x) (sym (spelling_join ps qs rest)) each.0, stands_join ps qs rest each.1 later)

pub cut_join : (text rest after : List ℕ) (ps qs : List Piece) → IsCut text ps rest → IsCut rest qs after → IsCut text (ps ++ qs) after
cut_join text rest after ps qs first second = record {
  joined = first.joined ∙ ap (λ (x : List ℕ). flat_map spelling ps ++ x) second.joined ∙ sym (spelling_join ps qs after);
  stands = stands_join ps qs after (subst (λ (x : List ℕ). EachStands ps x) second.joined first.stands) second.stands;
}

pub tokens_join : (at : ℕ) (ps qs : List Piece)
    → tokens_from at (ps ++ qs) ≡ tokens_from at ps ++ tokens_from (at + length (flat_map spelling ps)) qs
tokens_join at [] qs = ap (λ (n : ℕ). tokens_from n qs) (sym (add-zero at))
tokens_join at (p ∷ ps) qs =
    let next : ℕ = at + length (spelling p) in
    let there : next + length (flat_map spelling ps) ≡ at + length (spelling p ++ flat_map spelling ps) =
    omega (arith, length-append (spelling p) (flat_map spelling ps)) in
    ap (λ (x : List Token). tokens_at at (token_of p) ++ x) (tokens_join next ps qs ∙ ap (λ (n : ℕ). tokens_from next ps ++ tokens_from n qs) there)
    ∙ sym (append_assoc (tokens_at at (token_of p)) (tokens_from next ps) (tokens_from (at + length (spelling p ++ flat_map spelling ps)) qs))
