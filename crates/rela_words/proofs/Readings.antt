-- The parts that words give, read from the first word on.
use Rattle.std.proofs.Common.{◌≡◌, ℕ, ◌++◌, ◌↔◌, Bool, true, false, List, [], ◌∷◌, Option, Some, None, inl, inr, refl, sym, ap, subst, ◌∙◌, arith}
use Rattle.std.specs.Prelude.{codes, if◌then◌else◌, option_map, option_and_then}
use Rattle.rela_words.specs.Words.{Piece, operand, apart, joined, flag, words_in, operands_in, limits_in, flags_in, AreAfterDashes, Parts, Give, IsPlain, is_plain}
use Rattle.rela_words.proofs.WordKinds.{Word, Kind, Is, kind_of, kind_is, plain_kind}
use Rattle.rela_words.proofs.WordKinds as kind

abbrev pub with_operand : Word → Parts → Parts
with_operand w p = record p { operands = w ∷ p.operands }

abbrev pub with_limit : Word → Parts → Parts
with_limit w p = record p { limits = w ∷ p.limits }

abbrev pub only_operands : List Word → Parts
only_operands ws = record { operands = ws; limits = []; blame = false }

-- with the flag, where it isn't there
abbrev pub flagged : Parts → Option Parts
flagged p = if p.blame then None else Some (record p { blame = true })

-- what words give, by the kind of the first one, and by what those behind it give where it waits for
-- one of them and where not
abbrev pub read_by : Kind → Word → List Word → Option Parts → Option Parts → Option Parts
read_by kind.plain w ws awaiting free = option_map (with_operand w) free
read_by kind.dashes w ws awaiting free = Some (only_operands ws)
read_by kind.states w ws awaiting free = awaiting
read_by (kind.given v) w ws awaiting free = option_map (with_limit v) free
read_by kind.flag w ws awaiting free = option_and_then flagged free
read_by kind.bad w ws awaiting free = None

-- the word is what the option waits for
abbrev pub awaited : Bool → Word → Option Parts → Option Parts
awaited true w free = option_map (with_limit w) free
awaited false w free = None

-- what words give, where an option waits for the first of them, or none does
unfoldable pub reading : Bool → List Word → Option Parts
reading false [] = Some (only_operands [])
reading true [] = None
reading false (w ∷ ws) = read_by (kind_of w) w ws (reading true ws) (reading false ws)
reading true (w ∷ ws) = awaited (is_plain w) w (reading false ws)

-- ---- what pieces give is read

abbrev given : List Piece → List Word → Bool → Parts
given pieces others blame = record {
  operands = operands_in pieces ++ others;
  limits = limits_in pieces;
  blame = blame;
}

reads_tail : (tail others : List Word) → AreAfterDashes tail others → (b : Bool) → ◌≡◌ {A = ℕ} 0 (if b then 1 else 0) → reading false tail ≡ Some (given [] others b)
unfolding reading kind_of
reads_tail tail others after true e = absurd (omega (arith, e))
reads_tail tail others (inl none) false e = ap (reading false) none.0 ∙ ap (λ o. Some (only_operands o)) (sym none.1)
reads_tail tail others (inr some) false e = ap (reading false) some

reads_pieces : (pieces : List Piece) (tail others : List Word) → AreAfterDashes tail others → (b : Bool) → flags_in pieces ≡ (if b then 1 else 0)
    → reading false (words_in pieces ++ tail) ≡ Some (given pieces others b)
unfolding reading kind_of
reads_pieces [] tail others after b e = reads_tail tail others after b e
reads_pieces (operand w plain ∷ pieces) tail others after b e =
    let rest = words_in pieces ++ tail in
    ap (λ k. read_by k w rest (reading true rest) (reading false rest)) (plain_kind w plain)
    ∙ ap (option_map (with_operand w)) (reads_pieces pieces tail others after b e)
reads_pieces (apart n plain ∷ pieces) tail others after b e =
    ap (λ k. awaited k n (reading false (words_in pieces ++ tail))) plain ∙ ap (option_map (with_limit n)) (reads_pieces pieces tail others after b e)
reads_pieces (joined n ∷ pieces) tail others after b e = ap (option_map (with_limit n)) (reads_pieces pieces tail others after b e)
reads_pieces (flag ∷ pieces) tail others after true e = ap (option_and_then flagged) (reads_pieces pieces tail others after false (omega (arith, e)))
reads_pieces (flag ∷ pieces) tail others after false e = absurd (omega (arith, e))

same_parts : (p q : Parts) → p.operands ≡ q.operands → p.limits ≡ q.limits → p.blame ≡ q.blame → p ≡ q
same_parts p q operands limits blame = λ i. record { operands = operands i; limits = limits i; blame = blame i }

given_read : (words : List Word) (p : Parts) → Give words p → reading false words ≡ Some p
given_read words p g =
    ap (reading false) g.are_words ∙ reads_pieces g.pieces g.tail g.others g.after_dashes p.blame g.is_flag
    ∙ ap Some (same_parts (given g.pieces g.others p.blame) p (sym g.are_operands) (sym g.are_limits) refl)

-- ---- what is read is given by pieces

nothing_gives : Give [] (only_operands [])
nothing_gives = record {
  pieces = [];
  tail = [];
  others = [];
  are_words = refl;
  after_dashes = inl (refl, refl);
  are_operands = refl;
  are_limits = refl;
  is_flag = refl;
}

dashes_give : (ws : List Word) → Give (codes "--" ∷ ws) (only_operands ws)
dashes_give ws = record {
  pieces = [];
  tail = codes "--" ∷ ws;
  others = ws;
  are_words = refl;
  after_dashes = inr refl;
  are_operands = refl;
  are_limits = refl;
  is_flag = refl;
}

module _ (ws : List Word) (p : Parts) (g : Give ws p) where
  operand_gives : (w : Word) → IsPlain w → Give (w ∷ ws) (with_operand w p)
  operand_gives w plain = record {
    pieces = operand w plain ∷ g.pieces;
    tail = g.tail;
    others = g.others;
    are_words = ap (λ l. w ∷ l) g.are_words;
    after_dashes = g.after_dashes;
    are_operands = ap (λ l. w ∷ l) g.are_operands;
    are_limits = g.are_limits;
    is_flag = g.is_flag;
  }

  apart_gives : (w : Word) → IsPlain w → Give (codes "--states" ∷ w ∷ ws) (with_limit w p)
  apart_gives w plain = record {
    pieces = apart w plain ∷ g.pieces;
    tail = g.tail;
    others = g.others;
    are_words = ap (λ l. codes "--states" ∷ w ∷ l) g.are_words;
    after_dashes = g.after_dashes;
    are_operands = g.are_operands;
    are_limits = ap (λ l. w ∷ l) g.are_limits;
    is_flag = g.is_flag;
  }

  joined_gives : (w : Word) → Give ((codes "--states=" ++ w) ∷ ws) (with_limit w p)
  joined_gives w = record {
    pieces = joined w ∷ g.pieces;
    tail = g.tail;
    others = g.others;
    are_words = ap (λ l. (codes "--states=" ++ w) ∷ l) g.are_words;
    after_dashes = g.after_dashes;
    are_operands = g.are_operands;
    are_limits = ap (λ l. w ∷ l) g.are_limits;
    is_flag = g.is_flag;
  }

  flag_gives : p.blame ≡ false → Give (codes "--blame" ∷ ws) (record p { blame = true })
  flag_gives none = record {
    pieces = flag ∷ g.pieces;
    tail = g.tail;
    others = g.others;
    are_words = ap (λ l. codes "--blame" ∷ l) g.are_words;
    after_dashes = g.after_dashes;
    are_operands = g.are_operands;
    are_limits = g.are_limits;
    is_flag = (let no_more : flags_in g.pieces ≡ 0 = g.is_flag ∙ ap (λ b. if b then 1 else 0) none in omega (arith, no_more));
  }

mapped : {X : Type 0} (f : X → Parts) (o : Option X) (p : Parts) → option_map f o ≡ Some p → (q : X) × (o ≡ Some q) × (f q ≡ p)
mapped f (Some q) p e = (q, refl, let same : f q ≡ p = cc in same)
mapped f None p e = absurd (cc)

flagged_from : (o : Option Parts) (p : Parts) → option_and_then flagged o ≡ Some p → (q : Parts) × (o ≡ Some q) × (q.blame ≡ false) × (record q { blame = true } ≡ p)
flagged_from None p e = absurd (cc)
flagged_from (Some q) p e = by q.blame refl e
  where
    by : (b : Bool) → q.blame ≡ b → (if b then None else Some (record q { blame = true })) ≡ Some p
        → (r : Parts) × (Some q ≡ Some r) × (r.blame ≡ false) × (record r { blame = true } ≡ p)
    by true is e = absurd (cc)
    by false is e = (q, refl, is, (let same : record q { blame = true } ≡ p = cc in same))

abbrev behind_option : Bool → List Word → List Word
behind_option false ws = ws
behind_option true ws = codes "--states" ∷ ws

-- what those behind the first word give
abbrev Reads : Bool → List Word → Type 0
Reads waits ws = (p : Parts) → reading waits ws ≡ Some p → Give (behind_option waits ws) p

module _ (w : Word) (ws : List Word) (p : Parts) (awaiting : Reads true ws) (free : Reads false ws) where
  awaited_gives : (b : Bool) → is_plain w ≡ b → awaited b w (reading false ws) ≡ Some p → Give (codes "--states" ∷ w ∷ ws) p
  awaited_gives true plain e =
      let from = mapped (with_limit w) (reading false ws) p e in
      subst (λ (q : Parts). Give (codes "--states" ∷ w ∷ ws) q) from.2 (apart_gives ws from.0 (free from.0 from.1) w plain)
  awaited_gives false plain e = absurd (cc)

  kind_gives : (k : Kind) → Is k w → read_by k w ws (reading true ws) (reading false ws) ≡ Some p → Give (w ∷ ws) p
  kind_gives kind.plain is e =
      let from = mapped (with_operand w) (reading false ws) p e in
      subst (λ (q : Parts). Give (w ∷ ws) q) from.2 (operand_gives ws from.0 (free from.0 from.1) w is)
  kind_gives kind.dashes is e =
      let same : only_operands ws ≡ p = cc in
      subst (λ (q : Parts). Give (w ∷ ws) q) same (subst (λ (v : Word). Give (v ∷ ws) (only_operands ws)) (sym is) (dashes_give ws))
  kind_gives kind.states is e = subst (λ (v : Word). Give (v ∷ ws) p) (sym is) (awaiting p e)
  kind_gives (kind.given v) is e =
      let from = mapped (with_limit v) (reading false ws) p e in
      subst (λ (q : Parts). Give (w ∷ ws) q) from.2 (subst (λ (x : Word). Give (x ∷ ws) (with_limit v from.0)) (sym is) (joined_gives ws from.0 (free from.0 from.1) v))
  kind_gives kind.flag is e =
      let from = flagged_from (reading false ws) p e in
      subst (λ (q : Parts). Give (w ∷ ws) q) from.3
      (subst (λ (x : Word). Give (x ∷ ws) (record from.0 { blame = true })) (sym is) (flag_gives ws from.0 (free from.0 from.1) from.2))
  kind_gives kind.bad is e = absurd (cc)

reads : (waits : Bool) (words : List Word) → Reads waits words
unfolding reading
reads false [] p e =
    let same : only_operands [] ≡ p = cc in
    subst (λ (q : Parts). Give [] q) same nothing_gives
reads true [] p e = absurd (cc)
reads true (w ∷ ws) p e = awaited_gives w ws p (reads true ws) (reads false ws) (is_plain w) refl e
reads false (w ∷ ws) p e = kind_gives w ws p (reads true ws) (reads false ws) (kind_of w) (kind_is w) e

-- the words give just what is read
pub give_read : (words : List Word) (p : Parts) → Give words p ↔ (reading false words ≡ Some p)
give_read words p = (λ g. given_read words p g, λ e. reads false words p e)
