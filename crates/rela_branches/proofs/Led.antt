-- Where words lead in a word.
use Rattle.std.proofs.Common.{◌≡◌, ℕ, ◌+◌, ◌<◌, ◌≤◌, ◌↔◌, ◌⊎◌, Bool, true, false, List, [], ◌∷◌, ◌++◌, length, take, drop, inl, inr, arith, refl, sym, ap, subst, ◌∙◌, length-append, append_assoc}
use Rattle.std.specs.Prelude.{MatchBool}
use Rattle.std.specs.List.{All, concat}
use Rattle.std.proofs.lemmas.Bool.{cases_lt}
use Rattle.std.proofs.lemmas.List.{append-nil, get_or_past, length-take-le, take-append-drop}
use Rattle.std.proofs.lemmas.List.Elements.{All-nil, All-cons, All-head, All-tail}
use Rattle.std.proofs.lemmas.List.FromFn.{get_or-map-range_with_len, length-map-range_with_len}
use Rattle.std.proofs.Math.Seq.{drop-append_seam, take-append_seam}
use Rattle.rela_rir.specs.Words.{Concatenation, Star}
use Rattle.rela_branches.specs.Places.{AreBelow, AreJoined, AreKept, AreNext, AreReached, Chain, Each, Has, Leads}
use Rattle.rela_branches.specs.Walks.{Arrives, IsLed, singles}
use Rattle.rela_branches.proofs.Eaches.{at}
use Rattle.rela_branches.proofs.Members.{follow, has_below}

abbrev pub WordSet : Type 1
WordSet = List ℕ → Type 0

pub alone : (i j : ℕ) → Has (i ∷ []) j → j ≡ i
alone i j (inl e) = e
alone i j (inr none) = absurd none

-- two ways to split a word at one place are one
pub same_front : (a b c d : List ℕ) → a ++ b ≡ c ++ d → length a ≡ length c → a ≡ c
same_front a b c d e l =
    sym (take-append_seam a b) ∙ ap (take (length a)) e ∙ ap (λ (n : ℕ). take n (c ++ d)) l ∙ take-append_seam c d

pub same_rest : (a b c d : List ℕ) → a ++ b ≡ c ++ d → length a ≡ length c → b ≡ d
same_rest a b c d e l =
    sym (drop-append_seam a b) ∙ ap (drop (length a)) e ∙ ap (λ (n : ℕ). drop n (c ++ d)) l ∙ drop-append_seam c d

module _ (word : List ℕ) where
  -- a front of the word that ends at the place
  pub front_at : (i : ℕ) → i < length word + 1 → (front : List ℕ) × (rest : List ℕ) × (word ≡ front ++ rest) × (length front ≡ i)
  front_at i inside = (take i word, drop i word, sym (take-append-drop i word), length-take-le i word (omega arith))

  pub within : (front rest : List ℕ) → word ≡ front ++ rest → length front < length word + 1
  within front rest split = let long : length word ≡ length front + length rest = ap length split ∙ length-append front rest in omega arith

  pub led_same : (X Y : WordSet) (from to : List ℕ) → ((w : List ℕ) → X w ↔ Y w) → IsLed word X from to → IsLed word Y from to
  led_same X Y from to same led = record {
    below = led.below;
    has = λ front rest split. follow (led.has front rest split) (
      λ a. record { start = a.start; piece = a.piece; joined = a.joined; begun = a.begun; in_set = (same a.piece).0 a.in_set },
      λ a. record { start = a.start; piece = a.piece; joined = a.joined; begun = a.begun; in_set = (same a.piece).1 a.in_set },
    );
  }

  pub empty_led : (from to : List ℕ) → AreBelow (length word + 1) from → to ≡ from → IsLed word (λ w. w ≡ []) from to
  empty_led from to below same =
      subst (IsLed word (λ w. w ≡ []) from) (sym same) (record {
        below = below;
        has = λ front rest split. (
          λ h. record { start = front; piece = []; joined = sym (append-nil front); begun = h; in_set = refl },
          λ a. subst (λ (f : List ℕ). Has from (length f)) (sym (append-nil a.start) ∙ sym (ap (λ (p : List ℕ). a.start ++ p) a.in_set) ∙ sym a.joined) a.begun,
        );
      })

  pub seq_led : (X Y : WordSet) (from middle to : List ℕ) → IsLed word X from middle → IsLed word Y middle to → IsLed word (Concatenation X Y) from to
  seq_led X Y from middle to one two = record {
    below = two.below;
    has = λ front rest split. (
      λ h.
          let last = (two.has front rest split).0 h in
          let again : word ≡ last.start ++ (last.piece ++ rest) = split ∙ ap (λ (f : List ℕ). f ++ rest) last.joined ∙ append_assoc last.start last.piece rest in
          let first = (one.has last.start (last.piece ++ rest) again).0 last.begun in record {
            start = first.start;
            piece = first.piece ++ last.piece;
            joined = last.joined ∙ ap (λ (f : List ℕ). f ++ last.piece) first.joined ∙ append_assoc first.start first.piece last.piece;
            begun = first.begun;
            in_set = record { front = first.piece; rest = last.piece; split = refl; in_front = first.in_set; in_rest = last.in_set };
          },
      λ a.
          let parts = a.in_set in
          let joined : front ≡ (a.start ++ parts.front) ++ parts.rest =
          a.joined ∙ ap (λ (p : List ℕ). a.start ++ p) parts.split ∙ sym (append_assoc a.start parts.front parts.rest) in
          let again : word ≡ (a.start ++ parts.front) ++ (parts.rest ++ rest) =
          split ∙ ap (λ (f : List ℕ). f ++ rest) joined ∙ append_assoc (a.start ++ parts.front) parts.rest rest in
          let begun = (one.has (a.start ++ parts.front) (parts.rest ++ rest) again).1
          (record { start = a.start; piece = parts.front; joined = refl; begun = a.begun; in_set = parts.in_front }) in
          (two.has front rest split).1 (record { start = a.start ++ parts.front; piece = parts.rest; joined = joined; begun = begun; in_set = parts.in_rest }),
    );
  }

  pub alt_led : (X Y : WordSet) (from first second to : List ℕ) → IsLed word X from first → IsLed word Y from second → AreJoined (length word + 1) first second to
      → IsLed word (λ w. X w ⊎ Y w) from to
  alt_led X Y from first second to one two joined = record {
    below = joined.below;
    has = λ front rest split. follow (joined.has (length front)) (
      λ h. elim h [
        | inl a ↦ let a = (one.has front rest split).0 a in record { start = a.start; piece = a.piece; joined = a.joined; begun = a.begun; in_set = inl a.in_set }
        | inr a ↦ let a = (two.has front rest split).0 a in record { start = a.start; piece = a.piece; joined = a.joined; begun = a.begun; in_set = inr a.in_set }
      ],
      λ a. elim a.in_set [
        | inl is ↦ inl ((one.has front rest split).1 (record { start = a.start; piece = a.piece; joined = a.joined; begun = a.begun; in_set = is }))
        | inr is ↦ inr ((two.has front rest split).1 (record { start = a.start; piece = a.piece; joined = a.joined; begun = a.begun; in_set = is }))
      ],
    );
  }

  -- from one place there is one word to a front
  pub one_piece : (X Y : WordSet) (i : ℕ) (front : List ℕ) (a : Arrives X (i ∷ []) front) (b : Arrives Y (i ∷ []) front) → a.piece ≡ b.piece
  one_piece X Y i front a b =
      let same : length a.start ≡ length b.start = alone i (length a.start) a.begun ∙ sym (alone i (length b.start) b.begun) in
      same_rest a.start a.piece b.start b.piece (sym a.joined ∙ b.joined) same

  abbrev pub Chosen : Bool → WordSet → WordSet → WordSet
  Chosen common X Y w = X w × MatchBool common (Y w) (¬ Y w)

  pub kept_led : (common : Bool) (X Y : WordSet) (i : ℕ) (first second to : List ℕ) → IsLed word X (i ∷ []) first → IsLed word Y (i ∷ []) second
      → AreKept (length word + 1) common first second to → IsLed word (Chosen common X Y) (i ∷ []) to
  kept_led true X Y i first second to one two kept = record {
    below = kept.below;
    has = λ front rest split. follow (kept.has (length front)) (
      λ h.
          let a = (one.has front rest split).0 h.0 in
          let b = (two.has front rest split).0 h.1 in record {
            start = a.start;
            piece = a.piece;
            joined = a.joined;
            begun = a.begun;
            in_set = (a.in_set, subst Y (one_piece Y X i front b a) b.in_set);
          },
      λ a. (
        (one.has front rest split).1 (record { start = a.start; piece = a.piece; joined = a.joined; begun = a.begun; in_set = a.in_set.0 }),
        (two.has front rest split).1 (record { start = a.start; piece = a.piece; joined = a.joined; begun = a.begun; in_set = a.in_set.1 }),
      ),
    );
  }
  kept_led false X Y i first second to one two kept = record {
    below = kept.below;
    has = λ front rest split. follow (kept.has (length front)) (
      λ h.
          let a = (one.has front rest split).0 h.0 in record {
            start = a.start;
            piece = a.piece;
            joined = a.joined;
            begun = a.begun;
            in_set = (
              a.in_set,
              λ is. h.1 ((two.has front rest split).1 (record { start = a.start; piece = a.piece; joined = a.joined; begun = a.begun; in_set = is })),
            );
          },
      λ a. (
        (one.has front rest split).1 (record { start = a.start; piece = a.piece; joined = a.joined; begun = a.begun; in_set = a.in_set.0 }),
        λ h. let b = (two.has front rest split).0 h in a.in_set.1 (subst Y (one_piece Y X i front b (record {
          start = a.start;
          piece = a.piece;
          joined = a.joined;
          begun = a.begun;
          in_set = a.in_set.0;
        })) b.in_set),
      ),
    );
  }

  -- a row for each place
  abbrev pub IsRows : WordSet → List (List ℕ) → Type 0
  IsRows X rows = Each (IsLed word X) (singles (length word + 1)) rows

  pub single_at : (i : ℕ) → i < length word + 1 → at (singles (length word + 1)) i ≡ i ∷ []
  single_at i inside = get_or-map-range_with_len (λ (j : ℕ). j ∷ (let none : List ℕ = [] in none)) 0 (length word + 1) i i [] inside (omega arith)

  pub singles_long : length (singles (length word + 1)) ≡ length word + 1
  singles_long = length-map-range_with_len (λ (j : ℕ). j ∷ (let none : List ℕ = [] in none)) 0 (length word + 1)

  pub rows_long : (X : WordSet) (rows : List (List ℕ)) → IsRows X rows → length rows ≡ length word + 1
  rows_long X rows is = is.long ∙ singles_long

  pub row_led : (X : WordSet) (rows : List (List ℕ)) (i : ℕ) → IsRows X rows → i < length word + 1 → IsLed word X (i ∷ []) (at rows i)
  row_led X rows i is inside =
      subst (λ (from : List ℕ). IsLed word X from (at rows i)) (single_at i inside) (is.at i (let e = singles_long in omega arith))

  pub next_led : (X : WordSet) (rows : List (List ℕ)) (from to : List ℕ) → IsRows X rows → AreBelow (length word + 1) from → AreNext rows from to
      → IsLed word X from to
  next_led X rows from to is below next = record {
    below = subst (λ (n : ℕ). AreBelow n to) (rows_long X rows is) next.below;
    has = λ front rest split. follow (next.has (length front)) (
      λ h.
          let i = h.0 in
          let row = row_led X rows i is (has_below (length word + 1) from i below h.1) in
          let a = (row.has front rest split).0 h.2 in
          record { start = a.start; piece = a.piece; joined = a.joined; begun = begun_at i (length a.start) from h.1 a.begun; in_set = a.in_set },
      λ a.
          let i = length a.start in
          let row = row_led X rows i is (has_below (length word + 1) from i below a.begun) in
          (i, a.begun, (row.has front rest split).1 (record { start = a.start; piece = a.piece; joined = a.joined; begun = inl refl; in_set = a.in_set })),
    );
  }
    where
      begun_at : (i j : ℕ) (from : List ℕ) → Has from i → Has (i ∷ []) j → Has from j
      begun_at i j from has (inl e) = subst (Has from) (sym e) has
      begun_at i j from has (inr none) = absurd none

  -- a chain of rows is a word of pieces, and each word of pieces is a chain of rows
  module _ (X : WordSet) (rows : List (List ℕ)) (is : IsRows X rows) where
    pub onward : (i j : ℕ) → Leads rows i j → i ≤ j
    onward i j leads =
        elim (cases_lt i (length word + 1)) [
          | inl inside ↦
              let row = row_led X rows i is inside in
              let there = front_at j (has_below (length word + 1) (at rows i) j row.below leads) in
              let a = (row.has there.0 there.1 there.2).0 (subst (Has (at rows i)) (sym there.3) leads) in
              let long : length there.0 ≡ length a.start + length a.piece = ap length a.joined ∙ length-append a.start a.piece in
              let begun : length a.start ≡ i = alone i (length a.start) a.begun in
              let at_end = there.3 in omega arith
          | inr past ↦
              let none : at rows i ≡ [] = get_or_past rows i [] (let e = rows_long X rows is in omega arith) in
              absurd (subst (λ (row : List ℕ). Has row j) none leads)
        ]

    star_of : (start rest : List ℕ) (stops front after : List ℕ) → word ≡ start ++ rest → word ≡ front ++ after → Chain rows (length start) stops (length front)
        → (piece : List ℕ) × (front ≡ start ++ piece) × Star X piece
    star_of start rest [] front after split end same = (
      [],
      sym (same_front start rest front after (sym split ∙ end) same) ∙ sym (append-nil start),
      record { pieces = []; joined = refl; each = All-nil X },
    )
    star_of start rest (stop ∷ stops) front after split end chain =
        let row = row_led X rows (length start) is (within start rest split) in
        let there = front_at stop (has_below (length word + 1) (at rows (length start)) stop row.below chain.0) in
        let a = (row.has there.0 there.1 there.2).0 (subst (Has (at rows (length start))) (sym there.3) chain.0) in
        let begun : a.start ≡ start = begun_same start rest there.0 there.1 split there.2 a in
        let later = star_of there.0 there.1 stops front after there.2 end (subst (λ (i : ℕ). Chain rows i stops (length front)) (sym there.3) chain.1) in (
          a.piece ++ later.0,
          later.1 ∙ ap (λ (f : List ℕ). f ++ later.0) (a.joined ∙ ap (λ (f : List ℕ). f ++ a.piece) begun) ∙ append_assoc start a.piece later.0,
          record {
            pieces = a.piece ∷ later.2.pieces;
            joined = ap (λ (p : List ℕ). a.piece ++ p) later.2.joined;
            each = All-cons X a.piece later.2.pieces a.in_set later.2.each;
          },
        )
      where
        begun_same : (start rest front after : List ℕ) → word ≡ start ++ rest → word ≡ front ++ after → (a : Arrives X (length start ∷ []) front) → a.start ≡ start
        begun_same start rest front after split end a =
            same_front a.start (a.piece ++ after) start rest
            (sym (append_assoc a.start a.piece after) ∙ sym (ap (λ (f : List ℕ). f ++ after) a.joined) ∙ sym end ∙ split) (alone (length start) (length a.start) a.begun)

    chain_of : (start : List ℕ) (pieces : List (List ℕ)) (front after : List ℕ) → word ≡ front ++ after → front ≡ start ++ concat pieces → All X pieces
        → (stops : List ℕ) × Chain rows (length start) stops (length front)
    chain_of start [] front after end joined each = ([], ap length (sym (append-nil start) ∙ sym joined))
    chain_of start (piece ∷ pieces) front after end joined each =
        let again : front ≡ (start ++ piece) ++ concat pieces = joined ∙ sym (append_assoc start piece (concat pieces)) in
        let split : word ≡ (start ++ piece) ++ (concat pieces ++ after) =
        end ∙ ap (λ (f : List ℕ). f ++ after) again ∙ append_assoc (start ++ piece) (concat pieces) after in
        let later = chain_of (start ++ piece) pieces front after end again (All-tail X piece pieces each) in
        let whole : word ≡ start ++ (piece ++ (concat pieces ++ after)) = split ∙ append_assoc start piece (concat pieces ++ after) in
        let row = row_led X rows (length start) is (within start (piece ++ (concat pieces ++ after)) whole) in
        let leads = (row.has (start ++ piece) (concat pieces ++ after) split).1
        (record { start = start; piece = piece; joined = refl; begun = inl refl; in_set = All-head X piece pieces each }) in (length (start ++ piece) ∷ later.0, (leads, later.1))

    pub star_led : (from to : List ℕ) → AreBelow (length word + 1) from → AreReached rows from to → IsLed word (Star X) from to
    star_led from to below reached = record {
      below = subst (λ (n : ℕ). AreBelow n to) (rows_long X rows is) reached.below;
      has = λ front rest split. follow (reached.has (length front)) (
        λ h.
            let there = front_at h.0 (has_below (length word + 1) from h.0 below h.2) in
            let found = star_of there.0 there.1 h.1 front rest there.2 split (subst (λ (i : ℕ). Chain rows i h.1 (length front)) (sym there.3) h.3) in
            record { start = there.0; piece = found.0; joined = found.1; begun = subst (Has from) (sym there.3) h.2; in_set = found.2 },
        λ a.
            let found = chain_of a.start a.in_set.pieces front rest split (a.joined ∙ ap (λ (p : List ℕ). a.start ++ p) a.in_set.joined) a.in_set.each in
            (length a.start, found.0, a.begun, found.1),
      );
    }
